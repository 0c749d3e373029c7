use Rattle.pre_bound.proofs.Placed.{good_from_settled, least_from_settled, certificate_from_settled}
use Rattle.pre_bound.proofs.laws.settled_law.Goals as goal

pub returns-clause-good : goal.returns-clause-good
returns-clause-good c = good_from_settled

pub returns-clause-least : goal.returns-clause-least
returns-clause-least c = least_from_settled

pub returns-clause-certificate : goal.returns-clause-certificate
returns-clause-certificate c = certificate_from_settled

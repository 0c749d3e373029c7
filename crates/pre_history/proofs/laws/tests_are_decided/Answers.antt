use Rattle.pre_history.proofs.Decided.{occupied_decided, express_decided, cuts_decided, size_found}
use Rattle.pre_history.proofs.laws.tests_are_decided.Goals as goal

pub returns-clause-occupied : goal.returns-clause-occupied
returns-clause-occupied c = occupied_decided

pub returns-clause-express : goal.returns-clause-express
returns-clause-express c = express_decided

pub returns-clause-boundary : goal.returns-clause-boundary
returns-clause-boundary c = cuts_decided

pub returns-clause-size : goal.returns-clause-size
returns-clause-size c = size_found

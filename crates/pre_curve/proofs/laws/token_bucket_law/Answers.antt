use Rattle.pre_curve.proofs.Tokens.{ConformsFull-from_obeys, Obeys-from_conforms}
use Rattle.pre_curve.proofs.laws.token_bucket_law.Goals as goal

pub returns-clause-conforms : goal.returns-clause-conforms
returns-clause-conforms c = ConformsFull-from_obeys

pub returns-clause-obeys : goal.returns-clause-obeys
returns-clause-obeys c = Obeys-from_conforms

use Rattle.pre_cli.proofs.OneSummary.{one_summary}
use Rattle.pre_cli.proofs.drilling_laws.one_summary.Goals as goal

pub returns : goal.returns
returns c = λ number x y d e a b p q first second. one_summary c.plants_are_one.ensures c.one_history.ensures.legal number x y d e a b p q first second

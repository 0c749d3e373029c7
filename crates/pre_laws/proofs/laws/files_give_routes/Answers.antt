use Rattle.pre_laws.proofs.Fitting.{is_routed}
use Rattle.pre_laws.proofs.laws.files_give_routes.Goals as goal

pub returns : goal.returns
returns c = is_routed

use Rattle.pre_history.specs.Queries.{Begins}
use Rattle.pre_history.proofs.Lists.{every_at}
use Rattle.pre_laws.proofs.Routed.{BegunRight, begins_right, all_right}
use Rattle.pre_laws.proofs.laws.frames_keep_to_routes.Goals as goal

pub returns : goal.returns
returns c = λ w routed n h a i b f legal at carries. (every_at (BegunRight w a) (Begins h a) i b (begins_right w h a (all_right w routed n h legal)) at).on f carries

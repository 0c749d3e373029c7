use Rattle.pre_plant.proofs.Drawing.{next_is}
use Rattle.pre_plant.proofs.draws.next_state.Goals as goal

pub returns : goal.returns
returns c = next_is c.args.state

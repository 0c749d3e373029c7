use Rattle.pre_trace.proofs.Endings.{few_closings}
use Rattle.pre_trace.proofs.laws.closings_are_few.Goals as goal

pub returns : goal.returns
returns c = few_closings c.events_before_their_end.ensures

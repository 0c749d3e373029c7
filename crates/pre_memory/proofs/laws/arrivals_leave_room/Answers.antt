use Rattle.pre_memory.proofs.Spaced.{few_late}
use Rattle.pre_memory.proofs.laws.arrivals_leave_room.Goals as goal

pub returns : goal.returns
returns c = λ cost delay latency gone begins ends arrivals e pos is long next late. few_late cost delay begins ends arrivals is long latency gone e pos next late

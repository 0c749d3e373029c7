use Rattle.std.proofs.Common.{inl}
use Rattle.pre_sim.proofs.RestingLanes.{busy_sender}
use Rattle.pre_sim.proofs.resting.start_due.Goals as goal

pub returns-in-None : goal.returns-in-None
returns-in-None c = λ u lt. inl (busy_sender c.args.lane.now.outgoing.sender u c.in-None.ensures)

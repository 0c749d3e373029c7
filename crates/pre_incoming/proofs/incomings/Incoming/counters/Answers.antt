use Rattle.std.proofs.Common.{length, take}
use Rattle.pre_history.specs.Queries.{Arrivals}
use Rattle.pre_history.specs.Octets.{Air}
use Rattle.pre_incoming.proofs.Counted.{counts_are}
use Rattle.pre_incoming.proofs.OnAir.{arrived_on_air}
use Rattle.pre_incoming.proofs.incomings.Incoming.counters.Goals as goal

pub returns : goal.returns
returns c = λ w h a n a_lt legal few is.
    counts_are (Air w h a) (length (Arrivals h a)) c.counters.result (arrived_on_air w n h legal a a_lt) few (c.counters.ensures (take (length (Arrivals h a)) (Air w h a)) is.receiver)

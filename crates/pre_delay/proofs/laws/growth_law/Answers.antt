use Rattle.std.proofs.Common.{◌+◌}
use Rattle.pre_bound.specs.Uses.{rate_of}
use Rattle.pre_delay.proofs.Network.{grows}
use Rattle.pre_delay.proofs.Finished.{ring_obeys, stream_obeys}
use Rattle.pre_delay.proofs.laws.growth_law.Goals as goal

pub returns : goal.returns
returns c = λ w v n t h past rest i r hop a b run good at stream here next legal last cut obey in_time.
    stream_obeys w h a r.prio i (v.burst i (hop + 1)) (rate_of r)
    (grows w v run good n t h past rest legal cut last i r at stream hop a b here next in_time (ring_obeys w past b r.prio i (v.burst i hop) (rate_of r) obey))

use Rattle.std.proofs.Common.{length, ◌/◌, ◌%◌}
use Rattle.pre_history.specs.Moments.{moments}
use Rattle.pre_history.proofs.Placing.{numbered, place_below}
use Rattle.pre_bound.specs.Uses.{hop_of, rate_of}
use Rattle.pre_delay.proofs.OnePort.{timely}
use Rattle.pre_delay.proofs.Finished.{ring_obeys}
use Rattle.pre_delay.proofs.laws.port_law.Goals as goal

pub returns : goal.returns
returns c = λ w v n h a p run good legal has obey.
    timely w v run good a p has n h (n / moments (length w.net.arcs)) (n % moments (length w.net.arcs)) (place_below (length w.net.arcs) n) (numbered (length w.net.arcs) n) legal
    (λ q i r le at on. ring_obeys w h a q i (v.burst i (hop_of a r)) (rate_of r) (obey q i r le at on))

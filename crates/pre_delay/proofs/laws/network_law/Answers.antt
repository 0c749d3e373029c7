use Rattle.std.proofs.Common.{length, ◌/◌, ◌%◌}
use Rattle.pre_history.specs.Moments.{moments}
use Rattle.pre_history.proofs.Placing.{numbered, place_below}
use Rattle.pre_delay.proofs.Finished.{timely_at, timely_at_end}
use Rattle.pre_delay.proofs.laws.network_law.Goals as goal

pub returns-clause-so_far : goal.returns-clause-so_far
returns-clause-so_far c = λ w v n h run good legal.
    timely_at w v run good n h (n / moments (length w.net.arcs)) (n % moments (length w.net.arcs)) (place_below (length w.net.arcs) n) (numbered (length w.net.arcs) n) legal

pub returns-clause-whole : goal.returns-clause-whole
returns-clause-whole c = timely_at_end

pub returns-clause-certified : goal.returns-clause-certified
returns-clause-certified c = λ w cert h run good legal. timely_at_end w good.values h run good.good legal

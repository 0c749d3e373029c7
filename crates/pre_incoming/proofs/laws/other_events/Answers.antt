use Rattle.pre_incoming.proofs.OnAir.{others_stay}
use Rattle.pre_incoming.proofs.laws.other_events.Goals as goal

pub returns : goal.returns
returns c = λ w m n h g a x a_lt legal later no_end no_arrival is. others_stay w m n h g legal later a a_lt x no_end no_arrival is

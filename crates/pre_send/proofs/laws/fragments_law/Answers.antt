use Rattle.std.proofs.Common.{◌∷◌}
use Rattle.pre_send.proofs.Carried.{so_far, finished, earlier_sent}
use Rattle.pre_send.proofs.laws.fragments_law.Goals as goal

pub returns-clause-finished : goal.returns-clause-finished
returns-clause-finished c = λ cost add_frag calls newer older p f octets sending part is each size.
    (finished cost add_frag octets p older f (earlier_sent cost add_frag newer (p ∷ older) sending.sent) part is each size).0

pub returns-clause-whole : goal.returns-clause-whole
returns-clause-whole c = λ cost add_frag calls newer older p f octets sending part is each size some.
    (finished cost add_frag octets p older f (earlier_sent cost add_frag newer (p ∷ older) sending.sent) part is each size).1 some

pub returns-clause-interrupted : goal.returns-clause-interrupted
returns-clause-interrupted c = λ cost add_frag calls newer older x octets sending is each size.
    let h = so_far cost add_frag octets older (earlier_sent cost add_frag newer older sending.sent) x is each size in (h.same, h.joins)

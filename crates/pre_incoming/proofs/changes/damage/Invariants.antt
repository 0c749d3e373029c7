use Rattle.std.proofs.Common.{◌≡◌, take}
use Rattle.pre_incoming.specs.Changes.{damaged_by}
use Rattle.pre_incoming.proofs.changes.damage.Given as goal

abbrev pub invariant-loop-line : goal.invariant-loop-line
invariant-loop-line l = l.octets ≡ damaged_by l.arc.0 l.ordinal l.smd (take l.line-index l.line-items) l.fn.octets

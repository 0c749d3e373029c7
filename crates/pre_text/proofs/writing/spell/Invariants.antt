use Rattle.std.proofs.Common.{◌≡◌, ◌*◌, take}
use Rattle.pre_text.specs.Writing.{hex}
use Rattle.pre_text.proofs.writing.spell.Given as goal

abbrev pub invariant-loop-at : goal.invariant-loop-at
invariant-loop-at l = take (2 * l.at) l.into ≡ hex (take l.at l.octets)

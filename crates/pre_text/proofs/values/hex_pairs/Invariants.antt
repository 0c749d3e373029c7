use Rattle.std.proofs.Common.{◌≡◌, ◌++◌, take, drop}
use Rattle.pre_text.specs.Words.{pair_octets}
use Rattle.pre_text.proofs.values.hex_pairs.Given as goal

abbrev pub invariant-loop-i : goal.invariant-loop-i
invariant-loop-i l = l.into ≡ take l.i (pair_octets l.word) ++ drop l.i l.fn.into

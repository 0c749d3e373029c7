use Rattle.std.proofs.Common.{◌≡◌, length}
use Rattle.pre_text.specs.Lines.{words_of}
use Rattle.pre_text.proofs.cutting.without_spaces.Given as goal

abbrev pub invariant-loop-rest : goal.invariant-loop-rest
invariant-loop-rest l = words_of l.rest ≡ words_of l.octets

abbrev pub decreases-loop-rest : goal.decreases-loop-rest
decreases-loop-rest l = length l.rest

use Rattle.std.proofs.Common.{◌≡◌, ℕ, ◌<◌, length}
use Rattle.std.specs.Prelude.{slice_index_or, Option}
use Rattle.pre_certify.specs.Peels.{IsNextRank}
use Rattle.pre_certify.proofs.ranks.round_of.Given as goal

abbrev pub invariant-loop-arc : goal.invariant-loop-arc
invariant-loop-arc l = (length l.next ≡ l.arc) × ((k : ℕ) (d : Option ℕ) → k < l.arc → IsNextRank l.rows l.round l.ranks k (slice_index_or l.next k d))

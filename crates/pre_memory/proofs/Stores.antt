-- What changes with one slot of a store.
use Rattle.std.proofs.Common.{ℕ, ◌≡◌, ◌+◌, List, [], ◌∷◌, length, set, refl, ap, arith, Option, Some, None, All, IsSome}
use Rattle.std.specs.Prelude.{slice_get}
use Rattle.std.specs.List.{AllByRecursion as Every}
use Rattle.std.proofs.lemmas.List.Sums.{sum_by-set, sum_by-cons}
use Rattle.std.proofs.lemmas.List.Elements.{recursion_from_All}
use Rattle.std.proofs.lemmas.Option.{slice_get_within, get_or_from_slice_get}
use Rattle.pre_memory.specs.Slots.{Store, one_if, slots_out}

-- how many are out with one slot changed
pub out_with : (store : Store) (s : ℕ) (old new : Option (List ℕ)) → slice_get store s ≡ Some old → slots_out (set store s new) + one_if old ≡ slots_out store + one_if new
out_with store s old new at = omega (arith, sum_by-set (λ (p : Option (List ℕ)). one_if p) store s new None (slice_get_within store s old at), ap (λ p. one_if p) (get_or_from_slice_get store s old None at))

-- where all are out, as many are out as there are
pub all_out : (store : Store) → All (λ o. IsSome o) store → slots_out store ≡ length store
all_out store all = go store (recursion_from_All (λ (o : Option (List ℕ)). IsSome o) store all)
  where
    one : (o : Option (List ℕ)) → IsSome o → one_if o ≡ 1
    one None is = absurd cc
    one (Some x) is = refl

    go : (os : Store) → Every (λ o. IsSome o) os → slots_out os ≡ length os
    go [] a = refl
    go (o ∷ os) (h, m) = omega (arith, sum_by-cons (λ (p : Option (List ℕ)). one_if p) o os, one o h, go os m)

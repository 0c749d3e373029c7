-- Lines that are written one by one, and sets that are cut at a tick.
use Rattle.std.proofs.Common.{◌≡◌, ℕ, zero, suc, ◌+◌, ◌<◌, ◌≤◌, Bool, true, false, nat_le, nat_lt, List, [], ◌∷◌}
use Rattle.std.proofs.Common.{length, get_or, take, drop, position, Option, None, Some, Result, refl, ap, subst, arith}
use Rattle.std.proofs.lemmas.Bool.Decides.{nat_tests}
use Rattle.std.proofs.lemmas.List.{drop_more}
use Rattle.std.proofs.lemmas.List.Quantifiers.{position-Some}
use Rattle.std.proofs.lemmas.List.Sums.{fails_before_first}
use Rattle.std.proofs.lemmas.Grind.{common_steps}
use Rattle.std.specs.List.{flat_map, position_or_len}
use Rattle.std.specs.Result.{IsErr}
use Rattle.pre_base.specs.Told.{WhereTold}
use Rattle.pre_base.specs.Sinks.{Taken, TakesBut, TakesAll}
use Rattle.pre_base.specs.Sinks.{TakesFront}
use Rattle.pre_base.proofs.Pieces.{breaks}
use Rattle.pre_script.specs.declared.scripts.SetLine.{SetLine}
use Rattle.pre_script.specs.declared.scripts.Setting.TheVariants.{On}
use Rattle.pre_script.specs.Text.{sets_before, sets_since}

-- a line fails, and so do all lines
pub line_breaks : {X U E : Type 0} (line : X → List ℕ) (xs : List X) (i : ℕ) (d : X) (a b c : Option Taken) (r : Result U E) → i < length xs → IsErr r
    → WhereTold a b (TakesBut (flat_map line (drop i xs)) (flat_map line xs)) → WhereTold b c (TakesFront (line (get_or xs i d))) → WhereTold a c (TakesAll r (flat_map line xs))
line_breaks line xs i d a b c r lt fails so_far took =
    let left = ap (flat_map line) (drop_more xs i d lt) in
    breaks a b c (flat_map line xs) (line (get_or xs i d)) (flat_map line (drop (i + 1) xs)) r fails (subst (λ (l : List ℕ). WhereTold a b (TakesBut l (flat_map line xs))) left so_far) took

abbrev IsCut : ℕ → List SetLine → ℕ → Type 0
IsCut tick sets n = (take n sets ≡ sets_before tick sets) × (drop n sets ≡ sets_since tick sets)

-- a cut behind the first sets that are before the tick
cut_is : (tick : ℕ) (sets : List SetLine) (n : ℕ) → n ≤ length sets → ((k : ℕ) (d : SetLine) → k < n → nat_le tick (get_or sets k d).tick.0 ≡ false) → ((d : SetLine) → n < length sets → nat_le tick (get_or sets n d).tick.0 ≡ true) → IsCut tick sets n
cut_is tick [] zero le before since = (refl, refl)
cut_is tick [] (suc n) le before since = absurd (omega arith)
cut_is tick (s ∷ sets) zero le before since =
    let is = since s (omega arith) in
    let late : nat_lt s.tick.0 tick ≡ false = grind (arith, nat_tests, is) in
    rw late (refl, refl)
cut_is tick (s ∷ sets) (suc n) le before since =
    let is = before 0 s (omega arith) in
    let early : nat_lt s.tick.0 tick ≡ true = grind (arith, nat_tests, is) in
    let rest = cut_is tick sets n (omega arith) (λ k d lt. before (suc k) d (omega arith)) (λ d lt. since d (omega arith)) in
    rw early (ap (λ (l : List SetLine). s ∷ l) rest.0, rest.1)

no_set : SetLine
no_set = record { tick = record { 0 = 0 }; arc = record { 0 = 0 }; value = On }

none_passes : {X : Type 0} (p : X → Bool) (xs : List X) → position p xs ≡ None → length xs ≤ position_or_len p xs
none_passes p xs e = grind (arith, common_steps)

pub cut_at_place : (tick : ℕ) (sets : List SetLine) (n : ℕ) → position (λ (s : SetLine). nat_le tick s.tick.0) sets ≡ Some n → (n ≤ length sets) × IsCut tick sets n
cut_at_place tick sets n e =
    let p = λ (s : SetLine). nat_le tick s.tick.0 in
    let within = (position-Some p sets n no_set e).0 in
    (omega (arith, within), cut_is tick sets n (omega (arith, within)) (λ k d lt. (position-Some p sets n d e).2 k lt) (λ d lt. (position-Some p sets n d e).1))

pub cut_at_end : (tick : ℕ) (sets : List SetLine) → position (λ (s : SetLine). nat_le tick s.tick.0) sets ≡ None → IsCut tick sets (length sets)
cut_at_end tick sets e =
    let p = λ (s : SetLine). nat_le tick s.tick.0 in
    let far = none_passes p sets e in
    cut_is tick sets (length sets) (omega arith) (λ k d lt. fails_before_first p sets k d (omega (arith, far, lt))) (λ d lt. absurd (omega (arith, lt)))

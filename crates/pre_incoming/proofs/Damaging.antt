-- Octets with one more line of a script applied.
use Rattle.std.proofs.Common.{ℕ, zero, suc, ◌≡◌, ◌≢◌, ◌≤◌, ◌==◌, ◌&&◌, ◌+◌, true, false, List, [], ◌∷◌}
use Rattle.std.proofs.Common.{◌++◌, length, take, refl, ◌∙◌, ap, arith, Some, filter}
use Rattle.std.specs.Prelude.{slice_get, fold, min}
use Rattle.std.proofs.lemmas.List.Sums.{fold-append}
use Rattle.std.proofs.lemmas.List.Elements.{filter-append}
use Rattle.std.proofs.lemmas.Bool.Decides.{nat_tests}
use Rattle.pre_script.specs.declared.scripts.Damage.{Damage}
use Rattle.pre_history.specs.Octets.{xored}
use Rattle.pre_incoming.specs.Changes.{damaged_by}
use Rattle.pre_incoming.proofs.Xored.{within_bound}

pub take_one : {X : Type 0} (k : ℕ) (xs : List X) (x : X) → slice_get xs k ≡ Some x → take (suc k) xs ≡ take k xs ++ x ∷ []
take_one zero [] x at = absurd (cc at)
take_one (suc k) [] x at = absurd (cc at)
take_one zero (y ∷ xs) x at = ap (λ z. z ∷ []) (cc at)
take_one (suc k) (y ∷ xs) x at = ap (λ zs. y ∷ zs) (take_one k xs x at)

is_eq : (m n : ℕ) → m ≡ n → (m == n) ≡ true
is_eq m n e = grind (arith, nat_tests)

not_eq : (m n : ℕ) → m ≢ n → (m == n) ≡ false
not_eq m n e = grind (arith, nat_tests)

module _ (a ordinal smd : ℕ) (lines : List Damage) (octets : List ℕ) where
  pub none_yet : damaged_by a ordinal smd (take 0 lines) octets ≡ octets
  unfolding damaged_by
  none_yet = refl

  module _ (i : ℕ) (line : Damage) (at : slice_get lines i ≡ Some line) where
    front : filter (λ (d : Damage). (d.arc.0 == a) && (d.ordinal == ordinal)) (take (i + 1) lines)
        ≡ filter (λ (d : Damage). (d.arc.0 == a) && (d.ordinal == ordinal)) (take i lines) ++ filter (λ (d : Damage). (d.arc.0 == a) && (d.ordinal == ordinal)) (line ∷ [])
    front =
        let next : i + 1 ≡ suc i = omega arith in
        ap (λ n. filter (λ (d : Damage). (d.arc.0 == a) && (d.ordinal == ordinal)) (take n lines)) next
        ∙ (ap (filter (λ (d : Damage). (d.arc.0 == a) && (d.ordinal == ordinal))) (take_one i lines line at)
        ∙ filter-append (λ (d : Damage). (d.arc.0 == a) && (d.ordinal == ordinal)) (take i lines) (line ∷ []))

    all : damaged_by a ordinal smd (take (i + 1) lines) octets
        ≡ fold (λ xs (d : Damage). xored (smd + d.offset) d.octets xs) (damaged_by a ordinal smd (take i lines) octets) (filter (λ (d : Damage). (d.arc.0 == a) && (d.ordinal == ordinal)) (line ∷ []))
    unfolding damaged_by
    all = ap (fold (λ xs (d : Damage). xored (smd + d.offset) d.octets xs) octets) front
        ∙ fold-append (λ xs (d : Damage). xored (smd + d.offset) d.octets xs) octets (filter (λ (d : Damage). (d.arc.0 == a) && (d.ordinal == ordinal)) (take i lines))
        (filter (λ (d : Damage). (d.arc.0 == a) && (d.ordinal == ordinal)) (line ∷ []))

    -- it damages the mPacket
    pub applied : (line.arc.0 == a) ≡ true → line.ordinal ≡ ordinal → damaged_by a ordinal smd (take (i + 1) lines) octets ≡ xored (smd + line.offset) line.octets
        (damaged_by a ordinal smd (take i lines) octets)
    applied on_arc same =
        let is : ((line.arc.0 == a) && (line.ordinal == ordinal)) ≡ true = ap (λ b. b && (line.ordinal == ordinal)) on_arc ∙ is_eq line.ordinal ordinal same in
        all ∙ rw is refl

    -- it is of another arc
    pub of_other_arc : (line.arc.0 == a) ≡ false → damaged_by a ordinal smd (take (i + 1) lines) octets ≡ damaged_by a ordinal smd (take i lines) octets
    of_other_arc off =
        let is : ((line.arc.0 == a) && (line.ordinal == ordinal)) ≡ false = ap (λ b. b && (line.ordinal == ordinal)) off in
        all ∙ rw is refl

    -- it is of another mPacket
    pub of_other : (line.arc.0 == a) ≡ true → line.ordinal ≢ ordinal → damaged_by a ordinal smd (take (i + 1) lines) octets ≡ damaged_by a ordinal smd (take i lines) octets
    of_other on_arc other =
        let is : ((line.arc.0 == a) && (line.ordinal == ordinal)) ≡ false = ap (λ b. b && (line.ordinal == ordinal)) on_arc ∙ not_eq line.ordinal ordinal other in
        all ∙ rw is refl

-- a place that was cut off at a bound past the octets
pub cut_off : (place bound reached : ℕ) (old new with' pattern : List ℕ) → new ≡ xored reached with' old → reached ≡ min place bound → with' ≡ pattern → length old ≤ bound
    → new ≡ xored place pattern old
cut_off place bound reached old new with' pattern is cut same few =
    is ∙ (ap (λ n. xored n with' old) cut ∙ (ap (λ xs. xored (min place bound) xs old) same ∙ within_bound place bound pattern old few))

-- Sends and sets that are in the order of their ticks.
use Rattle.std.proofs.Common.{◌≡◌, ℕ, suc, ◌≤◌, Bool, true, false, nat_le, nat_lt, if◌then◌else◌, List, [], ◌∷◌, ◌++◌, All, AllPairs, None, refl, ◌∙◌, ap, arith}
use Rattle.std.specs.List.{list_all}
use Rattle.std.proofs.lemmas.Bool.Decides.{nat_tests}
use Rattle.std.proofs.lemmas.List.Folds.{list_all-append}
use Rattle.pre_topo.specs.declared.network.Network.{Network}
use Rattle.pre_streams.specs.declared.rows.Streams.{Streams}
use Rattle.pre_script.specs.declared.scripts.SendLine.{SendLine}
use Rattle.pre_script.specs.declared.scripts.SetLine.{SetLine}
use Rattle.pre_script.specs.Seen.{Seen, comes_last}
use Rattle.pre_script.specs.Fits.{IsSend, IsSet, SendsInOrder, SetsInOrder}
use Rattle.pre_script.specs.Text.{sets_before, sets_since}
use Rattle.pre_script.proofs.Values.{both}
use Rattle.pre_base.proofs.NumberTests.{at_most}

-- each of a list, one by one
abbrev pub Each : {X : Type 0} → (X → Type 0) → List X → Type 0
Each P [] = Unit {0}
Each P (x ∷ xs) = P x × Each P xs

pub each_of : {X : Type 0} (P : X → Type 0) (xs : List X) → All P xs → Each P xs
each_of P [] all = tt
each_of P (x ∷ xs) all = (all 0 x (omega arith), each_of P xs (λ k d lt. all (suc k) d (omega arith)))

-- sends that fit, in order, from a tick on
abbrev pub SendsFrom : Network → Streams → ℕ → List SendLine → Type 0
SendsFrom net streams low [] = Unit {0}
SendsFrom net streams low (s ∷ sends) = (low ≤ s.send.tick.0) × IsSend net streams s × SendsFrom net streams s.send.tick.0 sends

pub sends_from : (net : Network) (streams : Streams) (low : ℕ) (sends : List SendLine) → All (λ (s : SendLine). low ≤ s.send.tick.0) sends → All (IsSend net streams) sends → AllPairs SendsInOrder sends → SendsFrom net streams low sends
sends_from net streams low [] late all order = tt
sends_from net streams low (s ∷ sends) late all order = (
  late 0 s (omega arith),
  all 0 s (omega arith),
  sends_from net streams s.send.tick.0 sends (λ k d lt. order 0 (suc k) d (omega arith) (omega arith)) (λ k d lt. all (suc k) d (omega arith)) (λ i j d lt past. order (suc i) (suc j) d (omega arith) (omega arith)),
)

-- the same of sets
abbrev pub SetsFrom : Network → ℕ → List SetLine → Type 0
SetsFrom net low [] = Unit {0}
SetsFrom net low (s ∷ sets) = (low ≤ s.tick.0) × IsSet net s × SetsFrom net s.tick.0 sets

pub sets_from : (net : Network) (low : ℕ) (sets : List SetLine) → All (λ (s : SetLine). low ≤ s.tick.0) sets → All (IsSet net) sets → AllPairs SetsInOrder sets → SetsFrom net low sets
sets_from net low [] late all order = tt
sets_from net low (s ∷ sets) late all order = (
  late 0 s (omega arith),
  all 0 s (omega arith),
  sets_from net s.tick.0 sets (λ k d lt. order 0 (suc k) d (omega arith) (omega arith)) (λ k d lt. all (suc k) d (omega arith)) (λ i j d lt past. order (suc i) (suc j) d (omega arith) (omega arith)),
)

pub before_from : (net : Network) (low tick : ℕ) (sets : List SetLine) → SetsFrom net low sets → SetsFrom net low (sets_before tick sets)
before_from net low tick [] h = tt
before_from net low tick (s ∷ sets) h = cases (before_from net s.tick.0 tick sets h.2) (nat_lt s.tick.0 tick)
  where
    cases : SetsFrom net s.tick.0 (sets_before tick sets) → (b : Bool) → SetsFrom net low (if b then s ∷ sets_before tick sets else [])
    cases rest true = (h.0, h.1, rest)
    cases rest false = tt

pub since_from : (net : Network) (low tick : ℕ) (sets : List SetLine) → SetsFrom net low sets → SetsFrom net tick (sets_since tick sets)
since_from net low tick [] h = tt
since_from net low tick (s ∷ sets) h = cases (since_from net s.tick.0 tick sets h.2) (nat_lt s.tick.0 tick) refl
  where
    cases : SetsFrom net tick (sets_since tick sets) → (b : Bool) → b ≡ nat_lt s.tick.0 tick → SetsFrom net tick (if b then sets_since tick sets else s ∷ sets)
    cases rest true e = rest
    cases rest false e = let late : tick ≤ s.tick.0 = grind (arith, nat_tests, e) in (late, h.1, h.2)

-- both parts together are the sets again
pub rejoined : (tick : ℕ) (sets : List SetLine) → sets_before tick sets ++ sets_since tick sets ≡ sets
rejoined tick [] = refl
rejoined tick (s ∷ sets) = cases (rejoined tick sets) (nat_lt s.tick.0 tick)
  where
    cases : sets_before tick sets ++ sets_since tick sets ≡ sets → (b : Bool) → (if b then s ∷ sets_before tick sets else []) ++ (if b then sets_since tick sets else s ∷ sets) ≡ s ∷ sets
    cases rest true = ap (λ (l : List SetLine). s ∷ l) rest
    cases rest false = refl

is_at_most : (m n : ℕ) → m ≤ n → nat_le m n ≡ true
is_at_most m n le = grind (arith, nat_tests)

early_before : (tick : ℕ) (sets : List SetLine) → list_all (λ (s : SetLine). nat_le s.tick.0 tick) (sets_before tick sets) ≡ true
early_before tick [] = refl
early_before tick (s ∷ sets) = cases (early_before tick sets) (nat_lt s.tick.0 tick) refl
  where
    cases : list_all (λ (r : SetLine). nat_le r.tick.0 tick) (sets_before tick sets) ≡ true → (b : Bool) → b ≡ nat_lt s.tick.0 tick → list_all (λ (r : SetLine). nat_le r.tick.0 tick) (if b then s ∷ sets_before tick sets else []) ≡ true
    cases rest true e = let here : nat_le s.tick.0 tick ≡ true = grind (arith, nat_tests, e) in rw (here, rest) refl
    cases rest false e = refl

still : {X : Type 0} (key : X → ℕ) (xs : List X) (low high : ℕ) → low ≤ high → list_all (λ (x : X). nat_le (key x) low) xs ≡ true → list_all (λ (x : X). nat_le (key x) high) xs ≡ true
still key [] low high le h = refl
still key (x ∷ xs) low high le h =
    let parts = both (nat_le (key x) low) (list_all (λ y. nat_le (key y) low) xs) h in
    let first = is_at_most (key x) high (omega (arith, at_most (key x) low parts.0, le)) in
    rw (first, still key xs low high le parts.1) refl

more : {X : Type 0} (p : X → Bool) (xs ys : List X) → list_all p xs ≡ true → list_all p ys ≡ true → list_all p (xs ++ ys) ≡ true
more p xs ys h k = list_all-append p xs ys ∙ rw (h, k) refl

-- nothing was said of the end, and all ticks so far are at most this one
pub record IsOpen (seen : Seen) (low : ℕ) : Type 0 where
  pub unended : seen.until ≡ None
  pub sends : list_all (λ (s : SendLine). nat_le s.send.tick.0 low) seen.sends ≡ true
  pub sets : list_all (λ (s : SetLine). nat_le s.tick.0 low) seen.sets ≡ true

pub open_later : (seen : Seen) (low high : ℕ) → low ≤ high → IsOpen seen low → IsOpen seen high
open_later seen low high le h = record {
  unended = h.unended;
  sends = still (λ (s : SendLine). s.send.tick.0) seen.sends low high le h.sends;
  sets = still (λ (s : SetLine). s.tick.0) seen.sets low high le h.sets;
}

pub open_last : (seen : Seen) (low tick : ℕ) → low ≤ tick → IsOpen seen low → comes_last seen tick ≡ true
open_last seen low tick le h = let late = open_later seen low tick le h in rw (late.sends, late.sets) refl

pub open_set : (seen : Seen) (low : ℕ) (s : SetLine) → low ≤ s.tick.0 → IsOpen seen low → IsOpen (record seen { sets = seen.sets ++ s ∷ [] }) s.tick.0
open_set seen low s le h =
    let late = open_later seen low s.tick.0 le h in
    record {
      unended = h.unended;
      sends = late.sends;
      sets = more (λ (r : SetLine). nat_le r.tick.0 s.tick.0) seen.sets (s ∷ []) late.sets (rw (is_at_most s.tick.0 s.tick.0 (omega arith)) refl);
    }

pub open_sets : (seen : Seen) (low tick : ℕ) (sets : List SetLine) → low ≤ tick → IsOpen seen low → IsOpen (record seen { sets = seen.sets ++ sets_before tick sets }) tick
open_sets seen low tick sets le h =
    let late = open_later seen low tick le h in
    record {
      unended = h.unended;
      sends = late.sends;
      sets = more (λ (r : SetLine). nat_le r.tick.0 tick) seen.sets (sets_before tick sets) late.sets (early_before tick sets);
    }

pub open_send : (seen : Seen) (s : SendLine) → IsOpen seen s.send.tick.0 → IsOpen (record seen { sends = seen.sends ++ s ∷ [] }) s.send.tick.0
open_send seen s h = record {
  unended = h.unended;
  sends = more (λ (r : SendLine). nat_le r.send.tick.0 s.send.tick.0) seen.sends (s ∷ []) h.sends (rw (is_at_most s.send.tick.0 s.send.tick.0 (omega arith)) refl);
  sets = h.sets;
}

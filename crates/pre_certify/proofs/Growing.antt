-- Bursts grow along a route, and sums by what is added to them.
use Rattle.std.proofs.Common.{◌≡◌, ℕ, ◌+◌, ◌-◌, ◌*◌, ◌/◌, ◌<◌, ◌≤◌, Bool, true, false, cond, List, [], ◌∷◌}
use Rattle.std.proofs.Common.{Option, Some, None, sym, ◌∙◌, zero-add, subst, ap, arith, length, get_or, drop}
use Rattle.std.specs.Prelude.{sum_by, filter}
use Rattle.std.specs.Option.{SomeIff}
use Rattle.std.proofs.lemmas.List.{at_drop_more}
use Rattle.std.proofs.lemmas.List.Sums.{sum_by-cons}
use Rattle.pre_base.specs.declared.numbers.ArcId.{ArcId}
use Rattle.pre_topo.specs.declared.network.Network.{Network}
use Rattle.pre_bound.specs.Solutions.{least_growth}
use Rattle.pre_bound.specs.Uses.{cost_at}
use Rattle.pre_bound.specs.Along.{grown_over}

-- a burst doesn't shrink
pub least_growth-rises : (burst rate delay cost : ℕ) → burst ≤ least_growth burst rate delay cost
least_growth-rises burst rate delay cost = rises (rate * (delay - 84 * cost))
  where
    rises : (spread : ℕ) → burst ≤ (1_000_000 * burst + spread + 999_999) / 1_000_000
    rises spread = omega arith

pub grown_over-rises : (net : Network) (delay : ℕ → ℕ) (rate burst : ℕ) (passed : List ArcId) → burst ≤ grown_over net delay rate burst passed
grown_over-rises net delay rate burst [] = omega arith
grown_over-rises net delay rate burst (a ∷ further) =
    let one = least_growth-rises burst rate (delay a.0) (cost_at net a.0) in
    let rest = grown_over-rises net delay rate (least_growth burst rate (delay a.0) (cost_at net a.0)) further in
    omega (arith, one, rest)

-- a number that passes on the way passes at the end
pub grown_over-passes : (net : Network) (delay : ℕ → ℕ) (rate burst most : ℕ) (passed : List ArcId) → most < burst → most < grown_over net delay rate burst passed
grown_over-passes net delay rate burst most passed h = let rest = grown_over-rises net delay rate burst passed in omega (arith, rest)

-- the sum over the rows that pass a test, one row on
pub sum_on-cons : {X : Type 0} (f : X → ℕ) (p : X → Bool) (x : X) (xs : List X) → sum_by f (filter p (x ∷ xs)) ≡ cond (p x) (f x) 0 + sum_by f (filter p xs)
sum_on-cons f p x xs =
    elim (p x) as (λ b. sum_by f (cond b (x ∷ filter p xs) (filter p xs)) ≡ cond b (f x) 0 + sum_by f (filter p xs)) [
      | true ↦ sum_by-cons f x (filter p xs)
      | false ↦ sym (zero-add (sum_by f (filter p xs)))
    ]

pub sum_on-yes : {X : Type 0} (f : X → ℕ) (p : X → Bool) (x : X) (xs : List X) → p x ≡ true → sum_by f (filter p (x ∷ xs)) ≡ f x + sum_by f (filter p xs)
sum_on-yes f p x xs e = subst (λ b. sum_by f (filter p (x ∷ xs)) ≡ cond b (f x) 0 + sum_by f (filter p xs)) e (sum_on-cons f p x xs)

pub sum_on-no : {X : Type 0} (f : X → ℕ) (p : X → Bool) (x : X) (xs : List X) → p x ≡ false → sum_by f (filter p (x ∷ xs)) ≡ sum_by f (filter p xs)
sum_on-no f p x xs e =
    let parts : sum_by f (filter p (x ∷ xs)) ≡ 0 + sum_by f (filter p xs) = subst (λ b. sum_by f (filter p (x ∷ xs)) ≡ cond b (f x) 0 + sum_by f (filter p xs)) e (sum_on-cons f p x xs) in
    omega arith

-- nothing is the answer where the fact doesn't hold
pub none_iff : (r : Option ℕ) (P : Type 0) (v : ℕ) → r ≡ None → (P → ⊥) → SomeIff r P v
none_iff None P v e h = h
none_iff (Some x) P v e h = absurd (cc)

-- one hop passes, so the end does
pub grown_exit : (net : Network) (delay : ℕ → ℕ) (rate rate' burst d k most final : ℕ) (xs : List ArcId) (i : ℕ) → i < length xs → rate' ≡ rate → grown_over net delay rate burst (drop i xs) ≡ final
    → d ≡ delay (get_or xs i (record { 0 = 0 })).0 → k ≡ cost_at net (get_or xs i (record { 0 = 0 })).0 → (least_growth burst rate' d k ≤ most → ⊥) → final ≤ most → ⊥
grown_exit net delay rate rate' burst d k most final xs i h same whole at cost over le =
    let a : ArcId = get_or xs i (record { 0 = 0 }) in
    let split : grown_over net delay rate burst (drop i xs) ≡ grown_over net delay rate (least_growth burst rate (delay a.0) (cost_at net a.0)) (drop (i + 1) xs) = at_drop_more (grown_over net delay rate burst) xs i (record { 0 = 0 }) h in
    let eq : least_growth burst rate' d k ≡ least_growth burst rate (delay a.0) (cost_at net a.0) = ap (λ r. least_growth burst r d k) same ∙ ap (λ n. least_growth burst rate n k) at ∙ ap (λ n. least_growth burst rate (delay a.0) n) cost in
    let rest = grown_over-rises net delay rate (least_growth burst rate (delay a.0) (cost_at net a.0)) (drop (i + 1) xs) in
    over (omega (arith, split, eq, rest, whole))

pub sum_on-drop-yes : {X : Type 0} (f : X → ℕ) (p : X → Bool) (xs : List X) (i : ℕ) (x : X) → i < length xs → x ≡ get_or xs i x → true ≡ p x → sum_by f (filter p (drop i xs)) ≡ f x + sum_by f (filter p (drop (i + 1) xs))
sum_on-drop-yes f p xs i x h e on =
    at_drop_more (λ l. sum_by f (filter p l)) xs i x h ∙ subst (λ y. sum_by f (filter p (y ∷ drop (i + 1) xs)) ≡ f x + sum_by f (filter p (drop (i + 1) xs))) e (sum_on-yes f p x (drop (i + 1) xs) (sym on))

pub sum_on-drop-no : {X : Type 0} (f : X → ℕ) (p : X → Bool) (xs : List X) (i : ℕ) (x : X) → i < length xs → x ≡ get_or xs i x → false ≡ p x → sum_by f (filter p (drop i xs)) ≡ sum_by f (filter p (drop (i + 1) xs))
sum_on-drop-no f p xs i x h e on =
    at_drop_more (λ l. sum_by f (filter p l)) xs i x h ∙ subst (λ y. sum_by f (filter p (y ∷ drop (i + 1) xs)) ≡ sum_by f (filter p (drop (i + 1) xs))) e (sum_on-no f p x (drop (i + 1) xs) (sym on))

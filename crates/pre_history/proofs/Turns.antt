-- What the events of a moment add to the mPackets, ends and arrivals of an arc.
use Rattle.std.proofs.Common.{ℕ, zero, suc, ◌≡◌, ◌≢◌, ◌==◌, ◌+◌, ◌*◌, ◌<◌, ◌≤◌, Bool, true, false, List, []}
use Rattle.std.proofs.Common.{◌∷◌, ◌++◌, refl, sym, ◌∙◌, ap, inl, inr, arith, subst, Some, None}
use Rattle.std.specs.Prelude.{if◌then◌else◌, slice_get}
use Rattle.std.proofs.Math.Nat.{mul-le-mul_right}
use Rattle.std.proofs.lemmas.Bool.{cases_lt}
use Rattle.std.proofs.lemmas.List.{append-nil}
use Rattle.std.proofs.lemmas.List.Elements.{filter_map-append}
use Rattle.std.proofs.lemmas.Bool.Decides.{nat_tests}
use Rattle.pre_history.specs.History.{PlainEvent, History}
use Rattle.pre_history.specs.Moments.{moments}
use Rattle.pre_history.specs.Selected.{begin_on, ended_on, arrive_on}
use Rattle.pre_history.specs.Queries.{Begins, Ends, Arrivals}
use Rattle.pre_history.specs.Rules.{Each}
use Rattle.pre_history.specs.Placed.{number, IsAt, AllAt}
use Rattle.pre_history.proofs.IsLater.{IsLater, AllLater}
use Rattle.pre_history.proofs.Lists.{every_weaker, none_selected}
use Rattle.pre_history.proofs.Placing.{same_tick, same_place}

-- ---- order of moments

-- a moment before another doesn't stand at a later tick
pub tick_le : (size s t j k : ℕ) → k < size → s * size + j ≤ t * size + k → s ≤ t
tick_le size s t j k lt le = elim (cases_lt t s) [
  | inr done ↦ done
  | inl more ↦ let reach : (t + 1) * size ≤ s * size = mul-le-mul_right size (omega (arith, more)) in absurd (omega (arith, reach, le, lt))
]

-- and of two moments at one place the earlier one has the earlier tick
pub tick_lt : (size s t k : ℕ) → s * size + k < t * size + k → s < t
tick_lt size s t k lt = elim (cases_lt s t) [
  | inl done ↦ done
  | inr more ↦ let reach : t * size ≤ s * size = mul-le-mul_right size more in absurd (omega (arith, reach, lt))
]

-- ---- events at another place add nothing

module _ (arcs t k a : ℕ) (k_lt : k < moments arcs) (a_lt : a < arcs) where
  not_begin : k ≢ 2 + 3 * arcs + a → (e : PlainEvent) → IsAt arcs (number arcs t k) e → begin_on a e ≡ None
  not_begin other (PlainEvent.begin b) (lt, at) = go (b.arc == a) refl
    where
      go : (same : Bool) → (b.arc == a) ≡ same → (if same then Some b else None) ≡ None
      go false is = refl
      go true is = absurd (let on : b.arc ≡ a = grind (arith, nat_tests) in other (same_place arcs t b.tick k (2 + 3 * arcs + b.arc) k_lt (omega (arith, lt)) at ∙ ap (λ x. 2 + 3 * arcs + x) on))
  not_begin other (PlainEvent.set s b v) at = refl
  not_begin other (PlainEvent.ended e) at = refl
  not_begin other (PlainEvent.arrive x) at = refl
  not_begin other (PlainEvent.deliver d) at = refl
  not_begin other (PlainEvent.active s b v) at = refl
  not_begin other (PlainEvent.enter e) at = refl
  not_begin other (PlainEvent.dropped e) at = refl
  not_begin other (PlainEvent.count b c) at = refl
  not_begin other (PlainEvent.end e) at = refl

  not_end : k ≢ 1 + a → (e : PlainEvent) → IsAt arcs (number arcs t k) e → ended_on a e ≡ None
  not_end other (PlainEvent.ended e) (lt, at) = go (e.arc == a) refl
    where
      go : (same : Bool) → (e.arc == a) ≡ same → (if same then Some e else None) ≡ None
      go false is = refl
      go true is = absurd (let on : e.arc ≡ a = grind (arith, nat_tests) in other (same_place arcs t e.tick k (1 + e.arc) k_lt (omega (arith, lt)) at ∙ ap (λ x. 1 + x) on))
  not_end other (PlainEvent.set s b v) at = refl
  not_end other (PlainEvent.begin b) at = refl
  not_end other (PlainEvent.arrive x) at = refl
  not_end other (PlainEvent.deliver d) at = refl
  not_end other (PlainEvent.active s b v) at = refl
  not_end other (PlainEvent.enter e) at = refl
  not_end other (PlainEvent.dropped e) at = refl
  not_end other (PlainEvent.count b c) at = refl
  not_end other (PlainEvent.end e) at = refl

  not_arrival : k ≢ 1 + arcs + a → (e : PlainEvent) → IsAt arcs (number arcs t k) e → arrive_on a e ≡ None
  not_arrival other (PlainEvent.arrive x) (lt, at) = go (x.arc == a) refl
    where
      go : (same : Bool) → (x.arc == a) ≡ same → (if same then Some x else None) ≡ None
      go false is = refl
      go true is = absurd (let on : x.arc ≡ a = grind (arith, nat_tests) in other (same_place arcs t x.tick k (1 + arcs + x.arc) k_lt (omega (arith, lt)) at ∙ ap (λ y. 1 + arcs + y) on))
  not_arrival other (PlainEvent.set s b v) at = refl
  not_arrival other (PlainEvent.begin b) at = refl
  not_arrival other (PlainEvent.ended e) at = refl
  not_arrival other (PlainEvent.deliver d) at = refl
  not_arrival other (PlainEvent.active s b v) at = refl
  not_arrival other (PlainEvent.enter e) at = refl
  not_arrival other (PlainEvent.dropped e) at = refl
  not_arrival other (PlainEvent.count b c) at = refl
  not_arrival other (PlainEvent.end e) at = refl

  pub same_begins : (past es : History) → k ≢ 2 + 3 * arcs + a → AllAt arcs (number arcs t k) es → Begins (past ++ es) a ≡ Begins past a
  same_begins past es other at =
      filter_map-append (begin_on a) past es ∙ (ap (λ xs. Begins past a ++ xs) (none_selected (begin_on a) es (every_weaker (IsAt arcs (number arcs t k)) (λ e. begin_on a e ≡ None) (not_begin other) es at)) ∙ append-nil (Begins past a))

  pub same_ends : (past es : History) → k ≢ 1 + a → AllAt arcs (number arcs t k) es → Ends (past ++ es) a ≡ Ends past a
  same_ends past es other at =
      filter_map-append (ended_on a) past es ∙ (ap (λ xs. Ends past a ++ xs) (none_selected (ended_on a) es (every_weaker (IsAt arcs (number arcs t k)) (λ e. ended_on a e ≡ None) (not_end other) es at)) ∙ append-nil (Ends past a))

  pub same_arrivals : (past es : History) → k ≢ 1 + arcs + a → AllAt arcs (number arcs t k) es → Arrivals (past ++ es) a ≡ Arrivals past a
  same_arrivals past es other at =
      filter_map-append (arrive_on a) past es ∙ (ap (λ xs. Arrivals past a ++ xs) (none_selected (arrive_on a) es (every_weaker (IsAt arcs (number arcs t k)) (λ e. arrive_on a e ≡ None) (not_arrival other) es at)) ∙ append-nil (Arrivals past a))

-- ---- events of a tick are read by no query at an earlier one

module _ (arcs t k s : ℕ) (k_lt : k < moments arcs) (before : s < t) where
  is_later : (e : PlainEvent) → IsAt arcs (number arcs t k) e → IsLater s e
  is_later (PlainEvent.begin b) (lt, at) = let is = same_tick arcs t b.tick k (2 + 3 * arcs + b.arc) k_lt (omega (arith, lt)) at in omega (arith, is, before)
  is_later (PlainEvent.ended e) (lt, at) = let is = same_tick arcs t e.tick k (1 + e.arc) k_lt (omega (arith, lt)) at in omega (arith, is, before)
  is_later (PlainEvent.arrive x) (lt, at) = let is = same_tick arcs t x.tick k (1 + arcs + x.arc) k_lt (omega (arith, lt)) at in omega (arith, is, before)
  is_later (PlainEvent.enter e) at = let is = same_tick arcs t e.tick k (1 + 3 * arcs) k_lt (omega arith) at in omega (arith, is, before)
  is_later (PlainEvent.dropped e) at = let is = same_tick arcs t e.tick k (1 + 3 * arcs) k_lt (omega arith) at in omega (arith, is, before)
  is_later (PlainEvent.active u b v) (lt, at) = let is = same_tick arcs t u k (1 + 2 * arcs + b) k_lt (omega (arith, lt)) at in omega (arith, is, before)
  is_later (PlainEvent.set u b v) at = tt
  is_later (PlainEvent.deliver d) at = tt
  is_later (PlainEvent.count b c) at = tt
  is_later (PlainEvent.end e) at = tt

  pub all_later : (es : History) → AllAt arcs (number arcs t k) es → AllLater s es
  all_later es at = every_weaker (IsAt arcs (number arcs t k)) (IsLater s) is_later es at

-- ---- where all elements but one give no event, the events are those of that one

pub each_none : {X : Type 0} (R : X → List PlainEvent → Type 0) (xs : List X) (es : List PlainEvent)
    → ((i : ℕ) (x : X) (fs : List PlainEvent) → slice_get xs i ≡ Some x → R x fs → fs ≡ []) → Each R xs es → es ≡ []
each_none R [] es none is = is
each_none R (x ∷ xs) es none (front, rest, here, more, is) =
    let first : front ≡ [] = none zero x front refl here in
    let others : rest ≡ [] = each_none R xs rest (λ i y fs at r. none (suc i) y fs at r) more in
    is ∙ (ap (λ ys. ys ++ rest) first ∙ others)

pub each_only : {X : Type 0} (R : X → List PlainEvent → Type 0) (xs : List X) (es : List PlainEvent) (m : ℕ) (y : X) → slice_get xs m ≡ Some y
    → ((i : ℕ) (x : X) (fs : List PlainEvent) → i ≢ m → slice_get xs i ≡ Some x → R x fs → fs ≡ []) → Each R xs es → R y es
each_only R [] es m y at none is = absurd (cc at)
each_only R (x ∷ xs) es zero y at none (front, rest, here, more, is) =
    let others : rest ≡ [] = each_none R xs rest (λ i z fs at' r. none (suc i) z fs (λ e. absurd (omega (arith, e))) at' r) more in
    let whole : es ≡ front = is ∙ (ap (λ ys. front ++ ys) others ∙ append-nil front) in
    let same : x ≡ y = cc at in
    subst (λ z. R z es) same (subst (R x) (sym whole) here)
each_only R (x ∷ xs) es (suc m) y at none (front, rest, here, more, is) =
    let first : front ≡ [] = none zero x front (λ e. absurd (omega (arith, e))) refl here in
    let whole : es ≡ rest = is ∙ ap (λ ys. ys ++ rest) first in
    subst (R y) (sym whole) (each_only R xs rest m y at (λ i z fs other at' r. none (suc i) z fs (λ e. other (omega (arith, e))) at' r) more)

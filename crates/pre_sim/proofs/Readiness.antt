-- Which links can be settled next.
use Rattle.std.proofs.Common.{ℕ, ◌≡◌, ◌+◌, ◌<◌, ◌≤◌, List, length, sym, ◌∙◌, ap, inl, inr, arith, subst, Some}
use Rattle.std.proofs.lemmas.Bool.{cases_eq}
use Rattle.std.specs.Prelude.{slice_get, set}
use Rattle.pre_history.proofs.Chosen.{from_map, into_map}
use Rattle.pre_links.specs.Standing.{IsReady, IsUpTo}
use Rattle.pre_sim.specs.declared.lanes.Lane.{Lane}
use Rattle.pre_sim.specs.Keeps.{AreReady, AreSettled, SameLinks}
use Rattle.pre_sim.proofs.Lists.{set_cases, set_found, set_elsewhere, within}

-- with another lane at an arc whose link is ready
pub ready_set : (t : ℕ) (lanes : List Lane) (i : ℕ) (new : Lane) → AreReady t lanes → IsReady new.link t → AreReady t (set lanes i new)
ready_set t lanes i new all one = set_cases (λ j x. IsReady x.link t) lanes i new all one

-- the first n are settled, and the others ready
abbrev pub AreSettledTo : ℕ → ℕ → List Lane → Type 0
AreSettledTo n t lanes = (a : ℕ) (lane : Lane) → slice_get lanes a ≡ Some lane → (a < n → IsUpTo lane.link t) × (n ≤ a → IsReady lane.link t)

pub settled_set : (n t : ℕ) (lanes : List Lane) (new : Lane) → AreSettledTo n t lanes → IsUpTo new.link t → AreSettledTo (n + 1) t (set lanes n new)
settled_set n t lanes new all one a lane at = elim (cases_eq a n) [
  | inl is ↦ ((λ lt. subst (λ (x : Lane). IsUpTo x.link t) (set_found lanes n new lane (subst (λ j. slice_get (set lanes n new) j ≡ Some lane) is at)) one), (λ le. absurd (omega (arith, is, le))))
  | inr other ↦
      let was = all a lane (sym (set_elsewhere lanes n a new other) ∙ at) in
      ((λ lt. was.0 (omega (arith, lt, other))), (λ le. was.1 (omega (arith, le))))
]

pub all_settled : (n t : ℕ) (lanes : List Lane) → AreSettledTo n t lanes → length lanes ≤ n → AreSettled t lanes
all_settled n t lanes all few a lane at = (all a lane at).0 (omega (arith, within lanes a lane at, few))

-- what was settled at a tick is ready at the next one
pub ready_next : (t : ℕ) (lanes : List Lane) → AreSettled t lanes → AreReady (t + 1) lanes
ready_next t lanes all a lane at = let one = all a lane at in (omega (arith, one.0), one.1)

-- links that stay as they were are as settled
pub still_settled : (t : ℕ) (old new : List Lane) → SameLinks old new → AreSettled t old → AreSettled t new
still_settled t old new same all a lane at =
    let there = from_map (λ (l : Lane). l.link) old a lane.link (ap (λ xs. slice_get xs a) (sym same) ∙ into_map (λ (l : Lane). l.link) new a lane at) in
    subst (λ x. IsUpTo x t) there.2 (all a there.0 there.1)

-- and as ready
pub still_ready : (t : ℕ) (old new : List Lane) → SameLinks old new → AreReady t old → AreReady t new
still_ready t old new same all a lane at =
    let there = from_map (λ (l : Lane). l.link) old a lane.link (ap (λ xs. slice_get xs a) (sym same) ∙ into_map (λ (l : Lane). l.link) new a lane at) in
    subst (λ x. IsReady x t) there.2 (all a there.0 there.1)

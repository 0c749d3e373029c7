-- What a run tests of a history is decided.
use Rattle.std.proofs.Common.{ℕ, zero, suc, ◌≡◌, ◌≢◌, ◌⊎◌, ◌+◌, ◌-◌, ◌*◌, ◌<◌, ◌≤◌, List, [], ◌∷◌}
use Rattle.std.proofs.Common.{refl, sym, inl, inr, arith, subst, Option, Some, None}
use Rattle.std.specs.Prelude.{MatchOption, ⊤, slice_get, Any}
use Rattle.std.proofs.lemmas.Bool.{cases_lt}
use Rattle.pre_mpacket.specs.Pieces.{IsBoundary, CutRule, least_fragment}
use Rattle.pre_mpacket.proofs.CutSizes.{cut_some}
use Rattle.pre_history.specs.Scenario.{Scenario, arc}
use Rattle.pre_history.specs.History.{History, Begin, Ended}
use Rattle.pre_history.specs.Queries.{Packets, Waiting, IsUnderWay, Occupied}
use Rattle.pre_history.specs.Starts.{ExpressWaits, begun}
use Rattle.pre_history.proofs.Lists.{any_at, found_at}
use Rattle.pre_mpacket.proofs.Decisions.{IsDecided}

not_later : {X : Type 0} (P : X → Type 0) (y : X) (ys : List X) → ¬ P y → ((i : ℕ) (x : X) → slice_get ys i ≡ Some x → ¬ P x) → (i : ℕ) (x : X) → slice_get (y ∷ ys) i ≡ Some x → ¬ P x
not_later P y ys first none zero x at p = first (subst P (sym (cc at)) p)
not_later P y ys first none (suc i) x at p = none i x at p

pub any_decided : {X : Type 0} (P : X → Type 0) → ((x : X) → P x ⊎ ¬ P x) → (xs : List X) → ((i : ℕ) × (x : X) × (slice_get xs i ≡ Some x) × P x) ⊎ ((i : ℕ) (x : X) → slice_get xs i ≡ Some x → ¬ P x)
any_decided P decided [] = inr (λ i x at p. absurd (cc at))
any_decided P decided (y ∷ ys) = elim (decided y) [
  | inl p ↦ inl (0, y, refl, p)
  | inr first ↦ elim (any_decided P decided ys) [
    | inl o ↦ inl (suc o.0, o.1, o.2, o.3)
    | inr none ↦ inr (not_later P y ys first none)
  ]
]

module _ (w : Scenario) (h : History) (a t : ℕ) where
  under : (b : Begin) (o : Option Ended) → ((b.tick < t) × MatchOption o ⊤ (λ e. t < e.tick + 12 * (arc w a).cost)) ⊎ ¬ ((b.tick < t) × MatchOption o ⊤ (λ e. t < e.tick + 12 * (arc w a).cost))
  under b None = elim (cases_lt b.tick t) [ inl early ↦ inl (early, tt) | inr late ↦ inr (λ x. absurd (omega (arith, late, x.0))) ]
  under b (Some e) = elim (cases_lt b.tick t) [
    | inr late ↦ inr (λ x. absurd (omega (arith, late, x.0)))
    | inl early ↦ elim (cases_lt t (e.tick + 12 * (arc w a).cost)) [ inl within' ↦ inl (early, within') | inr over ↦ inr (λ x. absurd (omega (arith, over, x.1))) ]
  ]

  pub occupied_decided : Occupied w h a t ⊎ ¬ Occupied w h a t
  occupied_decided = elim (any_decided (IsUnderWay w h a t) (λ p. under p.begin p.ended) (Packets h a)) [
    | inl o ↦ inl (any_at (IsUnderWay w h a t) (Packets h a) o.0 o.1 o.2 o.3)
    | inr none ↦ inr (λ x. none x.0 x.1 (found_at (Packets h a) x.0 x.1 x.2 x.3) x.4)
  ]

  waits_or_not : (p : ℕ) → (Waiting h a p t ≢ []) ⊎ (Waiting h a p t ≡ [])
  waits_or_not p = go (Waiting h a p t)
    where
      go : (xs : List ℕ) → (xs ≢ []) ⊎ (xs ≡ [])
      go [] = inr refl
      go (x ∷ xs) = inl (λ e. cc e)

  -- among the n priorities from the least express one on
  express_among : (n : ℕ) → ((p : ℕ) × ((arc w a).express_from ≤ p) × (p < (arc w a).express_from + n) × (Waiting h a p t ≢ [])) ⊎ ((p : ℕ) → (arc w a).express_from ≤ p → p < (arc w a).express_from + n → Waiting h a p t ≡ [])
  express_among zero = inr (λ p from to. absurd (omega (arith, from, to)))
  express_among (suc n) = elim (express_among n) [
    | inl o ↦ inl (o.0, o.1, omega (arith, o.2), o.3)
    | inr none ↦ elim (waits_or_not ((arc w a).express_from + n)) [
      | inl some ↦ inl ((arc w a).express_from + n, omega arith, omega arith, some)
      | inr empty ↦ inr (λ p from to. elim (cases_lt p ((arc w a).express_from + n)) [
        | inl less ↦ none p from less
        | inr more ↦ let is : (arc w a).express_from + n ≡ p = omega (arith, more, to) in subst (λ x. Waiting h a x t ≡ []) is empty
      ])
    ]
  ]

  pub express_decided : ExpressWaits w h a t ⊎ ¬ ExpressWaits w h a t
  express_decided =
      elim (express_among (8 - (arc w a).express_from)) [
        | inl o ↦ inl (o.0, o.1, omega (arith, o.1, o.2), o.3)
        | inr none ↦ inr (λ x. x.3 (none x.0 x.1 (omega (arith, x.1, x.2))))
      ]

pub cuts_decided : (w : Scenario) (h : History) (b : Begin) (d : ℕ) → IsBoundary (ExpressWaits w h b.arc) (begun w h b) d ⊎ ¬ IsBoundary (ExpressWaits w h b.arc) (begun w h b) d
cuts_decided w h b d = elim (cases_lt d (least_fragment (begun w h b).add_frag)) [
  | inl short ↦ inr (λ cut. absurd (omega (arith, short, cut.0)))
  | inr long ↦ elim (cases_lt ((begun w h b).unsent - d) 64) [
    | inl few ↦ inr (λ cut. absurd (omega (arith, few, cut.1)))
    | inr left ↦ elim (express_decided w h b.arc ((begun w h b).tick + (begun w h b).octet_ticks * (8 + d))) [
      | inl waits ↦ inl (long, left, waits)
      | inr none ↦ inr (λ cut. none cut.2)
    ]
  ]
]

pub size_found : (w : Scenario) (h : History) (b : Begin) → (size : ℕ) × CutRule (ExpressWaits w h b.arc) (begun w h b) size
size_found w h b = cut_some (ExpressWaits w h b.arc) (λ t. express_decided w h b.arc t) (begun w h b)

-- whether some element has it
pub some_element : {X : Type 0} (P : X → Type 0) → ((x : X) → IsDecided (P x)) → (xs : List X) → IsDecided (Any P xs)
some_element P decided xs = elim (any_decided P decided xs) [
  | inl o ↦ inl (any_at P xs o.0 o.1 o.2 o.3)
  | inr none ↦ inr (λ x. none x.0 x.1 (found_at xs x.0 x.1 x.2 x.3) x.4)
]

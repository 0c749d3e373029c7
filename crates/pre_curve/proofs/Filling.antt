-- A bucket's level through one more offer, and what a full bucket says of the windows that end with it.
use Rattle.std.proofs.Common.{◌≡◌, ℕ, ◌+◌, ◌-◌, ◌*◌, ◌<◌, ◌≤◌, List, [], ◌∷◌, ◌++◌, length, take, drop}
use Rattle.std.proofs.Common.{sym, ◌∙◌, ap, subst, arith, length-append, length-drop, zero-add, inl, inr}
use Rattle.std.proofs.Math.Seq.{drop-append_seam, take-length}
use Rattle.std.proofs.lemmas.List.{drop-append-le}
use Rattle.std.proofs.lemmas.List.Sums.{sum_by_push}
use Rattle.std.proofs.lemmas.Bool.{cases_lt}
use Rattle.std.specs.List.{slice_range}
use Rattle.pre_curve.specs.declared.curves.Curve.{Curve}
use Rattle.pre_curve.specs.Windows.{Offer, octets_of, tick_at, last_tick, window_octets, window_ticks, ObeysAt, BreaksAt, InOrder}
use Rattle.pre_curve.specs.Levels.{IsLevel}
use Rattle.pre_curve.proofs.Prefixes.{tick_at-append, tick_at_seam, tick_at-latest}

-- the level after some ticks and one more offer
abbrev pub filled : ℕ → ℕ → ℕ → ℕ → ℕ
filled rate level ticks octets = 1_000_000 * octets + (level - rate * ticks)

octets-drop-push : (xs : List Offer) (o : Offer) (i : ℕ) → i ≤ length xs → octets_of (drop i (xs ++ o ∷ [])) ≡ octets_of (drop i xs) + o.octets
octets-drop-push xs o i h = ap octets_of (drop-append-le i xs (o ∷ []) h) ∙ sum_by_push (λ x. x.octets) (drop i xs) o

octets-drop-seam : (xs : List Offer) (o : Offer) → octets_of (drop (length xs) (xs ++ o ∷ [])) ≡ o.octets
octets-drop-seam xs o = ap octets_of (drop-append_seam xs (o ∷ [])) ∙ zero-add o.octets

later : (rate a b c : ℕ) → c ≡ a + b → rate * c ≡ rate * a + rate * b
later rate a b c e = ap (λ n. rate * n) e ∙ omega arith

above_more : (rate level held octets a b c sum : ℕ) → c ≡ a + b → sum ≡ held + octets → 1_000_000 * held ≤ level + rate * b → 1_000_000 * sum ≤ filled rate level a octets + rate * c
above_more rate level held octets a b c sum e s h = omega (arith, later rate a b c e)

reached_more : (rate level held octets a b c sum : ℕ) → c ≡ a + b → sum ≡ held + octets → rate * a < level → 1_000_000 * held ≡ level + rate * b → 1_000_000 * sum ≡ filled rate level a octets + rate * c
reached_more rate level held octets a b c sum e s m h = omega (arith, later rate a b c e)

above_here : (rate level octets a c sum : ℕ) → sum ≡ octets → 1_000_000 * sum ≤ filled rate level a octets + rate * c
above_here rate level octets a c sum s = omega arith

reached_here : (rate level octets a sum : ℕ) (c : ℕ) → c ≡ 0 → sum ≡ octets → level ≤ rate * a → 1_000_000 * sum ≡ filled rate level a octets + rate * c
reached_here rate level octets a sum c z s m = ap (λ n. 1_000_000 * n) s ∙ omega (arith, ap (λ n. rate * n) z)

gap : (tick latest t u : ℕ) → t ≡ u → u ≤ latest → latest ≤ tick → tick - t ≡ (tick - latest) + (latest - u)
gap tick latest t u e h k = omega arith

pub IsLevel-push : (rate latest level : ℕ) (xs : List Offer) (o : Offer) → ((i : ℕ) → i < length xs → tick_at xs i ≤ latest) → latest ≤ o.tick → IsLevel rate xs latest level → IsLevel rate (xs ++ o ∷ []) o.tick (filled rate level (o.tick - latest) o.octets)
IsLevel-push rate latest level xs o early late is = record {
  above = λ i h.
      elim (cases_lt i (length xs)) [
        | inl below ↦ above_more rate level _ o.octets (o.tick - latest) (latest - tick_at xs i) _ _
            (gap o.tick latest _ (tick_at xs i) (tick_at-append xs (o ∷ []) i below) (early i below) late)
            (octets-drop-push xs o i (omega arith)) (is.above i below)
        | inr same ↦
            let last : length xs ≡ i = omega (arith, length-append xs (o ∷ [])) in
            above_here rate level o.octets (o.tick - latest) _ _ (subst (λ n. octets_of (drop n (xs ++ o ∷ [])) ≡ o.octets) last (octets-drop-seam xs o))
      ];
  reached =
      elim (cases_lt (rate * (o.tick - latest)) level) [
        | inl more ↦ elim is.reached [
          | inl none ↦ absurd (omega arith)
          | inr some ↦ inr (
            some.0,
            omega (arith, some.1, length-append xs (o ∷ [])),
            reached_more rate level _ o.octets (o.tick - latest) (latest - tick_at xs some.0) _ _
                (gap o.tick latest _ (tick_at xs some.0) (tick_at-append xs (o ∷ []) some.0 some.1) (early some.0 some.1) late)
                (octets-drop-push xs o some.0 (omega (arith, some.1))) more some.2,
          )
        ]
        | inr less ↦ inr (
          length xs,
          omega (arith, length-append xs (o ∷ [])),
          reached_here rate level o.octets (o.tick - latest) _ (o.tick - tick_at (xs ++ o ∷ []) (length xs))
              (omega (arith, tick_at_seam xs o [])) (octets-drop-seam xs o) less,
        )
      ];
}

-- a window to the end
slice_range_end : (xs : List Offer) (i n : ℕ) → length xs ≡ n → slice_range xs i n ≡ drop i xs
slice_range_end xs i n e = ap (λ m. take m (drop i xs)) (ap (λ m. m - i) (sym e) ∙ sym (length-drop i xs)) ∙ take-length (drop i xs)

within : (rate burst level ticks t sum total : ℕ) → total ≡ sum → ticks ≡ t → level ≤ 1_000_000 * burst → 1_000_000 * sum ≤ level + rate * t → 1_000_000 * total ≤ 1_000_000 * burst + rate * ticks
within rate burst level ticks t sum total s e l h = omega (arith, ap (λ n. rate * n) e)

beyond : (rate burst level ticks t sum total : ℕ) → total ≡ sum → ticks ≡ t → 1_000_000 * burst < level → 1_000_000 * sum ≡ level + rate * t → 1_000_000 * burst + rate * ticks < 1_000_000 * total
beyond rate burst level ticks t sum total s e l h = omega (arith, ap (λ n. rate * n) e)

pub last_window : (xs : List Offer) (o : Offer) (i : ℕ) → window_octets (xs ++ o ∷ []) i (length xs) ≡ octets_of (drop i (xs ++ o ∷ []))
last_window xs o i = ap octets_of (slice_range_end (xs ++ o ∷ []) i (length xs + 1) (length-append xs (o ∷ [])))

pub last_ticks : (xs : List Offer) (o : Offer) (i : ℕ) → window_ticks (xs ++ o ∷ []) i (length xs) ≡ o.tick - tick_at (xs ++ o ∷ []) i
last_ticks xs o i = ap (λ t. t - tick_at (xs ++ o ∷ []) i) (tick_at_seam xs o [])

pub ObeysAt-end : (curve : Curve) (level : ℕ) (xs : List Offer) (o : Offer) → IsLevel curve.rate (xs ++ o ∷ []) o.tick level → level ≤ 1_000_000 * curve.burst → ObeysAt (xs ++ o ∷ []) curve (length xs)
ObeysAt-end curve level xs o is low i h =
    within curve.rate curve.burst level _ _ _ _ (last_window xs o i) (last_ticks xs o i) low (is.above i (omega (arith, length-append xs (o ∷ []))))

pub BreaksAt-end : (curve : Curve) (level : ℕ) (xs : List Offer) (o : Offer) → IsLevel curve.rate (xs ++ o ∷ []) o.tick level → 1_000_000 * curve.burst < level → BreaksAt (xs ++ o ∷ []) curve (length xs)
BreaksAt-end curve level xs o is high =
    elim is.reached [
      | inl none ↦ absurd (omega arith)
      | inr some ↦ (some.0, omega (arith, some.1, length-append xs (o ∷ [])), beyond curve.rate curve.burst level _ _ _ _ (last_window xs o some.0) (last_ticks xs o some.0) high some.2)
    ]

-- the level after an offer is what fills the bucket
pub IsLevel-offer : (curve : Curve) (latest level next : ℕ) (xs : List Offer) (o : Offer) → InOrder xs → latest ≡ last_tick xs → latest ≤ o.tick → IsLevel curve.rate xs latest level → next ≡ filled curve.rate level (o.tick - latest) o.octets → IsLevel curve.rate (xs ++ o ∷ []) o.tick next
IsLevel-offer curve latest level next xs o order last late is e =
    subst (λ n. IsLevel curve.rate (xs ++ o ∷ []) o.tick n) (sym e)
    (IsLevel-push curve.rate latest level xs o (λ i h. tick_at-latest xs latest i order last h) late is)

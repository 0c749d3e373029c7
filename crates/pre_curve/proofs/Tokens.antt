-- A token bucket lacks tokens exactly where some window breaks the curve.
use Rattle.std.proofs.Common.{◌≡◌, ℕ, ◌+◌, ◌-◌, ◌*◌, ◌<◌, ◌≤◌, min, List, [], ◌∷◌, ◌++◌, length, refl, sym}
use Rattle.std.proofs.Common.{ap, subst, arith, length-append, append_assoc, inl, inr}
use Rattle.std.proofs.lemmas.List.{append-nil}
use Rattle.std.proofs.lemmas.Bool.{cases_lt}
use Rattle.pre_curve.specs.declared.curves.Curve.{Curve}
use Rattle.pre_curve.specs.Windows.{Offer, last_tick, window_octets, window_ticks, Obeys, ObeysAt, InOrder}
use Rattle.pre_curve.specs.Levels.{IsLevel}
use Rattle.pre_curve.specs.Buckets.{Conforms, ConformsFull}
use Rattle.pre_curve.proofs.Prefixes.{tick_at-append, tick_at_seam, window_octets-append, window_ticks-append, moved, Obeys-push, last_tick-push}
use Rattle.pre_curve.proofs.Filling.{IsLevel-offer, ObeysAt-end, last_window, last_ticks}

InOrder-front : (xs ys : List Offer) → InOrder (xs ++ ys) → InOrder xs
InOrder-front xs ys order i j h k =
    let at_i = tick_at-append xs ys i (omega arith) in
    let at_j = tick_at-append xs ys j k in
    let known = order i j h (omega (arith, length-append xs ys)) in
    omega (arith, at_i, at_j, known)

first_tick : (xs : List Offer) (o : Offer) → length xs ≡ 0 → last_tick xs ≤ o.tick
first_tick [] o e = omega arith
first_tick (x ∷ xs) o e = absurd (omega arith)

last_before : (xs : List Offer) (o : Offer) (ys : List Offer) → InOrder (xs ++ o ∷ ys) → last_tick xs ≤ o.tick
last_before xs o ys order =
    elim (cases_lt 0 (length xs)) [
      | inl some ↦
          let last = tick_at-append xs (o ∷ ys) (length xs - 1) (omega arith) in
          let next = tick_at_seam xs o ys in
          let known = order (length xs - 1) (length xs) (omega arith) (omega (arith, length-append xs (o ∷ ys))) in
          omega (arith, last, next, known)
      | inr none ↦ first_tick xs o (omega arith)
    ]

ObeysAt-front : (xs ys : List Offer) (curve : Curve) (j : ℕ) → j < length xs → ObeysAt (xs ++ ys) curve j → ObeysAt xs curve j
ObeysAt-front xs ys curve j k obeys i h =
    moved curve (window_octets (xs ++ ys) i j) (window_octets xs i j) (window_ticks (xs ++ ys) i j) (window_ticks xs i j)
    (window_octets-append xs ys i j h k) (window_ticks-append xs ys i j h k) (obeys i h)

-- the level is what the bucket lacks of the burst
lacks : (full tokens drained taken : ℕ) → tokens ≤ full → taken ≤ min full (tokens + drained) → full - (min full (tokens + drained) - taken) ≡ taken + (full - tokens - drained)
lacks full tokens drained taken h k = omega arith

enough : (full tokens drained taken : ℕ) → tokens ≤ full → taken + (full - tokens - drained) ≤ full → taken ≤ min full (tokens + drained)
enough full tokens drained taken h k = omega arith

within_full : (full drained tokens taken : ℕ) → taken ≤ min full (tokens + drained) → taken + (full - tokens - drained) ≤ full
within_full full drained tokens taken h = omega arith

lower : (burst rate level ticks t sum total : ℕ) → total ≡ sum → ticks ≡ t → 1_000_000 * total ≤ 1_000_000 * burst + rate * ticks → 1_000_000 * sum ≡ level + rate * t → level ≤ 1_000_000 * burst
lower burst rate level ticks t sum total s e h k = omega (arith, ap (λ n. rate * n) e)

level_within : (curve : Curve) (level : ℕ) (xs : List Offer) (o : Offer) → IsLevel curve.rate (xs ++ o ∷ []) o.tick level → ObeysAt (xs ++ o ∷ []) curve (length xs) → level ≤ 1_000_000 * curve.burst
level_within curve level xs o is obeys =
    elim is.reached [
      | inl none ↦ omega arith
      | inr some ↦
          let h : some.0 ≤ length xs = omega (arith, some.1, length-append xs (o ∷ [])) in
          lower curve.burst curve.rate level _ _ _ _ (last_window xs o some.0) (last_ticks xs o some.0) (obeys some.0 h) some.2
    ]

more : (xs : List Offer) (o : Offer) (ys : List Offer) → (xs ++ o ∷ []) ++ ys ≡ xs ++ o ∷ ys
more xs o ys = append_assoc xs (o ∷ []) ys

pub Obeys-from_tokens : (ys xs : List Offer) (curve : Curve) (tokens latest : ℕ) → InOrder (xs ++ ys) → latest ≡ last_tick xs → tokens ≤ 1_000_000 * curve.burst → IsLevel curve.rate xs latest (1_000_000 * curve.burst - tokens) → Obeys xs curve → Conforms curve tokens latest ys → Obeys (xs ++ ys) curve
Obeys-from_tokens [] xs curve tokens latest order last few is obeys conforms = subst (λ l. Obeys l curve) (sym (append-nil xs)) obeys
Obeys-from_tokens (o ∷ ys) xs curve tokens latest order last few is obeys conforms =
    let full = 1_000_000 * curve.burst in
    let drained = curve.rate * (o.tick - latest) in
    let level = full - (min full (tokens + drained) - 1_000_000 * o.octets) in
    let late : latest ≤ o.tick = omega (arith, last, last_before xs o ys order) in
    let is_next = IsLevel-offer curve latest (full - tokens) level xs o (InOrder-front xs (o ∷ ys) order) last late is (lacks full tokens drained (1_000_000 * o.octets) few conforms.0) in
    let low : level ≤ full = omega arith in
    subst (λ l. Obeys l curve) (more xs o ys)
    (Obeys-from_tokens ys (xs ++ o ∷ []) curve (min full (tokens + drained) - 1_000_000 * o.octets) o.tick (subst (λ l. InOrder l) (sym (more xs o ys)) order) (sym (last_tick-push xs o)) (omega arith) is_next
    (Obeys-push xs o curve obeys (ObeysAt-end curve level xs o is_next low)) conforms.1)

pub Conforms-from_windows : (ys xs : List Offer) (curve : Curve) (tokens latest : ℕ) → InOrder (xs ++ ys) → latest ≡ last_tick xs → tokens ≤ 1_000_000 * curve.burst → IsLevel curve.rate xs latest (1_000_000 * curve.burst - tokens) → Obeys (xs ++ ys) curve → Conforms curve tokens latest ys
Conforms-from_windows [] xs curve tokens latest order last few is obeys = tt
Conforms-from_windows (o ∷ ys) xs curve tokens latest order last few is obeys =
    let full = 1_000_000 * curve.burst in
    let drained = curve.rate * (o.tick - latest) in
    let taken = 1_000_000 * o.octets in
    let late : latest ≤ o.tick = omega (arith, last, last_before xs o ys order) in
    let is_filled = IsLevel-offer curve latest (full - tokens) (taken + (full - tokens - drained)) xs o (InOrder-front xs (o ∷ ys) order) last late is refl in
    let whole : Obeys ((xs ++ o ∷ []) ++ ys) curve = subst (λ l. Obeys l curve) (sym (more xs o ys)) obeys in
    let here : ObeysAt (xs ++ o ∷ []) curve (length xs) = ObeysAt-front (xs ++ o ∷ []) ys curve (length xs) (omega (arith, length-append xs (o ∷ []))) (λ i h. whole i (length xs) h (omega (arith, length-append (xs ++ o ∷ []) ys, length-append xs (o ∷ [])))) in
    let low = level_within curve (taken + (full - tokens - drained)) xs o is_filled here in
    let fits : taken ≤ min full (tokens + drained) = enough full tokens drained taken few low in
    let is_next = subst (λ n. IsLevel curve.rate (xs ++ o ∷ []) o.tick n) (sym (lacks full tokens drained taken few fits)) is_filled in
    (fits, Conforms-from_windows ys (xs ++ o ∷ []) curve (min full (tokens + drained) - taken) o.tick (subst (λ l. InOrder l) (sym (more xs o ys)) order) (sym (last_tick-push xs o)) (omega arith) is_next whole)

empty_level : (rate full : ℕ) → IsLevel rate [] 0 (full - full)
empty_level rate full = record { above = λ i h. absurd (omega arith); reached = inl (omega arith) }

pub ConformsFull-from_obeys : (offers : List Offer) (curve : Curve) → InOrder offers → Obeys offers curve → ConformsFull offers curve
ConformsFull-from_obeys offers curve order obeys =
    Conforms-from_windows offers [] curve (1_000_000 * curve.burst) 0 order refl (omega arith) (empty_level curve.rate (1_000_000 * curve.burst)) obeys

pub Obeys-from_conforms : (offers : List Offer) (curve : Curve) → InOrder offers → ConformsFull offers curve → Obeys offers curve
Obeys-from_conforms offers curve order conforms =
    Obeys-from_tokens offers [] curve (1_000_000 * curve.burst) 0 order refl (omega arith) (empty_level curve.rate (1_000_000 * curve.burst)) (λ i j h k. absurd (omega arith)) conforms

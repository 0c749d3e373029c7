-- What more offers behind a list leave as it was: the ticks and windows of the front.
use Rattle.std.proofs.Common.{◌≡◌, ℕ, zero, suc, ◌+◌, ◌-◌, ◌*◌, ◌<◌, ◌≤◌, List, [], ◌∷◌, ◌++◌, length}
use Rattle.std.proofs.Common.{get_or, take, drop, refl, sym, ◌∙◌, ap, subst, arith, add-one, length-append, length-drop, length-take, inl}
use Rattle.std.proofs.Common.{inr}
use Rattle.std.proofs.lemmas.List.{take-append-le, take-append-drop, drop-append-le, length-map}
use Rattle.std.proofs.lemmas.Bool.{cases_lt}
use Rattle.std.specs.List.{slice_range}
use Rattle.pre_base.specs.declared.numbers.Send.{Send}
use Rattle.pre_curve.specs.declared.curves.Curve.{Curve}
use Rattle.pre_curve.specs.Windows.{Offer, offer_of, offers_of, octets_of, wire_octets, tick_at, last_tick, window_octets, window_ticks, allowance, WindowObeys, Obeys, ObeysAt, BreaksAt, InOrder}

pub tick_at-append : (xs ys : List Offer) (i : ℕ) → i < length xs → tick_at (xs ++ ys) i ≡ tick_at xs i
tick_at-append [] ys i h = absurd (omega arith)
tick_at-append (x ∷ xs) ys zero h = refl
tick_at-append (x ∷ xs) ys (suc i) h = tick_at-append xs ys i (omega arith)

pub tick_at_seam : (xs : List Offer) (o : Offer) (ys : List Offer) → tick_at (xs ++ o ∷ ys) (length xs) ≡ o.tick
tick_at_seam [] o ys = refl
tick_at_seam (x ∷ xs) o ys = tick_at_seam xs o ys

pub slice_range-append : (xs ys : List Offer) (i j : ℕ) → i ≤ j → j < length xs → slice_range (xs ++ ys) i (j + 1) ≡ slice_range xs i (j + 1)
slice_range-append xs ys i j h k =
    let front : i ≤ length xs = omega arith in
    let room : j + 1 - i ≤ length (drop i xs) = omega (arith, length-drop i xs) in
    ap (take (j + 1 - i)) (drop-append-le i xs ys front) ∙ take-append-le (j + 1 - i) (drop i xs) ys room

pub window_octets-append : (xs ys : List Offer) (i j : ℕ) → i ≤ j → j < length xs → window_octets (xs ++ ys) i j ≡ window_octets xs i j
window_octets-append xs ys i j h k = ap octets_of (slice_range-append xs ys i j h k)

pub window_ticks-append : (xs ys : List Offer) (i j : ℕ) → i ≤ j → j < length xs → window_ticks (xs ++ ys) i j ≡ window_ticks xs i j
window_ticks-append xs ys i j h k =
    ap (λ t. t - tick_at (xs ++ ys) i) (tick_at-append xs ys j k) ∙ ap (λ t. tick_at xs j - t) (tick_at-append xs ys i (omega arith))

-- whether a window obeys stands by its octets and its ticks alone
pub moved : (curve : Curve) (a b s t : ℕ) → a ≡ b → s ≡ t → 1_000_000 * a ≤ allowance curve s → 1_000_000 * b ≤ allowance curve t
moved curve a b s t e f h = subst (λ n. 1_000_000 * n ≤ allowance curve t) e (subst (λ n. 1_000_000 * a ≤ allowance curve n) f h)

pub WindowObeys-append : (xs ys : List Offer) (curve : Curve) (i j : ℕ) → i ≤ j → j < length xs → WindowObeys xs curve i j → WindowObeys (xs ++ ys) curve i j
WindowObeys-append xs ys curve i j h k obeys =
    moved curve (window_octets xs i j) (window_octets (xs ++ ys) i j) (window_ticks xs i j) (window_ticks (xs ++ ys) i j)
    (sym (window_octets-append xs ys i j h k)) (sym (window_ticks-append xs ys i j h k)) obeys

-- one more offer, whose windows obey
pub Obeys-push : (xs : List Offer) (o : Offer) (curve : Curve) → Obeys xs curve → ObeysAt (xs ++ o ∷ []) curve (length xs) → Obeys (xs ++ o ∷ []) curve
Obeys-push xs o curve before here i j h k =
    elim (cases_lt j (length xs)) [
      | inl less ↦ WindowObeys-append xs (o ∷ []) curve i j h less (before i j h less)
      | inr more ↦
          let last : length xs ≡ j = omega (arith, length-append xs (o ∷ [])) in
          subst (λ n. WindowObeys (xs ++ o ∷ []) curve i n) last (here i (omega arith))
    ]

-- no offer is later than the last
pub tick_at-latest : (xs : List Offer) (latest i : ℕ) → InOrder xs → latest ≡ last_tick xs → i < length xs → tick_at xs i ≤ latest
tick_at-latest xs latest i order e h = subst (λ n. tick_at xs i ≤ n) (sym e) (order i (length xs - 1) (omega arith) (omega arith))

pub InOrder-push : (xs : List Offer) (o : Offer) (latest : ℕ) → InOrder xs → latest ≡ last_tick xs → latest ≤ o.tick → InOrder (xs ++ o ∷ [])
InOrder-push xs o latest order e later i j h k =
    elim (cases_lt j (length xs)) [
      | inl less ↦
          let at_i = tick_at-append xs (o ∷ []) i (omega arith) in
          let at_j = tick_at-append xs (o ∷ []) j less in
          let known = order i j h less in
          omega (arith, at_i, at_j, known)
      | inr more ↦
          let last : length xs ≡ j = omega (arith, length-append xs (o ∷ [])) in
          let at_j : tick_at (xs ++ o ∷ []) j ≡ o.tick = subst (λ n. tick_at (xs ++ o ∷ []) n ≡ o.tick) last (tick_at_seam xs o []) in
          elim (cases_lt i (length xs)) [
            | inl below ↦
                let at_i = tick_at-append xs (o ∷ []) i below in
                let known = tick_at-latest xs latest i order e below in
                omega (arith, at_i, at_j, known)
            | inr same ↦
                let both : j ≡ i = omega arith in
                subst (λ n. tick_at (xs ++ o ∷ []) n ≤ tick_at (xs ++ o ∷ []) j) both (omega arith)
          ]
    ]

pub last_tick-push : (xs : List Offer) (o : Offer) → last_tick (xs ++ o ∷ []) ≡ o.tick
last_tick-push xs o =
    let last : length xs ≡ length (xs ++ o ∷ []) - 1 = omega (arith, length-append xs (o ∷ [])) in
    subst (λ n. tick_at (xs ++ o ∷ []) n ≡ o.tick) last (tick_at_seam xs o [])

-- a window of a front that breaks the curve breaks it in the whole
broken : (curve : Curve) (a b s t : ℕ) → a ≡ b → s ≡ t → allowance curve s < 1_000_000 * a → allowance curve t < 1_000_000 * b
broken curve a b s t e f h = subst (λ n. allowance curve t < 1_000_000 * n) e (subst (λ n. allowance curve n < 1_000_000 * a) f h)

BreaksAt-append : (xs ys : List Offer) (curve : Curve) (j : ℕ) → j < length xs → BreaksAt xs curve j → BreaksAt (xs ++ ys) curve j
BreaksAt-append xs ys curve j k breaks = (
  breaks.0,
  breaks.1,
  broken curve _ _ _ _ (sym (window_octets-append xs ys breaks.0 j breaks.1 k)) (sym (window_ticks-append xs ys breaks.0 j breaks.1 k)) breaks.2,
)

length_front : (xs : List Offer) (n : ℕ) → n ≤ length xs → length (take n xs) ≡ n
length_front xs n h = omega (arith, length-take n xs)

pub BreaksAt-take : (xs : List Offer) (curve : Curve) (j n : ℕ) → j < n → n ≤ length xs → BreaksAt (take n xs) curve j → BreaksAt xs curve j
BreaksAt-take xs curve j n h k breaks =
    subst (λ l. BreaksAt l curve j) (take-append-drop n xs)
    (BreaksAt-append (take n xs) (drop n xs) curve j (omega (arith, length_front xs n k)) breaks)

pub ObeysAt-take : (xs : List Offer) (curve : Curve) (j n : ℕ) → j < n → n ≤ length xs → Obeys (take n xs) curve → ObeysAt xs curve j
ObeysAt-take xs curve j n h k obeys i below =
    let room : j < length (take n xs) = omega (arith, length_front xs n k) in
    subst (λ l. WindowObeys l curve i j) (take-append-drop n xs)
    (WindowObeys-append (take n xs) (drop n xs) curve i j below room (obeys i j below room))

-- one send more of the front
front_next : (sends : List Send) (p : ℕ) (d : Send) → p < length sends → take (suc p) (offers_of sends) ≡ take p (offers_of sends) ++ offer_of (get_or sends p d) ∷ []
front_next [] p d h = absurd (omega arith)
front_next (x ∷ xs) zero d h = refl
front_next (x ∷ xs) (suc p) d h = ap (λ l. offer_of x ∷ l) (front_next xs p d (omega arith))

pub take_more-offers_of : (sends : List Send) (p : ℕ) (d : Send) → p < length sends → take (p + 1) (offers_of sends) ≡ take p (offers_of sends) ++ offer_of (get_or sends p d) ∷ []
take_more-offers_of sends p d h = ap (λ n. take n (offers_of sends)) (add-one p) ∙ front_next sends p d h

tick_at-offers_of : (sends : List Send) (p : ℕ) (d : Send) → p < length sends → tick_at (offers_of sends) p ≡ (get_or sends p d).tick.0
tick_at-offers_of [] p d h = absurd (omega arith)
tick_at-offers_of (x ∷ xs) zero d h = refl
tick_at-offers_of (x ∷ xs) (suc p) d h = tick_at-offers_of xs p d (omega arith)

tick_at-take : (xs : List Offer) (n i : ℕ) → i < n → n ≤ length xs → tick_at (take n xs) i ≡ tick_at xs i
tick_at-take xs n i h k =
    sym (tick_at-append (take n xs) (drop n xs) i (omega (arith, length_front xs n k))) ∙ ap (λ l. tick_at l i) (take-append-drop n xs)

length-offers_of : (sends : List Send) → length (offers_of sends) ≡ length sends
length-offers_of sends = length-map sends offer_of

-- the offer of the send at place p is the next of the front
pub offers_next : (sends : List Send) (p : ℕ) (d : Send) (octets : ℕ) → p < length sends → octets ≡ wire_octets (get_or sends p d).size → take p (offers_of sends) ++ record { tick = (get_or sends p d).tick.0; octets = octets } ∷ [] ≡ take (p + 1) (offers_of sends)
offers_next sends p d octets h e =
    ap (λ n. take p (offers_of sends) ++ record { tick = (get_or sends p d).tick.0; octets = n } ∷ []) e ∙ sym (take_more-offers_of sends p d h)

pub next_in_order : (sends : List Send) (p : ℕ) (d : Send) (latest : ℕ) → InOrder (offers_of sends) → p < length sends → latest ≡ last_tick (take p (offers_of sends)) → latest ≤ (get_or sends p d).tick.0
next_in_order sends zero d latest order h e = omega (arith, e)
next_in_order sends (suc q) d latest order h e =
    let all : suc q < length (offers_of sends) = omega (arith, length-offers_of sends) in
    let place : length (take (suc q) (offers_of sends)) - 1 ≡ q = omega (arith, length_front (offers_of sends) (suc q) (omega arith)) in
    let last : last_tick (take (suc q) (offers_of sends)) ≡ tick_at (offers_of sends) q = ap (λ n. tick_at (take (suc q) (offers_of sends)) n) place ∙ tick_at-take (offers_of sends) (suc q) q (omega arith) (omega arith) in
    let here = tick_at-offers_of sends (suc q) d h in
    let known = order q (suc q) (omega arith) all in
    omega (arith, e, last, here, known)

pub BreaksAt-offers_of : (sends : List Send) (curve kept : Curve) (p : ℕ) (d : Send) (octets : ℕ) → p < length sends → kept ≡ curve → octets ≡ wire_octets (get_or sends p d).size → BreaksAt (take p (offers_of sends) ++ record { tick = (get_or sends p d).tick.0; octets = octets } ∷ []) kept (length (take p (offers_of sends))) → BreaksAt (offers_of sends) curve p
BreaksAt-offers_of sends curve kept p d octets h same e breaks =
    let count : length (take p (offers_of sends)) ≡ p = length_front (offers_of sends) p (omega (arith, length-offers_of sends)) in
    let front : BreaksAt (take p (offers_of sends) ++ record { tick = (get_or sends p d).tick.0; octets = octets } ∷ []) curve p =
    subst (λ n. BreaksAt (take p (offers_of sends) ++ record { tick = (get_or sends p d).tick.0; octets = octets } ∷ []) curve n) count
    (subst (λ k. BreaksAt (take p (offers_of sends) ++ record { tick = (get_or sends p d).tick.0; octets = octets } ∷ []) k (length (take p (offers_of sends)))) same breaks)
    in
    BreaksAt-take (offers_of sends) curve p (p + 1) (omega arith) (omega (arith, length-offers_of sends))
    (subst (λ l. BreaksAt l curve p) (offers_next sends p d octets h e) front)

pub ObeysAt-offers_of : (sends : List Send) (curve kept : Curve) (p j : ℕ) → p ≤ length sends → kept ≡ curve → Obeys (take p (offers_of sends)) kept → j < p → ObeysAt (offers_of sends) curve j
ObeysAt-offers_of sends curve kept p j h same obeys below =
    ObeysAt-take (offers_of sends) curve j p below (omega (arith, length-offers_of sends)) (subst (λ k. Obeys (take p (offers_of sends)) k) same obeys)

-- The least line with which the sends of a script break a curve.
use Rattle.std.proofs.Common.{◌≡◌, inl, inr, ℕ, ◌+◌, ◌<◌, ◌≤◌, Bool, true, false, List, [], ◌∷◌, length, Option, Some}
use Rattle.std.proofs.Common.{None, refl, sym, ◌∙◌, ap, subst, arith, nat_lt, if◌then◌else◌, zero, suc, Result, Ok, Err}
use Rattle.std.proofs.lemmas.List.{length-map}
use Rattle.std.specs.Prelude.{IfOk}
use Rattle.std.specs.Prelude.{slice_get, AllPairs}
use Rattle.std.proofs.lemmas.Bool.{cases_lt, ltb-true, ltb-false}
use Rattle.std.proofs.lemmas.List.Kept.{AllPairs-filter}
use Rattle.pre_curve.specs.declared.curves.Curve.{Curve}
use Rattle.pre_curve.specs.Windows.{offer_of, offers_of, InOrder, WindowObeys, WindowBreaks}
use Rattle.pre_streams.specs.declared.rows.Row.{Row}
use Rattle.pre_script.specs.declared.scripts.SendLine.{SendLine}
use Rattle.pre_script.specs.Fits.{SendsInOrder}
use Rattle.pre_laws.proofs.Fitting.{read_one}
use Rattle.pre_delay.proofs.Bursts.{offers_in_order}
use Rattle.pre_cli.specs.Curves.{lines_of, sends_in, LinesObey, BreakAt, FirstBreak, LinesRise, RowObeys, RowBreaks, CurvesHold, IsUnruly, LinesFind, earlier, RowFinds, RowsFind, Finds}
use Rattle.pre_cli.proofs.Texts.{some_same}

-- the sends of a row are in order as those of the script
pub lines_in_order : (sends : List SendLine) (i : ℕ) → AllPairs SendsInOrder sends → InOrder (offers_of (sends_in (lines_of sends i)))
lines_in_order sends i order = offers_in_order (lines_of sends i) (AllPairs-filter SendsInOrder _ sends order)

pub at_lt : {X : Type 0} (xs : List X) (i : ℕ) (x : X) → slice_get xs i ≡ Some x → i < length xs
at_lt [] i x e = absurd (cc)
at_lt (y ∷ ys) zero x e = omega arith
at_lt (y ∷ ys) (suc i) x e = let rest = at_lt ys i x e in omega (arith, rest)

-- a window obeys, or it breaks the curve
not_both : (lines : List SendLine) (c : Curve) (i j : ℕ) → WindowObeys (offers_of (sends_in lines)) c i j → WindowBreaks (offers_of (sends_in lines)) c i j → ⊥
not_both lines c i j obeys breaks = omega (arith, obeys, breaks)

-- sends that obey a curve break it nowhere
pub obey_breaks : (lines : List SendLine) (c : Curve) (line : ℕ) → LinesObey lines c → BreakAt lines c line → ⊥
obey_breaks lines c line obey b =
    let lt = at_lt lines b.place b.send b.there in
    let long : length (offers_of (sends_in lines)) ≡ length lines = length-map (sends_in lines) offer_of ∙ length-map lines (λ (s : SendLine). s.send) in
    not_both lines c b.breaks.0 b.place (obey b.breaks.0 b.place b.breaks.1 (omega (arith, lt, long))) b.breaks.2

plain : (lines : List SendLine) (c : Curve) (line : ℕ) → FirstBreak lines c line → BreakAt lines c line
plain lines c line a = record { place = a.place; send = a.send; there = a.there; is_line = a.is_line; breaks = a.breaks }

-- the first one is of the least line
first_least : (lines : List SendLine) (c : Curve) (line other : ℕ) → LinesRise lines → FirstBreak lines c line → BreakAt lines c other → line ≤ other
first_least lines c line other rise a b =
    let from = a.is_line in
    let to = b.is_line in
    elim (cases_lt b.place a.place) [
      | inl lt ↦ absurd (not_both lines c b.breaks.0 b.place (a.first b.place lt b.breaks.0 b.breaks.1) b.breaks.2)
      | inr le ↦
          elim (cases_lt a.place b.place) [
            | inl lt ↦
                let up = rise a.place b.place a.send lt (at_lt lines b.place b.send b.there) in
                let x = ap (λ (s : SendLine). s.line) (read_one lines a.place a.send a.send a.there) in
                let y = ap (λ (s : SendLine). s.line) (read_one lines b.place b.send a.send b.there) in
                omega (arith, up, x, y, from, to)
            | inr ge ↦
                let same : a.place ≡ b.place = omega (arith, le, ge) in
                let send : a.send ≡ b.send = some_same a.send b.send (sym a.there ∙ ap (slice_get lines) same ∙ b.there) in
                let line = ap (λ (s : SendLine). s.line) send in
                omega (arith, line, from, to)
          ]
    ]

-- ---- rows

module _ (rows : List Row) (sends : List SendLine) where
  pub row_both : (i line : ℕ) → RowObeys rows sends i → RowBreaks rows sends i line → ⊥
  row_both i line obeys (r, c, at, is, b) = obey_breaks (lines_of sends i) c line (obeys r c at is) b

  -- one row more
  pub rows_more : (count : ℕ) (least found : Option ℕ) → RowsFind rows sends count least → RowFinds rows sends count found → RowsFind rows sends (count + 1) (earlier least found)
  rows_more count None None before here = λ i lt.
      elim (cases_lt i count) [
        | inl less ↦ before i less
        | inr more ↦ let same : count ≡ i = omega (arith, lt, more) in subst (RowObeys rows sends) same here
      ]
  rows_more count None (Some line) before here = (
    (count, omega arith, here.0),
    λ i other lt b.
        elim (cases_lt i count) [
          | inl less ↦ absurd (row_both i other (before i less) b)
          | inr more ↦
              let same : i ≡ count = omega (arith, lt, more) in
              here.1 other (subst (λ n. RowBreaks rows sends n other) same b)
        ],
  )
  rows_more count (Some first) None before here = (
    (before.0.0, (let lt = before.0.1 in omega (arith, lt)), before.0.2),
    λ i other lt b.
        elim (cases_lt i count) [
          | inl less ↦ before.1 i other less b
          | inr more ↦ let same : i ≡ count = omega (arith, lt, more) in absurd (row_both count other here (subst (λ n. RowBreaks rows sends n other) same b))
        ],
  )
  rows_more count (Some first) (Some second) before here = by (nat_lt second first) refl
    where
      Wanted : Bool → Type 0
      Wanted b = RowsFind rows sends (count + 1) (Some (if b then second else first))

      above : (i other : ℕ) → i < count + 1 → RowBreaks rows sends i other → (n : ℕ) → n ≤ first → n ≤ second → n ≤ other
      above i other lt b n low high =
          elim (cases_lt i count) [
            | inl less ↦ let old = before.1 i other less b in omega (arith, old, low)
            | inr more ↦
                let same : i ≡ count = omega (arith, lt, more) in
                let one = here.1 other (subst (λ n. RowBreaks rows sends n other) same b) in
                omega (arith, one, high)
          ]

      by : (b : Bool) → nat_lt second first ≡ b → RowsFind rows sends (count + 1) (Some (if nat_lt second first then second else first))
      by true e = subst Wanted (sym e) ((count, omega arith, here.0), λ i other lt b. above i other lt b second (let less = ltb-true second first e in omega (arith, less)) (omega arith))
      by false e =
          subst Wanted (sym e)
          ((before.0.0, (let lt = before.0.1 in omega (arith, lt)), before.0.2), λ i other lt b. above i other lt b first (omega arith) (ltb-false second first e))

  -- all of them
  pub rows_all : (count : ℕ) (least : Option ℕ) → length rows ≤ count → RowsFind rows sends count least → Finds rows sends least
  rows_all count None all before = λ i r c at is. before i (let lt = at_lt rows i r at in omega (arith, lt, all)) r c at is
  rows_all count (Some line) all before = record {
    stream = before.0.0;
    breaks = before.0.2;
    least = λ i other b. before.1 i other (let lt = at_lt rows i b.0 b.2 in omega (arith, lt, all)) b;
  }

-- ---- the test of one row

row_finds : (sends : List SendLine) (number : ℕ) (row : Row) (c : Curve) (found : Option ℕ) → LinesRise sends → row.curve ≡ Some c → LinesFind (lines_of sends number) c found
    → (rows : List Row) → slice_get rows number ≡ Some row
    → RowFinds rows sends number found
row_finds sends number row c None rise is obey rows at = λ r d there was.
    let same : row ≡ r = some_same row r (sym at ∙ there) in
    let curve : c ≡ d = some_same c d (sym is ∙ ap (λ (x : Row). x.curve) same ∙ was) in
    subst (LinesObey (lines_of sends number)) curve obey
row_finds sends number row c (Some line) rise is first rows at = ((row, c, at, is, plain (lines_of sends number) c line first), least)
  where
    least : (other : ℕ) → RowBreaks rows sends number other → line ≤ other
    least other (r, d, there, was, b) =
        let same : r ≡ row = some_same r row (sym there ∙ at) in
        let curve : d ≡ c = some_same d c (sym was ∙ ap (λ (x : Row). x.curve) same ∙ is) in
        first_least (lines_of sends number) c line other (AllPairs-filter (λ x y. x.line < y.line) _ sends rise) first (subst (λ (x : Curve). BreakAt (lines_of sends number) x other) curve b)

pub row_found : {E : Type 0} (sends lines : List SendLine) (number : ℕ) (row : Row) (c : Curve) (r : Result (Option ℕ) E) → LinesRise sends → lines ≡ lines_of sends number → row.curve ≡ Some c
    → IfOk r (LinesFind lines c)
    → IfOk r (λ found. (rows : List Row) → slice_get rows number ≡ Some row → RowFinds rows sends number found)
row_found sends lines number row c (Ok found) rise same is finds = row_finds sends number row c found rise is (subst (λ (l : List SendLine). LinesFind l c found) same finds)
row_found sends lines number row c (Err e) rise same is finds = tt

-- ---- one answer

pub holds_unruly : (rows : List Row) (sends : List SendLine) (line : ℕ) → CurvesHold rows sends → IsUnruly rows sends line → ⊥
holds_unruly rows sends line holds u = row_both rows sends u.stream line (holds u.stream) u.breaks

pub one_unruly : (rows : List Row) (sends : List SendLine) (line other : ℕ) → IsUnruly rows sends line → IsUnruly rows sends other → line ≡ other
one_unruly rows sends line other a b = let low = a.least b.stream other b.breaks in let high = b.least a.stream line a.breaks in omega (arith, low, high)

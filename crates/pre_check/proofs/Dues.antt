-- The list of due lines, one line or one route further.
use Rattle.std.proofs.Common.{◌≡◌, ℕ, ◌+◌, ◌<◌, true, false, List, [], ◌∷◌, ◌++◌, sym, ◌∙◌, ap, length, get_or, take, map}
use Rattle.std.specs.List.{flat_map, range_with_len}
use Rattle.std.proofs.lemmas.List.{append_assoc, append-nil, map-append}
use Rattle.std.proofs.lemmas.List.Concat.{flat_map-append}
use Rattle.pre_streams.specs.declared.rows.Row.{Row}
use Rattle.pre_bound.specs.Uses.{is_stream}
use Rattle.pre_bound.specs.Places.{streams_of}
use Rattle.pre_check.specs.declared.due.Due.{Due}
use Rattle.pre_check.specs.declared.due.Due.TheVariants as due
use Rattle.pre_check.specs.Due.{due_hop, due_hops, due_bounds}
use Rattle.pre_check.proofs.Listing.{numbered_yes, numbered_no, range_more}

-- some more behind a base
pub further : {X : Type 0} (base old new more was now : List X) → was ≡ base ++ old → now ≡ was ++ more → new ≡ old ++ more → now ≡ base ++ new
further base old new more was now before step is = step ∙ ap (λ l. l ++ more) before ∙ append_assoc base old more ∙ ap (λ l. base ++ l) (sym is)

pub hops_more : (stream n : ℕ) → map due_hop (map (λ (hop : ℕ). (stream, hop)) (range_with_len 0 (n + 1))) ≡ map due_hop (map (λ (hop : ℕ). (stream, hop)) (range_with_len 0 n)) ++ due_hop (stream, n) ∷ []
hops_more stream n =
    let at : ℕ → ℕ × ℕ = λ hop. (stream, hop) in
    ap (λ l. map due_hop (map at l)) (range_more n) ∙ ap (map due_hop) (map-append at (range_with_len 0 n) (n ∷ [])) ∙ map-append due_hop (map at (range_with_len 0 n)) (at n ∷ [])

pub bounds_more : (rows : List Row) (k : ℕ) (r : Row) → k < length rows → r ≡ get_or rows k r → is_stream r ≡ true → due_bounds (take (k + 1) rows) ≡ due_bounds (take k rows) ++ due.Bound (record { 0 = k }) ∷ []
bounds_more rows k r inside is express =
    let f : ℕ × Row → Due = λ e. due.Bound (record { 0 = e.0 }) in
    ap (map f) (numbered_yes is_stream rows k r inside is express) ∙ map-append f (streams_of (take k rows)) ((k, r) ∷ [])

pub bounds_same : (rows : List Row) (k : ℕ) (r : Row) → k < length rows → r ≡ get_or rows k r → is_stream r ≡ false → due_bounds (take (k + 1) rows) ≡ due_bounds (take k rows)
bounds_same rows k r inside is flow = ap (map (λ (e : ℕ × Row). due.Bound (record { 0 = e.0 }))) (numbered_no is_stream rows k r inside is flow)

pub routes_more : (rows : List Row) (k : ℕ) (r : Row) → k < length rows → r ≡ get_or rows k r → is_stream r ≡ true
    → due_hops (take (k + 1) rows) ≡ due_hops (take k rows) ++ map due_hop (map (λ (hop : ℕ). (k, hop)) (range_with_len 0 (length r.arcs)))
routes_more rows k r inside is express =
    let at : ℕ × Row → List (ℕ × ℕ) = λ e. map (λ hop. (e.0, hop)) (range_with_len 0 (length e.1.arcs)) in
    let old = streams_of (take k rows) in
    ap (λ l. map due_hop (flat_map at l)) (numbered_yes is_stream rows k r inside is express)
    ∙ ap (map due_hop) (flat_map-append at old ((k, r) ∷ []))
    ∙ ap (λ l. map due_hop (flat_map at old ++ l)) (append-nil (at (k, r)))
    ∙ map-append due_hop (flat_map at old) (at (k, r))

pub routes_same : (rows : List Row) (k : ℕ) (r : Row) → k < length rows → r ≡ get_or rows k r → is_stream r ≡ false → due_hops (take (k + 1) rows) ≡ due_hops (take k rows)
routes_same rows k r inside is flow =
    let at : ℕ × Row → List (ℕ × ℕ) = λ e. map (λ hop. (e.0, hop)) (range_with_len 0 (length e.1.arcs)) in
    ap (λ l. map due_hop (flat_map at l)) (numbered_no is_stream rows k r inside is flow)

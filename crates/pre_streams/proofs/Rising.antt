-- Rows and arcs that are made one after another.
use Rattle.std.proofs.Common.{◌≡◌, ℕ, suc, ◌+◌, ◌<◌, true, List, [], ◌∷◌, ◌++◌, length, map, take, get_or, slice_get, refl, sym, ◌∙◌, ap, arith, add-zero}
use Rattle.std.specs.List.{enumerate_from}
use Rattle.std.proofs.lemmas.List.{map_push, take_more, length-take}
use Rattle.pre_base.specs.declared.numbers.NodeId.{NodeId}
use Rattle.pre_topo.specs.declared.network.Network.{Network}
use Rattle.pre_streams.specs.declared.arc_rules.ArcRule.{ArcRule}
use Rattle.pre_streams.specs.declared.raw.RawCurve.{RawCurve}
use Rattle.pre_streams.specs.declared.raw.RawFlow.{RawFlow}
use Rattle.pre_streams.specs.declared.rows.Row.{Row}
use Rattle.pre_streams.specs.NamedRoutes.{arcs_along}
use Rattle.pre_streams.specs.FileRules.{holds_along}
use Rattle.pre_streams.specs.Made.{row_made, row_parts, RowParts}

pub short_route : (net : Network) (route : List NodeId) → length route < 2 → arcs_along net route ≡ []
short_route net [] short = refl
short_route net (n ∷ []) short = refl
short_route net (m ∷ n ∷ rest) short = absurd (omega arith)

pub short_names : (net : Network) (rule : ArcRule) (route : List (List ℕ)) → length route < 2 → holds_along net rule route ≡ true
short_names net rule [] short = refl
short_names net rule (n ∷ []) short = refl
short_names net rule (m ∷ n ∷ rest) short = absurd (omega arith)

enumerate_push : {X : Type 0} (n : ℕ) (xs : List X) (x : X) → enumerate_from n (xs ++ x ∷ []) ≡ enumerate_from n xs ++ (n + length xs, x) ∷ []
enumerate_push n [] x = ap (λ m. (m, x) ∷ []) (sym (add-zero n))
enumerate_push n (y ∷ xs) x =
    let rest = enumerate_push (n + 1) xs x in
    let place : n + 1 + length xs ≡ n + suc (length xs) = omega arith in
    ap (λ l. (n, y) ∷ l) (rest ∙ ap (λ m. enumerate_from (n + 1) xs ++ (m, x) ∷ []) place)

pub row_more : (net : Network) (curves : List RawCurve) (rows : List RawFlow) (place : ℕ) (x : RawFlow) (made : List Row) (r : Row) → place < length rows → x ≡ get_or rows place x
    → map row_parts made ≡ map (λ r. row_made net (slice_get curves r.0) r.1) (enumerate_from 0 (take place rows))
    → row_parts r ≡ row_made net (slice_get curves place) x
    → map row_parts (made ++ r ∷ []) ≡ map (λ r. row_made net (slice_get curves r.0) r.1) (enumerate_from 0 (take (place + 1) rows))
row_more net curves rows place x made r within is so_far one =
    let made_row : (ℕ × RawFlow) → RowParts = λ e. row_made net (slice_get curves e.0) e.1 in
    let count : 0 + length (take place rows) ≡ place = omega (arith, length-take place rows) in
    map_push row_parts made r
    ∙ ap (λ l. l ++ row_parts r ∷ []) so_far
    ∙ ap (λ (p : RowParts). map made_row (enumerate_from 0 (take place rows)) ++ p ∷ []) (one ∙ ap (λ (q : RawFlow). row_made net (slice_get curves place) q) is ∙ ap (λ n. row_made net (slice_get curves n) (get_or rows place x)) (sym count))
    ∙ sym (map_push made_row (enumerate_from 0 (take place rows)) (0 + length (take place rows), get_or rows place x))
    ∙ ap (λ (l : List (ℕ × RawFlow)). map made_row l) (sym (enumerate_push 0 (take place rows) (get_or rows place x)))
    ∙ ap (λ (l : List RawFlow). map made_row (enumerate_from 0 l)) (sym (take_more rows place x within))

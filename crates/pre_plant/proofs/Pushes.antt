-- One more row, and one more line.
use Rattle.std.proofs.Common.{◌≡◌, ℕ, zero, suc, ◌+◌, ◌<◌, ◌≤◌, List, [], ◌∷◌, ◌++◌, length, map, take, get_or, sym, ◌∙◌, ap, arith, length-append}
use Rattle.std.specs.List.{range_with_len}
use Rattle.std.proofs.lemmas.List.{map_push, take_more, length-map}
use Rattle.pre_base.specs.declared.numbers.Send.{Send}
use Rattle.pre_streams.specs.declared.rows.Row.{Row}
use Rattle.pre_streams.specs.Made.{RowParts, row_parts}
use Rattle.pre_script.specs.declared.scripts.SendLine.{SendLine}
use Rattle.pre_plant.specs.Lists.{list_of}
use Rattle.pre_plant.proofs.ListLaws.{list_behind_more, length-list_of}

pub row_more : (before rows new : List Row) (r : Row) (f : ℕ → RowParts) (n : ℕ) → map row_parts rows ≡ map row_parts before ++ list_of n f → new ≡ rows ++ r ∷ [] → row_parts r ≡ f n
    → map row_parts new ≡ map row_parts before ++ list_of (n + 1) f
row_more before rows new r f n so_far pushed parts =
    ap (map row_parts) pushed
    ∙ map_push row_parts rows r
    ∙ ap (λ (ps : List RowParts). ps ++ row_parts r ∷ []) so_far
    ∙ ap (λ (p : RowParts). (map row_parts before ++ list_of n f) ++ p ∷ []) parts
    ∙ sym (list_behind_more f (map row_parts before) n)

pub few_rows : (f g : ℕ → RowParts) (none some rows : List Row) → none ≡ [] → map row_parts some ≡ map row_parts none ++ list_of 60 f
    → map row_parts rows ≡ map row_parts some ++ list_of 30 g → length rows ≤ 512
few_rows f g none some rows empty first second =
    let one = ap (λ (ps : List RowParts). length ps) first in
    let two = ap (λ (ps : List RowParts). length ps) second in
    let no_row : length none ≡ 0 = ap (λ (rs : List Row). length rs) empty in
    omega (
      arith,
      one,
      two,
      no_row,
      length-map none row_parts,
      length-map some row_parts,
      length-map rows row_parts,
      length-append (map row_parts none) (list_of 60 f),
      length-append
          (map row_parts some) (list_of 30 g),
      length-list_of f 60,
      length-list_of g 30,
    )

range_push : (a n : ℕ) → range_with_len a (suc n) ≡ range_with_len a n ++ (a + n) ∷ []
range_push a zero = let same : a ≡ a + 0 = omega arith in ap (λ k. k ∷ []) same
range_push a (suc n) = let same : a + 1 + n ≡ a + suc n = omega arith in ap (λ l. a ∷ l) (range_push (a + 1) n ∙ ap (λ k. range_with_len (a + 1) n ++ k ∷ []) same)

pub sent_more : (lines new : List SendLine) (sends : List Send) (n line : ℕ) (d : Send) → map (λ s. s.send) lines ≡ take n sends → n < length sends
    → new ≡ lines ++ record { send = get_or sends n d; line = line } ∷ [] → map (λ s. s.send) new ≡ take (n + 1) sends
sent_more lines new sends n line d so_far within pushed =
    ap (map (λ (s : SendLine). s.send)) pushed
    ∙ map_push (λ (s : SendLine). s.send) lines (record { send = get_or sends n d; line = line })
    ∙ ap (λ (l : List Send). l ++ get_or sends n d ∷ []) so_far
    ∙ sym (take_more sends n d within)

pub lined_more : (lines new : List SendLine) (n line : ℕ) (s : Send) → map (λ s. s.line) lines ≡ range_with_len 1 n → line ≡ n + 1
    → new ≡ lines ++ record { send = s; line = line } ∷ [] → map (λ s. s.line) new ≡ range_with_len 1 (n + 1)
lined_more lines new n line s so_far next pushed =
    let on : suc n ≡ n + 1 = omega arith in
    let at : line ≡ 1 + n = omega (arith, next) in
    ap (map (λ (s : SendLine). s.line)) pushed
    ∙ map_push (λ (s : SendLine). s.line) lines (record { send = s; line = line })
    ∙ ap (λ (l : List ℕ). l ++ line ∷ []) so_far
    ∙ ap (λ k. range_with_len 1 n ++ k ∷ []) at
    ∙ sym (range_push 1 n)
    ∙ ap (range_with_len 1) on

-- Rows admitted one after the other, and one more.
use Rattle.std.proofs.Common.{◌≡◌, ℕ, zero, suc, ◌+◌, ◌≤◌, false, arith, length, get_or, take, drop, List, [], ◌∷◌}
use Rattle.std.proofs.Common.{◌++◌, Option, Some, None, Result, Ok, Err, is_none, IsSome, IfOk, inl, inr, refl, sym, ◌∙◌, ap, subst}
use Rattle.std.specs.Prelude.{All}
use Rattle.std.specs.List.{insert}
use Rattle.std.proofs.lemmas.Bool.{cases_lt}
use Rattle.std.proofs.lemmas.List.Edits.{length-insert, get_or-insert_below, get_or-insert_at, get_or-insert_above}
use Rattle.std.proofs.lemmas.List.Sums.{position_or_len_is, fails_before_first, passes_at_first}
use Rattle.std.proofs.lemmas.List.Elements.{All-head, All-tail}
use Rattle.pre_curve.specs.declared.curves.Curve.{Curve}
use Rattle.pre_topo.specs.declared.network.Network.{Network}
use Rattle.pre_streams.specs.declared.rows.Row.{Row}
use Rattle.pre_admit.specs.declared.admissions.Outcome.{Outcome}
use Rattle.pre_streams.specs.Joined.{first_flow, with_stream}
use Rattle.pre_admit.proofs.Lists.{first_within}
use Rattle.pre_admit.specs.declared.admissions.Outcome.TheVariants.{Admitted, Refused}
use Rattle.pre_admit.specs.Admissions.{Admits, AdmitsOne, admitted, with_streams}

pub one_more : (net : Network) (held rows : List Row) (outcomes : List Outcome) (between after : List Row) (row : Row) (o : Outcome)
    → Admits net held rows outcomes between → AdmitsOne net between row o after → Admits net held (rows ++ row ∷ []) (outcomes ++ o ∷ []) after
one_more net held [] [] between after row o until one = (after, subst (λ l. AdmitsOne net l row o after) until one, refl)
one_more net held [] (p ∷ outcomes) between after row o until one = absurd until
one_more net held (r ∷ rows) [] between after row o until one = absurd until
one_more net held (r ∷ rows) (p ∷ outcomes) between after row o until one = (until.0, until.1, one_more net until.0 rows outcomes between after row o until.2 one)

-- items that come behind a new one
behind_new : {X : Type 0} (xs : List X) (n : ℕ) (y : X) (more : List X) → n ≤ length xs → take (suc n) (insert xs n y) ++ (more ++ drop (suc n) (insert xs n y)) ≡ take n xs ++ ((y ∷ more) ++ drop n xs)
behind_new xs zero y more within = refl
behind_new [] (suc n) y more within = absurd (omega arith)
behind_new (x ∷ xs) (suc n) y more within = ap (λ l. x ∷ l) (behind_new xs n y more (omega arith))

whole : {X : Type 0} (xs : List X) (n : ℕ) → take n xs ++ drop n xs ≡ xs
whole xs zero = refl
whole [] (suc n) = refl
whole (x ∷ xs) (suc n) = ap (λ l. x ∷ l) (whole xs n)

-- the first flow moves on by one
pub flow_moves : (held : List Row) (row : Row) → is_none row.curve ≡ false → first_flow (with_stream held row) ≡ suc (first_flow held)
flow_moves held row stream =
    let n = first_flow held in
    let within = first_within (λ (r : Row). is_none r.curve) held in
    let long = length-insert held (first_flow held) row within in
    position_or_len_is (λ (r : Row). is_none r.curve) (with_stream held row) (suc (first_flow held)) row (omega (arith, within, long))
    (λ k less.
    elim (cases_lt k (first_flow held)) [
      | inl before ↦ ap (λ (r : Row). is_none r.curve) (get_or-insert_below held (first_flow held) row row k before within) ∙ fails_before_first (λ (r : Row). is_none r.curve) held k row before
      | inr past ↦
          let here : k ≡ first_flow held = omega (arith, past, less) in
          ap (λ m. is_none (get_or (with_stream held row) m row).curve) here ∙ ap (λ (r : Row). is_none r.curve) (get_or-insert_at held (first_flow held) row row within) ∙ stream
    ])
    (λ inside.
    let next : suc (first_flow held) ≡ first_flow held + 1 = omega arith in
    ap (λ m. is_none (get_or (with_stream held row) m row).curve) next ∙ ap (λ (r : Row). is_none r.curve) (get_or-insert_above held (first_flow held) row row (first_flow held) (omega arith) within)
    ∙ passes_at_first (λ (r : Row). is_none r.curve) held row (omega (arith, inside, long)))

-- streams that come behind a new one
put_behind : (held : List Row) (row : Row) (more : List Row) → is_none row.curve ≡ false → with_streams (with_stream held row) more ≡ with_streams held (row ∷ more)
put_behind held row more stream =
    ap (λ n. take n (with_stream held row) ++ (more ++ drop n (with_stream held row))) (flow_moves held row stream)
    ∙ behind_new held (first_flow held) row more (first_within (λ (r : Row). is_none r.curve) held)

put_nothing : (held : List Row) → with_streams held [] ≡ held
put_nothing held = whole held (first_flow held)

pub no_flow : (o : Option Curve) → IsSome o → is_none o ≡ false
no_flow (Some c) some = refl
no_flow None some = absurd (cc)

-- the rows that are held in the end
held_after : (net : Network) (held rows : List Row) (outcomes : List Outcome) (after : List Row) → All (λ r. IsSome r.curve) rows → Admits net held rows outcomes after → after ≡ with_streams held (admitted rows outcomes)
held_after net held [] [] after streams done = done ∙ sym (put_nothing held)
held_after net held [] (o ∷ outcomes) after streams done = absurd done
held_after net held (row ∷ rows) [] after streams done = absurd done
held_after net held (row ∷ rows) (Admitted id ∷ outcomes) after streams done =
    held_after net done.0 rows outcomes after (All-tail (λ (r : Row). IsSome r.curve) row rows streams) done.2
    ∙ ap (λ l. with_streams l (admitted rows outcomes)) done.1.1
    ∙ put_behind held row (admitted rows outcomes) (no_flow row.curve (All-head (λ (r : Row). IsSome r.curve) row rows streams))
held_after net held (row ∷ rows) (Refused e ∷ outcomes) after streams done =
    held_after net done.0 rows outcomes after (All-tail (λ (r : Row). IsSome r.curve) row rows streams) done.2
    ∙ ap (λ l. with_streams l (admitted rows outcomes)) done.1.1

pub held_in_the_end : {E : Type 0} (result : Result (List Outcome) E) (net : Network) (held rows after : List Row) → All (λ r. IsSome r.curve) rows
    → IfOk result (λ outcomes. Admits net held rows outcomes after) → IfOk result (λ outcomes. after ≡ with_streams held (admitted rows outcomes))
held_in_the_end (Ok outcomes) net held rows after streams done = held_after net held rows outcomes after streams done
held_in_the_end (Err e) net held rows after streams done = tt

-- The lines of rows that were admitted, by the rows that are held in the end.
use Rattle.std.proofs.Common.{◌≡◌, ℕ, ◌<◌, List, [], ◌∷◌, ◌++◌, Some, slice_get, is_none, IsSome, refl, sym, ◌∙◌, ap, subst, arith}
use Rattle.std.specs.Prelude.{All}
use Rattle.std.proofs.lemmas.List.Elements.{All-head, All-tail}
use Rattle.std.specs.Option.{option_map_or}
use Rattle.pre_topo.specs.declared.network.Network.{Network}
use Rattle.pre_streams.specs.declared.rows.Row.{Row}
use Rattle.pre_streams.specs.Joined.{first_flow, with_stream}
use Rattle.pre_admit.specs.declared.admissions.Outcome.{Outcome}
use Rattle.pre_admit.specs.declared.admissions.Outcome.TheVariants.{Admitted, Refused}
use Rattle.pre_admit.specs.Admissions.{Admits, AdmitsOne}
use Rattle.pre_admit.proofs.Lists.{at_before, at_inserted, first_within}
use Rattle.pre_admit.proofs.Admitting.{flow_moves, no_flow}
use Rattle.pre_cli.specs.Outcomes.{outcome_line, outcome_lines, name_held, held_lines}

abbrev AreStreams : List Row → Type 0
AreStreams rows = All (λ r. IsSome r.curve) rows

-- a stream stays at its place while others come behind it
module _ (net : Network) (k : ℕ) (r : Row) where
  stays : (held rows : List Row) (outcomes : List Outcome) (after : List Row) → AreStreams rows → Admits net held rows outcomes after → k < first_flow held → slice_get held k ≡ Some r → slice_get after k ≡ Some r
  stays held [] [] after streams done before at = ap (λ l. slice_get l k) done ∙ at
  stays held [] (o ∷ outcomes) after streams done before at = absurd done
  stays held (row ∷ rows) [] after streams done before at = absurd done
  stays held (row ∷ rows) (Admitted id ∷ outcomes) after streams done before at =
      let within = first_within (λ (x : Row). is_none x.curve) held in
      let is : done.0 ≡ with_stream held row = done.1.1 in
      let moves = flow_moves held row (no_flow row.curve (All-head (λ (x : Row). IsSome x.curve) row rows streams)) in
      let here : slice_get (with_stream held row) k ≡ Some r = at_before held (first_flow held) k row before within ∙ at in
      let further : k < first_flow (with_stream held row) = omega (arith, moves, before) in
      stays done.0 rows outcomes after (All-tail (λ (x : Row). IsSome x.curve) row rows streams) done.2 (subst (λ l. k < first_flow l) (sym is) further) (ap (λ l. slice_get l k) is ∙ here)
  stays held (row ∷ rows) (Refused e ∷ outcomes) after streams done before at =
      let is : done.0 ≡ held = done.1.1 in
      stays done.0 rows outcomes after (All-tail (λ (x : Row). IsSome x.curve) row rows streams) done.2 (subst (λ l. k < first_flow l) (sym is) before) (ap (λ l. slice_get l k) is ∙ at)

-- so the name of each is that of its row
named : (net : Network) (held rows : List Row) (outcomes : List Outcome) (after between : List Row) (row : Row) (o : Outcome) → IsSome row.curve → AreStreams rows
    → AdmitsOne net held row o between → Admits net between rows outcomes after → name_held after o ≡ row.name
named net held rows outcomes after between row (Admitted id) stream streams one done =
    let within = first_within (λ (x : Row). is_none x.curve) held in
    let moves = flow_moves held row (no_flow row.curve stream) in
    let at : slice_get (with_stream held row) id.0 ≡ Some row = ap (slice_get (with_stream held row)) one.0 ∙ at_inserted held (first_flow held) row within in
    let before : id.0 < first_flow (with_stream held row) = omega (arith, one.0, moves) in
    let there : slice_get after id.0 ≡ Some row =
    stays net id.0 row between rows outcomes after streams done (subst (λ l. id.0 < first_flow l) (sym one.1) before) (ap (λ l. slice_get l id.0) one.1 ∙ at) in
    ap (λ place. option_map_or (λ (x : Row). x.name) place []) there
named net held rows outcomes after between row (Refused e) stream streams one done = ap (λ (x : Row). x.name) one.0

pub lines_by_held : (net : Network) (held rows : List Row) (outcomes : List Outcome) (after : List Row) → All (λ r. IsSome r.curve) rows → Admits net held rows outcomes after
    → held_lines after outcomes ≡ outcome_lines rows outcomes
lines_by_held net held [] [] after streams done = refl
lines_by_held net held [] (o ∷ outcomes) after streams done = absurd done
lines_by_held net held (row ∷ rows) [] after streams done = absurd done
lines_by_held net held (row ∷ rows) (o ∷ outcomes) after streams done =
    let rest : AreStreams rows = All-tail (λ (x : Row). IsSome x.curve) row rows streams in
    let name = named net held rows outcomes after done.0 row o (All-head (λ (x : Row). IsSome x.curve) row rows streams) rest done.1 done.2 in
    ap (λ (n : List ℕ). outcome_line n o ++ held_lines after outcomes) name
    ∙ ap (λ (l : List ℕ). outcome_line row.name o ++ l) (lines_by_held net done.0 rows outcomes after rest done.2)

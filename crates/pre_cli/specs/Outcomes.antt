-- The lines that tell what came of rows that were to be admitted.
use Rattle.std.specs.Prelude.{ℕ, List, [], ◌∷◌, ◌++◌, codes}
use Rattle.std.specs.List.{flat_map}
use Rattle.pre_streams.specs.declared.rows.Row.{Row}
use Rattle.pre_certify.specs.Text.{stream_name}
use Rattle.pre_admit.specs.declared.reasons.Why.{Why}
use Rattle.pre_admit.specs.declared.reasons.Why.TheVariants as why
use Rattle.pre_admit.specs.declared.admissions.Outcome.{Outcome}
use Rattle.pre_admit.specs.declared.admissions.Outcome.TheVariants.{Admitted, Refused}
use Rattle.pre_cli.specs.Statuses.{behind_space, unfit_words}

-- why a row isn't admitted; want of memory is answered in the place of all lines
abbrev pub why_words : Why → List ℕ
why_words why.Name = codes " name"
why_words (why.Route hop) = codes " route" ++ behind_space hop
why_words why.Count = codes " count"
why_words (why.Unfit cause) = unfit_words cause
why_words why.Memory = codes " memory"

-- what came of the row of this name
abbrev pub outcome_words : List ℕ → Outcome → List ℕ
outcome_words name (Admitted id) = codes "# admitted " ++ name
outcome_words name (Refused e) = (codes "# refused " ++ name) ++ why_words e.why

abbrev pub outcome_line : List ℕ → Outcome → List ℕ
outcome_line name outcome = outcome_words name outcome ++ codes "\n"

-- a line for each row, in order
abbrev pub outcome_lines : List Row → List Outcome → List ℕ
outcome_lines [] outcomes = []
outcome_lines (row ∷ rows) [] = []
outcome_lines (row ∷ rows) (outcome ∷ outcomes) = outcome_line row.name outcome ++ outcome_lines rows outcomes

-- the name of the row of which that came: an admitted one stands among those held, a refused one comes back
abbrev pub name_held : List Row → Outcome → List ℕ
name_held held (Admitted id) = stream_name held id.0
name_held held (Refused e) = e.row.name

-- the same lines by the rows that are held
abbrev pub held_line : List Row → Outcome → List ℕ
held_line held outcome = outcome_line (name_held held outcome) outcome

abbrev pub held_lines : List Row → List Outcome → List ℕ
held_lines held outcomes = flat_map (held_line held) outcomes

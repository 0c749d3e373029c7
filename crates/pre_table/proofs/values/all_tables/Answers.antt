use Rattle.std.proofs.Common.{◌≡◌, map, sym, ◌∙◌, true, false}
use Rattle.std.specs.List.{list_all}
use Rattle.std.proofs.lemmas.List.Folds.{list_all-map}
use Rattle.toml.specs.View.{view}
use Rattle.pre_table.specs.Values.{is_table}
use Rattle.pre_table.proofs.values.all_tables.Goals as goal

pub returns-then-are_tables : goal.returns-then-are_tables
returns-then-are_tables c =
    let all : list_all is_table (map view c.args.values.now) ≡ true = list_all-map is_table view c.args.values.now ∙ sym c.are_tables.ensures ∙ c.if-are_tables.true in
    rw all

pub returns-else-are_tables : goal.returns-else-are_tables
returns-else-are_tables c =
    let some : list_all is_table (map view c.args.values.now) ≡ false = list_all-map is_table view c.args.values.now ∙ sym c.are_tables.ensures ∙ c.if-are_tables.false in
    rw some

use Rattle.std.proofs.Common.{List, ℕ, ap, sym, ◌∙◌, Some}
use Rattle.toml.specs.Parse.{parse_document}
use Rattle.toml.specs.View.{table_view}
use Rattle.pre_table.proofs.Texts.{document_is, no_document}
use Rattle.pre_table.proofs.documents.read_document.Goals as goal

pub returns-in_default-clause-toml : goal.returns-in_default-clause-toml
returns-in_default-clause-toml c is = no_document c.args.text.now c.in_default.ensures.cases.0

pub returns-in-Ok-table_from_str-clause-read : goal.returns-in-Ok-table_from_str-clause-read
returns-in-Ok-table_from_str-clause-read c =
    document_is c.args.text.now (Some (table_view c.in-Ok-table_from_str.table)) c.in-Ok.ensures.cases.1
    (ap (λ (t : List ℕ). parse_document t) (sym c.in-Ok.ensures.cases.0) ∙ c.in-Ok-table_from_str.ensures.ok)

use Rattle.std.proofs.Common.{◌≡◌, map, ap, Err, ◌∙◌}
use Rattle.std.proofs.lemmas.List.{take_all}
use Rattle.toml.specs.View.{view}
use Rattle.pre_table.specs.Rows.{row_of}
use Rattle.pre_table.proofs.Gathered.{all_read, read_until_seen}
use Rattle.pre_table.proofs.rows.read_rows.Goals as goal

pub returns-in-Err-Field-clause-field : goal.returns-in-Err-Field-clause-field
returns-in-Err-Field-clause-field g c i is =
    let same : c.loop-place.place ≡ i = cc in
    let none = c.in-Err-Field.ensures.field (ap (λ e. Err e) c.in-Err-Field.field-0-is) in
    read_until_seen (row_of g.R.Row.reads) view c.args.values.now c.loop-place.place c.loop-place.rows c.index-values-place.result c.loop-place-test.true c.index-values-place.is c.loop-place.invariant none
    ∙ ap (λ n. Err n) same

pub returns-clause-read : goal.returns-clause-read
returns-clause-read g c =
    all_read (row_of g.R.Row.reads) (map view c.args.values.now) c.loop-place.rows
    (rw (← take_all c.loop-place.place c.args.values.now c.loop-place-test.false) c.loop-place.invariant)

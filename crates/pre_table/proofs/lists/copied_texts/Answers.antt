use Rattle.std.proofs.Common.{◌≡◌, Err, ap}
use Rattle.std.proofs.lemmas.List.{take_all}
use Rattle.toml.specs.Data.{as_str}
use Rattle.toml.specs.View.{view}
use Rattle.pre_table.specs.declared.rows.Unread.TheVariants.{Field}
use Rattle.pre_table.proofs.Elements.{each_seen, one_unseen}
use Rattle.pre_table.proofs.lists.copied_texts.Goals as goal

pub returns-in-Err-clause-field : goal.returns-in-Err-clause-field
returns-in-Err-clause-field c is =
    let same : c.in-Err.fault ≡ Field = cc in
    one_unseen as_str view c.args.values.now c.loop-value.value-index c.value-item.result c.loop-value-test.true c.value-item.is (c.in-Err.ensures.field (ap (λ e. Err e) same))

pub returns-clause-read : goal.returns-clause-read
returns-clause-read c =
    each_seen as_str view c.args.values.now c.loop-value.names
    (rw (← take_all c.loop-value.value-index c.args.values.now c.loop-value-test.false) c.loop-value.invariant)

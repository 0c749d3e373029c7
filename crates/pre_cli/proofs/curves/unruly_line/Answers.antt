use Rattle.std.proofs.Common.{ℕ, ◌+◌, Option, sym, subst}
use Rattle.pre_history.proofs.Lists.{found_at}
use Rattle.pre_cli.specs.Curves.{RowsFind}
use Rattle.pre_cli.proofs.CurveLemmas.{rows_more, rows_all}
use Rattle.pre_cli.proofs.curves.unruly_line.Goals as goal

pub loop-number-preserved : goal.loop-number-preserved
loop-number-preserved c =
    let rows = c.args.rows.now in
    let sends = c.args.sends.now in
    let k = c.loop-number.number in
    let r = c.index-rows-number.result in
    subst (λ (o : Option ℕ). RowsFind rows sends (k + 1) o) (sym c.earlier-least.ensures)
    (rows_more rows sends k c.loop-number.least c.in_ok-found.found c.loop-number.invariant (c.in_ok-found.ensures rows (found_at rows k r c.loop-number-test.true (sym c.index-rows-number.is))))

pub returns : goal.returns
returns c = rows_all c.args.rows.now c.args.sends.now c.loop-number.number c.loop-number.least c.loop-number-test.false c.loop-number.invariant

use Rattle.std.proofs.Common.{◌≡◌, ◌∙◌, true, false, sym, subst, ap}
use Rattle.std.specs.List.{list_any, enumerate_from}
use Rattle.std.proofs.lemmas.Bool.{or_right, or_from}
use Rattle.pre_rounds.specs.Passing.{leaving_passes, numbers_pass}
use Rattle.pre_rounds.specs.Tables.{bursts_in}
use Rattle.pre_rounds.proofs.ports.port_over.Goals as goal

pub returns-then-some_leaving_passes : goal.returns-then-some_leaving_passes
returns-then-some_leaving_passes c =
    let b = bursts_in c.args.bursts.now in
    let delay = ap (λ r. r.delay) c.in_ok-row.ensures.1 in
    or_right (numbers_pass c.args.net.now c.args.rows.now b c.args.arc.0 c.args.prio) _
    (subst (λ n. list_any (leaving_passes c.args.net.now b c.args.arc.0 c.args.prio n) (enumerate_from 0 c.args.rows.now) ≡ true) delay (sym c.some_leaving_passes.ensures ∙ c.if-some_leaving_passes.true))

pub returns : goal.returns
returns c =
    let b = bursts_in c.args.bursts.now in
    let delay = ap (λ r. r.delay) c.in_ok-row.ensures.1 in (
      or_from (numbers_pass c.args.net.now c.args.rows.now b c.args.arc.0 c.args.prio) _ c.in_ok-row.ensures.0
          (subst (λ n. list_any (leaving_passes c.args.net.now b c.args.arc.0 c.args.prio n) (enumerate_from 0 c.args.rows.now) ≡ false) delay (sym c.some_leaving_passes.ensures ∙ c.if-some_leaving_passes.false)),
      c.in_ok-row.ensures.1,
    )

use Rattle.std.proofs.Common.{◌≡◌, ◌∙◌, true, false, sym, subst, ap}
use Rattle.std.specs.List.{list_any}
use Rattle.std.proofs.lemmas.Bool.{or_right, or_from}
use Rattle.pre_certify.specs.Tables.{delays_in}
use Rattle.pre_bound.specs.Passing.{stream_passes, port_passes}
use Rattle.pre_certify.proofs.ports.port_row.Goals as goal

pub returns-then-some_stream_passes : goal.returns-then-some_stream_passes
returns-then-some_stream_passes c =
    let d = delays_in c.args.delays.now in
    let delay = ap (λ r. r.delay) c.in_ok-row.ensures.1 in
    or_right (port_passes c.args.net.now c.args.rows.now d c.args.arc.0 c.args.prio) _
    (subst (λ n. list_any (stream_passes c.args.net.now d c.args.arc.0 c.args.prio n) c.args.rows.now ≡ true) delay (sym c.some_stream_passes.ensures ∙ c.if-some_stream_passes.true))

pub returns : goal.returns
returns c =
    let d = delays_in c.args.delays.now in
    let delay = ap (λ r. r.delay) c.in_ok-row.ensures.1 in (
      or_from (port_passes c.args.net.now c.args.rows.now d c.args.arc.0 c.args.prio) _ c.in_ok-row.ensures.0
          (subst (λ n. list_any (stream_passes c.args.net.now d c.args.arc.0 c.args.prio n) c.args.rows.now ≡ false) delay (sym c.some_stream_passes.ensures ∙ c.if-some_stream_passes.false)),
      c.in_ok-row.ensures.1,
    )

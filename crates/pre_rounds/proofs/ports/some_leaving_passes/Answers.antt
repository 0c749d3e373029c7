use Rattle.std.proofs.Common.{sym, ◌∙◌, ap, Some}
use Rattle.std.proofs.lemmas.Option.{slice_get-get_or}
use Rattle.pre_rounds.specs.Passing.{leaving_passes}
use Rattle.pre_rounds.specs.Tables.{bursts_in}
use Rattle.pre_rounds.proofs.Numbered.{any_more, any_numbered}
use Rattle.pre_rounds.proofs.ports.some_leaving_passes.Goals as goal

pub returns-then-leaving_passes : goal.returns-then-leaving_passes
returns-then-leaving_passes c =
    let r = c.index-rows-stream.result in
    sym (any_numbered (leaving_passes c.args.net.now (bursts_in c.args.bursts.now) c.args.arc.0 c.args.prio c.args.delay) c.args.rows.now c.loop-stream.stream r
    (slice_get-get_or c.args.rows.now c.loop-stream.stream r c.loop-stream-test.true ∙ ap Some (sym c.index-rows-stream.is))
    (sym c.leaving_passes.ensures ∙ c.if-leaving_passes.true))

pub loop-stream-preserved : goal.loop-stream-preserved
loop-stream-preserved c =
    any_more (leaving_passes c.args.net.now (bursts_in c.args.bursts.now) c.args.arc.0 c.args.prio c.args.delay) c.args.rows.now c.loop-stream.stream c.index-rows-stream.result
    c.loop-stream-test.true c.index-rows-stream.is c.loop-stream.invariant (sym c.leaving_passes.ensures ∙ c.if-leaving_passes.false)

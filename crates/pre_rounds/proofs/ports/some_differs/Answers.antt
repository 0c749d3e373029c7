use Rattle.std.proofs.Common.{sym, ◌∙◌, ap, Some}
use Rattle.std.proofs.lemmas.Option.{slice_get-get_or}
use Rattle.pre_rounds.specs.Passing.{differs_behind}
use Rattle.pre_rounds.specs.Tables.{bursts_in}
use Rattle.pre_rounds.proofs.Numbered.{any_more, any_numbered}
use Rattle.pre_rounds.proofs.ports.some_differs.Goals as goal

pub returns-then-differs_behind : goal.returns-then-differs_behind
returns-then-differs_behind c =
    let r = c.index-rows-stream.result in
    sym (any_numbered (differs_behind (bursts_in c.args.bursts.now) (bursts_in c.args.other.now) c.args.arc.0 c.args.prio) c.args.rows.now c.loop-stream.stream r
    (slice_get-get_or c.args.rows.now c.loop-stream.stream r c.loop-stream-test.true ∙ ap Some (sym c.index-rows-stream.is))
    (sym c.differs_behind.ensures ∙ c.if-differs_behind.true))

pub loop-stream-preserved : goal.loop-stream-preserved
loop-stream-preserved c =
    any_more (differs_behind (bursts_in c.args.bursts.now) (bursts_in c.args.other.now) c.args.arc.0 c.args.prio) c.args.rows.now c.loop-stream.stream c.index-rows-stream.result
    c.loop-stream-test.true c.index-rows-stream.is c.loop-stream.invariant (sym c.differs_behind.ensures ∙ c.if-differs_behind.false)

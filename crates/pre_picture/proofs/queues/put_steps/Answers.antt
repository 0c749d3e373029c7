use Rattle.std.proofs.Common.{◌+◌, ℕ, List, ap, drop, get_or, subst, ◌∙◌}
use Rattle.std.proofs.lemmas.List.{drop_more, at_drop_all}
use Rattle.pre_base.specs.Told.{WhereTold}
use Rattle.pre_base.specs.Sinks.{TakesBut, TakesFront}
use Rattle.pre_base.proofs.Pieces.{ends}
use Rattle.pre_picture.specs.declared.traces.Seen.TheVariants.{Other}
use Rattle.pre_picture.specs.Queues.{level_after, step_text, steps}
use Rattle.pre_picture.specs.Traces.{tick_of}
use Rattle.pre_picture.proofs.Drawn.{part_fails}
use Rattle.pre_picture.proofs.Stepping.{steps_change}
use Rattle.pre_picture.proofs.queues.put_steps.Goals as goal

pub returns-in_err-put_step-clause-octets : goal.returns-in_err-put_step-clause-octets
returns-in_err-put_step-clause-octets g c =
    let events = c.args.queue.now.sent.events.now in
    let port = c.args.queue.now.port in
    let across = c.args.field.now.across in
    let up = c.args.field.now.up in
    let i = c.loop-seen.seen-index in
    let since = c.loop-seen.since in
    let level = c.loop-seen.level in
    let seen = get_or events i (Other 0) in
    let later = drop (i + 1) events in
    part_fails _ _ _ (steps events port across up 0 0 events) (steps events port across up since level (drop i events)) (step_text across up since (tick_of seen) level)
    (steps events port across up (tick_of seen) (level_after events port level seen) later) c.from_residual.result c.from_residual.ensures.0
    (ap (steps events port across up since level) (drop_more events i (Other 0) c.loop-seen-test.true) ∙ steps_change events port across up since level seen later
    (λ same. c.if-next-level.true (c.level_after-next.ensures ∙ same)))
    c.loop-seen.invariant.taken
    (subst (λ (t : ℕ). WhereTold (g.S.Sink.tells c.loop-seen.sink) (g.S.Sink.tells c.put_step.new.sink) (TakesFront (step_text across up since t level))) c.tick_of.ensures c.in_err-put_step.ensures.octets)

pub returns-clause-octets : goal.returns-clause-octets
returns-clause-octets g c =
    let events = c.args.queue.now.sent.events.now in
    let port = c.args.queue.now.port in
    let across = c.args.field.now.across in
    let up = c.args.field.now.up in
    let whole = steps events port across up 0 0 events in
    let left = steps events port across up c.loop-seen.since c.loop-seen.level in
    ends _ _ _ whole (step_text across up c.loop-seen.since across.to c.loop-seen.level) c.put_step-2.result
    (subst (λ (l : List ℕ). WhereTold (g.S.Sink.tells c.args.sink.now) (g.S.Sink.tells c.loop-seen.sink) (TakesBut l whole)) (at_drop_all left events c.loop-seen.seen-index c.loop-seen-test.false) c.loop-seen.invariant.taken)
    c.put_step-2.ensures.octets

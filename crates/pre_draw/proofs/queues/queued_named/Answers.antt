use Rattle.std.proofs.Common.{◌≡◌, None, refl, rules}
use Rattle.pre_topo.specs.Named.{arc_named}
use Rattle.pre_cli.specs.declared.statuses.Status.TheVariants as status
use Rattle.pre_cli.specs.Words.{JudgeWords, judge_words}
use Rattle.pre_cli.proofs.ReadingLemmas.{untested_instead, failed_instead}
use Rattle.pre_draw.specs.Queues.{Files, HasArc, LacksArc}
use Rattle.pre_draw.specs.Traces.{judged_told_in}
use Rattle.pre_draw.proofs.queues.queued_named.Goals as goal

pub returns-in-Err-clause-cause : goal.returns-in-Err-clause-cause
returns-in-Err-clause-cause g c =
    let words : JudgeWords = judge_words c.args.words.now.net.now c.args.words.now.streams.now c.args.words.now.certificate.now in
    let arc = c.args.words.now.arc.now in
    untested_instead (judged_told_in words c.args.words.now.trace.now) (HasArc arc) (LacksArc arc) c.in-Err.status
    (g.H.Shelf.faults c.args.shelf.now) (g.H.Shelf.faults c.judged_told_named-told.new.shelf) (g.H.Shelf.tells c.args.shelf.now) (g.H.Shelf.tells c.judged_told_named-told.new.shelf)
    c.in-Err.ensures.cause

pub returns-in-None-clause-cause : goal.returns-in-None-clause-cause
returns-in-None-clause-cause g c =
    let words : JudgeWords = judge_words c.args.words.now.net.now c.args.words.now.streams.now c.args.words.now.certificate.now in
    let arc = c.args.words.now.arc.now in
    let x : Files = ((c.in-Ok.told.judged.net, (c.in-Ok.told.judged.certified.streams, c.in-Ok.told.judged.certified.certificate)), c.in-Ok.told.events) in
    let none : arc_named c.in-Ok.told.judged.net arc ≡ None = search rules in
    failed_instead (judged_told_in words c.args.words.now.trace.now) (HasArc arc) (LacksArc arc) x status.NoArc
    (g.H.Shelf.faults c.args.shelf.now) (g.H.Shelf.faults c.judged_told_named-told.new.shelf) (g.H.Shelf.tells c.args.shelf.now) (g.H.Shelf.tells c.judged_told_named-told.new.shelf)
    (none, refl) c.in-Ok.ensures.told

use Rattle.std.proofs.Common.{ℕ, Option, unwrap_or, inr, subst, sym, refl}
use Rattle.pre_cli.specs.Answers.{Outside, outside}
use Rattle.pre_cli.specs.Words.{judge_words}
use Rattle.pre_draw.specs.Drawing.{DrawnEnds}
use Rattle.pre_draw.specs.Queues.{Files, queue_on, queue_picture, queued_in}
use Rattle.pre_base.specs.Sinks.{TakesFront}
use Rattle.pre_cli.specs.Certifying.{TakesFlushed}
use Rattle.pre_cli.proofs.ReadingLemmas.{nothing_left}
use Rattle.pre_draw.proofs.DrawLemmas.{drawn_cause, drawn_leaves, queued_refusing}
use Rattle.pre_draw.proofs.queues.queue_files.Goals as goal

pub returns-in-Ok-clause-cause : goal.returns-in-Ok-clause-cause
returns-in-Ok-clause-cause g c =
    let o : Outside = outside g.H.Shelf.faults g.H.Shelf.tells c.args.shelf.now c.queued_named.new.shelf g.S.Sink.faults g.S.Sink.tells c.args.sink.now c.draw_queue.new.sink in
    drawn_cause (queued_in (judge_words c.args.words.now.net.now c.args.words.now.streams.now c.args.words.now.certificate.now) c.args.words.now.trace.now c.args.words.now.arc.now) c.draw_queue.result o ((c.in-Ok.queued.told.judged.net, (c.in-Ok.queued.told.judged.certified.streams, c.in-Ok.queued.told.judged.certified.certificate)), c.in-Ok.queued.told.events) c.in-Ok.ensures.queued c.draw_queue.ensures.cause

pub returns-in-Ok-clause-leaves : goal.returns-in-Ok-clause-leaves
returns-in-Ok-clause-leaves g c =
    let o : Outside = outside g.H.Shelf.faults g.H.Shelf.tells c.args.shelf.now c.queued_named.new.shelf g.S.Sink.faults g.S.Sink.tells c.args.sink.now c.draw_queue.new.sink in
    drawn_leaves (queued_in (judge_words c.args.words.now.net.now c.args.words.now.streams.now c.args.words.now.certificate.now) c.args.words.now.trace.now c.args.words.now.arc.now) c.draw_queue.result o ((c.in-Ok.queued.told.judged.net, (c.in-Ok.queued.told.judged.certified.streams, c.in-Ok.queued.told.judged.certified.certificate)), c.in-Ok.queued.told.events) (queue_picture c.args.words.now.arc.now c.args.prio) c.in-Ok.ensures.queued
    (subst (λ (a : Option ℕ). DrawnEnds c.draw_queue.result (queue_on (unwrap_or a 0) c.args.prio ((c.in-Ok.queued.told.judged.net, (c.in-Ok.queued.told.judged.certified.streams, c.in-Ok.queued.told.judged.certified.certificate)), c.in-Ok.queued.told.events)) (g.S.Sink.tells c.args.sink.now) (g.S.Sink.tells c.draw_queue.new.sink))
    (sym c.in-Ok.ensures.arc) c.draw_queue.ensures.ends)

pub returns-in-Err-clause-cause : goal.returns-in-Err-clause-cause
returns-in-Err-clause-cause g c = inr c.in-Err.ensures.cause

pub returns-in-Err-clause-leaves : goal.returns-in-Err-clause-leaves
returns-in-Err-clause-leaves g c =
    let words = judge_words c.args.words.now.net.now c.args.words.now.streams.now c.args.words.now.certificate.now in
    let trace_word = c.args.words.now.trace.now in
    let arc_word = c.args.words.now.arc.now in
    let o : Outside = outside g.H.Shelf.faults g.H.Shelf.tells c.args.shelf.now c.queued_named.new.shelf g.S.Sink.faults g.S.Sink.tells c.args.sink.now c.args.sink.now in
    nothing_left (queued_in words trace_word arc_word) (λ (x : Files). TakesFlushed (queue_picture arc_word c.args.prio x)) (λ (x : Files). TakesFront (queue_picture arc_word c.args.prio x)) c.in-Err.status o
    (queued_refusing words trace_word arc_word) c.in-Err.ensures.cause refl

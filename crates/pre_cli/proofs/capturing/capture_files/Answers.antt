use Rattle.std.proofs.Common.{inr, refl}
use Rattle.pre_cli.specs.Answers.{Outside, outside}
use Rattle.pre_cli.specs.Capturing.{Capture}
use Rattle.pre_cli.specs.Words.{CaptureWords, capture_words}
use Rattle.pre_cli.proofs.CaptureLemmas.{nothing_run, run_cause, run_leaves}
use Rattle.pre_cli.proofs.capturing.capture_files.Goals as goal

pub returns-in-Ok-clause-cause : goal.returns-in-Ok-clause-cause
returns-in-Ok-clause-cause g c =
    let words : CaptureWords = capture_words c.args.net_word.now c.args.streams_word.now c.args.script_word.now c.args.arc_word.now in
    let input = c.in-Ok.input in
    let x : Capture = ((input.watched.net, input.watched.arc), (input.sent.streams, input.sent.script)) in
    let o : Outside = outside g.H.Shelf.faults g.H.Shelf.tells c.args.shelf.now c.input_named.new.shelf g.S.Sink.faults g.S.Sink.tells c.args.sink.now c.capture.new.sink in
    run_cause words o x c.in-Ok.ensures.input c.capture.result c.capture.ensures.cause

pub returns-in-Ok-clause-leaves : goal.returns-in-Ok-clause-leaves
returns-in-Ok-clause-leaves g c =
    let words : CaptureWords = capture_words c.args.net_word.now c.args.streams_word.now c.args.script_word.now c.args.arc_word.now in
    let input = c.in-Ok.input in
    let x : Capture = ((input.watched.net, input.watched.arc), (input.sent.streams, input.sent.script)) in
    let o : Outside = outside g.H.Shelf.faults g.H.Shelf.tells c.args.shelf.now c.input_named.new.shelf g.S.Sink.faults g.S.Sink.tells c.args.sink.now c.capture.new.sink in
    run_leaves words o x c.in-Ok.ensures.input c.capture.result c.capture.ensures.ends

pub returns-in-Err-clause-cause : goal.returns-in-Err-clause-cause
returns-in-Err-clause-cause g c = inr c.in-Err.ensures.cause

pub returns-in-Err-clause-leaves : goal.returns-in-Err-clause-leaves
returns-in-Err-clause-leaves g c =
    let words : CaptureWords = capture_words c.args.net_word.now c.args.streams_word.now c.args.script_word.now c.args.arc_word.now in
    let o : Outside = outside g.H.Shelf.faults g.H.Shelf.tells c.args.shelf.now c.input_named.new.shelf g.S.Sink.faults g.S.Sink.tells c.args.sink.now c.args.sink.now in
    nothing_run words o c.in-Err.status c.in-Err.ensures.cause refl

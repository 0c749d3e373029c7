use Rattle.std.proofs.Common.{inr}
use Rattle.pre_cli.specs.Answers.{Outside, outside}
use Rattle.pre_cli.specs.Admitting.{Additions, adding, HasPlan, PlanRefused}
use Rattle.pre_cli.specs.Words.{AdmitWords, admit_words}
use Rattle.pre_cli.proofs.AdmitLemmas.{adds_cause, adds_leaves}
use Rattle.pre_cli.proofs.ReadingLemmas.{untested_instead}
use Rattle.pre_cli.proofs.admitting.admit_files.Goals as goal

pub returns-in-Ok-clause-cause : goal.returns-in-Ok-clause-cause
returns-in-Ok-clause-cause g c =
    let words : AdmitWords = admit_words c.args.net_word.now c.args.streams_word.now c.args.more_word.now in
    let x : Additions = (c.in-Ok.input.net, (c.in-Ok.input.added.streams, c.in-Ok.input.added.more)) in
    let o : Outside = outside g.H.Shelf.faults g.H.Shelf.tells c.args.shelf.now c.input_named.new.shelf g.S.Sink.faults g.S.Sink.tells c.args.sink.now c.admit_added.new.sink in
    adds_cause words x c.admit_added.result o c.in-Ok.ensures.input c.admit_added.ensures.ends

pub returns-in-Ok-clause-leaves : goal.returns-in-Ok-clause-leaves
returns-in-Ok-clause-leaves g c =
    let words : AdmitWords = admit_words c.args.net_word.now c.args.streams_word.now c.args.more_word.now in
    let x : Additions = (c.in-Ok.input.net, (c.in-Ok.input.added.streams, c.in-Ok.input.added.more)) in
    let o : Outside = outside g.H.Shelf.faults g.H.Shelf.tells c.args.shelf.now c.input_named.new.shelf g.S.Sink.faults g.S.Sink.tells c.args.sink.now c.admit_added.new.sink in
    adds_leaves words x c.admit_added.result o c.in-Ok.ensures.input c.admit_added.ensures.ends

pub returns-in-Err-clause-cause : goal.returns-in-Err-clause-cause
returns-in-Err-clause-cause g c =
    inr (untested_instead (adding (admit_words c.args.net_word.now c.args.streams_word.now c.args.more_word.now)) HasPlan PlanRefused c.in-Err.status
    (g.H.Shelf.faults c.args.shelf.now) (g.H.Shelf.faults c.input_named.new.shelf) (g.H.Shelf.tells c.args.shelf.now) (g.H.Shelf.tells c.input_named.new.shelf) c.in-Err.ensures.cause)

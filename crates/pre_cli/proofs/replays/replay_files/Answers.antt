use Rattle.std.proofs.Common.{inr, refl}
use Rattle.pre_cli.specs.Answers.{Outside, outside}
use Rattle.pre_cli.specs.Replaying.{Replay, scenario_in, certificate_in}
use Rattle.pre_cli.specs.Words.{ReplayWords, replay_words}
use Rattle.pre_cli.proofs.ReplayLemmas.{nothing_run, run_cause, run_leaves}
use Rattle.pre_cli.proofs.replays.replay_files.Goals as goal

pub returns-in-Ok-clause-cause : goal.returns-in-Ok-clause-cause
returns-in-Ok-clause-cause g c =
    let words : ReplayWords = replay_words c.args.net_word.now c.args.streams_word.now c.args.certificate_word.now c.args.script_word.now in
    let input = c.in-Ok.input in
    let x : Replay = ((input.judged.net, (input.judged.certified.streams, input.judged.certified.certificate)), input.script) in
    let o : Outside = outside g.H.Shelf.faults g.H.Shelf.tells c.args.shelf.now c.input_named.new.shelf g.S.Sink.faults g.S.Sink.tells c.args.sink.now c.trace.new.sink in
    run_cause words o x c.in-Ok.ensures.input c.trace.result c.trace.ensures.cause

pub returns-in-Ok-clause-leaves : goal.returns-in-Ok-clause-leaves
returns-in-Ok-clause-leaves g c =
    let words : ReplayWords = replay_words c.args.net_word.now c.args.streams_word.now c.args.certificate_word.now c.args.script_word.now in
    let input = c.in-Ok.input in
    let x : Replay = ((input.judged.net, (input.judged.certified.streams, input.judged.certified.certificate)), input.script) in
    let o : Outside = outside g.H.Shelf.faults g.H.Shelf.tells c.args.shelf.now c.input_named.new.shelf g.S.Sink.faults g.S.Sink.tells c.args.sink.now c.trace.new.sink in
    let run = c.makes_a_run.ensures in
    let good = c.in-Ok.ensures.good in
    run_leaves words o x c.in-Ok.ensures.input run good (λ h legal. c.network_law.ensures.certified (scenario_in x) (certificate_in x) h run good legal) c.trace.result c.trace.ensures.ends

pub returns-in-Err-clause-cause : goal.returns-in-Err-clause-cause
returns-in-Err-clause-cause g c = inr c.in-Err.ensures.cause

pub returns-in-Err-clause-leaves : goal.returns-in-Err-clause-leaves
returns-in-Err-clause-leaves g c =
    let words : ReplayWords = replay_words c.args.net_word.now c.args.streams_word.now c.args.certificate_word.now c.args.script_word.now in
    let o : Outside = outside g.H.Shelf.faults g.H.Shelf.tells c.args.shelf.now c.input_named.new.shelf g.S.Sink.faults g.S.Sink.tells c.args.sink.now c.args.sink.now in
    nothing_run words o c.in-Err.status c.in-Err.ensures.cause refl

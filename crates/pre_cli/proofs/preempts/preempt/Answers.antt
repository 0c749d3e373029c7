use Rattle.std.proofs.Common.{◌≡◌, map, subst}
use Rattle.std.specs.Prelude.{string_bytes}
use Rattle.pre_cli.specs.Answers.{Outside, outside}
use Rattle.pre_cli.specs.Commands.{Command, replays, command_of, CauseBy}
use Rattle.pre_cli.specs.Words.{replay_words}
use Rattle.pre_cli.proofs.preempts.preempt.Goals as goal

pub returns-in-Replays-clause-cause : goal.returns-in-Replays-clause-cause
returns-in-Replays-clause-cause g c =
    let o : Outside = outside g.H.Shelf.faults g.H.Shelf.tells c.args.shelf.now c.replay_files.new.shelf g.S.Sink.faults g.S.Sink.tells c.args.sink.now c.replay_files.new.sink in
    let asked : replays (replay_words c.in-Replays.net.now c.in-Replays.streams.now c.in-Replays.certificate.now c.in-Replays.script.now) ≡ command_of (map string_bytes c.args.words.now) = c.in-Replays.ensures in
    subst (λ (x : Command). CauseBy x c.replay_files.result o) asked c.replay_files.ensures.cause

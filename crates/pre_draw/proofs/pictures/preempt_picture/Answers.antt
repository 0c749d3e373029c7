use Rattle.std.proofs.Common.{subst}
use Rattle.pre_cli.specs.Answers.{Outside, outside}
use Rattle.pre_draw.specs.Commands.{Command, CauseBy}
use Rattle.pre_draw.proofs.pictures.preempt_picture.Goals as goal

pub returns-in-Queue-clause-cause : goal.returns-in-Queue-clause-cause
returns-in-Queue-clause-cause g c =
    let o : Outside = outside g.H.Shelf.faults g.H.Shelf.tells c.args.shelf.now c.queue_files.new.shelf g.S.Sink.faults g.S.Sink.tells c.args.sink.now c.queue_files.new.sink in
    subst (λ (k : Command). CauseBy k c.queue_files.result o) c.in-Queue.ensures c.queue_files.ensures.cause

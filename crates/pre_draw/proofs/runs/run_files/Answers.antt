use Rattle.std.proofs.Common.{List, ℕ, inr}
use Rattle.pre_topo.specs.declared.network.Network.{Network}
use Rattle.pre_picture.specs.declared.traces.Seen.{Seen}
use Rattle.pre_cli.specs.Answers.{Outside, outside}
use Rattle.pre_draw.specs.Runs.{run_picture}
use Rattle.pre_draw.specs.Traces.{told_in}
use Rattle.pre_draw.proofs.DrawLemmas.{drawn_cause, drawn_leaves}
use Rattle.pre_draw.proofs.runs.run_files.Goals as goal

pub returns-in-Ok-clause-cause : goal.returns-in-Ok-clause-cause
returns-in-Ok-clause-cause g c =
    let o : Outside = outside g.H.Shelf.faults g.H.Shelf.tells c.args.shelf.now c.told_named.new.shelf g.S.Sink.faults g.S.Sink.tells c.args.sink.now c.draw_run.new.sink in
    drawn_cause (told_in c.args.net_word.now c.args.trace_word.now) c.draw_run.result o (c.in-Ok.told.net, c.in-Ok.told.events) c.in-Ok.ensures.told c.draw_run.ensures.cause

pub returns-in-Ok-clause-leaves : goal.returns-in-Ok-clause-leaves
returns-in-Ok-clause-leaves g c =
    let o : Outside = outside g.H.Shelf.faults g.H.Shelf.tells c.args.shelf.now c.told_named.new.shelf g.S.Sink.faults g.S.Sink.tells c.args.sink.now c.draw_run.new.sink in
    drawn_leaves (told_in c.args.net_word.now c.args.trace_word.now) c.draw_run.result o (c.in-Ok.told.net, c.in-Ok.told.events) (run_picture c.args.range) c.in-Ok.ensures.told c.draw_run.ensures.ends

pub returns-in-Err-clause-cause : goal.returns-in-Err-clause-cause
returns-in-Err-clause-cause g c = inr c.in-Err.ensures.cause

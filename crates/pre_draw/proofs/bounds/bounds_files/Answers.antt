use Rattle.std.proofs.Common.{List, ℕ, inr}
use Rattle.pre_topo.specs.declared.network.Network.{Network}
use Rattle.pre_picture.specs.declared.traces.Seen.{Seen}
use Rattle.pre_streams.specs.declared.rows.Streams.{Streams}
use Rattle.pre_bound.specs.declared.certificate.Certificate.{Certificate}
use Rattle.pre_cli.specs.Answers.{Outside, outside}
use Rattle.pre_cli.specs.Words.{judge_words}
use Rattle.pre_draw.specs.Bounds.{bounds_picture}
use Rattle.pre_draw.specs.Traces.{judged_told_in}
use Rattle.pre_draw.proofs.DrawLemmas.{drawn_cause, drawn_leaves}
use Rattle.pre_draw.proofs.bounds.bounds_files.Goals as goal

pub returns-in-Ok-clause-cause : goal.returns-in-Ok-clause-cause
returns-in-Ok-clause-cause g c =
    let o : Outside = outside g.H.Shelf.faults g.H.Shelf.tells c.args.shelf.now c.judged_told_named.new.shelf g.S.Sink.faults g.S.Sink.tells c.args.sink.now c.draw_bounds.new.sink in
    drawn_cause (judged_told_in (judge_words c.args.net_word.now c.args.streams_word.now c.args.certificate_word.now) c.args.trace_word.now) c.draw_bounds.result o ((c.in-Ok.told.judged.net, (c.in-Ok.told.judged.certified.streams, c.in-Ok.told.judged.certified.certificate)), c.in-Ok.told.events) c.in-Ok.ensures.told c.draw_bounds.ensures.cause

pub returns-in-Ok-clause-leaves : goal.returns-in-Ok-clause-leaves
returns-in-Ok-clause-leaves g c =
    let o : Outside = outside g.H.Shelf.faults g.H.Shelf.tells c.args.shelf.now c.judged_told_named.new.shelf g.S.Sink.faults g.S.Sink.tells c.args.sink.now c.draw_bounds.new.sink in
    drawn_leaves (judged_told_in (judge_words c.args.net_word.now c.args.streams_word.now c.args.certificate_word.now) c.args.trace_word.now) c.draw_bounds.result o ((c.in-Ok.told.judged.net, (c.in-Ok.told.judged.certified.streams, c.in-Ok.told.judged.certified.certificate)), c.in-Ok.told.events) bounds_picture c.in-Ok.ensures.told c.draw_bounds.ensures.ends

pub returns-in-Err-clause-cause : goal.returns-in-Err-clause-cause
returns-in-Err-clause-cause g c = inr c.in-Err.ensures.cause

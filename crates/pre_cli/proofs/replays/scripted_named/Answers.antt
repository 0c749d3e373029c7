use Rattle.pre_topo.specs.declared.network.Network.{Network}
use Rattle.pre_streams.specs.declared.rows.Streams.{Streams}
use Rattle.pre_bound.specs.declared.certificate.Certificate.{Certificate}
use Rattle.pre_cli.specs.Judging.{judging}
use Rattle.pre_cli.specs.Replaying.{script_in}
use Rattle.pre_cli.specs.Words.{JudgeWords, judge_words}
use Rattle.pre_cli.proofs.ReadingLemmas.{first_instead, second_instead}
use Rattle.pre_cli.proofs.ReplayLemmas.{script_instead}
use Rattle.pre_cli.proofs.replays.scripted_named.Goals as goal

pub returns-in-Err-script_in-clause-cause : goal.returns-in-Err-script_in-clause-cause
returns-in-Err-script_in-clause-cause g c =
    let words : JudgeWords = judge_words c.args.net_word.now c.args.streams_word.now c.args.certificate_word.now in
    let judged = c.in-Ok.judged in
    let x : Network × (Streams × Certificate) = (judged.net, (judged.certified.streams, judged.certified.certificate)) in
    let word = c.args.script_word.now in
    let between = g.H.Shelf.faults c.judged_named.new.shelf in
    let now = g.H.Shelf.faults c.script_in.new.shelf in
    let b = g.H.Shelf.tells c.judged_named.new.shelf in
    let d = g.H.Shelf.tells c.script_in.new.shelf in
    let s = c.in-Err-script_in.status in
    second_instead (judging words) (λ y. script_in word y.0 y.1.0) x s (g.H.Shelf.faults c.args.shelf.now) between now (g.H.Shelf.tells c.args.shelf.now) b d
    c.judged_named.ensures.later c.in-Ok.ensures.judged (script_instead word x.0 x.1.0 s between now b d c.in-Err-script_in.ensures.cause)

pub returns-in-Err-clause-cause : goal.returns-in-Err-clause-cause
returns-in-Err-clause-cause g c =
    let words : JudgeWords = judge_words c.args.net_word.now c.args.streams_word.now c.args.certificate_word.now in
    let word = c.args.script_word.now in
    first_instead (judging words) (λ y. script_in word y.0 y.1.0) c.in-Err.status
    (g.H.Shelf.faults c.args.shelf.now) (g.H.Shelf.faults c.judged_named.new.shelf) (g.H.Shelf.tells c.args.shelf.now) (g.H.Shelf.tells c.judged_named.new.shelf) c.in-Err.ensures.cause

pub returns-in-Ok-script_in-clause-can : goal.returns-in-Ok-script_in-clause-can
returns-in-Ok-script_in-clause-can g c =
    let judged = c.in-Ok.judged in
    record { streams_fit = c.in-Ok.ensures.fits; script_fits = c.in-Ok-script_in.ensures.fits }

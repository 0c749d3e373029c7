use Rattle.pre_topo.specs.declared.network.Network.{Network}
use Rattle.pre_streams.specs.declared.rows.Streams.{Streams}
use Rattle.pre_bound.specs.declared.certificate.Certificate.{Certificate}
use Rattle.pre_cli.specs.Judging.{judging}
use Rattle.pre_cli.specs.Words.{JudgeWords, judge_words}
use Rattle.pre_cli.proofs.ReadingLemmas.{first_instead, second_instead}
use Rattle.pre_draw.specs.Traces.{trace_in}
use Rattle.pre_draw.proofs.TraceLemmas.{trace_instead}
use Rattle.pre_draw.proofs.traces.judged_told_named.Goals as goal

pub returns-in-Err-trace_named-clause-cause : goal.returns-in-Err-trace_named-clause-cause
returns-in-Err-trace_named-clause-cause g c =
    let words : JudgeWords = judge_words c.args.net_word.now c.args.streams_word.now c.args.certificate_word.now in
    let x : Network × (Streams × Certificate) = (c.in-Ok.judged.net, (c.in-Ok.judged.certified.streams, c.in-Ok.judged.certified.certificate)) in
    let word = c.args.trace_word.now in
    let s = c.in-Err-trace_named.status in
    let before = g.H.Shelf.faults c.judged_named.new.shelf in
    let now = g.H.Shelf.faults c.trace_named.new.shelf in
    let a = g.H.Shelf.tells c.judged_named.new.shelf in
    let b = g.H.Shelf.tells c.trace_named.new.shelf in
    second_instead (judging words) (λ (y : Network × (Streams × Certificate)). trace_in word y.0) x s
    (g.H.Shelf.faults c.args.shelf.now) before now (g.H.Shelf.tells c.args.shelf.now) a b
    c.judged_named.ensures.later c.in-Ok.ensures.judged (trace_instead word x.0 s before now a b c.in-Err-trace_named.ensures.cause)

pub returns-in-Err-clause-cause : goal.returns-in-Err-clause-cause
returns-in-Err-clause-cause g c =
    let words : JudgeWords = judge_words c.args.net_word.now c.args.streams_word.now c.args.certificate_word.now in
    let before = g.H.Shelf.faults c.args.shelf.now in
    let now = g.H.Shelf.faults c.judged_named.new.shelf in
    let a = g.H.Shelf.tells c.args.shelf.now in
    let b = g.H.Shelf.tells c.judged_named.new.shelf in
    first_instead (judging words) (λ (y : Network × (Streams × Certificate)). trace_in c.args.trace_word.now y.0) c.in-Err.status before now a b c.in-Err.ensures.cause

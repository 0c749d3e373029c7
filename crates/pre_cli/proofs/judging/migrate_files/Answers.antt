use Rattle.std.proofs.Common.{inl, inr}
use Rattle.pre_topo.specs.declared.network.Network.{Network}
use Rattle.pre_streams.specs.declared.rows.Streams.{Streams}
use Rattle.pre_bound.specs.declared.certificate.Certificate.{Certificate}
use Rattle.pre_certify.specs.Text.{certificate_text}
use Rattle.pre_cli.specs.Answers.{Outside, outside}
use Rattle.pre_cli.specs.Judging.{judging, Migrates, MigratesFront}
use Rattle.pre_cli.specs.Words.{judge_words}
use Rattle.pre_cli.proofs.ReadingLemmas.{put_leaves}
use Rattle.pre_cli.proofs.judging.migrate_files.Goals as goal

pub returns-in-Ok-clause-cause : goal.returns-in-Ok-clause-cause
returns-in-Ok-clause-cause g c =
    let x : Network × (Streams × Certificate) = (c.in-Ok.judged.net, (c.in-Ok.judged.certified.streams, c.in-Ok.judged.certified.certificate)) in
    inl (x, c.in-Ok.ensures.judged, c.put_migrated.ensures.cause.1)

pub returns-in-Ok-clause-leaves : goal.returns-in-Ok-clause-leaves
returns-in-Ok-clause-leaves g c =
    let x : Network × (Streams × Certificate) = (c.in-Ok.judged.net, (c.in-Ok.judged.certified.streams, c.in-Ok.judged.certified.certificate)) in
    let o : Outside = outside g.H.Shelf.faults g.H.Shelf.tells c.args.shelf.now c.judged_named.new.shelf g.S.Sink.faults g.S.Sink.tells c.args.sink.now c.put_migrated.new.sink in
    put_leaves (judging (judge_words c.args.net_word.now c.args.streams_word.now c.args.certificate_word.now)) Migrates MigratesFront c.put_migrated.result o (certificate_text x.0 x.1.0.rows x.1.1) x
    (λ a b took. (c.in-Ok.ensures.good, took)) (λ a b took. took) c.in-Ok.ensures.judged c.put_migrated.ensures.ends

pub returns-in-Err-clause-cause : goal.returns-in-Err-clause-cause
returns-in-Err-clause-cause g c = inr c.in-Err.ensures.cause

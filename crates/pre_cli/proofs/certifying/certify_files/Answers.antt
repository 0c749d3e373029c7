use Rattle.pre_cli.specs.Answers.{Outside, outside}
use Rattle.pre_cli.proofs.CertifyLemmas.{both_in, certified_cause, certified_leaves, streams_cause}
use Rattle.pre_cli.proofs.certifying.certify_files.Goals as goal

pub returns-in-Ok-streams_named-clause-cause : goal.returns-in-Ok-streams_named-clause-cause
returns-in-Ok-streams_named-clause-cause g c =
    let nets = c.args.net_word.now in
    let words = c.args.streams_word.now in
    let streams = c.in-Ok-streams_named.streams in
    let a = g.H.Shelf.tells c.args.shelf.now in
    let b = g.H.Shelf.tells c.network_named.new.shelf in
    let d = g.H.Shelf.tells c.streams_named.new.shelf in
    let o : Outside = outside g.H.Shelf.faults g.H.Shelf.tells c.args.shelf.now c.streams_named.new.shelf g.S.Sink.faults g.S.Sink.tells c.args.sink.now c.certify_streams.new.sink in
    certified_cause c.certify_streams.result nets words c.in-Ok.net streams o (both_in nets words c.in-Ok.net streams a b d c.in-Ok.ensures.net c.in-Ok-streams_named.ensures.streams) c.certify_streams.ensures.cause

pub returns-in-Ok-streams_named-clause-leaves : goal.returns-in-Ok-streams_named-clause-leaves
returns-in-Ok-streams_named-clause-leaves g c =
    let nets = c.args.net_word.now in
    let words = c.args.streams_word.now in
    let streams = c.in-Ok-streams_named.streams in
    let a = g.H.Shelf.tells c.args.shelf.now in
    let b = g.H.Shelf.tells c.network_named.new.shelf in
    let d = g.H.Shelf.tells c.streams_named.new.shelf in
    let o : Outside = outside g.H.Shelf.faults g.H.Shelf.tells c.args.shelf.now c.streams_named.new.shelf g.S.Sink.faults g.S.Sink.tells c.args.sink.now c.certify_streams.new.sink in
    certified_leaves c.certify_streams.result nets words c.in-Ok.net streams o (both_in nets words c.in-Ok.net streams a b d c.in-Ok.ensures.net c.in-Ok-streams_named.ensures.streams) c.certify_streams.ensures.leaves

pub returns-in-Ok-clause-cause : goal.returns-in-Ok-clause-cause
returns-in-Ok-clause-cause g c =
    let o : Outside = outside g.H.Shelf.faults g.H.Shelf.tells c.args.shelf.now c.streams_named.new.shelf g.S.Sink.faults g.S.Sink.tells c.args.sink.now c.args.sink.now in
    streams_cause c.in-Err-streams_named.status c.args.net_word.now c.args.streams_word.now c.in-Ok.net o (g.H.Shelf.faults c.network_named.new.shelf) (g.H.Shelf.tells c.network_named.new.shelf)
    c.network_named.ensures.later c.in-Ok.ensures.net c.in-Err-streams_named.ensures.cause

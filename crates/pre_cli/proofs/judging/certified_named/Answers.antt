use Rattle.pre_cli.specs.Judging.{streams_in, good_certificate_in}
use Rattle.pre_cli.proofs.ReadingLemmas.{second_instead}
use Rattle.pre_cli.proofs.judging.certified_named.Goals as goal

pub returns-in-Err-good_certificate_in-clause-cause : goal.returns-in-Err-good_certificate_in-clause-cause
returns-in-Err-good_certificate_in-clause-cause g c =
    let net = c.args.net.now in
    second_instead (streams_in c.args.streams_word.now net) (good_certificate_in c.args.certificate_word.now net) c.in-Ok.streams c.in-Err-good_certificate_in.status
    (g.H.Shelf.faults c.args.shelf.now) (g.H.Shelf.faults c.streams_named.new.shelf) (g.H.Shelf.faults c.good_certificate_in.new.shelf)
    (g.H.Shelf.tells c.args.shelf.now) (g.H.Shelf.tells c.streams_named.new.shelf) (g.H.Shelf.tells c.good_certificate_in.new.shelf)
    c.streams_named.ensures.later c.in-Ok.ensures.streams c.in-Err-good_certificate_in.ensures.cause

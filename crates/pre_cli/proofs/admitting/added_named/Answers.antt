use Rattle.pre_streams.specs.declared.rows.Streams.{Streams}
use Rattle.pre_cli.specs.Admitting.{more_in}
use Rattle.pre_cli.specs.Judging.{streams_in}
use Rattle.pre_cli.proofs.ReadingLemmas.{second_instead}
use Rattle.pre_cli.proofs.admitting.added_named.Goals as goal

pub returns-in-Err-more_in-clause-cause : goal.returns-in-Err-more_in-clause-cause
returns-in-Err-more_in-clause-cause g c =
    let net = c.args.net.now in
    second_instead (streams_in c.args.streams_word.now net) (λ (streams : Streams). more_in c.args.more_word.now net) c.in-Ok.streams c.in-Err-more_in.status
    (g.H.Shelf.faults c.args.shelf.now) (g.H.Shelf.faults c.streams_named.new.shelf) (g.H.Shelf.faults c.more_in.new.shelf)
    (g.H.Shelf.tells c.args.shelf.now) (g.H.Shelf.tells c.streams_named.new.shelf) (g.H.Shelf.tells c.more_in.new.shelf)
    c.streams_named.ensures.later c.in-Ok.ensures.streams c.in-Err-more_in.ensures.cause

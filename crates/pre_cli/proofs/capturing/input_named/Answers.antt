use Rattle.pre_cli.specs.Capturing.{watched_in, sent_in}
use Rattle.pre_cli.proofs.ReadingLemmas.{first_instead, second_instead}
use Rattle.pre_cli.proofs.capturing.input_named.Goals as goal

pub returns-in-Err-sent_named-clause-cause : goal.returns-in-Err-sent_named-clause-cause
returns-in-Err-sent_named-clause-cause g c =
    let watched = c.in-Ok.watched in
    second_instead (watched_in c.args.net_word.now c.args.arc_word.now) (λ x. sent_in c.args.streams_word.now c.args.script_word.now x.0) (watched.net, watched.arc) c.in-Err-sent_named.status
    (g.H.Shelf.faults c.args.shelf.now) (g.H.Shelf.faults c.watched_named.new.shelf) (g.H.Shelf.faults c.sent_named.new.shelf)
    (g.H.Shelf.tells c.args.shelf.now) (g.H.Shelf.tells c.watched_named.new.shelf) (g.H.Shelf.tells c.sent_named.new.shelf)
    c.watched_named.ensures.later c.in-Ok.ensures.watched c.in-Err-sent_named.ensures.cause

pub returns-in-Err-clause-cause : goal.returns-in-Err-clause-cause
returns-in-Err-clause-cause g c =
    first_instead (watched_in c.args.net_word.now c.args.arc_word.now) (λ x. sent_in c.args.streams_word.now c.args.script_word.now x.0) c.in-Err.status
    (g.H.Shelf.faults c.args.shelf.now) (g.H.Shelf.faults c.watched_named.new.shelf) (g.H.Shelf.tells c.args.shelf.now) (g.H.Shelf.tells c.watched_named.new.shelf) c.in-Err.ensures.cause

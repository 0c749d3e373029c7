use Rattle.pre_cli.specs.Admitting.{both_in}
use Rattle.pre_cli.specs.Judging.{network_in}
use Rattle.pre_cli.proofs.JudgeLemmas.{network_instead}
use Rattle.pre_cli.proofs.ReadingLemmas.{first_instead, second_instead}
use Rattle.pre_cli.proofs.admitting.input_named.Goals as goal

pub returns-in-Err-added_named-clause-cause : goal.returns-in-Err-added_named-clause-cause
returns-in-Err-added_named-clause-cause g c =
    second_instead (network_in c.args.net_word.now) (both_in c.args.streams_word.now c.args.more_word.now) c.in-Ok.net c.in-Err-added_named.status
    (g.H.Shelf.faults c.args.shelf.now) (g.H.Shelf.faults c.network_named.new.shelf) (g.H.Shelf.faults c.added_named.new.shelf)
    (g.H.Shelf.tells c.args.shelf.now) (g.H.Shelf.tells c.network_named.new.shelf) (g.H.Shelf.tells c.added_named.new.shelf)
    c.network_named.ensures.later c.in-Ok.ensures.net c.in-Err-added_named.ensures.cause

pub returns-in-Err-clause-cause : goal.returns-in-Err-clause-cause
returns-in-Err-clause-cause g c =
    let word = c.args.net_word.now in
    let before = g.H.Shelf.faults c.args.shelf.now in
    let now = g.H.Shelf.faults c.network_named.new.shelf in
    let a = g.H.Shelf.tells c.args.shelf.now in
    let b = g.H.Shelf.tells c.network_named.new.shelf in
    first_instead (network_in word) (both_in c.args.streams_word.now c.args.more_word.now) c.in-Err.status before now a b
    (network_instead word c.in-Err.status before now a b c.in-Err.ensures.cause)

use Rattle.std.proofs.Common.{◌≡◌, None, rules}
use Rattle.pre_topo.specs.Named.{arc_named}
use Rattle.pre_cli.specs.Capturing.{arc_in}
use Rattle.pre_cli.specs.Judging.{network_in}
use Rattle.pre_cli.proofs.CaptureLemmas.{no_arc}
use Rattle.pre_cli.proofs.JudgeLemmas.{network_instead}
use Rattle.pre_cli.proofs.ReadingLemmas.{first_instead}
use Rattle.pre_cli.proofs.capturing.watched_named.Goals as goal

pub returns-in-None-clause-cause : goal.returns-in-None-clause-cause
returns-in-None-clause-cause g c =
    let none : arc_named c.in-Ok.net c.args.arc_word.now ≡ None = search rules in
    no_arc c.args.net_word.now c.args.arc_word.now c.in-Ok.net (g.H.Shelf.faults c.args.shelf.now) (g.H.Shelf.faults c.network_named.new.shelf)
    (g.H.Shelf.tells c.args.shelf.now) (g.H.Shelf.tells c.network_named.new.shelf) none c.in-Ok.ensures.net

pub returns-in-Err-clause-cause : goal.returns-in-Err-clause-cause
returns-in-Err-clause-cause g c =
    let word = c.args.net_word.now in
    let before = g.H.Shelf.faults c.args.shelf.now in
    let now = g.H.Shelf.faults c.network_named.new.shelf in
    let a = g.H.Shelf.tells c.args.shelf.now in
    let b = g.H.Shelf.tells c.network_named.new.shelf in
    first_instead (network_in word) (arc_in c.args.arc_word.now) c.in-Err.status before now a b
    (network_instead word c.in-Err.status before now a b c.in-Err.ensures.cause)

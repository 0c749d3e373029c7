use Rattle.pre_cli.specs.Judging.{streams_in}
use Rattle.pre_cli.specs.Replaying.{script_in}
use Rattle.pre_cli.proofs.ReadingLemmas.{second_instead}
use Rattle.pre_cli.proofs.ReplayLemmas.{script_instead}
use Rattle.pre_cli.proofs.capturing.sent_named.Goals as goal

pub returns-in-Err-script_in-clause-cause : goal.returns-in-Err-script_in-clause-cause
returns-in-Err-script_in-clause-cause g c =
    let net = c.args.net.now in
    let word = c.args.script_word.now in
    let s = c.in-Err-script_in.status in
    let between = g.H.Shelf.faults c.streams_named.new.shelf in
    let now = g.H.Shelf.faults c.script_in.new.shelf in
    let b = g.H.Shelf.tells c.streams_named.new.shelf in
    let d = g.H.Shelf.tells c.script_in.new.shelf in
    second_instead (streams_in c.args.streams_word.now net) (script_in word net) c.in-Ok.streams s (g.H.Shelf.faults c.args.shelf.now) between now (g.H.Shelf.tells c.args.shelf.now) b d
    c.streams_named.ensures.later c.in-Ok.ensures.streams (script_instead word net c.in-Ok.streams s between now b d c.in-Err-script_in.ensures.cause)

use Rattle.pre_cli.specs.Judging.{network_in}
use Rattle.pre_cli.proofs.JudgeLemmas.{network_instead}
use Rattle.pre_cli.proofs.ReadingLemmas.{first_instead, second_instead}
use Rattle.pre_draw.specs.Traces.{trace_in}
use Rattle.pre_draw.proofs.TraceLemmas.{trace_instead}
use Rattle.pre_draw.proofs.traces.told_named.Goals as goal

pub returns-in-Err-trace_named-clause-cause : goal.returns-in-Err-trace_named-clause-cause
returns-in-Err-trace_named-clause-cause g c =
    let net = c.in-Ok.net in
    let word = c.args.trace_word.now in
    let s = c.in-Err-trace_named.status in
    let before = g.H.Shelf.faults c.network_named.new.shelf in
    let now = g.H.Shelf.faults c.trace_named.new.shelf in
    let a = g.H.Shelf.tells c.network_named.new.shelf in
    let b = g.H.Shelf.tells c.trace_named.new.shelf in
    second_instead (network_in c.args.net_word.now) (trace_in word) net s
    (g.H.Shelf.faults c.args.shelf.now) before now (g.H.Shelf.tells c.args.shelf.now) a b
    c.network_named.ensures.later c.in-Ok.ensures.net (trace_instead word net s before now a b c.in-Err-trace_named.ensures.cause)

pub returns-in-Err-clause-cause : goal.returns-in-Err-clause-cause
returns-in-Err-clause-cause g c =
    let word = c.args.net_word.now in
    let before = g.H.Shelf.faults c.args.shelf.now in
    let now = g.H.Shelf.faults c.network_named.new.shelf in
    let a = g.H.Shelf.tells c.args.shelf.now in
    let b = g.H.Shelf.tells c.network_named.new.shelf in
    first_instead (network_in word) (trace_in c.args.trace_word.now) c.in-Err.status before now a b
    (network_instead word c.in-Err.status before now a b c.in-Err.ensures.cause)

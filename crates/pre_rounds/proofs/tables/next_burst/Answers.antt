use Rattle.std.proofs.Common.{◌≡◌, ◌-◌, ◌<◌, Some, sym, ◌∙◌, ap, subst, arith, length}
use Rattle.std.proofs.lemmas.Bool.{ltb-true, ltb-false}
use Rattle.std.proofs.lemmas.Option.{slice_get-get_or, get_or_from_slice_get}
use Rattle.pre_base.specs.declared.numbers.ArcId.{ArcId}
use Rattle.std.specs.Prelude.{slice_get, List}
use Rattle.pre_streams.specs.declared.rows.Row.{Row}
use Rattle.pre_bound.specs.Good.{IsStream}
use Rattle.pre_rounds.specs.Tables.{bursts_in}
use Rattle.pre_rounds.proofs.Filling.{next_is}
use Rattle.pre_rounds.proofs.tables.next_burst.Goals as goal

pub returns-in-Some-clause-next : goal.returns-in-Some-clause-next
returns-in-Some-clause-next c = λ r is inside.
    let rows = c.args.rows.now in
    let row : Row = c.index-rows-stream.result in
    let same : row ≡ r = c.index-rows-stream.is ∙ get_or_from_slice_get rows c.args.stream r row is.row in
    let arcs = c.as_slice.result.now in
    let low = ltb-true (c.args.hop - 1) (length arcs) (sym c.in-Some.ensures.lookup.0) in
    let at : slice_get row.arcs (c.args.hop - 1) ≡ Some c.in-Some.arc.now =
    subst (λ (l : List ArcId). slice_get l (c.args.hop - 1) ≡ Some c.in-Some.arc.now) c.as_slice.ensures
    (slice_get-get_or arcs (c.args.hop - 1) c.in-Some.arc.now low ∙ ap Some (sym c.in-Some.ensures.lookup.1))
    in
    next_is c.args.net.now rows (bursts_in c.args.bursts.now) c.args.delays.now c.requires.routed c.requires.small c.requires.delays.same c.args.stream row (subst (λ x. IsStream rows c.args.stream x) (sym same) is)
    c.args.hop (omega (arith, c.if-hop-eq0.false)) (subst (λ x. c.args.hop < length x.arcs) (sym same) inside) c.in-Some.arc.now at
    c.burst_at.result c.delay_at.result c.grown_behind.result c.burst_at.ensures.burst c.delay_at.ensures.delay c.grown_behind.ensures.grown

pub returns-in-None-clause-next : goal.returns-in-None-clause-next
returns-in-None-clause-next c = λ r is inside.
    let rows = c.args.rows.now in
    let row : Row = c.index-rows-stream.result in
    let same : row ≡ r = c.index-rows-stream.is ∙ get_or_from_slice_get rows c.args.stream r row is.row in
    let past = ltb-false (c.args.hop - 1) (length c.as_slice.result.now) (sym c.in-None.ensures.lookup.0) in
    let long : length c.as_slice.result.now ≡ length r.arcs = ap length c.as_slice.ensures ∙ ap (λ (x : Row). length x.arcs) same in
    absurd (omega (arith, past, long, inside, c.if-hop-eq0.false))

use Rattle.pre_base.proofs.Pieces.{untouched, goes_on, breaks, ends}
use Rattle.pre_topo.specs.Text.{link_head, link_rest, link_text}
use Rattle.pre_topo.proofs.writing.put_link.Goals as goal

pub returns-in_err-put_link_head-clause-octets : goal.returns-in_err-put_link_head-clause-octets
unfolding link_text
returns-in_err-put_link_head-clause-octets g c =
    let whole = link_text c.args.nodes.now c.args.arc.now in
    breaks _ _ _ whole (link_head c.args.nodes.now c.args.arc.now) (link_rest c.args.arc.now) c.from_residual.result c.from_residual.ensures.0 (untouched _ whole) c.in_err-put_link_head.ensures.octets

pub returns-clause-octets : goal.returns-clause-octets
unfolding link_text
returns-clause-octets g c =
    let whole = link_text c.args.nodes.now c.args.arc.now in
    let before = g.S.Sink.tells c.args.sink.now in
    let middle = g.S.Sink.tells c.put_link_head.new.sink in
    let head = goes_on before before middle whole (link_head c.args.nodes.now c.args.arc.now) (link_rest c.args.arc.now) (untouched before whole) c.in_ok-put_link_head.ensures.octets in
    ends before middle (g.S.Sink.tells c.put_link_rest.new.sink) whole (link_rest c.args.arc.now) c.put_link_rest.result head c.put_link_rest.ensures.octets

use Rattle.std.proofs.Common.{◌++◌, rules}
use Rattle.pre_base.specs.Told.{WhereTold}
use Rattle.pre_base.specs.Sinks.{TakesAll}
use Rattle.pre_base.specs.Sinks.{TakesWhole, TakesFront}
use Rattle.pre_base.proofs.Pieces.{untouched, goes_on, breaks, ends}
use Rattle.pre_topo.specs.Text.{head_text, nodes_text, links_text}
use Rattle.pre_topo.specs.NetworkText.{network_text}
use Rattle.pre_topo.proofs.writing.put_network.Goals as goal

pub returns-in_err-put_head-clause-octets : goal.returns-in_err-put_head-clause-octets
returns-in_err-put_head-clause-octets g c =
    let net = c.args.net.now in
    breaks _ _ _ (network_text net) (head_text net.express_from net.timing) (nodes_text net.nodes ++ links_text net.nodes net.arcs) c.from_residual.result c.from_residual.ensures.0 (untouched _ (network_text net)) c.in_err-put_head.ensures.octets

pub returns-in_err-put_nodes-clause-octets : goal.returns-in_err-put_nodes-clause-octets
returns-in_err-put_nodes-clause-octets g c =
    let net = c.args.net.now in
    let before = g.S.Sink.tells c.args.sink.now in
    let whole = network_text net in
    let head = goes_on before before (g.S.Sink.tells c.put_head.new.sink) whole (head_text net.express_from net.timing) (nodes_text net.nodes ++ links_text net.nodes net.arcs) (untouched before whole) c.in_ok-put_head.ensures.octets in
    let nodes : WhereTold (g.S.Sink.tells c.put_head.new.sink) (g.S.Sink.tells c.put_nodes.new.sink) (TakesFront (nodes_text net.nodes)) = search rules in
    breaks _ _ _ whole (nodes_text net.nodes) (links_text net.nodes net.arcs) c.from_residual-in_err-put_nodes.result c.from_residual-in_err-put_nodes.ensures.0 head nodes

pub returns-clause-octets : goal.returns-clause-octets
returns-clause-octets g c =
    let net = c.args.net.now in
    let before = g.S.Sink.tells c.args.sink.now in
    let whole = network_text net in
    let head = goes_on before before (g.S.Sink.tells c.put_head.new.sink) whole (head_text net.express_from net.timing) (nodes_text net.nodes ++ links_text net.nodes net.arcs) (untouched before whole) c.in_ok-put_head.ensures.octets in
    let written : WhereTold (g.S.Sink.tells c.put_head.new.sink) (g.S.Sink.tells c.put_nodes.new.sink) (TakesWhole (nodes_text net.nodes)) = search rules in
    let nodes_done = goes_on before (g.S.Sink.tells c.put_head.new.sink) (g.S.Sink.tells c.put_nodes.new.sink) whole (nodes_text net.nodes) (links_text net.nodes net.arcs) head written in
    let links : WhereTold (g.S.Sink.tells c.put_nodes.new.sink) (g.S.Sink.tells c.put_links.new.sink) (TakesAll c.put_links.result (links_text net.nodes net.arcs)) = search rules in
    ends before (g.S.Sink.tells c.put_nodes.new.sink) (g.S.Sink.tells c.put_links.new.sink) whole (links_text net.nodes net.arcs) c.put_links.result nodes_done links

use Rattle.std.proofs.Common.{subst}
use Rattle.pre_base.specs.Told.{WhereTold}
use Rattle.pre_base.specs.Sinks.{TakesFront}
use Rattle.pre_topo.specs.declared.nodes.Node.{Node}
use Rattle.pre_topo.specs.Text.{node_text}
use Rattle.pre_base.proofs.Pieces.{piece_fails}
use Rattle.pre_topo.proofs.writing.put_nodes.Goals as goal

pub returns-in_err-put_node-clause-octets : goal.returns-in_err-put_node-clause-octets
returns-in_err-put_node-clause-octets g c =
    let before = g.S.Sink.tells c.loop-node.sink in
    let after = g.S.Sink.tells c.put_node.new.sink in
    piece_fails node_text c.args.nodes.now c.loop-node.node-index c.node-item.result _ before after c.from_residual.result c.loop-node-test.true c.from_residual.ensures.0 c.loop-node.invariant.taken
    (subst (λ (node : Node). WhereTold before after (TakesFront (node_text node))) c.node-item.is c.in_err-put_node.ensures.octets)

use Rattle.std.proofs.Common.{None, ◌∙◌, arith}
use Rattle.std.proofs.lemmas.List.{get_or-set_other, length-set}
use Rattle.pre_wheel.proofs.Games.{others_after}
use Rattle.pre_wheel.proofs.entries.renew.Goals as goal

pub loop-node-preserved : goal.loop-node-preserved
loop-node-preserved c =
    let nodes = c.loop-node.nodes in
    let node = c.loop-node.node in
    let won = c.earlier.result in
    let long = length-set nodes node won in
    record {
      inside = omega (arith, long, c.loop-node.invariant.inside);
      others = others_after nodes node won c.loop-node-test.true (omega (arith, c.loop-node.invariant.inside)) c.earlier.ensures c.loop-node.invariant.others;
      leaves = λ k h. get_or-set_other nodes node k won None (λ e. absurd (omega (arith, e, long, c.loop-node.invariant.inside))) ∙ c.loop-node.invariant.leaves k (omega (arith, long));
    }

use Rattle.std.proofs.Common.{sym, subst}
use Rattle.pre_topo.specs.Rules.{IsNetwork}
use Rattle.pre_topo.specs.Pair.{default_timing}
use Rattle.pre_bridge.proofs.Line.{line_nodes, line_fits}
use Rattle.pre_bridge.proofs.tests.line.Goals as goal

pub invariant_of-result : goal.invariant_of-result
invariant_of-result c = record {
  rules =
      subst (λ timing. IsNetwork 4 timing c.in_ok-nodes.field-0 c.in_ok-arcs.field-0) (sym c.timing.ensures)
      (subst (λ nodes. IsNetwork 4 default_timing nodes c.in_ok-arcs.field-0) (sym c.in_ok-nodes.ensures)
      (subst (λ arcs. IsNetwork 4 default_timing line_nodes arcs) (sym c.in_ok-arcs.ensures) line_fits));
}

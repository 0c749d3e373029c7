use Rattle.std.proofs.Common.{take}
use Rattle.pre_table.specs.TextSets.{IsSetOf}
use Rattle.pre_topo.specs.FileRules.{node_names}
use Rattle.pre_topo.proofs.checks.names_of.Given as goal

abbrev pub invariant-loop-node : goal.invariant-loop-node
invariant-loop-node l = IsSetOf l.names (node_names (take l.node-index l.nodes))

use Rattle.std.proofs.Common.{◌≡◌, ◌++◌}
use Rattle.pre_plant.specs.Lists.{list_of}
use Rattle.pre_plant.specs.Rows.{node_of, bridge_on_way}
use Rattle.pre_plant.proofs.routes.put_chain_nodes.Given as goal

abbrev pub invariant-loop-links : goal.invariant-loop-links
invariant-loop-links l = l.route ≡ l.fn.route ++ list_of l.links (λ k. node_of (bridge_on_way l.a l.b k))

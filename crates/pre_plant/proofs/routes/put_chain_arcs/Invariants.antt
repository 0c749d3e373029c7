use Rattle.std.proofs.Common.{◌≡◌, ◌++◌}
use Rattle.pre_plant.specs.Lists.{list_of}
use Rattle.pre_plant.specs.Rows.{arc_of, arc_on_way}
use Rattle.pre_plant.proofs.routes.put_chain_arcs.Given as goal

abbrev pub invariant-loop-links : goal.invariant-loop-links
invariant-loop-links l = l.arcs ≡ l.fn.arcs ++ list_of l.links (λ k. arc_of (arc_on_way l.a l.b k))

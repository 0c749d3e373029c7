-- Bounds of an arc's numbers, within which no sum over the arcs wraps.
use Rattle.std.specs.Prelude.{◌≤◌, ◌^◌}
use Rattle.pre_topo.specs.declared.arcs.Arc.{Arc}

pub record IsBounded (a : Arc) : Type 0 where
  pub least : 1 ≤ a.cost
  pub most : a.cost ≤ 1000
  pub delay : a.delay ≤ 10 ^ 9

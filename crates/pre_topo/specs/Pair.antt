-- The built-in network `pair`: two stations and the link between them, which preempts.
use Rattle.std.specs.Prelude.{ℕ, List, [], ◌∷◌, codes}
use Rattle.pre_topo.specs.declared.nodes.Node.{Node}
use Rattle.pre_topo.specs.declared.nodes.NodeKind.TheVariants.{Station}
use Rattle.pre_topo.specs.declared.nodes.Timing.{Timing}
use Rattle.pre_topo.specs.declared.arcs.Arc.{Arc}
use Rattle.pre_topo.specs.declared.arcs.Mode.TheVariants as mode
use Rattle.pre_topo.specs.declared.arcs.Policy.TheVariants.{Quiet}
use Rattle.pre_topo.specs.Arcs.{turned}

-- the times where a network file says none
abbrev pub default_timing : Timing
default_timing = record { interval = 30000000000; ttl = 120; unit = 1000000000; verify = 10000000 }

-- a station of this name
abbrev pub station : List ℕ → Node
station name = record { name = name; kind = Station; latency = 0 }

abbrev pub pair_nodes : List Node
pair_nodes = station (codes "a") ∷ station (codes "b") ∷ []

-- the arc from a to b: one tick an octet, no delay, rings of 64 frames, express from priority 4 on, preemptable frames up to 1522 octets
abbrev pub pair_arc : Arc
pair_arc = record {
  from = record { 0 = 0 };
  to = record { 0 = 1 };
  cost = 1;
  delay = 0;
  mode = mode.On;
  policy = Quiet;
  add_frag = 0;
  rings = 64 ∷ 64 ∷ 64 ∷ 64 ∷ 64 ∷ 64 ∷ 64 ∷ 64 ∷ [];
  express_from = 4;
  largest = 1522;
}

abbrev pub pair_arcs : List Arc
pair_arcs = pair_arc ∷ turned pair_arc ∷ []

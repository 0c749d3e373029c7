-- The network of every plant: a chain of 12 bridges, and 40 stations that are spread over them.
use Rattle.std.specs.Prelude.{◌≡◌, ℕ, ◌+◌, ◌%◌, List, [], ◌∷◌, ◌++◌, codes}
use Rattle.std.specs.Fmt.{decimal}
use Rattle.pre_topo.specs.declared.arcs.Arc.{Arc}
use Rattle.pre_topo.specs.declared.arcs.Mode.TheVariants.{Negotiate}
use Rattle.pre_topo.specs.declared.arcs.Policy.TheVariants.{Quiet}
use Rattle.pre_topo.specs.declared.network.Network.{Network}
use Rattle.pre_topo.specs.declared.nodes.Node.{Node}
use Rattle.pre_topo.specs.declared.nodes.NodeKind.TheVariants.{Station, Bridge}
use Rattle.pre_topo.specs.declared.nodes.Timing.{Timing}
use Rattle.pre_plant.specs.Lists.{list_of, joined_of}

abbrev pub plant_timing : Timing
plant_timing = record { interval = 1_000_000; ttl = 4; unit = 1_000_000; verify = 50_000 }

abbrev pub bridge : ℕ → Node
bridge i = record { name = codes "b" ++ decimal i; kind = Bridge; latency = 1000 }

abbrev pub station : ℕ → Node
station j = record { name = codes "s" ++ decimal j; kind = Station; latency = 0 }

-- the bridges b0 to b11, and then the stations s0 to s39
unfoldable pub plant_nodes : List Node
plant_nodes = list_of 12 bridge ++ list_of 40 station

-- the place of a station among the nodes; that of a bridge is its number
abbrev pub place_of_station : ℕ → ℕ
place_of_station j = 12 + j

-- the bridge that a station is linked to
abbrev pub bridge_of : ℕ → ℕ
bridge_of j = j % 12

-- an arc between the nodes of these places
abbrev pub arc_between : ℕ → ℕ → Arc
arc_between from to = record {
  from = record { 0 = from };
  to = record { 0 = to };
  cost = 8;
  delay = 40;
  mode = Negotiate;
  policy = Quiet;
  add_frag = 0;
  rings = 8 ∷ 8 ∷ 8 ∷ 8 ∷ 112 ∷ 112 ∷ 112 ∷ 112 ∷ [];
  express_from = 4;
  largest = 1522;
}

-- a link has an arc from its first end to its second, and one back
abbrev pub link_between : ℕ → ℕ → List Arc
link_between first second = arc_between first second ∷ arc_between second first ∷ []

-- the link from a bridge of the chain to the next one
abbrev pub chain_link : ℕ → List Arc
chain_link i = link_between i (i + 1)

-- the link from a station to its bridge
abbrev pub station_link : ℕ → List Arc
station_link j = link_between (place_of_station j) (bridge_of j)

-- the 11 links of the chain, and then those of the 40 stations
unfoldable pub plant_arcs : List Arc
plant_arcs = joined_of 11 chain_link ++ joined_of 40 station_link

pub record IsPlantNetwork (net : Network) : Type 0 where
  pub express_from : net.express_from ≡ 4
  pub timing : net.timing ≡ plant_timing
  pub nodes : net.nodes ≡ plant_nodes
  pub arcs : net.arcs ≡ plant_arcs

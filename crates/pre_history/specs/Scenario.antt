-- What a run is given: a network, streams and a script that fit each other.
use Rattle.std.specs.Prelude.{ℕ, List, [], slice_index, slice_index_or, slice_get, IsSome, Option, None}
use Rattle.std.specs.Option.{option_map_or}
use Rattle.pre_base.specs.declared.numbers.NodeId.{NodeId}
use Rattle.pre_topo.specs.declared.network.Network.{Network}
use Rattle.pre_topo.specs.declared.arcs.Arc.{Arc}
use Rattle.pre_topo.specs.declared.arcs.Mode.TheVariants as mode
use Rattle.pre_topo.specs.declared.arcs.Policy.TheVariants as policy
use Rattle.pre_topo.specs.Arcs.{latency_at}
use Rattle.pre_streams.specs.declared.rows.Row.{Row}
use Rattle.pre_streams.specs.declared.rows.Streams.{Streams}
use Rattle.pre_script.specs.declared.scripts.Script.{Script}
use Rattle.pre_script.specs.declared.scripts.SendLine.{SendLine}
use Rattle.pre_frame.specs.Layout.{frame_of}
use Rattle.pre_base.specs.Last.{last}

pub record Scenario : Type 0 where
  pub net : Network
  pub streams : Streams
  pub script : Script

-- what a number past the end of a list names: it is never asked for
abbrev pub no_arc : Arc
no_arc = record { from = record { 0 = 0 }; to = record { 0 = 0 }; cost = 0; delay = 0; mode = mode.Off; policy = policy.Quiet; add_frag = 0; rings = []; express_from = 0; largest = 0 }

abbrev pub no_row : Row
no_row = record { name = []; vid = 0; prio = 0; route = []; arcs = []; max = 0; curve = None }

abbrev pub no_send : SendLine
no_send = record { send = record { tick = record { 0 = 0 }; stream = record { 0 = 0 }; size = 0 }; line = 0 }

-- a node's number, and 0 where there is none
abbrev pub number_of_node : Option NodeId → ℕ
number_of_node node = option_map_or (λ n. n.0) node 0

module _ (w : Scenario) where
  -- the arc with this number
  abbrev pub arc : ℕ → Arc
  arc a = slice_index_or w.net.arcs a no_arc

  -- frame f is send f of the script
  abbrev pub send : ℕ → SendLine
  send f = slice_index_or w.script.sends f no_send

  -- the row of a frame
  abbrev pub row : ℕ → Row
  row f = slice_index_or w.streams.rows (send f).send.stream.0 no_row

  -- an express frame is one of a stream, that is of a row with a curve
  abbrev pub IsExpressFrame : ℕ → Type 0
  IsExpressFrame f = IsSome (row f).curve

  -- the latency of the arc's end
  abbrev pub latency : ℕ → ℕ
  latency a = latency_at w.net.nodes (arc a).to.0

  -- the capacity of the ring of that priority
  abbrev pub capacity : ℕ → ℕ → ℕ
  capacity a p = slice_index (arc a).rings p

  -- the first and the last node of a frame's route
  abbrev pub source : ℕ → ℕ
  source f = number_of_node (slice_get (row f).route 0)

  abbrev pub destination : ℕ → ℕ
  destination f = number_of_node (last (row f).route)

  -- the octets of a frame of the script: from its route's first node to its last one, with its number and the size of its send
  abbrev pub FrameOf : ℕ → List ℕ
  FrameOf f = frame_of (destination f) (source f) (row f).prio (row f).vid f (send f).send.size

-- The network that a text is, or its first fault.
use Rattle.std.specs.Prelude.{◌≡◌, ⊤, ℕ, List, [], ◌∷◌, Option, Some, None, Result, Ok, Err}
use Rattle.toml.specs.Data.{Members}
use Rattle.pre_base.specs.declared.numbers.FileRow.{FileRow}
use Rattle.pre_table.specs.Documents.{document_of}
use Rattle.pre_table.specs.Values.{natural}
use Rattle.pre_topo.specs.declared.arcs.Arc.{Arc}
use Rattle.pre_topo.specs.declared.faults.TopoFault.{TopoFault}
use Rattle.pre_topo.specs.declared.faults.TopoFault.TheVariants.{Toml, Field, Name, End, Range, Count, Slots, Wires, Memory}
use Rattle.pre_topo.specs.declared.network.Network.{Network}
use Rattle.pre_topo.specs.declared.nodes.Node.{Node}
use Rattle.pre_topo.specs.declared.nodes.Timing.{Timing}
use Rattle.pre_topo.specs.declared.raw.RawNetwork.{RawNetwork}
use Rattle.pre_topo.specs.Raw.{raw_of}
use Rattle.pre_table.specs.FirstFaults.{first_of}
use Rattle.pre_topo.specs.FileRules.{rows_fault, sums_fault}
use Rattle.pre_topo.specs.Made.{timing_made, nodes_made, arcs_made}

-- what a network consists of
pub record Parts : Type 0 where
  pub express_from : ℕ
  pub timing : Timing
  pub nodes : List Node
  pub arcs : List Arc

abbrev pub parts_of : Network → Parts
parts_of net = record { express_from = net.express_from; timing = net.timing; nodes = net.nodes; arcs = net.arcs }

abbrev pub parts_made : RawNetwork → Parts
parts_made raw = record { express_from = natural raw.express_from; timing = timing_made raw.timing; nodes = nodes_made raw.nodes; arcs = arcs_made raw.express_from raw.nodes raw.links }

-- the first fault of raw rows
abbrev pub raw_fault : RawNetwork → Option TopoFault
raw_fault raw = first_of (rows_fault raw ∷ sums_fault (nodes_made raw.nodes) (arcs_made raw.express_from raw.nodes raw.links) ∷ [])

abbrev pub unless_fault : Option TopoFault → Parts → Result Parts TopoFault
unless_fault None parts = Ok parts
unless_fault (Some fault) parts = Err fault

abbrev pub of_raw : RawNetwork → Result Parts TopoFault
of_raw raw = unless_fault (raw_fault raw) (parts_made raw)

abbrev pub of_rows : Result RawNetwork FileRow → Result Parts TopoFault
of_rows (Err row) = Err (Field row)
of_rows (Ok raw) = of_raw raw

abbrev pub of_document : Option Members → Result Parts TopoFault
of_document None = Err Toml
of_document (Some ms) = of_rows (raw_of ms)

-- the network of a text, or the first fault, by rule and then by row
abbrev pub network_of : List ℕ → Result Parts TopoFault
network_of text = of_document (document_of text)

-- want of memory alone may take the place of what is due
abbrev pub IsDue : {A : Type 0} → TopoFault → Result A TopoFault → Type 0
IsDue Memory due = ⊤
IsDue Toml due = due ≡ Err Toml
IsDue (Field row) due = due ≡ Err (Field row)
IsDue (Name row) due = due ≡ Err (Name row)
IsDue (End row) due = due ≡ Err (End row)
IsDue (Range row) due = due ≡ Err (Range row)
IsDue Count due = due ≡ Err Count
IsDue Slots due = due ≡ Err Slots
IsDue Wires due = due ≡ Err Wires

abbrev pub ReadsAs : Result Network TopoFault → Result Parts TopoFault → Type 0
ReadsAs (Ok net) due = due ≡ Ok (parts_of net)
ReadsAs (Err fault) due = IsDue fault due

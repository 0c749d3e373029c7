-- The rules of an arc, the arc of the other direction, and what an arc takes of memory.
use Rattle.std.specs.Prelude.{◌≡◌, ◌≢◌, ℕ, ◌+◌, ◌-◌, ◌*◌, ◌/◌, ◌%◌, ◌==◌, ◌<◌, ◌≤◌, ◌^◌, List, length, sum, slice_get, All, if◌then◌else◌}
use Rattle.std.specs.Option.{option_map_or}
use Rattle.pre_base.specs.declared.limits.TheConstants.{LEAST_FRAME, GREATEST_FRAME, GREATEST_PACKET}
use Rattle.pre_topo.specs.declared.nodes.Node.{Node}
use Rattle.pre_topo.specs.declared.arcs.Arc.{Arc}

-- an arc between two of the nodes, with each number in its range
pub record IsArc (nodes : List Node) (a : Arc) : Type 0 where
  pub from : a.from.0 < length nodes
  pub to : a.to.0 < length nodes
  pub apart : a.from.0 ≢ a.to.0
  pub cost : (1 ≤ a.cost) × (a.cost ≤ 1000)
  pub delay : a.delay ≤ 10 ^ 9
  pub add_frag : a.add_frag ≤ 3
  pub rings : All (λ r. (1 ≤ r) × (r ≤ 4096)) a.rings
  pub express_from : (1 ≤ a.express_from) × (a.express_from ≤ 7)
  pub largest : (LEAST_FRAME ≤ a.largest) × (a.largest ≤ GREATEST_FRAME)

-- the other arc of its link, where arcs 2i and 2i + 1 are the two of link i
abbrev pub reverse_of : ℕ → ℕ
reverse_of a = if a % 2 == 0 then a + 1 else a - 1

-- the same fields, the other way
abbrev pub turned : Arc → Arc
turned a = record a { from = a.to; to = a.from }

-- the two arcs don't lead from the same node to the same node
abbrev pub JoinsOther : Arc → Arc → Type 0
JoinsOther a b = a.from.0 ≡ b.from.0 → a.to.0 ≢ b.to.0

-- the latency of a node, and 0 where there is no such node
abbrev pub latency_at : List Node → ℕ → ℕ
latency_at nodes node = option_map_or (λ n. n.latency) (slice_get nodes node) 0

-- The frames that may be kept for an arc: in its rings, two at its sender, and in the relay of its end one and
-- those that arrive within its latency, each of 84 octets at least with preamble and gap.
abbrev pub slots_of_arc : List Node → Arc → ℕ
slots_of_arc nodes a = sum a.rings + 3 + latency_at nodes a.to.0 / (84 * a.cost)

-- the octets that may be on an arc's wire: those that leave within its delay, and a longest frame with its preamble
abbrev pub wires_of_arc : Arc → ℕ
wires_of_arc a = a.delay / a.cost + GREATEST_PACKET

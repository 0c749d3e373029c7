-- What a relay keeps for one arc.
use Rattle.std.specs.Prelude.{ℕ, ◌+◌, ◌*◌, ◌/◌, ◌≡◌, ◌≤◌, min, nat_le, Bool, false, List, [], slice_get, filter_map, Contains, All, Option, Some, None}
use Rattle.std.specs.Option.{option_map, option_map_or}
use Rattle.circular_buffer.specs.Buffer.{buffer}
use Rattle.pre_topo.specs.declared.nodes.Node.{Node}
use Rattle.pre_topo.specs.declared.arcs.Arc.{Arc}
use Rattle.pre_topo.specs.Arcs.{latency_at}
use Rattle.pre_bridge.specs.declared.ingresses.Ingress.{Ingress}
use Rattle.pre_bridge.specs.declared.ingresses.Waiting.{Waiting}

-- an arc by which nothing has arrived
abbrev pub ingress_of : List Node → Arc → Ingress
ingress_of nodes a = record {
  node = a.to;
  latency = latency_at nodes a.to.0;
  queue = buffer [] (latency_at nodes a.to.0 / (84 * a.cost) + 1);
}

-- the oldest one is due
abbrev pub is_due_at : ℕ → List Waiting → Bool
is_due_at t queue = option_map_or (λ w. nat_le w.due.0 t) (slice_get queue 0) false

-- when the oldest one is due
abbrev pub due_of : List Waiting → Option ℕ
due_of queue = option_map (λ w. w.due.0) (slice_get queue 0)

-- when the oldest ones are due
abbrev pub dues_of : List Ingress → List ℕ
dues_of ingresses = filter_map (λ ingress. due_of ingress.queue.items) ingresses

-- the lesser of two, where there are two
abbrev pub lesser : Option ℕ → Option ℕ → Option ℕ
lesser (Some a) (Some b) = Some (min a b)
lesser (Some a) None = Some a
lesser None other = other

-- It is the least of the ticks, or there are none.
abbrev pub IsLeastOf : List ℕ → Option ℕ → Type 0
IsLeastOf ticks None = ticks ≡ []
IsLeastOf ticks (Some t) = Contains ticks t × All (λ tick. t ≤ tick) ticks

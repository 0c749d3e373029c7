-- For which calls so far a relay stands.
use Rattle.std.specs.Prelude.{◌≡◌, ℕ, ◌+◌, ◌*◌, ◌/◌, ◌≤◌, nat_lt, Bool, false, List, [], length, map, slice_get, All, AllPairs, Some}
use Rattle.std.specs.List.{flat_map}
use Rattle.std.specs.Option.{option_map_or}
use Rattle.pre_topo.specs.declared.network.Network.{Network}
use Rattle.pre_topo.specs.declared.arcs.Arc.{Arc}
use Rattle.pre_topo.specs.Arcs.{latency_at}
use Rattle.pre_streams.specs.declared.rows.Streams.{Streams}
use Rattle.pre_bridge.specs.declared.ingresses.Ingress.{Ingress}
use Rattle.pre_bridge.specs.declared.ingresses.Waiting.{Waiting}
use Rattle.pre_bridge.specs.declared.relays.Relay.{Relay}
use Rattle.pre_bridge.specs.Table.{hops_of}
use Rattle.pre_bridge.specs.Inside.{Entry, Call, of_arc, inside, last_kept}

-- an entry as it waits in the queue of its arc
abbrev pub waiting : Entry → Waiting
waiting entry = record { due = record { 0 = entry.due }; next = entry.next; frame = entry.frame }

-- what waits that arrived by an arc
abbrev pub queue_at : List Ingress → ℕ → List Waiting
queue_at ingresses arc = option_map_or (λ ingress. ingress.queue.items) (slice_get ingresses arc) []

-- the place for an arc is as the network says
pub record IsIngress (net : Network) (a : Arc) (ingress : Ingress) : Type 0 where
  pub node : ingress.node ≡ a.to
  pub latency : ingress.latency ≡ latency_at net.nodes a.to.0
  pub capacity : ingress.queue.capacity ≡ latency_at net.nodes a.to.0 / (84 * a.cost) + 1

-- The oldest is due first, and none later than the latency after the last delivery; no more wait than may.
pub record IsInOrder (latest : ℕ) (ingress : Ingress) : Type 0 where
  pub ordered : AllPairs (λ v w. v.due.0 ≤ w.due.0) ingress.queue.items
  pub recent : All (λ w. w.due.0 ≤ latest + ingress.latency) ingress.queue.items
  pub within : length ingress.queue.items ≤ ingress.queue.capacity

pub record Stands (relay : Relay) (net : Network) (streams : Streams) (calls : List Call) : Type 0 where
  pub hops : relay.hops.items ≡ flat_map hops_of streams.rows
  pub count : length relay.ingresses.items ≡ length net.arcs
  pub each : (i : ℕ) (a : Arc) (ingress : Ingress) → slice_get net.arcs i ≡ Some a → slice_get relay.ingresses.items i ≡ Some ingress → IsIngress net a ingress
  pub order : (i : ℕ) (ingress : Ingress) → slice_get relay.ingresses.items i ≡ Some ingress → IsInOrder relay.latest.0 ingress
  pub latest : relay.latest.0 ≡ last_kept net streams calls
  pub queues : (i : ℕ) → map waiting (of_arc i (inside net streams calls)) ≡ queue_at relay.ingresses.items i

-- There is room for one more frame by an arc.
abbrev pub has_space : Relay → ℕ → Bool
has_space relay arc = option_map_or (λ ingress. nat_lt (length ingress.queue.items) ingress.queue.capacity) (slice_get relay.ingresses.items arc) false

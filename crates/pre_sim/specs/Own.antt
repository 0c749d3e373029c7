-- What a run holds at once, of slots and of octets on wires: what its network says, and never more.
use Rattle.std.specs.Prelude.{ℕ, ◌≡◌, ◌≤◌, length}
use Rattle.std.specs.List.{sum_by}
use Rattle.pre_topo.specs.declared.network.Network.{Network}
use Rattle.pre_topo.specs.Memory.{slots, wires}
use Rattle.pre_memory.specs.Slots.{slots_out}
use Rattle.pre_sim.specs.declared.lanes.Lane.{Lane}
use Rattle.pre_sim.specs.declared.ticks.Progress.{Progress}

-- how many octets the ring of a lane's wire takes, and how many are on it
abbrev pub ring_octets : Lane → ℕ
ring_octets l = l.incoming.wire.octets.capacity

abbrev pub wire_octets : Lane → ℕ
wire_octets l = length l.incoming.wire.octets.items

-- The store has as many slots as the network says, and the rings of the wires take as many octets together. No more slots are
-- out, and no more octets are on the wires.
pub record HoldsItsOwn (net : Network) (p : Progress) : Type 0 where
  pub store : length p.store ≡ slots net
  pub out : slots_out p.store ≤ slots net
  pub rings : sum_by ring_octets p.lanes.items ≡ wires net
  pub on_wires : sum_by wire_octets p.lanes.items ≤ wires net

-- What a lane is at first.
use Rattle.std.specs.Prelude.{ℕ, ◌≡◌, true, List, [], length, replicate, Some, slice_get, slice_index_or}
use Rattle.pre_topo.specs.declared.arcs.Arc.{Arc}
use Rattle.pre_topo.specs.declared.nodes.Timing.{Timing}
use Rattle.pre_topo.specs.declared.network.Network.{Network}
use Rattle.pre_script.specs.declared.scripts.Setting.TheVariants as setting
use Rattle.pre_send.specs.Owned.{frames_of}
use Rattle.pre_history.specs.Scenario.{Scenario, arc, no_arc}
use Rattle.pre_outgoing.specs.Sends.{Sends}
use Rattle.pre_incoming.specs.Wires.{Receives}
use Rattle.pre_links.specs.Listening.{Hears}
use Rattle.pre_links.specs.Standing.{LinkStands, IsReady}
use Rattle.pre_sim.specs.declared.lanes.Lane.{Lane}

-- Nothing is on the arc, nothing waits, and nothing was received.
pub record IsIdle (timing : Timing) (a : Arc) (lane : Lane) : Type 0 where
  pub eight : length a.rings ≡ 8
  pub rings : lane.rings ≡ record { frames = replicate 8 []; capacities = a.rings }
  pub outgoing : (w : Scenario) (i : ℕ) → (arc w i).cost ≡ a.cost → (arc w i).add_frag ≡ a.add_frag → Sends w [] i 0 true lane.outgoing
  pub sending : frames_of lane.outgoing.sender ≡ []
  pub incoming : (w : Scenario) (i : ℕ) → (arc w i).delay ≡ a.delay → (arc w i).cost ≡ a.cost → Receives w [] i lane.incoming
  pub partner : (w : Scenario) (i : ℕ) → w.net.timing.unit ≡ timing.unit → Hears w [] i lane.partner
  pub set : lane.setting ≡ setting.On
  pub link : (w : Scenario) (i : ℕ) → w.net.timing.verify ≡ timing.verify → LinkStands w [] i 0 lane.link
  pub ready : IsReady lane.link 0

-- There is such a lane for each arc.
pub record AreIdle (net : Network) (lanes : List Lane) : Type 0 where
  pub long : length lanes ≡ length net.arcs
  pub each : (a : ℕ) (lane : Lane) → slice_get lanes a ≡ Some lane → IsIdle net.timing (slice_index_or net.arcs a no_arc) lane

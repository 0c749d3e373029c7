use Rattle.std.proofs.Common.{ℕ, ◌≡◌, List, [], ◌∷◌, ◌++◌, ◌<◌, length, arith, sym, subst, Some}
use Rattle.std.specs.Prelude.{slice_get, slice_index_or}
use Rattle.std.proofs.lemmas.Option.{get_or_from_slice_get, slice_get-get_or}
use Rattle.pre_topo.specs.declared.arcs.Arc.{Arc}
use Rattle.pre_topo.specs.declared.nodes.Timing.{Timing}
use Rattle.pre_history.specs.Scenario.{no_arc}
use Rattle.pre_sim.specs.declared.lanes.Lane.{Lane}
use Rattle.pre_sim.specs.Lanes.{IsIdle}
use Rattle.pre_sim.proofs.lanes.idle_lanes.Goals as goal
use Rattle.pre_sim.proofs.Lists.{each_pushed}

-- an arc by its number, whatever is named past the end
idle_at : (timing : Timing) (arcs : List Arc) (i n : ℕ) (d : Arc) (lane : Lane) → i < length arcs → n ≡ i → IsIdle timing (slice_index_or arcs i d) lane
    → IsIdle timing (slice_index_or arcs n no_arc) lane
idle_at timing arcs i n d lane lt is idle =
    let one : slice_index_or arcs i d ≡ slice_index_or arcs i no_arc = sym (get_or_from_slice_get arcs i (slice_index_or arcs i d) no_arc (slice_get-get_or arcs i d lt)) in
    subst (λ k. IsIdle timing (slice_index_or arcs k no_arc) lane) (sym is) (subst (λ (x : Arc). IsIdle timing x lane) one idle)

pub loop-arc-preserved : goal.loop-arc-preserved
loop-arc-preserved c =
    let pushed : c.push.new.self.items ≡ c.loop-arc.lanes.items ++ c.in_ok-idle.field-0 ∷ [] = c.in_ok-push.ensures.items in
    record {
      long = omega (arith, c.in_ok-push.ensures.len);
      each = subst (λ (lanes : List Lane). (a : ℕ) (lane : Lane) → slice_get lanes a ≡ Some lane → IsIdle c.args.net.now.timing (slice_index_or c.as_slice-arcs.result.now a no_arc) lane) (sym pushed)
          (each_pushed (λ a lane. IsIdle c.args.net.now.timing (slice_index_or c.as_slice-arcs.result.now a no_arc) lane) c.loop-arc.lanes.items c.in_ok-idle.field-0 c.loop-arc.invariant.each
          (idle_at c.args.net.now.timing c.as_slice-arcs.result.now c.loop-arc.arc-index (length c.loop-arc.lanes.items) _ c.in_ok-idle.field-0 c.loop-arc-test.true
          (omega arith) c.in_ok-idle.ensures));
    }

-- so many, each idle
abbrev Idle : Timing → List Lane → List Arc → Type 0
Idle timing lanes arcs = (length lanes ≡ length arcs) × ((a : ℕ) (lane : Lane) → slice_get lanes a ≡ Some lane → IsIdle timing (slice_index_or arcs a no_arc) lane)

pub returns : goal.returns
returns c =
    let all = subst (Idle c.args.net.now.timing c.loop-arc.lanes.items) c.as_slice-arcs.ensures (omega arith, c.loop-arc.invariant.each) in
    record { long = all.0; each = all.1 }

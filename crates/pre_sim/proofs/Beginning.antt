-- At the beginning nothing is told, and all lanes are idle.
use Rattle.std.proofs.Common.{ℕ, Bool, zero, suc, ◌≡◌, ◌+◌, ◌*◌, ◌<◌, List, [], refl, sym, ap, arith, subst, length}
use Rattle.std.specs.Prelude.{◌≤◌, if◌then◌else◌, ◌∷◌, replicate, slice_index_or, map, take, drop}
use Rattle.std.specs.List.{AllByRecursion as Every}
use Rattle.pre_script.specs.declared.scripts.SetLine.{SetLine}
use Rattle.pre_rings.specs.declared.slots.FrameRef.{FrameRef}
use Rattle.pre_history.specs.Scenario.{Scenario, arc}
use Rattle.pre_history.specs.Moments.{moments}
use Rattle.pre_history.specs.Legal.{LegalBefore}
use Rattle.pre_bridge.specs.Relays.{Stands}
use Rattle.pre_sim.specs.declared.lanes.Lane.{Lane}
use Rattle.pre_sim.specs.Lanes.{IsIdle, AreIdle}
use Rattle.pre_sim.specs.Stages.{untouched}
use Rattle.pre_sim.specs.Stands.{AreRings, StillWaiting, LaneStands, Reaches, AreSentBefore, sends_turn}
use Rattle.pre_sim.specs.Keeps.{AreReady}
use Rattle.pre_sim.specs.Views.{SimView, HasTold}
use Rattle.pre_sim.proofs.NumberTests.{is_le}
use Rattle.pre_sim.proofs.StepParts.{has_told}

-- no ring of a lane at rest has a frame
none_at : (n p : ℕ) → slice_index_or {A = List FrameRef} (replicate n []) p [] ≡ []
none_at zero p = refl
none_at (suc n) zero = refl
none_at (suc n) (suc p) = none_at n p

idle_rings : (w : Scenario) (a : ℕ) (lane : Lane) → IsIdle w.net.timing (arc w a) lane → AreRings w [] a lane.rings
unfolding StillWaiting
idle_rings w a lane is = subst (AreRings w [] a) (sym is.rings) (record {
  numbers = λ p. ap (map (λ (f : FrameRef). f.frame.0)) (none_at 8 p);
  fits = λ p. omega arith;
  apart = λ p. tt;
})

always : {X : Type 0} (P : X → Type 0) (xs : List X) → ((x : X) → P x) → Every P xs
always P [] is = tt
always P (x ∷ xs) is = (is x, always P xs is)

-- at the beginning all lanes are idle
idle_stands : (w : Scenario) (a : ℕ) (lane : Lane) → IsIdle w.net.timing (arc w a) lane → LaneStands w [] a (untouched 0) lane []
idle_stands w a lane is = record {
  rings = idle_rings w a lane is;
  outgoing = is.outgoing w a refl refl;
  incoming = is.incoming w a refl refl;
  partner = is.partner w a refl;
  setting = is.set;
  link = λ negotiates. is.link w a refl;
  inside = record { gone = 0; few = omega arith; past = tt; later = tt; are = refl };
}

-- each link is ready at tick 0
pub idle_ready : (w : Scenario) (lanes : List Lane) → AreIdle w.net lanes → AreReady 0 lanes
idle_ready w lanes idle a lane at = (idle.each a lane at).ready

pub reaches_nothing : (s : SimView) → s.next ≡ 0 → s.progress.set ≡ 0 → s.progress.sent ≡ 0 → s.progress.delivered ≡ 0 → s.progress.dropped ≡ 0 → AreIdle s.run.net s.progress.lanes.items
    → Stands s.progress.relay s.run.net s.run.streams [] → Reaches s.run s.next 0 [] s.progress
reaches_nothing s next set sent delivered dropped idle stands =
    subst (λ n. Reaches s.run n 0 [] s.progress) (sym next) (record {
      legal = subst (LegalBefore s.run []) (sym (none (moments (length s.run.net.arcs)))) (refl, λ a i lt. absurd (omega (arith, lt)));
      calls = [];
      relay = stands;
      lanes = λ a lane at. idle_stands s.run a lane (idle.each a lane at);
      sets = record {
        within = omega (arith, set);
        past = subst (λ n. Every (λ l. l.tick.0 < 0) (take n s.run.script.sets)) (sym set) tt;
        later = always (λ (l : SetLine). 0 ≤ l.tick.0) (drop s.progress.set s.run.script.sets) (λ l. omega arith);
      };
      sends = subst (λ n. AreSentBefore s.run n s.progress.sent) (sym (sends_first (length s.run.net.arcs))) (record {
        within = omega (arith, sent);
        past = λ k lt. absurd (omega (arith, lt, sent));
        later = λ k from below. omega arith;
      });
      deliveries = delivered;
      drops = dropped;
    })
  where
    none : (m : ℕ) → 0 * m + 0 ≡ 0
    none m = omega arith

    sends_first : (arcs : ℕ) → sends_turn arcs 0 0 ≡ 0
    sends_first arcs = ap (λ (b : Bool). if b then 0 else 1) (is_le 0 (1 + 3 * arcs) (omega arith))

pub has_told_nothing : (s : SimView) → s.next ≡ 0 → s.progress.set ≡ 0 → s.progress.sent ≡ 0 → s.progress.delivered ≡ 0 → s.progress.dropped ≡ 0 → AreIdle s.run.net s.progress.lanes.items
    → Stands s.progress.relay s.run.net s.run.streams [] → HasTold s []
has_told_nothing s next set sent delivered dropped idle stands = has_told s [] (reaches_nothing s next set sent delivered dropped idle stands)

-- What waits for an arc when its starts come: what its rings hold.
use Rattle.std.proofs.Common.{ℕ, ◌≡◌, ◌≢◌, ◌+◌, ◌*◌, ◌<◌, ◌≤◌, List, [], ◌∷◌, length, refl, sym, ◌∙◌, ap, arith, subst, inl, inr}
use Rattle.std.proofs.Common.{map, Option, Some, None}
use Rattle.std.specs.Prelude.{IfSome, IfNone, is_some}
use Rattle.std.specs.Bool.{Decides}
use Rattle.std.proofs.lemmas.Bool.{false≢true}
use Rattle.pre_mpacket.specs.declared.packets.Kind.TheVariants as kind
use Rattle.pre_rings.specs.declared.slots.FrameRef.{FrameRef}
use Rattle.pre_rings.specs.Ports.{Port, frames_at}
use Rattle.pre_history.specs.Scenario.{Scenario, arc}
use Rattle.pre_history.specs.History.{Begin, History}
use Rattle.pre_history.specs.Selected.{RingEntry}
use Rattle.pre_history.specs.Queries.{Begins, Entries, Waiting}
use Rattle.pre_history.specs.Placed.{number}
use Rattle.pre_history.specs.Starts.{Choice, Item, There, ExpressWaits, IsFront, whole_frame}
use Rattle.pre_history.specs.Legal.{LegalUpTo}
use Rattle.pre_history.proofs.StartsDecided.{front_found}
use Rattle.pre_links.proofs.Early.{begun_early}
use Rattle.pre_outgoing.proofs.Stepping.{entered_by}
use Rattle.pre_sim.specs.Choices.{NoneWaits, LeavesFirst}
use Rattle.pre_sim.specs.Stands.{AreRings, ring_numbers}
use Rattle.pre_sim.proofs.Lists.{every_placed}
use Rattle.pre_sim.proofs.EntriesWaiting.{waits_still}

module _ (w : Scenario) (h : History) (t a : ℕ) (a_lt : a < length w.net.arcs) (legal : LegalUpTo w (number (length w.net.arcs) t (2 + 3 * length w.net.arcs + a)) h)
    (rings : Port) (are : AreRings w h a rings) where
  -- what waits at the tick is what the rings hold: all mPackets began before it, and all entries came by it
  waits : (p : ℕ) → Waiting h a p t ≡ ring_numbers rings p
  waits p =
      waits_still h a p t (every_placed (λ (b : Begin). b.tick < t) (Begins h a) (λ i b at. begun_early w t (2 + 3 * length w.net.arcs + a) h a legal (omega arith) i b at))
      (every_placed (λ (e : RingEntry). e.tick ≤ t) (Entries h a p) (λ i e at. entered_by w h t a a_lt legal p i e at))
      ∙ sym (are.numbers p)

  pub none_waits : (p : ℕ) → frames_at rings p ≡ [] → Waiting h a p t ≡ []
  none_waits p none = waits p ∙ ap (map (λ (f : FrameRef). f.frame.0)) none

  -- where the rings of some priorities are empty, none of them has a front frame
  pub no_front : (least greatest high f : ℕ) → high ≡ greatest + 1 → NoneWaits least greatest rings → ¬ IsFront w h a t least high f
  no_front least greatest high f is none (p, from, below, (behind, front), above) =
      let empty = none_waits p (none p from (omega (arith, below, is))) in cc (empty, front)

  -- the frame that leaves the rings is the front one
  pub front_of : (least greatest high : ℕ) (left : Port) (f : FrameRef) → high ≡ greatest + 1 → LeavesFirst least greatest rings left f → IsFront w h a t least high f.frame.0
  front_of least greatest high left f is leaves = (
    leaves.prio,
    leaves.from,
    omega (arith, leaves.most, is),
    (map (λ (g : FrameRef). g.frame.0) leaves.behind, waits leaves.prio ∙ ap (map (λ (g : FrameRef). g.frame.0)) leaves.front),
    λ q lt lt'. none_waits q (leaves.above q lt (omega (arith, lt', is))),
  )

  -- an express frame waits where a ring of an express priority has one
  express_waits : (p : ℕ) → (arc w a).express_from ≤ p → p ≤ 7 → 0 < length (frames_at rings p) → ExpressWaits w h a t
  express_waits p from most some = (p, from, omega (arith, most), some_there (frames_at rings p) (waits p) some)
    where
      some_there : (fs : List FrameRef) → Waiting h a p t ≡ map (λ (f : FrameRef). f.frame.0) fs → 0 < length fs → Waiting h a p t ≢ []
      some_there [] is some none = omega (arith, some)
      some_there (f ∷ fs) is some none = cc (is, none)

  -- and else none does
  no_express : NoneWaits (arc w a).express_from 7 rings → ¬ ExpressWaits w h a t
  no_express none (p, from, below, some) = some (none_waits p (none p from (omega (arith, below))))

  -- so the highest ring of an express priority with a frame decides it
  pub express_decided : (from : ℕ) → (arc w a).express_from ≡ from → (o : Option ℕ) → IfSome o (λ p. (from ≤ p) × (p ≤ 7)) → IfSome o (λ p. 0 < length (frames_at rings p))
      → IfNone o (NoneWaits from 7 rings) → Decides (is_some o) (ExpressWaits w h a t)
  express_decided from is (Some p) within some none = ((λ passes. express_waits p (omega (arith, is, within.0)) within.1 some), λ waits. refl)
  express_decided from is None within some none =
      ((λ passes. absurd (false≢true passes)), λ waits. absurd (no_express (subst (λ n. NoneWaits n 7 rings) (sym is) none) waits))

-- where none is in front, no express frame waits
pub none_in_front : (w : Scenario) (h : History) (a t : ℕ) → ((c : Choice) → ¬ There w h a t Item.express c) → ¬ ExpressWaits w h a t
none_in_front w h a t none (p, from, below, some) = elim (front_found w h a t (arc w a).express_from 8) [
  | inr empty ↦ some (empty p from below)
  | inl (f, front) ↦ none (whole_frame f kind.Express) (f, front, refl)
]

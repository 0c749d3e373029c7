-- A spared frame is received where its last mPacket arrives, if none that began on the arc since its first one is damaged.
use Rattle.std.proofs.Common.{ℕ, ◌≡◌, ◌+◌, ◌<◌, Bool, true, false, length, refl, Some}
use Rattle.std.specs.Prelude.{slice_get}
use Rattle.pre_base.specs.declared.numbers.FrameNo.{FrameNo}
use Rattle.pre_mpacket.specs.Arrivals.{Given, Gives, is_fragment}
use Rattle.pre_history.specs.declared.events.What.TheVariants as what
use Rattle.pre_history.specs.Scenario.{Scenario, FrameOf}
use Rattle.pre_history.specs.History.{History, Begin, Ended}
use Rattle.pre_history.specs.Queries.{Begins, Ends}
use Rattle.pre_history.specs.Octets.{Air}
use Rattle.pre_history.specs.Legal.{LegalUpTo, Spared}
use Rattle.pre_laws.specs.Routed.{IsRouted}
use Rattle.pre_laws.specs.Parts.{AreUndamaged}
use Rattle.pre_laws.proofs.FirstOctets.{whole_from}
use Rattle.pre_laws.proofs.Spared.{own_kept, gives}
use Rattle.pre_laws.proofs.Reassembled.{reassembled}

pub spared_gives : (w : Scenario) → IsRouted w → (n : ℕ) (h : History) → LegalUpTo w n h → (a : ℕ) → a < length w.net.arcs → (f : FrameNo) → Spared w h f.0
    → (s i : ℕ) (c b : Begin) (e : Ended) → slice_get (Begins h a) s ≡ Some c → c.what ≡ what.Frame f → c.from ≡ 0
    → slice_get (Begins h a) i ≡ Some b → slice_get (Ends h a) i ≡ Some e → b.what ≡ what.Frame f → b.from + e.size ≡ length (FrameOf w f.0)
    → AreUndamaged w h a s i → Gives (Air w h a) i (Given.frame (FrameOf w f.0))
spared_gives w routed n h legal a a_lt f spared s i c b e at_c carries_c from_c at over carries full whole = go (is_fragment b.kind) refl
  where
    go : (x : Bool) → is_fragment b.kind ≡ x → Gives (Air w h a) i (Given.frame (FrameOf w f.0))
    go false off = gives w routed n h legal a a_lt i b e f at over (whole_from w routed n h legal a a_lt i b f (at, carries) off).1 carries spared
    go true on = reassembled w routed n h legal a a_lt i e over s f (λ k d at_d on_d carries_d. own_kept w h a f spared k d at_d carries_d) whole b at on carries full c at_c carries_c from_c

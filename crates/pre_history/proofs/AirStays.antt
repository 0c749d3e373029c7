-- Events at later moments leave what an mPacket that began carries as it is, and what comes of one that ended.
use Rattle.std.proofs.Common.{ℕ, ◌≡◌, ◌==◌, ◌&&◌, ◌+◌, ◌*◌, ◌<◌, ◌≤◌, Bool, List, ◌++◌, length, refl, sym, ◌∙◌, ap, inl, inr, arith, subst, Some, None}
use Rattle.std.specs.Prelude.{◌↔◌, if◌then◌else◌, slice_get}
use Rattle.std.proofs.lemmas.List.Elements.{filter_map-append}
use Rattle.pre_mpacket.specs.Arrivals.{Given, Gives, IsLost}
use Rattle.pre_history.specs.declared.events.Outcome.{Outcome}
use Rattle.pre_history.specs.Scenario.{Scenario}
use Rattle.pre_history.specs.Moments.{moments}
use Rattle.pre_history.specs.History.{PlainEvent, History, Begin}
use Rattle.pre_history.specs.Selected.{active_on, begin_on}
use Rattle.pre_history.specs.Queries.{Begins, Ends, packet, end_of}
use Rattle.pre_history.specs.Octets.{ToldActive, WholeOf, Arrived, Air}
use Rattle.pre_history.specs.ArrivalResults.{Result}
use Rattle.pre_history.specs.Placed.{number, IsAt}
use Rattle.pre_history.specs.Legal.{LegalUpTo}
use Rattle.pre_history.proofs.Lists.{at_front, every_at, every_weaker, there, within}
use Rattle.pre_history.proofs.Placing.{placed}
use Rattle.pre_history.proofs.Free.{begins_before, first_numbered}
use Rattle.pre_history.proofs.Stays.{told_same, whole_told}
use Rattle.pre_history.proofs.Undamaged.{air_at}
use Rattle.pre_history.proofs.InOrder.{steady}
use Rattle.pre_history.proofs.Unread.{gives_like, arrives_like}
use Rattle.pre_history.specs.Placed.{IsWithin, AllWithin}
use Rattle.pre_history.proofs.Places.{later_tick}
use Rattle.pre_history.proofs.Known.{gives_later}
use Rattle.pre_history.proofs.NatTests.{and_false, not_by}

-- an event that stands after a start tells nothing of activity up to its tick
untold : (arcs a s m k : ℕ) → number arcs s (2 + 3 * arcs + a) < m → m ≤ k → (e : PlainEvent) → IsAt arcs k e → active_on a s e ≡ None
untold arcs a s m k began le (PlainEvent.active u b v) (lt, at) =
    let late : s < u = later_tick (moments arcs) s u (1 + 2 * arcs + b) (2 + 3 * arcs + a) (omega (arith, lt)) (omega (arith, began, le, at)) in
    ap (λ (x : Bool). if x then Some v else None) (ap (λ x. (b == a) && x) (not_by u s late) ∙ and_false (b == a))
untold arcs a s m k began le (PlainEvent.set u b v) at = refl
untold arcs a s m k began le (PlainEvent.begin b) at = refl
untold arcs a s m k began le (PlainEvent.ended e) at = refl
untold arcs a s m k began le (PlainEvent.arrive x) at = refl
untold arcs a s m k began le (PlainEvent.deliver d) at = refl
untold arcs a s m k began le (PlainEvent.enter e) at = refl
untold arcs a s m k began le (PlainEvent.dropped e) at = refl
untold arcs a s m k began le (PlainEvent.count b c) at = refl
untold arcs a s m k began le (PlainEvent.end e) at = refl

module _ (w : Scenario) (m n : ℕ) (h es : History) (legal : LegalUpTo w m h) (later : AllWithin (length w.net.arcs) m n es) (a : ℕ) (a_lt : a < length w.net.arcs) where
  pub begun_by : (i : ℕ) (b : Begin) → slice_get (Begins h a) i ≡ Some b → (b.arc ≡ a) × (number (length w.net.arcs) b.tick (2 + 3 * length w.net.arcs + a) < m)
  begun_by i b at =
      every_at (λ (b : Begin). (b.arc ≡ a) × (number (length w.net.arcs) b.tick (2 + 3 * length w.net.arcs + a) < m)) (Begins h a) i b (begins_before (length w.net.arcs) m a h (placed w m h legal)) at

  pub told_stays : (i : ℕ) (b : Begin) → slice_get (Begins h a) i ≡ Some b → ToldActive w (h ++ es) b.arc b.tick ≡ ToldActive w h b.arc b.tick
  told_stays i b at =
      let on = begun_by i b at in
      told_same w h es b.arc b.tick (every_weaker (IsWithin (length w.net.arcs) m n) (λ e. active_on b.arc b.tick e ≡ None)
      (λ e here. untold (length w.net.arcs) b.arc b.tick m here.0 (subst (λ x. number (length w.net.arcs) b.tick (2 + 3 * length w.net.arcs + x) < m) (sym on.0) on.1) here.1 e here.3) es later)

  -- what an mPacket that began carries
  pub whole_stays : (i : ℕ) (b : Begin) → slice_get (Begins h a) i ≡ Some b → WholeOf w (h ++ es) b ≡ WholeOf w h b
  whole_stays i b at = whole_told w h es b (told_stays i b at)

  -- what comes of one that ended
  pub air_stays : (k : ℕ) → k < length (Ends h a) → (b : Begin) × (slice_get (Air w h a) k ≡ Some (Arrived w h (packet h a b))) × (slice_get (Air w (h ++ es) a) k ≡ slice_get (Air w h a) k)
  air_stays k lt =
      let o = (steady w m h a a_lt legal).ordered in
      let e = there (Ends h a) k lt in
      let b = there (Begins h a) k (omega (arith, lt, o.ends_begun)) in
      let ord : b.0.ord ≡ k = o.begin_places k b.0 b.1 in
      let ended : end_of h a b.0.ord ≡ Some e.0 = first_numbered (Ends h a) 0 k b.0.ord (omega (arith, ord)) (λ j d here. let is : d.ord ≡ j = o.end_places j d here in omega (arith, is)) ∙ e.1 in
      let old = air_at w h a k b.0 b.1 in
      let here : slice_get (Begins (h ++ es) a) k ≡ Some b.0 = ap (λ (xs : List Begin). slice_get xs k) (filter_map-append (begin_on a) h es) ∙ at_front (Begins h a) (Begins es a) k b.0 b.1 in
      (b.0, old, air_at w (h ++ es) a k b.0 here ∙ (ap Some (arrives_like w h es a b.0 e.0 ended (told_stays k b.0 b.1)) ∙ sym old))

  module _ (i : ℕ) (lt : i < length (Ends h a)) where
    pub gives_stays : (g : Given) → Gives (Air w (h ++ es) a) i g ↔ Gives (Air w h a) i g
    gives_stays g =
        let y = air_stays i lt in
        let old = within (Air w h a) i (Arrived w h (packet h a y.0)) y.1 in
        let new = within (Air w (h ++ es) a) i (Arrived w h (packet h a y.0)) (y.2 ∙ y.1) in (
          gives_like gives_later (Air w (h ++ es) a) (Air w h a) i g new old (λ k le. (air_stays k (omega (arith, le, lt))).2),
          gives_like gives_later (Air w h a) (Air w (h ++ es) a) i g old new (λ k le. sym (air_stays k (omega (arith, le, lt))).2),
        )

    pub lost_stays : IsLost (Air w (h ++ es) a) i ↔ IsLost (Air w h a) i
    lost_stays = let y = air_stays i lt in ((λ lost. sym y.2 ∙ lost), (λ lost. y.2 ∙ lost))

    pub result_stays : (r : Outcome) → Result (Air w (h ++ es) a) i r ↔ Result (Air w h a) i r
    result_stays r = (from, to)
      where
        from : Result (Air w (h ++ es) a) i r → Result (Air w h a) i r
        from (inl (lost, is)) = inl (lost_stays.0 lost, is)
        from (inr (inl (g, gives, is))) = inr (inl (g, (gives_stays g).0 gives, is))
        from (inr (inr (here, none, is))) = inr (inr ((λ lost. here (lost_stays.1 lost)), (λ g gives. none g ((gives_stays g).1 gives)), is))

        to : Result (Air w h a) i r → Result (Air w (h ++ es) a) i r
        to (inl (lost, is)) = inl (lost_stays.1 lost, is)
        to (inr (inl (g, gives, is))) = inr (inl (g, (gives_stays g).1 gives, is))
        to (inr (inr (here, none, is))) = inr (inr ((λ lost. here (lost_stays.0 lost)), (λ g gives. none g ((gives_stays g).0 gives)), is))

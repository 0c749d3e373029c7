-- One frame comes to its ring: from what becomes of it there to what the rings of all arcs hold.
use Rattle.std.proofs.Common.{ℕ, ◌≡◌, ◌≢◌, ◌<◌, ◌≤◌, Bool, true, false, List, [], ◌∷◌, ◌++◌, length, refl, sym, ◌∙◌, ap, inl, inr, arith, subst, Some, count_by}
use Rattle.std.specs.Prelude.{slice_get, slice_index, set}
use Rattle.std.proofs.lemmas.Bool.{cases_eq}
use Rattle.std.proofs.lemmas.List.{length-map}
use Rattle.pre_rings.specs.declared.slots.FrameRef.{FrameRef}
use Rattle.pre_rings.specs.Ports.{Port, frames_at, capacity_at, with_frames}
use Rattle.pre_history.specs.Scenario.{Scenario, row, capacity}
use Rattle.pre_history.specs.History.{PlainEvent, History, Entry}
use Rattle.pre_history.specs.Selected.{is_dropped}
use Rattle.pre_history.specs.Queries.{Deliveries, Waiting}
use Rattle.pre_history.specs.Comings.{Coming, entry_event}
use Rattle.pre_sim.specs.declared.lanes.Lane.{Lane}
use Rattle.pre_sim.specs.Keeps.{Store, IsFrameOf, GoesOver, LaneKeeps}
use Rattle.pre_sim.specs.Stands.{AreRings, RingsStand, StillWaiting}
use Rattle.pre_sim.specs.Parts.{RingTells, RingFront, ComePart}
use Rattle.pre_sim.specs.Sends.{BeforeEntries, IsNew, SameButRings, AreSameButRings, Come, ComesFront, KeepsCome, comes_to, drops_of}
use Rattle.pre_sim.proofs.EntriesWaiting.{waits_still, enters, drops, with_room, rings_entered, rings_elsewhere, rings_dropped, early_entered, early_dropped}
use Rattle.pre_sim.proofs.Keeping.{keep_entered, keep_dropped}
use Rattle.pre_sim.proofs.Lists.{set_found, set_elsewhere}

module _ (w : Scenario) (t a : ℕ) (f : FrameRef) (store : Store) (old : List Lane) (lane : Lane) (here : slice_get old a ≡ Some lane) (right : IsFrameOf w store f)
    (lane_keeps : LaneKeeps w store a lane) where
  abbrev entry : Entry
  entry = record { tick = t; arc = a; prio = f.prio; frame = f.frame.0 }

  abbrev coming : Coming
  coming = comes_to a f

  most : (p : ℕ) → capacity w a p ≡ capacity_at lane.rings p
  most p = ap (λ cs. slice_index cs p) (sym lane_keeps.capacities)

  module _ (h : History) (stand : RingsStand w h old) (early : BeforeEntries t h) where
    as_many : (p : ℕ) → length (frames_at lane.rings p) ≡ length (StillWaiting h a p)
    as_many p = sym (length-map (frames_at lane.rings p) (λ (g : FrameRef). g.frame.0)) ∙ ap length ((stand a lane here).numbers p)

    many : length (Waiting h a (row w f.frame.0).prio t) ≡ length (frames_at lane.rings f.prio)
    many =
        ap length (waits_still h a (row w f.frame.0).prio t (early.begins a) (early.entries a (row w f.frame.0).prio))
        ∙ (sym (as_many (row w f.frame.0).prio) ∙ ap (λ p. length (frames_at lane.rings p)) (sym right.prio))

    size : capacity w a (row w f.frame.0).prio ≡ capacity_at lane.rings f.prio
    size = ap (capacity w a) (sym right.prio) ∙ most f.prio

    enters_so : length (frames_at lane.rings f.prio) < capacity_at lane.rings f.prio → entry_event w t h coming ≡ PlainEvent.enter entry
    enters_so room = enters w t h coming (omega (arith, many, size, room)) ∙ ap (λ p. PlainEvent.enter (record { tick = t; arc = a; prio = p; frame = f.frame.0 })) (sym right.prio)

    drops_so : capacity_at lane.rings f.prio ≤ length (frames_at lane.rings f.prio) → entry_event w t h coming ≡ PlainEvent.dropped entry
    drops_so full =
        let fits = (stand a lane here).fits f.prio in
        drops w t h coming (omega (arith, many, size, full, fits, as_many f.prio, most f.prio))
        ∙ ap (λ p. PlainEvent.dropped (record { tick = t; arc = a; prio = p; frame = f.frame.0 })) (sym right.prio)

    -- with the lane that the frame came to
    all_stand : (g : History) (new : Lane) → AreRings w g a new.rings → ((b : ℕ) (l : Lane) → b ≢ a → AreRings w h b l.rings → AreRings w g b l.rings) → RingsStand w g (set old a new)
    all_stand g new is others b l at = elim (cases_eq b a) [
      | inl same ↦
          subst (λ (x : Lane). AreRings w g b x.rings) (set_found old a new l (subst (λ m. slice_get (set old a new) m ≡ Some l) same at)) (subst (λ m. AreRings w g m new.rings) (sym same) is)
      | inr other ↦ others b l other (stand b l (sym (set_elsewhere old a b new other) ∙ at))
    ]

    entered_stands : IsNew w h coming → length (frames_at lane.rings f.prio) < capacity_at lane.rings f.prio
        → AreRings w (h ++ PlainEvent.enter entry ∷ []) a (with_frames lane.rings f.prio (frames_at lane.rings f.prio ++ f ∷ []))
    entered_stands new room =
        let below = with_room lane.rings f.prio (length (frames_at lane.rings f.prio)) lane_keeps.eight room in
        rings_entered w h t a lane.rings f (omega (arith, below, lane_keeps.eight.0)) (omega (arith, as_many f.prio, most f.prio, room)) new.unbegun new.uncome (stand a lane here)

  -- what the event does
  come : (store' : Store) (new : Lane) (entered : Bool) (es : History) → RingTells t a f store store' lane.rings new.rings entered es → Come w t (coming ∷ []) old (set old a new) es
  come store' new true es (room, rings, stored, told) h news stand early =
      subst (λ (gs : History). (gs ≡ entry_event w t h coming ∷ []) × RingsStand w (h ++ gs) (set old a new) × BeforeEntries t (h ++ gs)) (sym told) (
        ap (λ e. e ∷ []) (sym (enters_so h stand early room)),
        all_stand h stand early (h ++ PlainEvent.enter entry ∷ []) new
            (subst (AreRings w (h ++ PlainEvent.enter entry ∷ []) a) (sym rings) (entered_stands h stand early news.0 room))
            (λ b l other is. rings_elsewhere w h b l.rings entry (λ e. other (sym e)) is),
        early_entered t h entry (omega arith) early,
      )
  come store' new false es (full, rings, stored, told) h news stand early =
      subst (λ (gs : History). (gs ≡ entry_event w t h coming ∷ []) × RingsStand w (h ++ gs) (set old a new) × BeforeEntries t (h ++ gs)) (sym told) (
        ap (λ e. e ∷ []) (sym (drops_so h stand early full)),
        all_stand h stand early (h ++ PlainEvent.dropped entry ∷ []) new
            (subst (AreRings w (h ++ PlainEvent.dropped entry ∷ []) a) (sym rings) (rings_dropped w h a lane.rings entry (stand a lane here)))
            (λ b l other is. rings_dropped w h b l.rings entry is),
        early_dropped t h entry (omega arith) early,
      )

  delivers_none : (store' : Store) (new : Port) (entered : Bool) (es : History) → RingTells t a f store store' lane.rings new entered es → length (Deliveries es) ≡ 0
  delivers_none store' new true es p = ap (λ gs. length (Deliveries gs)) p.3
  delivers_none store' new false es p = ap (λ gs. length (Deliveries gs)) p.3

  drops_so_many : (store' : Store) (new : Port) (entered : Bool) (es : History) → RingTells t a f store store' lane.rings new entered es → drops_of entered ≡ count_by is_dropped es
  drops_so_many store' new true es p = sym (ap (count_by is_dropped) p.3)
  drops_so_many store' new false es p = sym (ap (count_by is_dropped) p.3)

  told_so : (store' : Store) (new : Port) (entered : Bool) (es : History) → RingTells t a f store store' lane.rings new entered es → (h : History) → RingsStand w h old → BeforeEntries t h
      → es ≡ entry_event w t h coming ∷ []
  told_so store' new true es (room, rings, stored, told) h stand early = told ∙ ap (λ e. e ∷ []) (sym (enters_so h stand early room))
  told_so store' new false es (full, rings, stored, told) h stand early = told ∙ ap (λ e. e ∷ []) (sym (drops_so h stand early full))

  -- no other lane changes
  same_others : (new : Lane) → SameButRings lane new → AreSameButRings old (set old a new)
  same_others new same b l at = elim (cases_eq b a) [
    | inl is ↦ (
      lane,
      subst (λ m. slice_get old m ≡ Some lane) (sym is) here,
      subst (SameButRings lane) (set_found old a new l (subst (λ m. slice_get (set old a new) m ≡ Some l) is at)) same,
    )
    | inr other ↦ (l, sym (set_elsewhere old a b new other) ∙ at, record { outgoing = refl; incoming = refl; partner = refl; setting = refl; link = refl })
  ]

  keeps_so : GoesOver w f.frame a → (store' : Store) (new : Lane) (entered : Bool) (es : History) → SameButRings lane new → RingTells t a f store store' lane.rings new.rings entered es
      → KeepsCome w store store' old (set old a new) f
  keeps_so over store' new true es same (room, rings, stored, told) =
      let below = with_room lane.rings f.prio (length (frames_at lane.rings f.prio)) lane_keeps.eight room in
      subst (λ (s : Store). KeepsCome w store s old (set old a new) f) (sym stored) (keep_entered w a f store old lane new here over below room rings same.outgoing)
  keeps_so over store' new false es same (full, rings, stored, told) =
      subst (λ (s : Store). KeepsCome w store s old (set old a new) f) (sym stored) (keep_dropped w a f store old lane new here rings same.outgoing)

  pub come_part : GoesOver w f.frame a → (store' : Store) (new : Lane) (entered : Bool) (es : History) → SameButRings lane new → RingTells t a f store store' lane.rings new.rings entered es
      → ComePart w t a f store store' old (set old a new) entered es
  come_part over store' new entered es same told = record {
    comes = record {
      deliveries = delivers_none store' new.rings entered es told;
      drops = drops_so_many store' new.rings entered es told;
      others = same_others new same;
      come = come store' new entered es told;
    };
    keeps = keeps_so over store' new entered es same told;
  }

  pub come_front : (es : History) → RingFront t a f store lane.rings es → ComesFront w t (coming ∷ []) old es
  come_front es (store', new, entered, told) h news stand early = (coming ∷ [], [], refl, told_so store' new entered es told h stand early)

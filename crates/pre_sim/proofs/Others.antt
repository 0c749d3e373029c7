-- What the events of a phase leave as it is: the lanes of the arcs that it isn't of.
use Rattle.std.proofs.Common.{ℕ, zero, suc, ◌≡◌, ◌≢◌, ◌==◌, ◌+◌, ◌*◌, ◌<◌, ◌≤◌, Bool, true, false, List, [], ◌++◌, length, refl, sym, ◌∙◌, ap, arith}
use Rattle.std.proofs.Common.{subst, Some, None, map, filter}
use Rattle.std.specs.Prelude.{◌&&◌, nat_le, not, if◌then◌else◌}
use Rattle.std.specs.List.{list_any}
use Rattle.std.proofs.lemmas.List.{append-nil}
use Rattle.std.proofs.lemmas.List.Elements.{filter_map-append}
use Rattle.pre_history.specs.Scenario.{Scenario, capacity}
use Rattle.pre_history.specs.History.{PlainEvent, Begin, History}
use Rattle.pre_history.specs.Moments.{Phase, moments, place_of}
use Rattle.pre_history.specs.Placed.{AllAt, AllWithin, HasPlace, IsAt, IsWithin, number, moment_of}
use Rattle.pre_history.specs.Selected.{RingEntry, what_is, active_on, entry_on}
use Rattle.pre_history.specs.Queries.{Begins, Ends, Arrivals, Entries}
use Rattle.pre_history.specs.Octets.{ToldActive}
use Rattle.pre_history.specs.Rules.{HappensIn}
use Rattle.pre_history.specs.Legal.{LegalUpTo}
use Rattle.pre_history.proofs.Placing.{phase_events, same_place}
use Rattle.pre_history.proofs.Stays.{told_same}
use Rattle.pre_history.proofs.Turns.{same_begins, same_ends, same_arrivals}
use Rattle.pre_bridge.specs.Inside.{Entry}
use Rattle.pre_links.specs.Standing.{AreOver}
use Rattle.pre_links.proofs.Phases.{place_within, still_hears, still_stands}
use Rattle.pre_outgoing.proofs.Keeping.{other_events}
use Rattle.pre_incoming.proofs.OnAir.{others_stay}
use Rattle.pre_sim.specs.declared.lanes.Lane.{Lane}
use Rattle.pre_sim.specs.Stages.{Stage, untouched, set_up, settled, entered, setting_at, turn_at, is_calm, tick_at, link_turn}
use Rattle.pre_sim.specs.Stands.{has_begun, StillWaiting, AreApart, AreRings, AreInside, LaneStands}
use Rattle.pre_sim.proofs.Lists.{every_weaker, none_selected}
use Rattle.pre_sim.proofs.NumberTests.{same_number}

-- ---- what waits is read off the begins and the entries

pub still_same : (h es : History) (a p : ℕ) → Begins (h ++ es) a ≡ Begins h a → Entries (h ++ es) a p ≡ Entries h a p → StillWaiting (h ++ es) a p ≡ StillWaiting h a p
unfolding StillWaiting
still_same h es a p begins entries =
    ap (λ (bs : List Begin). map (λ (e : RingEntry). e.frame) (filter (λ (e : RingEntry). e.entered && not (list_any (λ (b : Begin). what_is b.what e.frame && (b.from == 0)) bs))
    (Entries (h ++ es) a p))) begins
    ∙ ap (λ (xs : List RingEntry). map (λ (e : RingEntry). e.frame) (filter (λ (e : RingEntry). e.entered && not (has_begun h a e.frame)) xs)) entries

pub same_rings : (w : Scenario) (h es : History) (a : ℕ) (lane : Lane) → Begins (h ++ es) a ≡ Begins h a → ((p : ℕ) → Entries (h ++ es) a p ≡ Entries h a p)
    → AreRings w h a lane.rings → AreRings w (h ++ es) a lane.rings
same_rings w h es a lane begins entries is = record {
  numbers = λ p. is.numbers p ∙ sym (still_same h es a p begins (entries p));
  fits = λ p. subst (λ (xs : List ℕ). length xs ≤ capacity w a p) (sym (still_same h es a p begins (entries p))) (is.fits p);
  apart = λ p. subst AreApart (sym (still_same h es a p begins (entries p))) (is.apart p);
}

-- ---- at another place nothing enters, and no change of activity is told

module _ (arcs t k a : ℕ) (k_lt : k < moments arcs) (a_lt : a < arcs) where
  not_entry : (p : ℕ) → k ≢ 1 + 3 * arcs → (e : PlainEvent) → IsAt arcs (number arcs t k) e → entry_on a p e ≡ None
  not_entry p other (PlainEvent.enter x) at = absurd (other (same_place arcs t x.tick k (1 + 3 * arcs) k_lt (omega arith) at))
  not_entry p other (PlainEvent.dropped x) at = absurd (other (same_place arcs t x.tick k (1 + 3 * arcs) k_lt (omega arith) at))
  not_entry p other (PlainEvent.begin b) at = refl
  not_entry p other (PlainEvent.set s b v) at = refl
  not_entry p other (PlainEvent.ended e) at = refl
  not_entry p other (PlainEvent.arrive x) at = refl
  not_entry p other (PlainEvent.deliver d) at = refl
  not_entry p other (PlainEvent.active s b v) at = refl
  not_entry p other (PlainEvent.count b c) at = refl
  not_entry p other (PlainEvent.end e) at = refl

  pub same_entries : (p : ℕ) (past es : History) → k ≢ 1 + 3 * arcs → AllAt arcs (number arcs t k) es → Entries (past ++ es) a p ≡ Entries past a p
  same_entries p past es other at =
      filter_map-append (entry_on a p) past es
      ∙ (ap (λ xs. Entries past a p ++ xs) (none_selected (entry_on a p) es (every_weaker (IsAt arcs (number arcs t k)) (λ e. entry_on a p e ≡ None) (not_entry p other) es at))
      ∙ append-nil (Entries past a p))

  not_active : (u : ℕ) → k ≢ 1 + 2 * arcs + a → (e : PlainEvent) → IsAt arcs (number arcs t k) e → active_on a u e ≡ None
  not_active u other (PlainEvent.active s b v) (lt, at) = go (b == a) refl
    where
      go : (same : Bool) → (b == a) ≡ same → (if (same && nat_le s u) then Some v else None) ≡ None
      go false is = refl
      go true is = absurd (other (same_place arcs t s k (1 + 2 * arcs + b) k_lt (omega (arith, lt)) at ∙ ap (λ x. 1 + 2 * arcs + x) (same_number b a is)))
  not_active u other (PlainEvent.begin b) at = refl
  not_active u other (PlainEvent.set s b v) at = refl
  not_active u other (PlainEvent.ended e) at = refl
  not_active u other (PlainEvent.arrive x) at = refl
  not_active u other (PlainEvent.deliver d) at = refl
  not_active u other (PlainEvent.enter x) at = refl
  not_active u other (PlainEvent.dropped x) at = refl
  not_active u other (PlainEvent.count b c) at = refl
  not_active u other (PlainEvent.end e) at = refl

  pub same_active : (w : Scenario) (u : ℕ) (past es : History) → k ≢ 1 + 2 * arcs + a → AllAt arcs (number arcs t k) es → ToldActive w (past ++ es) a u ≡ ToldActive w past a u
  same_active w u past es other at = told_same w past es a u (every_weaker (IsAt arcs (number arcs t k)) (λ e. active_on a u e ≡ None) (not_active u other) es at)

-- ---- the lane of an arc that the phase isn't of

same_setting : (w : Scenario) (h es : History) (a : ℕ) (s : Stage) → setting_at w h a s ≡ setting_at w (h ++ es) a s
same_setting w h es a (untouched zero) = refl
same_setting w h es a (untouched (suc t)) = refl
same_setting w h es a (set_up t) = refl
same_setting w h es a (settled t) = refl
same_setting w h es a (entered t) = refl

module _ (w : Scenario) (t : ℕ) (p : Phase) (h es : History) (b : ℕ) (b_lt : b < length w.net.arcs) (place : HasPlace (length w.net.arcs) (place_of (length w.net.arcs) p) p)
    (legal : LegalUpTo w (moment_of w t p) h) (happens : HappensIn w h t p es) where
  abbrev A : ℕ
  A = length w.net.arcs

  abbrev k : ℕ
  k = place_of A p

  k_lt : k < moments A
  k_lt = place_within A p place

  at : AllAt A (number A t k) es
  at = phase_events w h t k p es place happens

  within : AllWithin A (moment_of w t p) (suc (moment_of w t p)) es
  within = every_weaker (IsAt A (moment_of w t p)) (IsWithin A (moment_of w t p) (suc (moment_of w t p))) (λ e here. (moment_of w t p, omega arith, omega arith, here)) es at

  -- what is new on an arc of which nothing begins, ends, arrives, enters or is told
  module _ (no_end : k ≢ 1 + b) (no_arrival : k ≢ 1 + A + b) (no_expiry : k ≢ 1 + 2 * A + b) (no_entry : k ≢ 1 + 3 * A) (no_start : k ≢ 2 + 3 * A + b) where
    begins : Begins (h ++ es) b ≡ Begins h b
    begins = same_begins A t k b k_lt b_lt h es no_start at

    ends : Ends (h ++ es) b ≡ Ends h b
    ends = same_ends A t k b k_lt b_lt h es no_end at

    arrivals : Arrivals (h ++ es) b ≡ Arrivals h b
    arrivals = same_arrivals A t k b k_lt b_lt h es no_arrival at

    entries : (q : ℕ) → Entries (h ++ es) b q ≡ Entries h b q
    entries q = same_entries A t k b k_lt b_lt q h es no_entry at

    pub stays : (s : Stage) (lane : Lane) (items : List Entry) → AreOver w (link_turn s) (moment_of w t p) → LaneStands w h b s lane items → LaneStands w (h ++ es) b s lane items
    stays s lane items over is = record {
      rings = same_rings w h es b lane begins entries is.rings;
      outgoing = other_events w h (h ++ es) b (tick_at s) (is_calm s) lane.outgoing begins ends entries (λ u lt. same_active A t k b k_lt b_lt w u h es no_expiry at) is.outgoing;
      incoming = others_stay w (moment_of w t p) (suc (moment_of w t p)) h es legal within b b_lt lane.incoming
          (same_ends A t k b k_lt b_lt [] es no_end at) (same_arrivals A t k b k_lt b_lt [] es no_arrival at) is.incoming;
      partner = still_hears w t p h es b b_lt place legal happens lane.partner no_arrival is.partner;
      setting = is.setting ∙ same_setting w h es b s;
      link = λ negotiates. still_stands w t p h es b b_lt place legal happens (link_turn s) lane.link over no_end no_start (is.link negotiates);
      inside = subst (λ xs. AreInside w b (Begins (h ++ es) b) xs (turn_at s) items) (sym arrivals) (subst (λ bs. AreInside w b bs (Arrivals h b) (turn_at s) items) (sym begins) is.inside);
    }

-- Events of later moments leave the state of a link at the ticks whose arrivals are over as it is.
use Rattle.std.proofs.Common.{ℕ, zero, suc, ◌≡◌, ◌+◌, ◌*◌, ◌<◌, ◌≤◌, Bool, ◌++◌, length, inl, inr, arith, Some}
use Rattle.std.specs.Prelude.{◌↔◌, slice_get}
use Rattle.std.specs.Bool.{Decides}
use Rattle.std.specs.List.{AllByRecursion as Every}
use Rattle.std.proofs.lemmas.List.Elements.{filter_map-append}
use Rattle.pre_topo.specs.Arcs.{reverse_of}
use Rattle.pre_history.specs.declared.events.Outcome.{Outcome}
use Rattle.pre_history.specs.Scenario.{Scenario}
use Rattle.pre_history.specs.History.{History, Arrive}
use Rattle.pre_history.specs.Selected.{arrive_on}
use Rattle.pre_history.specs.Queries.{Arrivals}
use Rattle.pre_history.specs.LinkState.{Good, Active, ActiveBefore, Received, IsWanting}
use Rattle.pre_history.specs.Placed.{number}
use Rattle.pre_history.specs.Legal.{LegalUpTo}
use Rattle.pre_history.proofs.Lists.{every_at, every_selected}
use Rattle.pre_history.proofs.Unread.{IsUnread, arrival_unread, good_stays, active_stays, reverse_within}
use Rattle.pre_history.specs.Placed.{AllWithin}
use Rattle.pre_history.proofs.Places.{all_unread_from}
use Rattle.pre_history.proofs.Zips.{any_stays}
use Rattle.pre_history.proofs.Known.{gives_later}

pub decides_like : {P Q : Type 0} (b : Bool) → Decides b P → Q ↔ P → Decides b Q
decides_like b decides like = (λ is. like.1 (decides.0 is), λ q. decides.1 (like.0 q))

module _ (w : Scenario) (m n : ℕ) (h es : History) (legal : LegalUpTo w m h) (within : AllWithin (length w.net.arcs) m n es) (a : ℕ) (a_lt : a < length w.net.arcs) where
  module _ (t : ℕ) (over : number (length w.net.arcs) t (1 + 2 * length w.net.arcs + 0) ≤ m) where
    unread : Every (IsUnread t) es
    unread = all_unread_from (length w.net.arcs) t m n es (omega (arith, over)) within

    pub good_on : Good w (h ++ es) a t ↔ Good w h a t
    good_on = good_stays gives_later w m h es legal t unread a (reverse_within w a a_lt) t (omega arith)

    pub active_on : Active w (h ++ es) a t ↔ Active w h a t
    active_on = active_stays gives_later w m h es legal t unread a (reverse_within w a a_lt)

    late : (j : ℕ) (x : Arrive) → slice_get (Arrivals es (reverse_of a)) j ≡ Some x → t < x.tick
    late j x at =
        every_at (λ (x : Arrive). t < x.tick) (Arrivals es (reverse_of a)) j x
        (every_selected (arrive_on (reverse_of a)) (IsUnread t) (λ x. t < x.tick) (arrival_unread (reverse_of a) t) es unread) at

    pub received_on : (r : Outcome) → Received (h ++ es) a r t ↔ Received h a r t
    received_on r =
        any_stays (λ (x : Arrive). (x.result ≡ r) × (x.tick ≡ t)) (Arrivals (h ++ es) (reverse_of a)) (Arrivals h (reverse_of a)) (Arrivals es (reverse_of a))
        (filter_map-append (arrive_on (reverse_of a)) h es)
        (λ j x at p. let more = late j x at in absurd (omega (arith, more, p.1)))

  module _ (t : ℕ) (over : (i : ℕ) → i < t → number (length w.net.arcs) i (1 + 2 * length w.net.arcs + 0) ≤ m) where
    pub active_before_on : ActiveBefore w (h ++ es) a t ↔ ActiveBefore w h a t
    active_before_on = go t over
      where
        go : (t : ℕ) → ((i : ℕ) → i < t → number (length w.net.arcs) i (1 + 2 * length w.net.arcs + 0) ≤ m) → ActiveBefore w (h ++ es) a t ↔ ActiveBefore w h a t
        go zero over = ((λ x. x), λ x. x)
        go (suc u) over = active_on u (over u (omega arith))

  module _ (x : ℕ) (over : (i : ℕ) → i ≤ x → number (length w.net.arcs) i (1 + 2 * length w.net.arcs + 0) ≤ m) where
    now_on : Active w (h ++ es) a x ↔ Active w h a x
    now_on = active_on x (over x (omega arith))

    before_on : ActiveBefore w (h ++ es) a x ↔ ActiveBefore w h a x
    before_on = active_before_on x (λ i lt. over i (omega (arith, lt)))

    wanting_from : IsWanting w (h ++ es) a x → IsWanting w h a x
    wanting_from (inl differs) = inl differs
    wanting_from (inr (here, inl periodic)) = inr (here, inl periodic)
    wanting_from (inr (here, inr (inl (now, before)))) = inr (here, inr (inl (now_on.0 now, λ b. before (before_on.1 b))))
    wanting_from (inr (here, inr (inr (now, before)))) = inr (here, inr (inr ((λ b. now (now_on.1 b)), before_on.0 before)))

    wanting_to : IsWanting w h a x → IsWanting w (h ++ es) a x
    wanting_to (inl differs) = inl differs
    wanting_to (inr (here, inl periodic)) = inr (here, inl periodic)
    wanting_to (inr (here, inr (inl (now, before)))) = inr (here, inr (inl (now_on.1 now, λ b. before (before_on.0 b))))
    wanting_to (inr (here, inr (inr (now, before)))) = inr (here, inr (inr ((λ b. now (now_on.0 b)), before_on.1 before)))

    pub wanting_on : IsWanting w (h ++ es) a x ↔ IsWanting w h a x
    wanting_on = (wanting_from, wanting_to)

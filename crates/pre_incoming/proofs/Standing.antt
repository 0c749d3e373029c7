-- The end of an arc with one more mPacket on its wire, and with one less.
use Rattle.std.proofs.Common.{ℕ, suc, ◌≡◌, ◌==◌, ◌<◌, ◌≤◌, true, [], ◌∷◌, ◌++◌, length, take, drop, refl, sym, ◌∙◌, ap, arith, subst}
use Rattle.std.specs.List.{AllZip}
use Rattle.std.proofs.lemmas.Bool.Decides.{nat_tests}
use Rattle.std.proofs.lemmas.List.{drop-append-le, append-nil}
use Rattle.std.proofs.lemmas.List.Elements.{filter_map-append}
use Rattle.pre_receive.specs.declared.receivers.Receiver.{Receiver}
use Rattle.pre_receive.specs.Receivers.{Stands}
use Rattle.pre_history.specs.Scenario.{Scenario, arc}
use Rattle.pre_history.specs.History.{Ended, History, PlainEvent}
use Rattle.pre_history.specs.Selected.{ended_on, arrive_on}
use Rattle.pre_history.specs.Queries.{Ends, Arrivals}
use Rattle.pre_history.specs.Octets.{Air}
use Rattle.pre_history.specs.Placed.{moment_of}
use Rattle.pre_history.specs.Moments.{Phase}
use Rattle.pre_history.specs.Legal.{LegalUpTo}
use Rattle.pre_history.specs.Placed.{AllWithin}
use Rattle.pre_incoming.specs.Flights.{OnWire, on_wire, IsWhole, HasRoom}
use Rattle.pre_incoming.specs.declared.incomings.Incoming.{Incoming}
use Rattle.pre_incoming.specs.Wires.{IsOnWire, Receives}
use Rattle.pre_incoming.proofs.OnAir.{zip_weaker, zip_push, by_lists, air_front, still_on_wire, arrived_ended}

-- one more is on the wire
pub pushed : (w : Scenario) (h : History) (a : ℕ) (e : Ended) (p : OnWire) (old new : Incoming) → a < length w.net.arcs → e.arc ≡ a → LegalUpTo w (moment_of w e.tick (Phase.ends a)) h
    → IsOnWire w h a p e → Receives w h a old → new.receiver ≡ old.receiver → IsWhole new.wire → HasRoom (arc w a).delay (arc w a).cost new.wire
    → on_wire new.wire ≡ on_wire old.wire ++ p ∷ [] → Receives w (h ++ PlainEvent.ended e ∷ []) a new
pushed w h a e p old new a_lt on_arc legal on is same whole room longer =
    by_lists w (h ++ g) a (length (Arrivals h a)) (Ends h a ++ e ∷ []) (take (length (Arrivals h a)) (Air w h a)) new
    (ap length (filter_map-append (arrive_on a) h g ∙ append-nil (Arrivals h a)))
    (filter_map-append (ended_on a) h g ∙ ap (λ es. Ends h a ++ es) only)
    (air_front w m (suc m) h g legal later a a_lt (length (Arrivals h a)) ended) whole room
    (subst (λ (r : Receiver). Stands r (take (length (Arrivals h a)) (Air w h a))) (sym same) is.receiver)
    (subst (λ es. AllZip (IsOnWire w (h ++ g) a) (on_wire new.wire) es) (sym (drop-append-le (length (Arrivals h a)) (Ends h a) (e ∷ []) ended))
    (subst (λ ps. AllZip (IsOnWire w (h ++ g) a) ps (drop (length (Arrivals h a)) (Ends h a) ++ e ∷ [])) (sym longer)
    (zip_push (IsOnWire w (h ++ g) a) (on_wire old.wire) (drop (length (Arrivals h a)) (Ends h a)) p e
    (zip_weaker (IsOnWire w h a) (IsOnWire w (h ++ g) a) (still_on_wire w m (suc m) h g legal later a a_lt) (on_wire old.wire) (drop (length (Arrivals h a)) (Ends h a)) is.wire)
    (still_on_wire w m (suc m) h g legal later a a_lt p e on))))
  where
    g : History
    g = PlainEvent.ended e ∷ []

    m : ℕ
    m = moment_of w e.tick (Phase.ends a)

    tested : (e.arc == a) ≡ true
    tested = grind (arith, nat_tests)

    only : Ends g a ≡ e ∷ []
    only = rw tested refl

    later : AllWithin (length w.net.arcs) m (suc m) g
    later = ((m, omega arith, omega arith, (omega (arith, on_arc, a_lt), ap (λ x. moment_of w e.tick (Phase.ends x)) (sym on_arc))), tt)

    ended : length (Arrivals h a) ≤ length (Ends h a)
    ended = arrived_ended w m (suc m) h g legal later a a_lt

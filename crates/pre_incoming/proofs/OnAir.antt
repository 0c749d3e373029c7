-- What comes of the mPackets that ended stays with later events.
use Rattle.std.proofs.Common.{ℕ, zero, suc, ◌≡◌, ◌+◌, ◌-◌, ◌<◌, ◌≤◌, List, [], ◌∷◌, ◌++◌, length, take, drop, refl, sym, ◌∙◌, ap, arith, subst, Option, Some}
use Rattle.std.specs.Prelude.{◌↔◌, IsTrue, slice_get}
use Rattle.std.specs.List.{AllZip}
use Rattle.std.proofs.lemmas.List.Elements.{filter_map-append}
use Rattle.std.proofs.lemmas.List.{length-map}
use Rattle.pre_mpacket.specs.Spelling.{head_of}
use Rattle.pre_receive.specs.Receivers.{Stands}
use Rattle.pre_history.specs.Scenario.{Scenario, arc}
use Rattle.pre_history.specs.History.{Begin, Ended, History}
use Rattle.pre_history.specs.Selected.{begin_on, ended_on, arrive_on}
use Rattle.pre_history.specs.Queries.{Begins, Ends, Arrivals, Packets, packet}
use Rattle.pre_history.specs.Octets.{Air, Arrived}
use Rattle.pre_history.specs.Legal.{LegalUpTo}
use Rattle.pre_history.proofs.Lists.{within, at_front, no_append}
use Rattle.pre_history.proofs.Chosen.{take_like}
use Rattle.pre_history.proofs.InOrder.{steady}
use Rattle.pre_history.specs.Placed.{AllWithin}
use Rattle.pre_history.proofs.AirStays.{air_stays, whole_stays}
use Rattle.pre_incoming.specs.Flights.{OnWire, on_wire, IsWhole, HasRoom}
use Rattle.pre_incoming.specs.declared.incomings.Incoming.{Incoming}
use Rattle.pre_incoming.specs.Wires.{IsOnWire, Receives}

pub zip_weaker : {A B : Type 0} (P Q : A → B → Type 0) → ((x : A) (y : B) → P x y → Q x y) → (xs : List A) (ys : List B) → AllZip P xs ys → AllZip Q xs ys
zip_weaker P Q weak [] [] all = tt
zip_weaker P Q weak [] (y ∷ ys) all = absurd all
zip_weaker P Q weak (x ∷ xs) [] all = absurd all
zip_weaker P Q weak (x ∷ xs) (y ∷ ys) (here, more) = (weak x y here, zip_weaker P Q weak xs ys more)

pub zip_push : {A B : Type 0} (P : A → B → Type 0) (xs : List A) (ys : List B) (x : A) (y : B) → AllZip P xs ys → P x y → AllZip P (xs ++ x ∷ []) (ys ++ y ∷ [])
zip_push P [] [] x y all p = (p, tt)
zip_push P [] (z ∷ ys) x y all p = absurd all
zip_push P (z ∷ xs) [] x y all p = absurd all
zip_push P (z ∷ xs) (u ∷ ys) x y (here, more) p = (here, zip_push P xs ys x y more p)

-- the first on the wire is the one behind those that are off it
pub first_of : {A B : Type 0} (P : A → B → Type 0) (n : ℕ) (x : A) (xs : List A) (ys : List B) → AllZip P (x ∷ xs) (drop n ys) → (y : B) × (slice_get ys n ≡ Some y) × P x y
    × AllZip P xs (drop (suc n) ys)
first_of P zero x xs [] all = absurd all
first_of P (suc n) x xs [] all = absurd all
first_of P zero x xs (y ∷ ys) (here, more) = (y, refl, here, more)
first_of P (suc n) x xs (y ∷ ys) all = first_of P n x xs ys all

-- where the wire is empty, none is left
pub none_of : {A B : Type 0} (P : A → B → Type 0) (n : ℕ) (ys : List B) → AllZip P [] (drop n ys) → length ys ≤ n
none_of P n [] all = omega arith
none_of P zero (y ∷ ys) all = absurd all
none_of P (suc n) (y ∷ ys) all = let less = none_of P n ys all in omega (arith, less)

-- what an end of an arc stands for, by what has ended and arrived
pub by_lists : (w : Scenario) (h : History) (a n : ℕ) (ends : List Ended) (air : List (Option (List ℕ))) (x : Incoming) → length (Arrivals h a) ≡ n → Ends h a ≡ ends → take n (Air w h a) ≡ air
    → IsWhole x.wire → HasRoom (arc w a).delay (arc w a).cost x.wire → Stands x.receiver air → AllZip (IsOnWire w h a) (on_wire x.wire) (drop n ends) → Receives w h a x
by_lists w h a n ends air x arrived ended same whole room stands all = record {
  whole = whole;
  room = room;
  receiver = subst (Stands x.receiver) (sym (ap (λ k. take k (Air w h a)) arrived ∙ same)) stands;
  wire = subst (λ k. AllZip (IsOnWire w h a) (on_wire x.wire) (drop k (Ends h a))) (sym arrived) (subst (λ es. AllZip (IsOnWire w h a) (on_wire x.wire) (drop n es)) (sym ended) all);
}

-- as many arrived as there are on the air
pub arrived_on_air : (w : Scenario) (n : ℕ) (h : History) → LegalUpTo w n h → (a : ℕ) → a < length w.net.arcs → length (Arrivals h a) ≤ length (Air w h a)
unfolding Air Packets
arrived_on_air w n h legal a a_lt =
    let o = (steady w n h a a_lt legal).ordered in
    let long : length (Air w h a) ≡ length (Begins h a) = length-map (Packets h a) (Arrived w h) ∙ length-map (Begins h a) (packet h a) in
    omega (arith, long, o.arrivals_ended, o.ends_begun)

module _ (w : Scenario) (m n : ℕ) (h g : History) (legal : LegalUpTo w m h) (later : AllWithin (length w.net.arcs) m n g) (a : ℕ) (a_lt : a < length w.net.arcs) where
  there_by : (k : ℕ) → k < length (Ends h a) → (k < length (Air w h a)) × (k < length (Air w (h ++ g) a))
  there_by k lt = let y = air_stays w m n h g legal later a a_lt k lt in
      (within (Air w h a) k (Arrived w h (packet h a y.0)) y.1, within (Air w (h ++ g) a) k (Arrived w h (packet h a y.0)) (y.2 ∙ y.1))

  long_by : (k : ℕ) → k ≤ length (Ends h a) → (k ≤ length (Air w h a)) × (k ≤ length (Air w (h ++ g) a))
  long_by zero le = (omega arith, omega arith)
  long_by (suc k) le = let y = there_by k (omega (arith, le)) in (omega (arith, y.0), omega (arith, y.1))

  pub air_front : (k : ℕ) → k ≤ length (Ends h a) → take k (Air w (h ++ g) a) ≡ take k (Air w h a)
  air_front k le =
      let long = long_by k le in
      take_like k (Air w (h ++ g) a) (Air w h a) long.1 long.0 (λ i lt. (air_stays w m n h g legal later a a_lt i (omega (arith, lt, le))).2)

  pub still_on_wire : (p : OnWire) (e : Ended) → IsOnWire w h a p e → IsOnWire w (h ++ g) a p e
  still_on_wire p e on =
      let whole = whole_stays w m n h g legal later a a_lt e.ord on.begin on.begun in
      record {
        begin = on.begin;
        begun = ap (λ (xs : List Begin). slice_get xs e.ord) (filter_map-append (begin_on a) h g) ∙ at_front (Begins h a) (Begins g a) e.ord on.begin on.begun;
        its_ord = on.its_ord;
        kind = on.kind;
        carries = on.carries;
        is_last = subst (λ xs. IsTrue p.is_last ↔ (on.begin.from + e.size ≡ length xs)) (sym whole) on.is_last;
        octets = on.octets ∙ ap (λ (xs : List ℕ). head_of on.begin.kind ++ take (e.size - 4) (drop on.begin.from xs) ++ e.check) (sym whole);
        due = on.due;
      }

  pub arrived_ended : length (Arrivals h a) ≤ length (Ends h a)
  arrived_ended = (steady w m h a a_lt legal).ordered.arrivals_ended

  -- with events that are no end and no arrival of the arc
  pub others_stay : (x : Incoming) → Ends g a ≡ [] → Arrivals g a ≡ [] → Receives w h a x → Receives w (h ++ g) a x
  others_stay x no_end no_arrival is =
      by_lists w (h ++ g) a (length (Arrivals h a)) (Ends h a) (take (length (Arrivals h a)) (Air w h a)) x
      (ap length (filter_map-append (arrive_on a) h g ∙ no_append (Arrivals h a) (Arrivals g a) no_arrival))
      (filter_map-append (ended_on a) h g ∙ no_append (Ends h a) (Ends g a) no_end)
      (air_front (length (Arrivals h a)) arrived_ended) is.whole is.room is.receiver
      (zip_weaker (IsOnWire w h a) (IsOnWire w (h ++ g) a) still_on_wire (on_wire x.wire) (drop (length (Arrivals h a)) (Ends h a)) is.wire)

-- An mPacket that ends at a tick is no longer than the greatest, and goes onto the wire.
use Rattle.std.proofs.Common.{ℕ, suc, ◌≡◌, ◌==◌, ◌+◌, ◌-◌, ◌<◌, ◌≤◌, true, List, [], ◌∷◌, ◌++◌, length}
use Rattle.std.proofs.Common.{take, drop, refl, sym, ◌∙◌, ap, arith, subst, Some, None, zero, length-append, length-drop}
use Rattle.std.specs.Prelude.{slice_get, sum_by}
use Rattle.std.specs.List.{AllZip}
use Rattle.std.proofs.lemmas.Bool.Decides.{nat_tests}
use Rattle.std.proofs.lemmas.List.{append-nil, drop-append-le, length-take-le, length-take}
use Rattle.std.proofs.lemmas.List.Elements.{filter_map-append, recursion_from_All}
use Rattle.std.proofs.lemmas.List.Sums.{sum_by-cons, sum_by-append}
use Rattle.pre_base.specs.declared.limits.TheConstants.{GREATEST_FRAME, GREATEST_PACKET}
use Rattle.pre_mpacket.specs.Spelling.{PlainPacket, head_of}
use Rattle.pre_send.specs.Endings.{plans_end}
use Rattle.pre_history.specs.Scenario.{Scenario}
use Rattle.pre_history.specs.History.{PlainEvent, Ended, History}
use Rattle.pre_history.specs.Moments.{Phase}
use Rattle.pre_history.specs.Placed.{AllWithin, number}
use Rattle.pre_history.specs.Selected.{arrive_on, begin_on, ended_on}
use Rattle.pre_history.specs.Queries.{Begins, Ends, Arrivals}
use Rattle.pre_history.specs.Octets.{WholeOf}
use Rattle.pre_history.specs.Legal.{LegalUpTo}
use Rattle.pre_history.proofs.AirStays.{whole_stays}
use Rattle.pre_history.proofs.InOrder.{steady}
use Rattle.pre_history.proofs.Lists.{at_last}
use Rattle.pre_laws.specs.Routed.{IsRouted}
use Rattle.pre_memory.specs.Wires.{octets_of}
use Rattle.pre_memory.proofs.Flying.{octets_few, packets_few}
use Rattle.pre_memory.proofs.Sizes.{are_short, have_sizes, sent_long}
use Rattle.pre_outgoing.specs.Sends.{Leaves}
use Rattle.pre_incoming.specs.declared.wires.Flight.{Flight}
use Rattle.pre_incoming.specs.Flights.{OnWire, on_wire, taken_apart, with_octets, TakesOctets}
use Rattle.pre_incoming.specs.Wires.{IsOnWire}
use Rattle.pre_sim.specs.declared.lanes.Lane.{Lane}
use Rattle.pre_sim.specs.Ending.{LeavesAs}
use Rattle.pre_sim.specs.Keeps.{Store, LaneKeeps}
use Rattle.pre_sim.specs.Stages.{set_up}
use Rattle.pre_sim.specs.Stands.{LaneStands}
use Rattle.pre_sim.specs.Parts.{LaneReached}
use Rattle.pre_sim.proofs.EndParts.{all_stored, goes, its_stage}
use Rattle.pre_sim.proofs.Lists.{every_at}

-- ---- what is on a wire, by sizes

sizes_are : (fs : List Flight) (octets : List ℕ) → sum_by (λ f. f.size) fs ≡ length octets → sum_by (λ p. length p.octets) (taken_apart fs octets) ≡ length octets
sizes_are [] octets all = omega (arith, all)
sizes_are (f ∷ fs) octets all =
    let whole = sum_by-cons (λ (g : Flight). g.size) f fs in
    let rest : length (drop f.size octets) ≡ length octets - f.size = length-drop f.size octets in
    let ih = sizes_are fs (drop f.size octets) (omega (arith, whole, all, rest)) in
    omega (
      arith,
      sum_by-cons (λ (p : OnWire). length p.octets) (with_octets f (take f.size octets)) (taken_apart fs (drop f.size octets)),
      ih,
      rest,
      length-take-le f.size octets (omega (arith, whole, all)),
      whole,
      all,
    )

as_many : (fs : List Flight) (octets : List ℕ) → length (taken_apart fs octets) ≡ length fs
as_many [] octets = refl
as_many (f ∷ fs) octets = ap suc (as_many fs (drop f.size octets))

zipped : (P : OnWire → Ended → Type 0) (ps : List OnWire) (es : List Ended) → ((p : OnWire) (e : Ended) → P p e → length p.octets ≡ octets_of e) → AllZip P ps es
    → (sum_by (λ p. length p.octets) ps ≡ sum_by octets_of es) × (length ps ≡ length es)
zipped P [] [] same all = (refl, refl)
zipped P [] (e ∷ es) same all = absurd all
zipped P (p ∷ ps) [] same all = absurd all
zipped P (p ∷ ps) (e ∷ es) same (here, more) =
    let ih = zipped P ps es same more in
    (omega (arith, sum_by-cons (λ (q : OnWire). length q.octets) p ps, sum_by-cons octets_of e es, ih.0, same p e here), ap suc ih.1)

module _ (w : Scenario) (routed : IsRouted w) (t a : ℕ) (a_lt : a < length w.net.arcs) (store : Store) (lane : Lane) (keeps : LaneKeeps w store a lane)
    (reached : LaneReached w t (Phase.ends a) a None lane) (due : plans_end lane.outgoing.sender ≡ Some t) where
  stand : LaneStands w reached.0 a (set_up t) lane reached.1
  stand = subst (λ s. LaneStands w reached.0 a s lane reached.1) (its_stage w t a a_lt lane) reached.2.stands

  module _ (m : PlainPacket) (leaves : LeavesAs store lane.outgoing m) where
    abbrev left : Leaves w reached.0 t a m
    left = leaves w reached.0 t a a_lt reached.2.legal.0 stand.outgoing (all_stored w store a lane keeps) due

    abbrev ended : Ended
    ended = record { tick = t; arc = a; ord = length (Ends reached.0 a); size = left.size; check = m.check }

    abbrev after : History
    after = reached.0 ++ PlainEvent.ended ended ∷ []

    legal : LegalUpTo w (number (length w.net.arcs) t (1 + a + 1)) after
    legal = (goes w t a a_lt lane reached.0 (PlainEvent.ended ended ∷ []) reached.2.legal left.happens).0

    ends_now : Ends after a ≡ Ends reached.0 a ++ ended ∷ []
    ends_now = filter_map-append (ended_on a) reached.0 (PlainEvent.ended ended ∷ []) ∙ ap (λ es. Ends reached.0 a ++ es) only
      where
        tested : (a == a) ≡ true
        tested = grind (arith, nat_tests)

        only : Ends (PlainEvent.ended ended ∷ []) a ≡ ended ∷ []
        only = rw tested refl

    arrivals_now : Arrivals after a ≡ Arrivals reached.0 a
    arrivals_now = filter_map-append (arrive_on a) reached.0 (PlainEvent.ended ended ∷ []) ∙ append-nil (Arrivals reached.0 a)

    begins_now : Begins after a ≡ Begins reached.0 a
    begins_now = filter_map-append (begin_on a) reached.0 (PlainEvent.ended ended ∷ []) ∙ append-nil (Begins reached.0 a)

    at_end : slice_get (Ends after a) (length (Ends reached.0 a)) ≡ Some ended
    at_end = ap (λ es. slice_get es (length (Ends reached.0 a))) ends_now ∙ at_last (Ends reached.0 a) ended

    -- it is no longer than the greatest frame
    short : left.size ≤ GREATEST_FRAME
    short = every_at (λ (e : Ended). e.size ≤ GREATEST_FRAME) (Ends after a) (length (Ends reached.0 a)) ended
        (recursion_from_All (λ (e : Ended). e.size ≤ GREATEST_FRAME) (Ends after a) (are_short w routed (number (length w.net.arcs) t (1 + a + 1)) after legal a a_lt)) at_end

    long : 64 ≤ left.size
    long = every_at (λ (e : Ended). 64 ≤ e.size) (Ends after a) (length (Ends reached.0 a)) ended
        (recursion_from_All (λ (e : Ended). 64 ≤ e.size) (Ends after a) (have_sizes w routed (number (length w.net.arcs) t (1 + a + 1)) after legal a a_lt)) at_end

    pub mdata_short : length m.mdata + 12 ≤ GREATEST_PACKET
    mdata_short =
        let cut : length m.mdata ≤ left.size - 4 = omega (arith, ap length left.mdata, length-take (left.size - 4) (drop left.begin.from (WholeOf w reached.0 left.begin))) in
        omega (arith, cut, short, long)

    -- as many octets are sent
    sent_is : length (head_of m.kind ++ m.mdata ++ m.check) ≡ octets_of ended
    sent_is =
        let n = number (length w.net.arcs) t (1 + a) in
        let begun : slice_get (Begins reached.0 a) (length (Ends reached.0 a)) ≡ Some left.begin = left.newest in
        let later : AllWithin (length w.net.arcs) n (suc n) (PlainEvent.ended ended ∷ []) = ((n, omega arith, omega arith, (a_lt, refl)), tt) in
        let same = whole_stays w n (suc n) reached.0 (PlainEvent.ended ended ∷ []) reached.2.legal.0 later a a_lt (length (Ends reached.0 a)) left.begin begun in
        ap length left.sent ∙ (ap (λ (xs : List ℕ). length (head_of left.begin.kind ++ take (left.size - 4) (drop left.begin.from xs) ++ m.check)) (sym same)
        ∙ sent_long w routed (number (length w.net.arcs) t (1 + a + 1)) after legal a a_lt (length (Ends reached.0 a)) left.begin ended
        (ap (λ bs. slice_get bs (length (Ends reached.0 a))) begins_now ∙ begun) at_end)

    gone_le : length (Arrivals reached.0 a) ≤ length (Ends reached.0 a)
    gone_le = (steady w (number (length w.net.arcs) t (1 + a)) reached.0 a a_lt reached.2.legal.0).ordered.arrivals_ended

    -- what hasn't arrived, with it
    flying : drop (length (Arrivals after a)) (Ends after a) ≡ drop (length (Arrivals reached.0 a)) (Ends reached.0 a) ++ ended ∷ []
    flying = ap (λ xs. drop (length xs) (Ends after a)) arrivals_now
        ∙ (ap (drop (length (Arrivals reached.0 a))) ends_now ∙ drop-append-le (length (Arrivals reached.0 a)) (Ends reached.0 a) (ended ∷ []) gone_le)

    is_long : (p : OnWire) (e : Ended) → IsOnWire w reached.0 a p e × ((i : ℕ) × (slice_get (Ends reached.0 a) i ≡ Some e)) → length p.octets ≡ octets_of e
    is_long p e (on, (i, at)) =
        let ordered = (steady w (number (length w.net.arcs) t (1 + a)) reached.0 a a_lt reached.2.legal.0).ordered in
        let place : e.ord ≡ i = ordered.end_places i e at in
        ap length on.octets ∙ sent_long w routed (number (length w.net.arcs) t (1 + a)) reached.0 reached.2.legal.0 a a_lt i on.begin e
        (subst (λ j. slice_get (Begins reached.0 a) j ≡ Some on.begin) place on.begun) at

    -- each of those on the wire is one of those that ended
    placed_zip : (P : OnWire → Ended → Type 0) (k : ℕ) (ps : List OnWire) (es all : List Ended) → ((i : ℕ) (e : Ended) → slice_get es i ≡ Some e → slice_get all (k + i) ≡ Some e) → AllZip P ps es
        → AllZip (λ p e. P p e × ((i : ℕ) × (slice_get all i ≡ Some e))) ps es
    placed_zip P k [] [] all at zips = tt
    placed_zip P k [] (e ∷ es) all at zips = absurd zips
    placed_zip P k (p ∷ ps) [] all at zips = absurd zips
    placed_zip P k (p ∷ ps) (e ∷ es) all at (here, more) = (
      (here, (k + 0, at 0 e refl)),
      placed_zip P (suc k) ps es all (λ i d is. let next : k + suc i ≡ suc k + i = omega arith in subst (λ n. slice_get all n ≡ Some d) next (at (suc i) d is)) more,
    )

    get_drop : {X : Type 0} (n i : ℕ) (xs : List X) → slice_get (drop n xs) i ≡ slice_get xs (n + i)
    get_drop zero i xs = ap (slice_get xs) (let e : i ≡ 0 + i = omega arith in e)
    get_drop (suc n) i [] = refl
    get_drop (suc n) i (x ∷ xs) = get_drop n i xs ∙ ap (slice_get (x ∷ xs)) (let e : suc (n + i) ≡ suc n + i = omega arith in e)

    -- it goes onto the wire
    pub goes_on : TakesOctets lane.incoming.wire (length (head_of m.kind ++ m.mdata ++ m.check))
    goes_on =
        let wire = lane.incoming.wire in
        let is = stand.incoming in
        let k = length (Arrivals reached.0 a) in
        let es = drop k (Ends reached.0 a) in
        let zips = placed_zip (IsOnWire w reached.0 a) k (on_wire wire) es (Ends reached.0 a) (λ i e at. sym (get_drop k i (Ends reached.0 a)) ∙ at) is.wire in
        let sums = zipped (λ p e. IsOnWire w reached.0 a p e × ((i : ℕ) × (slice_get (Ends reached.0 a) i ≡ Some e))) (on_wire wire) es is_long zips in
        let whole = sizes_are wire.flights.items wire.octets.items is.whole.octets in
        let octets = octets_few w routed after a t (1 + a + 1) a_lt (omega (arith, a_lt)) legal in
        let packets = packets_few w routed after a t (1 + a + 1) a_lt (omega (arith, a_lt)) legal in
        let all = ap (sum_by octets_of) flying ∙ sum_by-append octets_of es (ended ∷ []) in
        let one = sum_by-cons octets_of ended [] in
        let count = ap length flying ∙ length-append es (ended ∷ []) in
        record {
          short = omega (arith, sent_is, short);
          octets = omega (arith, sent_is, sums.0, whole, octets, all, one, is.room.octets);
          flights = omega (arith, sums.1, as_many wire.flights.items wire.octets.items, packets, count, is.room.flights);
        }

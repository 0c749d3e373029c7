-- Where no arrival is an alias, a frame comes to an arc of its route once at most.
use Rattle.std.proofs.Common.{ℕ, zero, suc, ◌≡◌, ◌≢◌, ◌⊎◌, ◌==◌, ◌&&◌, ◌+◌, ◌*◌, ◌<◌, ◌≤◌, Bool}
use Rattle.std.proofs.Common.{true, false, List, [], ◌∷◌, ◌++◌, length, refl, sym, ◌∙◌, ap, inl, inr, arith, subst, Some, None}
use Rattle.std.specs.Prelude.{if◌then◌else◌, slice_get, flat_map, option_map, option_and_then}
use Rattle.std.specs.List.{AllByRecursion as Every}
use Rattle.std.proofs.lemmas.Bool.{and_parts}
use Rattle.pre_base.specs.declared.numbers.FrameNo.{FrameNo}
use Rattle.pre_script.specs.declared.scripts.SendLine.{SendLine}
use Rattle.pre_history.specs.declared.events.Outcome.{Outcome}
use Rattle.pre_history.specs.declared.events.Outcome.TheVariants as outcome
use Rattle.pre_history.specs.Scenario.{Scenario, row, capacity, latency}
use Rattle.pre_history.specs.History.{PlainEvent, History, Begin, Arrive, Entry}
use Rattle.pre_history.specs.Selected.{is_frame_result}
use Rattle.pre_history.specs.Queries.{Begins, Arrivals, Waiting}
use Rattle.pre_history.specs.Comings.{Coming, Comings, EntriesOf, entry_event, entry_for, hops, next_arc, first_arc, sends_from, relayed, below, frame_at}
use Rattle.pre_history.specs.Placed.{number, IsBefore}
use Rattle.pre_history.specs.Legal.{LegalBefore}
use Rattle.pre_history.proofs.Lists.{one_at, every_at, every_placed, every_weaker, every_selected, every-append, any_at}
use Rattle.pre_history.proofs.Pairs.{Pairs, pairs-append, every_flat, pairs_flat, pairs_selected}
use Rattle.pre_history.proofs.Routes.{one_before, not_first}
use Rattle.pre_history.proofs.Relays.{IsSent, IsRelayed, relay_of, relays, sends_are, arcs_below}
use Rattle.pre_history.proofs.Placing.{placed}
use Rattle.pre_history.proofs.InOrder.{steady}
use Rattle.pre_laws.specs.Routed.{IsRouted, ArrivesWhole, IsEntry, ComesFirst, ComesNext}
use Rattle.pre_history.specs.Read.{HasEntries, IsNoEntry, IsTold}
use Rattle.pre_history.proofs.EntriesRead.{entries_read, entries_come}
use Rattle.pre_laws.proofs.FrameArrivals.{arrives_whole}
use Rattle.pre_laws.proofs.RunSteps.{right_at}
use Rattle.pre_laws.proofs.FirstOctets.{same_frame, one_last}

-- ---- what a relay hands on arrived as a frame

is_frame : (r : Outcome) → is_frame_result r ≡ true → r ≡ outcome.Frame
is_frame outcome.Frame is = refl
is_frame outcome.Lost is = absurd (cc is)
is_frame outcome.Lldp is = absurd (cc is)
is_frame outcome.Part is = absurd (cc is)
is_frame outcome.Verify is = absurd (cc is)
is_frame outcome.Respond is = absurd (cc is)
is_frame outcome.Nothing is = absurd (cc is)

-- it arrived as a user frame too
pub record Relayed (w : Scenario) (h : History) (t a : ℕ) (c : Coming) : Type 0 where
  pub relay : IsRelayed w h t a c
  pub result : relay.x.result ≡ outcome.Frame

frame_result : (w : Scenario) (h : History) (t a : ℕ) (x : Arrive) (c : Coming) → relayed w h t a x ≡ Some c → x.result ≡ outcome.Frame
frame_result w h t a x c is = go (is_frame_result x.result && (x.tick + latency w a == t)) refl is
  where
    go : (b : Bool) → (is_frame_result x.result && (x.tick + latency w a == t)) ≡ b
        → (if b then option_and_then {U = Coming} (λ f. option_map (λ b. record { arc = b; frame = f }) (next_arc w a f)) (frame_at h a x.ord) else None) ≡ Some c → x.result ≡ outcome.Frame
    go false off at = absurd (cc at)
    go true on at = is_frame x.result (and_parts (is_frame_result x.result) (x.tick + latency w a == t) on).0

pub relayed_of : (w : Scenario) (h : History) (t a i : ℕ) (x : Arrive) (c : Coming) → slice_get (Arrivals h a) i ≡ Some x → relayed w h t a x ≡ Some c → (r : Relayed w h t a c) × (r.relay.place ≡ i)
relayed_of w h t a i x c at is =
    let r = relay_of w h t a i x c at is in
    let x_is : x ≡ r.0.x = one_at (Arrivals h a) i x r.0.x at (subst (λ j. slice_get (Arrivals h a) j ≡ Some r.0.x) r.1 r.0.arrived) in
    (record { relay = r.0; result = ap (λ (y : Arrive). y.result) (sym x_is) ∙ frame_result w h t a x c is }, r.1)

relays_are : (w : Scenario) (h : History) (t a : ℕ) → Every (Relayed w h t a) (relays w h t a)
relays_are w h t a =
    every_selected (relayed w h t a) (λ x. (c : Coming) → relayed w h t a x ≡ Some c → Relayed w h t a c) (Relayed w h t a) (λ x c is. is c) (Arrivals h a)
    (every_placed (λ x. (c : Coming) → relayed w h t a x ≡ Some c → Relayed w h t a c) (Arrivals h a) (λ i x at c is. (relayed_of w h t a i x c at is).0))

-- a frame comes to a ring at the tick by one of these
abbrev pub Comes : Scenario → History → ℕ → Coming → Type 0
Comes w h t c = IsSent w t c ⊎ ((a : ℕ) × (a < length w.net.arcs) × Relayed w h t a c)

pub comings_are : (w : Scenario) (h : History) (t : ℕ) → Every (Comes w h t) (Comings w h t)
comings_are w h t =
    every-append (Comes w h t) (flat_map (relays w h t) (below (length w.net.arcs))) (sends_from w t 0 w.script.sends)
    (every_flat (Comes w h t) (λ a. a < length w.net.arcs) (relays w h t)
    (λ a lt. every_weaker (Relayed w h t a) (Comes w h t) (λ c r. inr (a, lt, r)) (relays w h t a) (relays_are w h t a)) (below (length w.net.arcs)) (arcs_below w h t (length w.net.arcs)))
    (every_weaker (IsSent w t) (Comes w h t) (λ c sent. inl sent) (sends_from w t 0 w.script.sends) (sends_are w h t))

-- two comings that aren't one frame on one arc
abbrev pub AreApart : Coming → Coming → Type 0
AreApart c d = c.arc ≡ d.arc → c.frame ≢ d.frame

abbrev pub coming_to : ℕ → ℕ → Coming
coming_to a f = record { arc = a; frame = f }

-- ---- lists

pairs_at : {X : Type 0} (R : X → X → Type 0) (xs : List X) (i j : ℕ) (x y : X) → Pairs R xs → i < j → slice_get xs i ≡ Some x → slice_get xs j ≡ Some y → R x y
pairs_at R [] i j x y all lt at at' = absurd (cc at)
pairs_at R (z ∷ xs) i zero x y all lt at at' = absurd (omega (arith, lt))
pairs_at {X} R (z ∷ xs) zero (suc j) x y (here, more) lt at at' = let same : z ≡ x = cc at in subst (λ (v : X). R v y) same (every_at (R z) xs j y here at')
pairs_at R (z ∷ xs) (suc i) (suc j) x y (here, more) lt at at' = pairs_at R xs i j x y more (omega (arith, lt)) at at'

-- an element of two lists in a row, by its place
split_place : {X : Type 0} (xs ys : List X) (k : ℕ) (x : X) → slice_get (xs ++ ys) k ≡ Some x → (slice_get xs k ≡ Some x) ⊎ ((j : ℕ) × (k ≡ length xs + j) × (slice_get ys j ≡ Some x))
split_place [] ys k x at = inr (k, omega arith, at)
split_place (z ∷ xs) ys zero x at = inl at
split_place (z ∷ xs) ys (suc k) x at = elim (split_place xs ys k x at) [ inl here ↦ inl here | inr (j, is, found) ↦ inr (j, omega (arith, is), found) ]

entry_here : (w : Scenario) (t : ℕ) (g : History) (cs : List Coming) (e : Entry) (i : ℕ) (x : PlainEvent) → slice_get (EntriesOf w t g cs) i ≡ Some x → (x ≡ PlainEvent.enter e) ⊎ (x ≡ PlainEvent.dropped e)
    → (c : Coming) × (slice_get cs i ≡ Some c) × (entry_for w t c ≡ e)
entry_here w t g [] e i x at is = absurd (cc at)
entry_here w t g (c ∷ cs) e zero x at is = (c, refl, go (length (Waiting g c.arc (row w c.frame).prio t) == capacity w c.arc (row w c.frame).prio) (cc at) is)
  where
    go : (b : Bool) → (if b then PlainEvent.dropped (entry_for w t c) else PlainEvent.enter (entry_for w t c)) ≡ x → (x ≡ PlainEvent.enter e) ⊎ (x ≡ PlainEvent.dropped e) → entry_for w t c ≡ e
    go true at (inl is) = absurd (cc (at ∙ is))
    go true at (inr is) = cc (at ∙ is)
    go false at (inl is) = cc (at ∙ is)
    go false at (inr is) = absurd (cc (at ∙ is))
entry_here w t g (c ∷ cs) e (suc i) x at is = entry_here w t (g ++ entry_event w t g c ∷ []) cs e i x at is

module _ (w : Scenario) (routed : IsRouted w) (n : ℕ) (h : History) (legal : LegalBefore w h n) where
  -- the mPacket that was relayed carried the frame's last octets
  pub relayed_whole : (t a : ℕ) (c : Coming) → a < length w.net.arcs → (r : Relayed w h t a c) → ArrivesWhole w h a r.relay.place c.frame
  relayed_whole t a c lt r =
      let o = arrives_whole w n h legal a lt r.relay.place r.relay.x r.relay.arrived r.result in
      let place : r.relay.x.ord ≡ r.relay.place = (steady w n h a lt legal.0).ordered.arrival_places r.relay.place r.relay.x r.relay.arrived in
      let b_is : o.1.begin ≡ r.relay.b = one_at (Begins h a) r.relay.place o.1.begin r.relay.b o.1.begun (subst (λ i. slice_get (Begins h a) i ≡ Some r.relay.b) place r.relay.begun) in
      let same : record { 0 = o.0 } ≡ record { 0 = c.frame } = same_frame (record { 0 = o.0 }) (record { 0 = c.frame }) (sym o.1.carries ∙ (ap (λ (b : Begin). b.what) b_is ∙ r.relay.carries)) in
      subst (ArrivesWhole w h a r.relay.place) (ap (λ (f : FrameNo). f.0) same) o.1

  known : (t a : ℕ) (c : Coming) → a < length w.net.arcs → Relayed w h t a c → c.frame < length w.script.sends
  known t a c lt r = ((right_at w routed n h legal.0 a lt r.relay.x.ord r.relay.b r.relay.begun).on (record { 0 = c.frame }) r.relay.carries).known

  -- a frame arrives whole on an arc once
  pub one_place : (a i j f : ℕ) → a < length w.net.arcs → ArrivesWhole w h a i f → ArrivesWhole w h a j f → i ≡ j
  one_place a i j f lt x y = one_last w routed n h legal.0 a lt i j x.begin y.begin (record { 0 = f }) x.ended y.ended (x.begun, x.carries) (y.begun, y.carries) x.over y.over x.full y.full

  one_arrival : (t u a : ℕ) (c d : Coming) → a < length w.net.arcs → c.frame ≡ d.frame → (r : Relayed w h t a c) (q : Relayed w h u a d) → r.relay.place ≡ q.relay.place
  one_arrival t u a c d lt same r q = one_place a r.relay.place q.relay.place d.frame lt (subst (ArrivesWhole w h a r.relay.place) same (relayed_whole t a c lt r)) (relayed_whole u a d lt q)

  -- what is sent doesn't come by a relay too
  sent_apart : (t u a : ℕ) (c d : Coming) → a < length w.net.arcs → Relayed w h t a c → IsSent w u d → c.arc ≡ d.arc → c.frame ≡ d.frame → ⊥
  sent_apart t u a c d lt r q arcs frames =
      not_first (hops w c.frame) (routed.once c.frame (known t a c lt r)) a (r.relay.next ∙ ap Some (arcs ∙ (q.arc ∙ ap (first_arc w) (sym frames))))

  -- it comes to an arc from one arc
  one_from : (t u a b : ℕ) (c d : Coming) → a < length w.net.arcs → Relayed w h t a c → Relayed w h u b d → c.arc ≡ d.arc → c.frame ≡ d.frame → a ≡ b
  one_from t u a b c d lt r q arcs frames =
      one_before (hops w c.frame) (routed.once c.frame (known t a c lt r)) a b c.arc r.relay.next (ap (next_arc w b) frames ∙ (q.relay.next ∙ ap Some (sym arcs)))

  -- and at one tick
  pub one_tick : (t u : ℕ) (c : Coming) → Comes w h t c → Comes w h u c → t ≡ u
  one_tick t u c (inl r) (inl q) = sym r.now ∙ q.now
  one_tick t u c (inl r) (inr (b, lt, q)) = absurd (sent_apart u t b c c lt q r refl refl)
  one_tick t u c (inr (a, lt, r)) (inl q) = absurd (sent_apart t u a c c lt r q refl refl)
  one_tick t u c (inr (a, lt, r)) (inr (b, lt', q)) =
      let same : b ≡ a = one_from u t b a c c lt' q r refl refl in
      let q' : Relayed w h u a c = subst (λ x. Relayed w h u x c) same q in
      let place : r.relay.place ≡ q'.relay.place = one_arrival t u a c c lt refl r q' in
      let x_is : r.relay.x ≡ q'.relay.x = one_at (Arrivals h a) q'.relay.place r.relay.x q'.relay.x (subst (λ i. slice_get (Arrivals h a) i ≡ Some r.relay.x) place r.relay.arrived) q'.relay.arrived in
      sym r.relay.over ∙ (ap (λ (x : Arrive). x.tick + latency w a) x_is ∙ q'.relay.over)

  -- ---- the comings of a tick

  module _ (t : ℕ) where
    one_each : (a : ℕ) → a < length w.net.arcs → Pairs AreApart (relays w h t a)
    one_each a lt = pairs_selected (relayed w h t a) AreApart (Arrivals h a) (λ i j x z c d less at at' is is' arcs frames.
        let r = relayed_of w h t a i x c at is in
        let q = relayed_of w h t a j z d at' is' in
        let place = one_arrival t t a c d lt frames r.0 q.0 in
        omega (arith, less, place, r.1, q.1))

    apart_arcs : (a b : ℕ) → a < length w.net.arcs → a ≢ b → Every (λ c. Every (AreApart c) (relays w h t b)) (relays w h t a)
    apart_arcs a b lt other =
        every_weaker (Relayed w h t a) (λ c. Every (AreApart c) (relays w h t b)) (λ c r. every_weaker (Relayed w h t b) (AreApart c) (λ d q arcs frames.
        other (one_from t t a b c d lt r q arcs frames)) (relays w h t b) (relays_are w h t b)) (relays w h t a) (relays_are w h t a)

    apart_sends : (a : ℕ) → a < length w.net.arcs → Every (λ c. Every (AreApart c) (sends_from w t 0 w.script.sends)) (relays w h t a)
    apart_sends a lt =
        every_weaker (Relayed w h t a) (λ c. Every (AreApart c) (sends_from w t 0 w.script.sends)) (λ c r. every_weaker (IsSent w t) (AreApart c) (λ d q arcs frames.
        sent_apart t t a c d lt r q arcs frames) (sends_from w t 0 w.script.sends) (sends_are w h t)) (relays w h t a) (relays_are w h t a)

    apart_below : (m : ℕ) → Pairs (λ a b. a ≢ b) (below m)
    apart_below zero = tt
    apart_below (suc m) = pairs-append (λ a b. a ≢ b) (below m) (m ∷ []) (apart_below m) (tt, tt) (every_weaker (λ a. a < m) (λ a. Every (λ b. a ≢ b) (m ∷ [])) (λ a lt. ((λ same. omega (arith, lt, same)), tt)) (below m) (arcs_below w h t m))

    from_on : (f : ℕ) (ss : List SendLine) → Every (λ (c : Coming). f ≤ c.frame) (sends_from w t f ss)
    from_on f [] = tt
    from_on f (x ∷ ss) = go (x.send.tick.0 == t) (every_weaker (λ (c : Coming). f + 1 ≤ c.frame) (λ c. f ≤ c.frame) (λ c le. omega (arith, le)) (sends_from w t (f + 1) ss) (from_on (f + 1) ss))
      where
        go : (b : Bool) → Every (λ (c : Coming). f ≤ c.frame) (sends_from w t (f + 1) ss) → Every (λ (c : Coming). f ≤ c.frame) (if b then record { arc = first_arc w f; frame = f } ∷ sends_from w t (f + 1) ss else sends_from w t (f + 1) ss)
        go true more = (omega arith, more)
        go false more = more

    sends_apart : (f : ℕ) (ss : List SendLine) → Pairs AreApart (sends_from w t f ss)
    sends_apart f [] = tt
    sends_apart f (x ∷ ss) = go (x.send.tick.0 == t) (sends_apart (f + 1) ss)
      where
        go : (b : Bool) → Pairs AreApart (sends_from w t (f + 1) ss) → Pairs AreApart (if b then record { arc = first_arc w f; frame = f } ∷ sends_from w t (f + 1) ss else sends_from w t (f + 1) ss)
        go true more = (every_weaker (λ (c : Coming). f + 1 ≤ c.frame) (AreApart (record { arc = first_arc w f; frame = f })) (λ c le arcs frames. omega (arith, le, frames)) (sends_from w t (f + 1) ss) (from_on (f + 1) ss), more)
        go false more = more

    pub comings_apart : Pairs AreApart (Comings w h t)
    comings_apart =
        pairs-append AreApart (flat_map (relays w h t) (below (length w.net.arcs))) (sends_from w t 0 w.script.sends)
        (pairs_flat AreApart (λ a. a < length w.net.arcs) (λ a b. a ≢ b) (relays w h t) one_each (λ a b lt lt' other. apart_arcs a b lt other) (below (length w.net.arcs)) (arcs_below w h t (length w.net.arcs)) (apart_below (length w.net.arcs)))
        (sends_apart 0 w.script.sends)
        (every_flat (λ c. Every (AreApart c) (sends_from w t 0 w.script.sends)) (λ a. a < length w.net.arcs) (relays w h t) apart_sends (below (length w.net.arcs)) (arcs_below w h t (length w.net.arcs)))

  -- ---- entries and drops

  pub told_before : (i : ℕ) (e : Entry) → IsEntry h i e → number (length w.net.arcs) e.tick (1 + 3 * length w.net.arcs) < n
  told_before i e (inl at) = let x = every_at (IsBefore (length w.net.arcs) n) h i (PlainEvent.enter e) (placed w n h legal.0) at in let lt = x.1 in let is = x.2 in omega (arith, lt, is)
  told_before i e (inr at) = let x = every_at (IsBefore (length w.net.arcs) n) h i (PlainEvent.dropped e) (placed w n h legal.0) at in let lt = x.1 in let is = x.2 in omega (arith, lt, is)

  told : (i : ℕ) (e : Entry) → IsEntry h i e → IsTold h (PlainEvent.enter e) ⊎ IsTold h (PlainEvent.dropped e)
  told i e (inl at) = inl (any_at (λ x. x ≡ PlainEvent.enter e) h i (PlainEvent.enter e) at refl)
  told i e (inr at) = inr (any_at (λ x. x ≡ PlainEvent.dropped e) h i (PlainEvent.dropped e) at refl)

  -- each has its ground
  pub came : (i : ℕ) (e : Entry) → IsEntry h i e → Comes w h e.tick (coming_to e.arc e.frame) × (e.prio ≡ (row w e.frame).prio)
  came i e is =
      let o = entries_come w n h e.tick legal.0 (told_before i e is) e refl (told i e is) in
      let by = every_at (Comes w h e.tick) (Comings w h e.tick) o.0 o.1 (comings_are w h e.tick) o.2 in (
        subst (λ (x : Entry). Comes w h e.tick (coming_to x.arc x.frame)) o.3 by,
        ap (λ (x : Entry). x.prio) (sym o.3) ∙ ap (λ (x : Entry). (row w x.frame).prio) o.3,
      )

  module _ (t : ℕ) (r : HasEntries w h t) where
    not_there : (e : Entry) (x : PlainEvent) → e.tick ≡ t → IsNoEntry t x → (x ≡ PlainEvent.enter e) ⊎ (x ≡ PlainEvent.dropped e) → ⊥
    not_there e x now none (inl is) = subst (IsNoEntry t) is none now
    not_there e x now none (inr is) = subst (IsNoEntry t) is none now

    placed_at : (i : ℕ) (e : Entry) (x : PlainEvent) → e.tick ≡ t → slice_get h i ≡ Some x → (x ≡ PlainEvent.enter e) ⊎ (x ≡ PlainEvent.dropped e)
        → (j : ℕ) × (c : Coming) × (i ≡ length r.front + j) × (slice_get (Comings w h t) j ≡ Some c) × (entry_for w t c ≡ e)
    placed_at i e x now at is = elim (split_place (r.front ++ EntriesOf w t r.front (Comings w h t)) r.rest i x (ap (λ l. slice_get l i) (sym r.joined) ∙ at)) [
      | inr (j, i_is, found) ↦ absurd (not_there e x now (every_at (IsNoEntry t) r.rest j x r.none_after found) is)
      | inl here ↦ elim (split_place r.front (EntriesOf w t r.front (Comings w h t)) i x here) [
        | inl before ↦ absurd (not_there e x now (every_at (IsNoEntry t) r.front i x r.none_before before) is)
        | inr (j, i_is, found) ↦ let o = entry_here w t r.front (Comings w h t) e j x found is in (j, o.0, i_is, o.1, o.2)
      ]
    ]

    entry_at : (i : ℕ) (e : Entry) → e.tick ≡ t → IsEntry h i e → (j : ℕ) × (c : Coming) × (i ≡ length r.front + j) × (slice_get (Comings w h t) j ≡ Some c) × (entry_for w t c ≡ e)
    entry_at i e now (inl at) = placed_at i e (PlainEvent.enter e) now at (inl refl)
    entry_at i e now (inr at) = placed_at i e (PlainEvent.dropped e) now at (inr refl)

    one_now : (i j : ℕ) (e d : Entry) → e.tick ≡ t → d.tick ≡ t → IsEntry h i e → IsEntry h j d → e.arc ≡ d.arc → e.frame ≡ d.frame → i ≡ j
    one_now i j e d now now' is is' arcs frames = go (entry_at i e now is) (entry_at j d now' is')
      where
        order : (m n : ℕ) → (m ≡ n) ⊎ (m < n) ⊎ (n < m)
        order m n = grind arith

        go : ((k : ℕ) × (c : Coming) × (i ≡ length r.front + k) × (slice_get (Comings w h t) k ≡ Some c) × (entry_for w t c ≡ e))
            → ((k : ℕ) × (c : Coming) × (j ≡ length r.front + k) × (slice_get (Comings w h t) k ≡ Some c) × (entry_for w t c ≡ d)) → i ≡ j
        go (k, c, i_is, at, e_is) (l, c', j_is, at', d_is) =
            let arcs' : c.arc ≡ c'.arc = ap (λ (x : Entry). x.arc) e_is ∙ (arcs ∙ ap (λ (x : Entry). x.arc) (sym d_is)) in
            let frames' : c.frame ≡ c'.frame = ap (λ (x : Entry). x.frame) e_is ∙ (frames ∙ ap (λ (x : Entry). x.frame) (sym d_is)) in
            elim (order k l) [
              | inl same ↦ omega (arith, i_is, j_is, same)
              | inr (inl less) ↦ absurd (pairs_at AreApart (Comings w h t) k l c c' (comings_apart t) less at at' arcs' frames')
              | inr (inr more) ↦ absurd (pairs_at AreApart (Comings w h t) l k c' c (comings_apart t) more at' at (sym arcs') (sym frames'))
            ]

  -- no two are of one frame on one arc
  pub entries_once : (i j : ℕ) (e d : Entry) → IsEntry h i e → IsEntry h j d → e.arc ≡ d.arc → e.frame ≡ d.frame → i ≡ j
  entries_once i j e d is is' arcs frames =
      let by : Comes w h d.tick (coming_to e.arc e.frame) = subst (λ x. Comes w h d.tick (coming_to x e.frame)) (sym arcs) (subst (λ x. Comes w h d.tick (coming_to d.arc x)) (sym frames) (came j d is').0) in
      let now : e.tick ≡ d.tick = one_tick e.tick d.tick (coming_to e.arc e.frame) (came i e is).0 by in
      one_now d.tick (entries_read w n h d.tick legal.0 (told_before j d is')) i j e d now refl is is' arcs frames

  -- and each comes as it was sent, or from the arc before
  pub entries_grounded : (i : ℕ) (e : Entry) → IsEntry h i e → ComesFirst w e.tick e.arc e.frame ⊎ ComesNext w h e.tick e.arc e.frame
  entries_grounded i e is = go (came i e is).0
    where
      go : Comes w h e.tick (coming_to e.arc e.frame) → ComesFirst w e.tick e.arc e.frame ⊎ ComesNext w h e.tick e.arc e.frame
      go (inl s) = inl (record { known = s.known; first = s.arc; now = s.now })
      go (inr (a, lt, r)) = inr (record {
        from = a;
        place = r.relay.place;
        arrived = r.relay.x;
        arc_known = lt;
        arrival = r.relay.arrived;
        result = r.result;
        over = r.relay.over;
        next = r.relay.next;
        whole = relayed_whole e.tick a (coming_to e.arc e.frame) lt r;
      })

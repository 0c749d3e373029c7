-- No two frames of an express priority that come to a ring are one, drops too.
use Rattle.std.proofs.Common.{ℕ, zero, suc, ◌≡◌, ◌≢◌, ◌==◌, ◌&&◌, ◌+◌, ◌*◌, ◌/◌, ◌%◌, ◌<◌, ◌≤◌}
use Rattle.std.proofs.Common.{Bool, true, false, List, [], ◌∷◌, ◌++◌, length, refl, sym, ◌∙◌, ap, arith, subst, inr, Option, Some}
use Rattle.std.proofs.Common.{None}
use Rattle.std.specs.Prelude.{if◌then◌else◌, flat_map, filter_map, AllPairs}
use Rattle.std.specs.List.{AllByRecursion as Every, cons_option}
use Rattle.std.proofs.lemmas.List.{append-nil}
use Rattle.std.proofs.lemmas.Bool.{and_parts}
use Rattle.std.proofs.lemmas.Bool.Decides.{nat_tests}
use Rattle.std.proofs.lemmas.List.Elements.{filter_map-append}
use Rattle.pre_script.specs.declared.scripts.SendLine.{SendLine}
use Rattle.pre_history.specs.declared.events.What.TheVariants as what
use Rattle.pre_history.specs.Scenario.{Scenario, arc, row, capacity}
use Rattle.pre_history.specs.Moments.{Phase, moments, phase_at}
use Rattle.pre_history.specs.History.{PlainEvent, History}
use Rattle.pre_history.specs.Selected.{RingEntry, entry_on}
use Rattle.pre_history.specs.Queries.{Arrivals, Entries, Waiting}
use Rattle.pre_history.specs.Comings.{Coming, Comings, EntriesOf, entry_event, entry_for, hops, next_arc, first_arc, sends_from, relayed, below}
use Rattle.pre_history.specs.Rules.{HappensIn}
use Rattle.pre_history.specs.Placed.{HasPlace, number, IsAt, AllAt}
use Rattle.pre_history.specs.Legal.{LegalUpTo}
use Rattle.pre_history.proofs.Lists.{every_at, every_placed, every_weaker, none_selected}
use Rattle.pre_history.proofs.Pairs.{Pairs, pairs-append, every_flat, pairs_flat, pairs_selected}
use Rattle.pre_history.proofs.Routes.{one_before, not_first}
use Rattle.pre_history.proofs.Relays.{IsSent, IsRelayed, ComesBy, relay_of, relays, relays_are, sends_are, arcs_below, comings_by}
use Rattle.pre_history.proofs.Placing.{same_place, placed, moment_events, place_at, place_below, numbered}
use Rattle.pre_history.proofs.Turns.{tick_lt}
use Rattle.pre_history.proofs.InOrder.{steady}
use Rattle.pre_history.proofs.EntryMoments.{entries_before}
use Rattle.pre_delay.specs.Runs.{IsRun}
use Rattle.pre_delay.proofs.Once.{HighBefore, one_begin, one_tick}
use Rattle.pre_laws.proofs.Once.{coming_to}
use Rattle.pre_delay.proofs.Rings.{entries_came}
use Rattle.pre_delay.proofs.Known.{comer_on, high_before, known_on, routes}

-- the moment of a tick at which frames come to rings
abbrev pub entries_moment : Scenario → ℕ → ℕ
entries_moment w t = number (length w.net.arcs) t (1 + 3 * length w.net.arcs)

-- two comings that aren't one frame of an express priority on one arc
abbrev pub AreApart : Scenario → Coming → Coming → Type 0
AreApart w c d = (arc w c.arc).express_from ≤ (row w c.frame).prio → c.arc ≡ d.arc → c.frame ≢ d.frame

abbrev pub OtherFrame : RingEntry → RingEntry → Type 0
OtherFrame r s = r.frame ≢ s.frame

module _ (w : Scenario) (n : ℕ) (h : History) (legal : LegalUpTo w n h) (routes : (f : ℕ) → AllPairs (λ x y. x ≢ y) (hops w f)) where
  -- a frame arrives on an arc once
  one_arrival : (t u a : ℕ) (c d : Coming) → a < length w.net.arcs → (arc w a).express_from ≤ (row w c.frame).prio → c.frame ≡ d.frame → (r : IsRelayed w h t a c) (q : IsRelayed w h u a d) → r.place ≡ q.place
  one_arrival t u a c d lt high same r q =
      let one = one_begin w n h legal routes a r.x.ord q.x.ord r.b q.b (record { 0 = c.frame }) lt high r.begun q.begun r.carries (q.carries ∙ ap (λ f. what.Frame (record { 0 = f })) (sym same)) in
      let o = (steady w n h a lt legal).ordered in
      let place = o.arrival_places r.place r.x r.arrived in
      let place' = o.arrival_places q.place q.x q.arrived in
      omega (arith, one, place, place')

  -- what is sent doesn't come by a relay too
  pub sent_apart : (t u a : ℕ) (c d : Coming) → IsRelayed w h t a c → IsSent w u d → c.arc ≡ d.arc → c.frame ≡ d.frame → ⊥
  sent_apart t u a c d r q arcs frames = not_first (hops w c.frame) (routes c.frame) a (r.next ∙ ap Some (arcs ∙ (q.arc ∙ ap (first_arc w) (sym frames))))

  -- it comes to an arc from one arc
  one_from : (t u a b : ℕ) (c d : Coming) → IsRelayed w h t a c → IsRelayed w h u b d → c.arc ≡ d.arc → c.frame ≡ d.frame → a ≡ b
  one_from t u a b c d r q arcs frames = one_before (hops w c.frame) (routes c.frame) a b c.arc r.next (ap (next_arc w b) frames ∙ (q.next ∙ ap Some (sym arcs)))

-- ---- what comes to a ring at a tick, as if all of it entered

module _ (w : Scenario) (t : ℕ) where
  abbrev pub as_comer : ℕ → ℕ → Coming → Option RingEntry
  as_comer a p c = if (c.arc == a) && ((row w c.frame).prio == p) then Some (record { tick = t; frame = c.frame; entered = true }) else None

  abbrev pub comers : ℕ → ℕ → List Coming → List RingEntry
  comers a p cs = filter_map (as_comer a p) cs

  -- a comer's coming
  pub record IsComer (a p : ℕ) (c : Coming) (r : RingEntry) : Type 0 where
    pub arc : c.arc ≡ a
    pub prio : (row w c.frame).prio ≡ p
    pub frame : r.frame ≡ c.frame
    pub now : r.tick ≡ t
    pub entered : r.entered ≡ true

  pub comer_is : (a p : ℕ) (c : Coming) (r : RingEntry) → as_comer a p c ≡ Some r → IsComer a p c r
  comer_is a p c r is = kept ((c.arc == a) && ((row w c.frame).prio == p)) refl is
    where
      kept : (b : Bool) → ((c.arc == a) && ((row w c.frame).prio == p)) ≡ b → (if b then Some (record { tick = t; frame = c.frame; entered = true }) else None) ≡ Some r → IsComer a p c r
      kept false off is = absurd (cc is)
      kept true on is =
          let made : RingEntry = record { tick = t; frame = c.frame; entered = true } in
          let same : made ≡ r = cc is in
          let parts = and_parts (c.arc == a) ((row w c.frame).prio == p) on in
          subst (IsComer a p c) same (record { arc = grind (arith, nat_tests, parts.0); prio = grind (arith, nat_tests, parts.1); frame = refl; now = refl; entered = refl })

  pub every_comer : (a p : ℕ) (P : RingEntry → Type 0) (Q : Coming → Type 0) → ((c : Coming) (r : RingEntry) → Q c → IsComer a p c r → P r) → (cs : List Coming) → Every Q cs → Every P (comers a p cs)
  every_comer a p P Q says [] q = tt
  every_comer a p P Q says (c ∷ cs) (here, more) = go (as_comer a p c) refl (every_comer a p P Q says cs more)
    where
      go : (o : Option RingEntry) → as_comer a p c ≡ o → Every P (comers a p cs) → Every P (cons_option o (comers a p cs))
      go None is rest = rest
      go (Some r) is rest = (says c r here (comer_is a p c r is), rest)

  pub comers_apart : (a p : ℕ) (cs : List Coming) → (arc w a).express_from ≤ p → Pairs (AreApart w) cs → Pairs OtherFrame (comers a p cs)
  comers_apart a p [] high apart = tt
  comers_apart a p (c ∷ cs) high (here, more) = go (as_comer a p c) refl (comers_apart a p cs high more)
    where
      go : (o : Option RingEntry) → as_comer a p c ≡ o → Pairs OtherFrame (comers a p cs) → Pairs OtherFrame (cons_option o (comers a p cs))
      go None is rest = rest
      go (Some r) is rest =
          let e = comer_is a p c r is in
          (every_comer a p (OtherFrame r) (AreApart w c) (λ d q apart x same. apart (subst (λ y. (arc w y).express_from ≤ (row w c.frame).prio) (sym e.arc) (omega (arith, e.prio, high))) (e.arc ∙ sym x.arc) (sym e.frame ∙ (same ∙ x.frame))) cs here, rest)

-- ---- the comings of a tick

module _ (w : Scenario) (run : IsRun w) (t : ℕ) (past : History) (legal : LegalUpTo w (entries_moment w t) past) where
  express_before : (c : Coming) → ComesBy w past t c → (arc w c.arc).express_from ≤ (row w c.frame).prio → HighBefore w c
  express_before c by high =
      let on = comer_on w run (entries_moment w t) past legal t c by in
      high_before w run c.frame c.arc (known_on w run t c.arc c.frame on) high on.known

  -- what comes now didn't come before
  pub not_before : (c : Coming) (p : ℕ) → (arc w c.arc).express_from ≤ (row w c.frame).prio → ComesBy w past t c → Every (λ (r : RingEntry). r.frame ≢ c.frame) (Entries past c.arc p)
  not_before c p high by = every_placed (λ (r : RingEntry). r.frame ≢ c.frame) (Entries past c.arc p) (λ i r at same.
      let came : ComesBy w past r.tick (coming_to c.arc r.frame) = every_at (λ (r : RingEntry). ComesBy w past r.tick (coming_to c.arc r.frame)) (Entries past c.arc p) i r (entries_came w (entries_moment w t) past c.arc p legal) at in
      let early = every_at (λ (r : RingEntry). number (length w.net.arcs) r.tick (1 + 3 * length w.net.arcs) < entries_moment w t) (Entries past c.arc p) i r
      (entries_before (length w.net.arcs) (entries_moment w t) c.arc p past (placed w (entries_moment w t) past legal)) at in
      let before : r.tick < t = tick_lt (moments (length w.net.arcs)) r.tick t (1 + 3 * length w.net.arcs) early in
      let now : r.tick ≡ t = one_tick w (entries_moment w t) past legal (routes w run) r.tick t c (express_before c by high) (subst (λ f. ComesBy w past r.tick (coming_to c.arc f)) same came) by in
      omega (arith, before, now))

  one_each : (a : ℕ) → a < length w.net.arcs → Pairs (AreApart w) (relays w past t a)
  one_each a lt = pairs_selected (relayed w past t a) (AreApart w) (Arrivals past a) (λ i j x z c d less at at' is is' high arcs frames.
      let r = relay_of w past t a i x c at is in
      let q = relay_of w past t a j z d at' is' in
      let place = one_arrival w (entries_moment w t) past legal (routes w run) t t a c d lt (express_before c (inr (a, lt, r.0)) high a r.0.next) frames r.0 q.0 in
      omega (arith, less, place, r.1, q.1))

  apart_arcs : (a b : ℕ) → a ≢ b → Every (λ c. Every (AreApart w c) (relays w past t b)) (relays w past t a)
  apart_arcs a b other =
      every_weaker (IsRelayed w past t a) (λ c. Every (AreApart w c) (relays w past t b)) (λ c r. every_weaker (IsRelayed w past t b) (AreApart w c) (λ d q high arcs frames.
      other (one_from w (entries_moment w t) past legal (routes w run) t t a b c d r q arcs frames)) (relays w past t b) (relays_are w past t b)) (relays w past t a) (relays_are w past t a)

  apart_sends : (a : ℕ) → Every (λ c. Every (AreApart w c) (sends_from w t 0 w.script.sends)) (relays w past t a)
  apart_sends a =
      every_weaker (IsRelayed w past t a) (λ c. Every (AreApart w c) (sends_from w t 0 w.script.sends)) (λ c r. every_weaker (IsSent w t) (AreApart w c) (λ d q high arcs frames.
      sent_apart w (entries_moment w t) past legal (routes w run) t t a c d r q arcs frames) (sends_from w t 0 w.script.sends) (sends_are w past t)) (relays w past t a) (relays_are w past t a)

  apart_below : (m : ℕ) → Pairs (λ a b. a ≢ b) (below m)
  apart_below zero = tt
  apart_below (suc m) = pairs-append (λ a b. a ≢ b) (below m) (m ∷ []) (apart_below m) (tt, tt) (every_weaker (λ a. a < m) (λ a. Every (λ b. a ≢ b) (m ∷ [])) (λ a lt. ((λ same. omega (arith, lt, same)), tt)) (below m) (arcs_below w past t m))

  from_on : (f : ℕ) (ss : List SendLine) → Every (λ (c : Coming). f ≤ c.frame) (sends_from w t f ss)
  from_on f [] = tt
  from_on f (x ∷ ss) = go (x.send.tick.0 == t) (every_weaker (λ (c : Coming). f + 1 ≤ c.frame) (λ c. f ≤ c.frame) (λ c le. omega (arith, le)) (sends_from w t (f + 1) ss) (from_on (f + 1) ss))
    where
      go : (b : Bool) → Every (λ (c : Coming). f ≤ c.frame) (sends_from w t (f + 1) ss) → Every (λ (c : Coming). f ≤ c.frame) (if b then record { arc = first_arc w f; frame = f } ∷ sends_from w t (f + 1) ss else sends_from w t (f + 1) ss)
      go true more = (omega arith, more)
      go false more = more

  sends_apart : (f : ℕ) (ss : List SendLine) → Pairs (AreApart w) (sends_from w t f ss)
  sends_apart f [] = tt
  sends_apart f (x ∷ ss) = go (x.send.tick.0 == t) (sends_apart (f + 1) ss)
    where
      go : (b : Bool) → Pairs (AreApart w) (sends_from w t (f + 1) ss) → Pairs (AreApart w) (if b then record { arc = first_arc w f; frame = f } ∷ sends_from w t (f + 1) ss else sends_from w t (f + 1) ss)
      go true more = (every_weaker (λ (c : Coming). f + 1 ≤ c.frame) (AreApart w (record { arc = first_arc w f; frame = f })) (λ c le high arcs frames. omega (arith, le, frames)) (sends_from w t (f + 1) ss) (from_on (f + 1) ss), more)
      go false more = more

  pub comings_apart : Pairs (AreApart w) (Comings w past t)
  comings_apart =
      pairs-append (AreApart w) (flat_map (relays w past t) (below (length w.net.arcs))) (sends_from w t 0 w.script.sends)
      (pairs_flat (AreApart w) (λ a. a < length w.net.arcs) (λ a b. a ≢ b) (relays w past t) one_each (λ a b lt lt' other. apart_arcs a b other) (below (length w.net.arcs)) (arcs_below w past t (length w.net.arcs)) (apart_below (length w.net.arcs)))
      (sends_apart 0 w.script.sends)
      (every_flat (λ c. Every (AreApart w c) (sends_from w t 0 w.script.sends)) (λ a. a < length w.net.arcs) (relays w past t) (λ a lt. apart_sends a) (below (length w.net.arcs)) (arcs_below w past t (length w.net.arcs)))

  -- ---- their entries

  entry_is : (a p : ℕ) (g : History) (c : Coming) (r : RingEntry) → entry_on a p (entry_event w t g c) ≡ Some r → (c.arc ≡ a) × ((row w c.frame).prio ≡ p) × (r.frame ≡ c.frame)
  entry_is a p g c r is = go (length (Waiting g c.arc (row w c.frame).prio t) == capacity w c.arc (row w c.frame).prio) is
    where
      kept : (e b : Bool) → ((c.arc == a) && ((row w c.frame).prio == p)) ≡ b → (if b then Some (record { tick = t; frame = c.frame; entered = e }) else None) ≡ Some r → (c.arc ≡ a) × ((row w c.frame).prio ≡ p) × (r.frame ≡ c.frame)
      kept e false off is = absurd (cc is)
      kept e true on is =
          let made : RingEntry = record { tick = t; frame = c.frame; entered = e } in
          let same : made ≡ r = cc is in
          let parts = and_parts (c.arc == a) ((row w c.frame).prio == p) on in
          let arc_is : c.arc ≡ a = grind (arith, nat_tests, parts.0) in
          let prio_is : (row w c.frame).prio ≡ p = grind (arith, nat_tests, parts.1) in
          (arc_is, prio_is, sym (ap (λ (x : RingEntry). x.frame) same))

      go : (b : Bool) → entry_on a p (if b then PlainEvent.dropped (entry_for w t c) else PlainEvent.enter (entry_for w t c)) ≡ Some r → (c.arc ≡ a) × ((row w c.frame).prio ≡ p) × (r.frame ≡ c.frame)
      go true is = kept false ((c.arc == a) && ((row w c.frame).prio == p)) refl is
      go false is = kept true ((c.arc == a) && ((row w c.frame).prio == p)) refl is

  every_entry : (a p : ℕ) (P : RingEntry → Type 0) (g : History) (cs : List Coming) → Every (λ (c : Coming). c.arc ≡ a → (row w c.frame).prio ≡ p → (r : RingEntry) → r.frame ≡ c.frame → P r) cs → Every P (Entries (EntriesOf w t g cs) a p)
  every_entry a p P g [] says = tt
  every_entry a p P g (c ∷ cs) (here, more) = go (entry_on a p (entry_event w t g c)) refl (every_entry a p P (g ++ entry_event w t g c ∷ []) cs more)
    where
      go : (o : Option RingEntry) → entry_on a p (entry_event w t g c) ≡ o → Every P (Entries (EntriesOf w t (g ++ entry_event w t g c ∷ []) cs) a p) → Every P (cons_option o (Entries (EntriesOf w t (g ++ entry_event w t g c ∷ []) cs) a p))
      go None is rest = rest
      go (Some r) is rest = let e = entry_is a p g c r is in (here e.0 e.1 r e.2, rest)

  entries_apart : (a p : ℕ) (g : History) (cs : List Coming) → (arc w a).express_from ≤ p → Pairs (AreApart w) cs → Pairs OtherFrame (Entries (EntriesOf w t g cs) a p)
  entries_apart a p g [] high apart = tt
  entries_apart a p g (c ∷ cs) high (here, more) = go (entry_on a p (entry_event w t g c)) refl (entries_apart a p (g ++ entry_event w t g c ∷ []) cs high more)
    where
      go : (o : Option RingEntry) → entry_on a p (entry_event w t g c) ≡ o → Pairs OtherFrame (Entries (EntriesOf w t (g ++ entry_event w t g c ∷ []) cs) a p)
          → Pairs OtherFrame (cons_option o (Entries (EntriesOf w t (g ++ entry_event w t g c ∷ []) cs) a p))
      go None is rest = rest
      go (Some r) is rest =
          let e = entry_is a p g c r is in (
            every_entry a p (OtherFrame r) (g ++ entry_event w t g c ∷ []) cs
                (every_weaker (AreApart w c) (λ (d : Coming). d.arc ≡ a → (row w d.frame).prio ≡ p → (q : RingEntry) → q.frame ≡ d.frame → OtherFrame r q)
                (λ d apart arc_is prio_is q frame_is same. apart (subst (λ y. (arc w y).express_from ≤ (row w c.frame).prio) (sym e.0) (omega (arith, e.1, high))) (e.0 ∙ sym arc_is) (sym e.2 ∙ (same ∙ frame_is))) cs here),
            rest,
          )

  entries_more : (a p : ℕ) → (arc w a).express_from ≤ p → Pairs OtherFrame (Entries past a p) → Pairs OtherFrame (Entries (past ++ EntriesOf w t past (Comings w past t)) a p)
  entries_more a p high old =
      subst (Pairs OtherFrame) (sym (filter_map-append (entry_on a p) past (EntriesOf w t past (Comings w past t))))
      (pairs-append OtherFrame (Entries past a p) (Entries (EntriesOf w t past (Comings w past t)) a p) old (entries_apart a p past (Comings w past t) high comings_apart)
      (every_placed (λ r. Every (OtherFrame r) (Entries (EntriesOf w t past (Comings w past t)) a p)) (Entries past a p) (λ i r at. every_entry a p (OtherFrame r) past (Comings w past t)
      (every_weaker (ComesBy w past t) (λ (c : Coming). c.arc ≡ a → (row w c.frame).prio ≡ p → (q : RingEntry) → q.frame ≡ c.frame → OtherFrame r q)
      (λ c by arc_is prio_is q frame_is same.
      every_at (λ (r : RingEntry). r.frame ≢ c.frame) (Entries past a p) i r (subst (λ x. Every (λ (r : RingEntry). r.frame ≢ c.frame) (Entries past x p)) arc_is (not_before c p (subst (λ y. (arc w y).express_from ≤ (row w c.frame).prio) (sym arc_is) (omega (arith, prio_is, high))) by)) at (same ∙ frame_is))
      (Comings w past t) (comings_by w past t)))))

  -- what stands in the ring, and what comes to it now
  pub all_apart : (a p : ℕ) → (arc w a).express_from ≤ p → Pairs OtherFrame (Entries past a p) → Pairs OtherFrame (Entries past a p ++ comers w t a p (Comings w past t))
  all_apart a p high old =
      pairs-append OtherFrame (Entries past a p) (comers w t a p (Comings w past t)) old (comers_apart w t a p (Comings w past t) high comings_apart)
      (every_placed (λ r. Every (OtherFrame r) (comers w t a p (Comings w past t))) (Entries past a p) (λ i r at. every_comer w t a p (OtherFrame r) (ComesBy w past t)
      (λ c q by x same. every_at (λ (r : RingEntry). r.frame ≢ c.frame) (Entries past a p) i r (subst (λ y. Every (λ (r : RingEntry). r.frame ≢ c.frame) (Entries past y p)) x.arc (not_before c p (subst (λ y. (arc w y).express_from ≤ (row w c.frame).prio) (sym x.arc) (omega (arith, x.prio, high))) by)) at (same ∙ x.frame))
      (Comings w past t) (comings_by w past t)))

-- ---- over all moments

no_entry : (arcs t k a p : ℕ) → k < moments arcs → k ≢ 1 + 3 * arcs → (e : PlainEvent) → IsAt arcs (number arcs t k) e → entry_on a p e ≡ None
no_entry arcs t k a p lt other (PlainEvent.enter e) at = absurd (other (same_place arcs t e.tick k (1 + 3 * arcs) lt (omega arith) at))
no_entry arcs t k a p lt other (PlainEvent.dropped e) at = absurd (other (same_place arcs t e.tick k (1 + 3 * arcs) lt (omega arith) at))
no_entry arcs t k a p lt other (PlainEvent.set s b v) at = refl
no_entry arcs t k a p lt other (PlainEvent.begin b) at = refl
no_entry arcs t k a p lt other (PlainEvent.ended e) at = refl
no_entry arcs t k a p lt other (PlainEvent.arrive x) at = refl
no_entry arcs t k a p lt other (PlainEvent.deliver d) at = refl
no_entry arcs t k a p lt other (PlainEvent.active s b v) at = refl
no_entry arcs t k a p lt other (PlainEvent.count b c) at = refl
no_entry arcs t k a p lt other (PlainEvent.end e) at = refl

-- a moment at which nothing comes to rings
pub no_entries : (arcs t k a p : ℕ) (es : History) → k < moments arcs → k ≢ 1 + 3 * arcs → AllAt arcs (number arcs t k) es → Entries es a p ≡ []
no_entries arcs t k a p es lt other at = none_selected (entry_on a p) es (every_weaker (IsAt arcs (number arcs t k)) (λ e. entry_on a p e ≡ None) (no_entry arcs t k a p lt other) es at)

pub same_entries : (arcs t k a p : ℕ) (past es : History) → k < moments arcs → k ≢ 1 + 3 * arcs → AllAt arcs (number arcs t k) es → Entries (past ++ es) a p ≡ Entries past a p
same_entries arcs t k a p past es lt other at =
    filter_map-append (entry_on a p) past es ∙ (ap (λ xs. Entries past a p ++ xs) (no_entries arcs t k a p es lt other at) ∙ append-nil (Entries past a p))

module _ (w : Scenario) (run : IsRun w) where
  module _ (past es : History) (t k a p : ℕ) (high : (arc w a).express_from ≤ p) (k_lt : k < moments (length w.net.arcs)) (at : AllAt (length w.net.arcs) (number (length w.net.arcs) t k) es) (old : Pairs OtherFrame (Entries past a p)) where
    quiet : k ≢ 1 + 3 * length w.net.arcs → Pairs OtherFrame (Entries (past ++ es) a p)
    quiet other = subst (Pairs OtherFrame) (sym (same_entries (length w.net.arcs) t k a p past es k_lt other at)) old

    step : LegalUpTo w (number (length w.net.arcs) t k) past → (f : Phase) → HasPlace (length w.net.arcs) k f → HappensIn w past t f es → Pairs OtherFrame (Entries (past ++ es) a p)
    unfolding HappensIn
    step legal Phase.sets place happens = quiet (λ e. absurd (omega (arith, e, place)))
    step legal (Phase.ends b) (b_lt, place) happens = quiet (λ e. absurd (omega (arith, e, place, b_lt)))
    step legal (Phase.arrivals b) (b_lt, place) happens = quiet (λ e. absurd (omega (arith, e, place, b_lt)))
    step legal (Phase.expiries b) (b_lt, place) happens = quiet (λ e. absurd (omega (arith, e, place, b_lt)))
    step legal (Phase.starts b) (b_lt, place) happens = quiet (λ e. absurd (omega (arith, e, place)))
    step legal Phase.entries place happens =
        let legal' : LegalUpTo w (entries_moment w t) past = subst (λ k. LegalUpTo w (number (length w.net.arcs) t k) past) place legal in
        subst (λ xs. Pairs OtherFrame (Entries (past ++ xs) a p)) (sym happens) (entries_more w run t past legal' a p high old)

  -- No two entries of a ring of an express priority, drops too, are of one frame.
  pub entries_pairs : (n : ℕ) (h : History) (a p : ℕ) → (arc w a).express_from ≤ p → LegalUpTo w n h → Pairs OtherFrame (Entries h a p)
  entries_pairs zero h a p high is = subst (λ x. Pairs OtherFrame (Entries x a p)) (sym is) tt
  entries_pairs (suc n) h a p high (past, es, is, legal, happens) =
      let t = n / moments (length w.net.arcs) in
      let k = n % moments (length w.net.arcs) in
      let n_is : n ≡ number (length w.net.arcs) t k = numbered (length w.net.arcs) n in
      subst (λ x. Pairs OtherFrame (Entries x a p)) (sym is)
      (step past es t k a p high (place_below (length w.net.arcs) n) (subst (λ m. AllAt (length w.net.arcs) m es) n_is (moment_events w past n es happens)) (entries_pairs n past a p high legal)
      (subst (λ m. LegalUpTo w m past) n_is legal) (phase_at (length w.net.arcs) k) (place_at (length w.net.arcs) n) happens)

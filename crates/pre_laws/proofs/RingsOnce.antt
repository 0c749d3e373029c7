-- What comes to rings at a tick neither came before nor began, and each frame that began came before.
use Rattle.std.proofs.Common.{ℕ, ◌≡◌, ◌≢◌, ◌⊎◌, ◌==◌, ◌&&◌, ◌+◌, ◌*◌, ◌<◌, ◌≤◌, Bool, true, false}
use Rattle.std.proofs.Common.{List, ◌∷◌, length, refl, sym, ◌∙◌, ap, inl, inr, arith, subst, Some, None}
use Rattle.std.specs.Prelude.{if◌then◌else◌, slice_get, All, AllPairs, Contains}
use Rattle.std.specs.List.{AllByRecursion as Every}
use Rattle.std.proofs.lemmas.Bool.{and_parts}
use Rattle.std.proofs.lemmas.Bool.Decides.{nat_tests}
use Rattle.std.proofs.lemmas.List.Elements.{All-from_recursion}
use Rattle.pre_base.specs.declared.numbers.FrameNo.{FrameNo}
use Rattle.pre_mpacket.specs.Arrivals.{is_fragment, is_start}
use Rattle.pre_history.specs.declared.events.What.{What}
use Rattle.pre_history.specs.declared.events.What.TheVariants as what
use Rattle.pre_history.specs.Scenario.{Scenario}
use Rattle.pre_history.specs.Moments.{moments}
use Rattle.pre_history.specs.History.{PlainEvent, History, Begin, Entry}
use Rattle.pre_history.specs.Selected.{RingEntry, entry_on, what_is}
use Rattle.pre_history.specs.Queries.{Begins, Entries, Waiting}
use Rattle.pre_history.specs.Starts.{Item, Choice, There}
use Rattle.pre_history.specs.Comings.{Coming, Comings, hops}
use Rattle.pre_history.specs.Placed.{number}
use Rattle.pre_history.specs.Legal.{LegalBefore}
use Rattle.pre_history.specs.Deliveries.{ComeOnce}
use Rattle.pre_history.proofs.Lists.{one_at, every_at, every_placed, every_weaker, every_selected}
use Rattle.pre_history.proofs.Pairs.{all_pairs, pairs_selected}
use Rattle.pre_history.proofs.Turns.{tick_lt}
use Rattle.pre_history.proofs.InOrder.{steady}
use Rattle.pre_laws.specs.Routed.{IsRouted, IsOnRoute, IsEntry, HasCome}
use Rattle.pre_laws.proofs.Begun.{choice_of, by_item}
use Rattle.pre_laws.proofs.Routed.{at_front_of, comings_right, all_right}
use Rattle.pre_laws.proofs.FirstOctets.{Since, since, goes_on, same_frame}
use Rattle.pre_laws.proofs.Once.{Comes, AreApart, coming_to, came, told_before, entries_once, one_tick, comings_are, comings_apart}
use Rattle.pre_history.proofs.Rising.{rises}

abbrev pub OtherFrame : RingEntry → RingEntry → Type 0
OtherFrame r s = r.frame ≢ s.frame

-- the event of an entry of a ring
ring_event : (a p : ℕ) (x : PlainEvent) (r : RingEntry) → entry_on a p x ≡ Some r → (e : Entry) × ((x ≡ PlainEvent.enter e) ⊎ (x ≡ PlainEvent.dropped e)) × (e.arc ≡ a) × (e.frame ≡ r.frame) × (e.tick ≡ r.tick)
ring_event a p (PlainEvent.enter e) r is = go ((e.arc == a) && (e.prio == p)) refl is
  where
    go : (b : Bool) → ((e.arc == a) && (e.prio == p)) ≡ b → (if b then Some (record { tick = e.tick; frame = e.frame; entered = true }) else None) ≡ Some r
        → (d : Entry) × ((PlainEvent.enter e ≡ PlainEvent.enter d) ⊎ (PlainEvent.enter e ≡ PlainEvent.dropped d)) × (d.arc ≡ a) × (d.frame ≡ r.frame) × (d.tick ≡ r.tick)
    go false off at = absurd (cc at)
    go true on at =
        let made : RingEntry = record { tick = e.tick; frame = e.frame; entered = true } in
        let same : made ≡ r = cc at in
        let arc_is : e.arc ≡ a = grind (arith, nat_tests, (and_parts (e.arc == a) (e.prio == p) on).0) in
        (e, inl refl, arc_is, ap (λ (x : RingEntry). x.frame) same, ap (λ (x : RingEntry). x.tick) same)
ring_event a p (PlainEvent.dropped e) r is = go ((e.arc == a) && (e.prio == p)) refl is
  where
    go : (b : Bool) → ((e.arc == a) && (e.prio == p)) ≡ b → (if b then Some (record { tick = e.tick; frame = e.frame; entered = false }) else None) ≡ Some r
        → (d : Entry) × ((PlainEvent.dropped e ≡ PlainEvent.enter d) ⊎ (PlainEvent.dropped e ≡ PlainEvent.dropped d)) × (d.arc ≡ a) × (d.frame ≡ r.frame) × (d.tick ≡ r.tick)
    go false off at = absurd (cc at)
    go true on at =
        let made : RingEntry = record { tick = e.tick; frame = e.frame; entered = false } in
        let same : made ≡ r = cc at in
        let arc_is : e.arc ≡ a = grind (arith, nat_tests, (and_parts (e.arc == a) (e.prio == p) on).0) in
        (e, inr refl, arc_is, ap (λ (x : RingEntry). x.frame) same, ap (λ (x : RingEntry). x.tick) same)
ring_event a p (PlainEvent.set t b v) r is = absurd (cc is)
ring_event a p (PlainEvent.begin b) r is = absurd (cc is)
ring_event a p (PlainEvent.ended b) r is = absurd (cc is)
ring_event a p (PlainEvent.arrive b) r is = absurd (cc is)
ring_event a p (PlainEvent.deliver b) r is = absurd (cc is)
ring_event a p (PlainEvent.active t b v) r is = absurd (cc is)
ring_event a p (PlainEvent.count t b) r is = absurd (cc is)
ring_event a p (PlainEvent.end b) r is = absurd (cc is)

is_entry : (h : History) (i : ℕ) (x : PlainEvent) (e : Entry) → slice_get h i ≡ Some x → (x ≡ PlainEvent.enter e) ⊎ (x ≡ PlainEvent.dropped e) → IsEntry h i e
is_entry h i x e at (inl is) = inl (at ∙ ap Some is)
is_entry h i x e at (inr is) = inr (at ∙ ap Some is)

module _ (w : Scenario) (routed : IsRouted w) (n : ℕ) (h : History) (legal : LegalBefore w h n) where
  -- no two entries of a ring are of one frame, drops among them
  pub ring_once : (a p : ℕ) → AllPairs (λ (d : RingEntry) (e : RingEntry). d.frame ≢ e.frame) (Entries h a p)
  ring_once a p = all_pairs OtherFrame (Entries h a p) (pairs_selected (entry_on a p) OtherFrame h (λ i j x z r s less at at' is is' same.
      let e = ring_event a p x r is in
      let d = ring_event a p z s is' in
      let one = entries_once w routed n h legal i j e.0 d.0 (is_entry h i x e.0 at e.1) (is_entry h j z d.0 at' d.1) (e.2 ∙ sym d.2) (e.3 ∙ (same ∙ sym d.3)) in
      absurd (omega (arith, less, one))))

  abbrev pub RingCame : ℕ → RingEntry → Type 0
  RingCame a r = Comes w h r.tick (coming_to a r.frame) × (number (length w.net.arcs) r.tick (1 + 3 * length w.net.arcs) < n)

  pub rings_came : (a p : ℕ) → Every (RingCame a) (Entries h a p)
  rings_came a p = every_selected (entry_on a p) (λ x. (i : ℕ) × (slice_get h i ≡ Some x)) (RingCame a) says h (every_placed (λ x. (i : ℕ) × (slice_get h i ≡ Some x)) h (λ i x at. (i, at)))
    where
      says : (x : PlainEvent) (r : RingEntry) → ((i : ℕ) × (slice_get h i ≡ Some x)) → entry_on a p x ≡ Some r → RingCame a r
      says x r (i, at) is =
          let e = ring_event a p x r is in
          let here = is_entry h i x e.0 at e.1 in
          let by = (came w routed n h legal i e.0 here).0 in
          let lt = told_before w routed n h legal i e.0 here in (
            subst (λ t. Comes w h t (coming_to a r.frame)) e.4 (subst (λ f. Comes w h e.0.tick (coming_to a f)) e.3 (subst (λ b. Comes w h e.0.tick (coming_to b e.0.frame)) e.2 by)),
            subst (λ t. number (length w.net.arcs) t (1 + 3 * length w.net.arcs) < n) e.4 lt,
          )

  -- a frame that began on an arc came to one of its rings before
  pub begun_came : (a i : ℕ) (b : Begin) (f : FrameNo) → a < length w.net.arcs → slice_get (Begins h a) i ≡ Some b → b.what ≡ what.Frame f → HasCome h a b.tick f.0
  begun_came a i b f a_lt at carries = go it.0 it.1
    where
      s : Since w routed n h legal.0 a a_lt i b f
      s = since w routed n h legal.0 a a_lt i b f (at, carries)

      it : (it : Item) × There w h a s.first.tick it (choice_of s.first)
      it = by_item w n h legal.0 a a_lt s.place s.first s.first_at.0

      order : (m n : ℕ) → m ≤ n → (m ≡ n) ⊎ (m < n)
      order m n le = grind arith

      by : s.first.tick ≤ b.tick
      by = elim (order s.place i s.before) [
        | inl same ↦ let is : s.first ≡ b = one_at (Begins h a) i s.first b (ap (slice_get (Begins h a)) (sym same) ∙ s.first_at.0) at in let tick = ap (λ (x : Begin). x.tick) is in omega (arith, tick)
        | inr less ↦ let lt = rises w n h legal.0 a a_lt s.place i s.first b less s.first_at.0 at in omega (arith, lt)
      ]

      front : (p g : ℕ) (behind : List ℕ) → Waiting h a p s.first.tick ≡ g ∷ behind → s.first.what ≡ what.Frame (record { 0 = g }) → HasCome h a b.tick f.0
      front p g behind waits is =
          let o = at_front_of h a p s.first.tick g behind waits in
          let same : record { 0 = g } ≡ f = same_frame (record { 0 = g }) f (sym is ∙ s.first_at.1) in
          let early = o.by in
          let late = by in
          record { prio = p; place = o.place; entry = o.entry; at = o.at; frame = o.frame ∙ ap (λ (x : FrameNo). x.0) same; by = omega (arith, early, late) }

      go : (it : Item) → There w h a s.first.tick it (choice_of s.first) → HasCome h a b.tick f.0
      go Item.express (g, (p, low, high, (behind, waits), above), is) = front p g behind waits (ap (λ (c : Choice). c.what) is)
      go Item.preemptable (g, k, (p, low, high, (behind, waits), above), as', is) = front p g behind waits (ap (λ (c : Choice). c.what) is)
      go Item.respond (on, owed, is) = absurd (cc (sym s.first_at.1 ∙ ap (λ (c : Choice). c.what) is))
      go Item.verify (on, wanted, is) = absurd (cc (sym s.first_at.1 ∙ ap (λ (c : Choice). c.what) is))
      go Item.lldp (on, wanted, is) = absurd (cc (sym s.first_at.1 ∙ ap (λ (c : Choice). c.what) is))
      go Item.rest (left, interrupted, is) =
          let long = goes_on w routed n h legal.0 a a_lt s.place s.first s.first_at.0 (ap (λ (c : Choice). is_fragment c.kind) is) (ap (λ (c : Choice). is_start c.kind) is) in
          let from = s.from in
          absurd (omega (arith, long, from))

-- ---- before the entries of a tick

module _ (w : Scenario) (routed : IsRouted w) (t : ℕ) (past : History) (legal : LegalBefore w past (number (length w.net.arcs) t (1 + 3 * length w.net.arcs))) where
  -- what comes now didn't come before
  not_before : (c : Coming) (p : ℕ) → Comes w past t c → Every (λ (r : RingEntry). r.frame ≢ c.frame) (Entries past c.arc p)
  not_before c p by = every_weaker (RingCame w routed (number (length w.net.arcs) t (1 + 3 * length w.net.arcs)) past legal c.arc) (λ (r : RingEntry). r.frame ≢ c.frame) (λ r (came', early) same.
      let now : r.tick ≡ t = one_tick w routed (number (length w.net.arcs) t (1 + 3 * length w.net.arcs)) past legal r.tick t c (subst (λ f. Comes w past r.tick (coming_to c.arc f)) same came') by in
      let before = tick_lt (moments (length w.net.arcs)) r.tick t (1 + 3 * length w.net.arcs) early in
      absurd (omega (arith, now, before))) (Entries past c.arc p) (rings_came w routed (number (length w.net.arcs) t (1 + 3 * length w.net.arcs)) past legal c.arc p)

  other : (x y : ℕ) → x ≢ y → (x == y) ≡ false
  other x y differ = grind (arith, nat_tests)

  -- and so it didn't begin
  not_begun : (c : Coming) → c.arc < length w.net.arcs → Comes w past t c → Every (λ (b : Begin). what_is b.what c.frame ≡ false) (Begins past c.arc)
  not_begun c lt by = every_placed (λ (b : Begin). what_is b.what c.frame ≡ false) (Begins past c.arc) (λ i b at. go b.what (λ f is same.
      let o = begun_came w routed (number (length w.net.arcs) t (1 + 3 * length w.net.arcs)) past legal c.arc i b f lt at is in
      every_at (λ (r : RingEntry). r.frame ≢ c.frame) (Entries past c.arc o.prio) o.place o.entry (not_before c o.prio by) o.at (o.frame ∙ same)))
    where
      go : (x : What) → ((f : FrameNo) → x ≡ what.Frame f → f.0 ≢ c.frame) → what_is x c.frame ≡ false
      go (what.Frame f) none = other f.0 c.frame (none f refl)
      go what.Lldp none = refl
      go what.Nothing none = refl

  right : Every (λ (c : Coming). IsOnRoute w c.arc t c.frame) (Comings w past t)
  right = comings_right w routed (number (length w.net.arcs) t (1 + 3 * length w.net.arcs)) past t (all_right w routed (number (length w.net.arcs) t (1 + 3 * length w.net.arcs)) past legal.0)
      (λ a lt. steady w (number (length w.net.arcs) t (1 + 3 * length w.net.arcs)) past a lt legal.0)

  both : Every (λ (c : Coming). IsOnRoute w c.arc t c.frame × Comes w past t c) (Comings w past t)
  both = every_placed (λ (c : Coming). IsOnRoute w c.arc t c.frame × Comes w past t c) (Comings w past t) (λ i c at.
      (every_at (λ (c : Coming). IsOnRoute w c.arc t c.frame) (Comings w past t) i c right at, every_at (Comes w past t) (Comings w past t) i c (comings_are w past t) at))

  pub come_once : ComeOnce w past (Comings w past t)
  come_once = record {
    known = All-from_recursion (λ c. c.frame < length w.script.sends) (Comings w past t) (every_weaker (λ (c : Coming). IsOnRoute w c.arc t c.frame) (λ c. c.frame < length w.script.sends) (λ c r. r.known) (Comings w past t) right);
    onroute = All-from_recursion (λ c. Contains (hops w c.frame) c.arc) (Comings w past t) (every_weaker (λ (c : Coming). IsOnRoute w c.arc t c.frame) (λ c. Contains (hops w c.frame) c.arc) (λ c r. r.arc) (Comings w past t) right);
    unbegun = All-from_recursion (λ c. All (λ (b : Begin). what_is b.what c.frame ≡ false) (Begins past c.arc)) (Comings w past t)
        (every_weaker (λ (c : Coming). IsOnRoute w c.arc t c.frame × Comes w past t c) (λ c. All (λ (b : Begin). what_is b.what c.frame ≡ false) (Begins past c.arc))
        (λ c (on, by). All-from_recursion (λ (b : Begin). what_is b.what c.frame ≡ false) (Begins past c.arc) (not_begun c (routed.arcs c.frame c.arc on.known on.arc) by)) (Comings w past t) both);
    uncome = All-from_recursion (λ c. (p : ℕ) → All (λ (r : RingEntry). r.frame ≢ c.frame) (Entries past c.arc p)) (Comings w past t)
        (every_weaker (Comes w past t) (λ c. (p : ℕ) → All (λ (r : RingEntry). r.frame ≢ c.frame) (Entries past c.arc p))
        (λ c by p. All-from_recursion (λ (r : RingEntry). r.frame ≢ c.frame) (Entries past c.arc p) (not_before c p by)) (Comings w past t) (comings_are w past t));
    apart = all_pairs AreApart (Comings w past t) (comings_apart w routed (number (length w.net.arcs) t (1 + 3 * length w.net.arcs)) past legal t);
  }

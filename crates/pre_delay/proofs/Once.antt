-- In each legal history a frame of an express priority begins on an arc once, and comes to its ring at one tick.
use Rattle.std.proofs.Common.{ℕ, zero, suc, true, false, ◌≡◌, ◌≢◌, ◌+◌, ◌*◌, ◌<◌, ◌≤◌, List, [], ◌∷◌, length}
use Rattle.std.proofs.Common.{map, sym, ◌∙◌, ap, inl, inr, arith, subst, Some}
use Rattle.std.specs.Prelude.{slice_get, AllPairs}
use Rattle.std.proofs.lemmas.Bool.{cases_Bool, cases_order}
use Rattle.std.proofs.Math.Nat.{mul-le-mul_left}
use Rattle.pre_base.specs.declared.numbers.FrameNo.{FrameNo}
use Rattle.pre_history.specs.declared.events.What.TheVariants as what
use Rattle.pre_history.specs.Scenario.{Scenario, FrameOf, arc, row, latency}
use Rattle.pre_history.specs.History.{History, Begin, Arrive}
use Rattle.pre_history.specs.Selected.{RingEntry, what_is}
use Rattle.pre_history.specs.Queries.{Begins, Ends, Arrivals, Entries, Waiting, begun_before}
use Rattle.pre_history.specs.Octets.{whole_of}
use Rattle.pre_history.specs.Starts.{SizeOf}
use Rattle.pre_history.specs.Comings.{Coming, hops, next_arc}
use Rattle.pre_history.specs.Legal.{LegalUpTo}
use Rattle.pre_history.proofs.Lists.{every_at, one_at, within, there}
use Rattle.pre_history.proofs.Relays.{ComesBy, IsSent, IsRelayed}
use Rattle.pre_history.proofs.Steady.{costs}
use Rattle.pre_history.proofs.InOrder.{steady}
use Rattle.pre_history.proofs.Chosen.{into_map}
use Rattle.pre_history.proofs.NatTests.{is_eq}
use Rattle.pre_delay.proofs.Arcs.{Served, InLine}
use Rattle.pre_delay.proofs.Rings.{entries_came, entries_prio, front_of_ring}
use Rattle.pre_laws.proofs.Once.{coming_to}
use Rattle.pre_history.proofs.Routes.{one_before, not_first}
use Rattle.pre_delay.proofs.Sent.{express_begins}
use Rattle.pre_delay.proofs.Seen.{as_sent, begun-some, some-begun, what-frame, sent-line}

-- ---- once

-- the frame's priority is express on the arc before this one
abbrev pub HighBefore : Scenario → Coming → Type 0
HighBefore w c = (b : ℕ) → next_arc w b c.frame ≡ Some c.arc → (arc w b).express_from ≤ (row w c.frame).prio

line-at : (cost : ℕ) (ss : List Served) (i j : ℕ) (s r : Served) → InLine cost ss → i < j → slice_get ss i ≡ Some s → slice_get ss j ≡ Some r → s.begin + cost * s.wire ≤ r.begin
line-at cost [] i j s r line lt at at' = absurd (cc at)
line-at cost (x ∷ ss) i zero s r line lt at at' = absurd (omega arith)
line-at cost (x ∷ ss) zero (suc j) s r line lt at at' =
    let same : x ≡ s = cc at in
    subst (λ (y : Served). y.begin + cost * y.wire ≤ r.begin) same (every_at (λ (y : Served). x.begin + cost * x.wire ≤ y.begin) ss j r line.0 at')
line-at cost (x ∷ ss) (suc i) (suc j) s r line lt at at' = line-at cost ss i j s r line.1 (omega arith) at at'

module _ (w : Scenario) (n : ℕ) (h : History) (legal : LegalUpTo w n h) (routes : (f : ℕ) → AllPairs (λ x y. x ≢ y) (hops w f)) where
  not_again : (a i j : ℕ) (b c : Begin) (f : FrameNo) → a < length w.net.arcs → (arc w a).express_from ≤ (row w f.0).prio → slice_get (Begins h a) i ≡ Some b → slice_get (Begins h a) j ≡ Some c
      → b.what ≡ what.Frame f → c.what ≡ what.Frame f → i < j → ⊥
  not_again a i j b c f lt high at at' is is' less =
      let apart = line-at (arc w a).cost (map (as_sent w h) (Begins h a)) i j (as_sent w h b) (as_sent w h c) (sent-line w n h a lt legal) less (into_map (as_sent w h) (Begins h a) i b at) (into_map (as_sent w h) (Begins h a) j c at') in
      let some : (arc w a).cost * 1 ≤ (arc w a).cost * (as_sent w h b).wire = mul-le-mul_left (arc w a).cost (omega arith) in
      let before : b.tick < c.tick = omega (arith, apart, some, costs w a lt) in
      let first = express_begins w n h a i b f lt legal at is high in
      let front = express_begins w n h a j c f lt legal at' is' high in
      let fe = front_of_ring w n h a (row w f.0).prio c.tick f.0 front.behind legal front.waits in
      let yes' = some-begun h a c.tick fe.entry.frame i b at before (ap (λ x. what_is x fe.entry.frame) is ∙ is_eq f.0 fe.entry.frame (sym fe.is)) first.from in
      let no' = fe.waits.fresh in
      absurd (cc (yes', no'))

  -- a frame of an express priority begins on an arc once
  pub one_begin : (a i j : ℕ) (b c : Begin) (f : FrameNo) → a < length w.net.arcs → (arc w a).express_from ≤ (row w f.0).prio → slice_get (Begins h a) i ≡ Some b → slice_get (Begins h a) j ≡ Some c
      → b.what ≡ what.Frame f → c.what ≡ what.Frame f → i ≡ j
  one_begin a i j b c f lt high at at' is is' =
      elim (cases_order i j) [
        | inl same ↦ same
        | inr (inl less) ↦ absurd (not_again a i j b c f lt high at at' is is' less)
        | inr (inr more) ↦ absurd (not_again a j i c b f lt high at' at is' is more)
      ]

  one_relay : (t u a : ℕ) (c : Coming) → a < length w.net.arcs → (arc w a).express_from ≤ (row w c.frame).prio → IsRelayed w h t a c → IsRelayed w h u a c → t ≡ u
  one_relay t u a c lt high r q =
      let one = one_begin a r.x.ord q.x.ord r.b q.b (record { 0 = c.frame }) lt high r.begun q.begun r.carries q.carries in
      let o = (steady w n h a lt legal).ordered in
      let place = o.arrival_places r.place r.x r.arrived in
      let place' = o.arrival_places q.place q.x q.arrived in
      let same : r.place ≡ q.place = omega (arith, one, place, place') in
      let x_is : r.x ≡ q.x = one_at (Arrivals h a) q.place r.x q.x (subst (λ i. slice_get (Arrivals h a) i ≡ Some r.x) same r.arrived) q.arrived in
      sym r.over ∙ (ap (λ (x : Arrive). x.tick + latency w a) x_is ∙ q.over)

  sent_apart : (t u a : ℕ) (c : Coming) → IsRelayed w h t a c → IsSent w u c → ⊥
  sent_apart t u a c r q = not_first (hops w c.frame) (routes c.frame) a (r.next ∙ ap Some q.arc)

  -- and it comes to the arc at one tick
  pub one_tick : (t u : ℕ) (c : Coming) → HighBefore w c → ComesBy w h t c → ComesBy w h u c → t ≡ u
  one_tick t u c high (inl r) (inl q) = sym r.now ∙ q.now
  one_tick t u c high (inl r) (inr (b, lt, q)) = absurd (sent_apart u t b c q r)
  one_tick t u c high (inr (a, lt, r)) (inl q) = absurd (sent_apart t u a c r q)
  one_tick t u c high (inr (a, lt, r)) (inr (b, lt', q)) =
      let same : b ≡ a = one_before (hops w c.frame) (routes c.frame) b a c.arc q.next r.next in
      one_relay t u a c lt (high a r.next) r (subst (λ x. IsRelayed w h u x c) same q)

  -- What enters a ring of an express priority hadn't begun on the arc before.
  pub fresh : (a p j : ℕ) (r : RingEntry) → a < length w.net.arcs → (arc w a).express_from ≤ p → HighBefore w (coming_to a r.frame) → slice_get (Entries h a p) j ≡ Some r → r.entered ≡ true → begun_before h a r.tick r.frame ≡ false
  fresh a p j r lt high before at entered =
      elim (cases_Bool (begun_before h a r.tick r.frame)) [
        | inr no' ↦ no'
        | inl yes' ↦
            let m = begun-some h a r.tick r.frame yes' in
            let is = what-frame m.1.what r.frame m.4 in
            let prio : p ≡ (row w r.frame).prio = every_at (λ (y : RingEntry). y.entered ≡ true → p ≡ (row w y.frame).prio) (Entries h a p) j r (entries_prio w n h a p legal) at entered in
            let front = express_begins w n h a m.0 m.1 (record { 0 = r.frame }) lt legal m.2 is (omega (arith, prio)) in
            let fe = front_of_ring w n h a p m.1.tick r.frame front.behind legal (ap (λ k. Waiting h a k m.1.tick) prio ∙ front.waits) in
            let old = every_at (λ (y : RingEntry). ComesBy w h y.tick (coming_to a y.frame)) (Entries h a p) fe.place fe.entry (entries_came w n h a p legal) fe.at in
            let new = every_at (λ (y : RingEntry). ComesBy w h y.tick (coming_to a y.frame)) (Entries h a p) j r (entries_came w n h a p legal) at in
            let same = one_tick fe.entry.tick r.tick (coming_to a r.frame) before (subst (λ f. ComesBy w h fe.entry.tick (coming_to a f)) fe.is old) new in
            absurd (omega (arith, same, fe.waits.by, m.3))
      ]

  -- ---- the hop before

  -- what a relay hands on entered a ring of the arc before, and began there whole; it comes after the ticks of its octets, the arc's
  -- delay and the bridge's latency
  pub record HopBefore (t a : ℕ) (c : Coming) : Type 0 where
    pub place : ℕ
    pub entry : RingEntry
    pub at : slice_get (Entries h a (row w c.frame).prio) place ≡ Some entry
    pub same : entry.frame ≡ c.frame
    pub entered : entry.entered ≡ true
    pub ord : ℕ
    pub begin : Begin
    pub begun : slice_get (Begins h a) ord ≡ Some begin
    pub carries : begin.what ≡ what.Frame (record { 0 = c.frame })
    pub by : entry.tick ≤ begin.tick
    pub comes : t ≡ begin.tick + (arc w a).cost * (length (FrameOf w c.frame) + 8) + (arc w a).delay + latency w a

  pub hop_before : (t a : ℕ) (c : Coming) → a < length w.net.arcs → (arc w a).express_from ≤ (row w c.frame).prio → IsRelayed w h t a c → HopBefore t a c
  hop_before t a c lt high r =
      let o = (steady w n h a lt legal).ordered in
      let f : FrameNo = record { 0 = c.frame } in
      let ord : r.x.ord ≡ r.place = o.arrival_places r.place r.x r.arrived in
      let inside = within (Arrivals h a) r.place r.x r.arrived in
      let e = there (Ends h a) r.place (omega (arith, inside, o.arrivals_ended)) in
      let begun' : slice_get (Begins h a) r.place ≡ Some r.b = subst (λ i. slice_get (Begins h a) i ≡ Some r.b) ord r.begun in
      let front = express_begins w n h a r.place r.b f lt legal begun' r.carries high in
      let fe = front_of_ring w n h a (row w c.frame).prio r.b.tick c.frame front.behind legal front.waits in
      let travels = o.travels r.place e.0 r.x e.1 r.arrived in
      let spans = o.spans r.place r.b e.0 begun' e.1 in
      let sized = (steady w n h a lt legal).sizes r.place r.b e.0 begun' e.1 in
      let size : e.0.size ≡ length (FrameOf w c.frame) = subst (λ k. SizeOf w h k r.b e.0.size) front.kind sized ∙ ap (λ x. length (whole_of w h r.b x)) r.carries in
      let product : (arc w a).cost * (e.0.size + 8) ≡ (arc w a).cost * (length (FrameOf w c.frame) + 8) = ap (λ k. (arc w a).cost * (k + 8)) size in
      record {
        place = fe.place;
        entry = fe.entry;
        at = fe.at;
        same = fe.is;
        entered = fe.waits.entered;
        ord = r.place;
        begin = r.b;
        begun = begun';
        carries = r.carries;
        by = fe.waits.by;
        comes = omega (arith, r.over, travels, spans, product);
      }

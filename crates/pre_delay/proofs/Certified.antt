-- The port theorem in a legal history, where a certificate is good and streams obey its bursts at the arc.
use Rattle.std.proofs.Common.{ℕ, zero, suc, Bool, true, false, cond, ◌==◌, ◌≡◌, ◌+◌, ◌-◌, ◌*◌, ◌<◌, ◌≤◌, List}
use Rattle.std.proofs.Common.{[], ◌∷◌, map, filter, refl, sym, ◌∙◌, ap, inl, inr, arith, subst, Some}
use Rattle.std.specs.Prelude.{slice_get, sum_by, ◌&&◌}
use Rattle.std.specs.List.{AllByRecursion as Every, enumerate_from}
use Rattle.std.specs.Option.{option_map_or}
use Rattle.std.proofs.Math.Nat.{mul-le-mul_left, mul-le-mul_right}
use Rattle.std.proofs.lemmas.List.Sums.{sum_by-append}
use Rattle.std.proofs.lemmas.List.Elements.{filter-append}
use Rattle.pre_topo.specs.declared.network.Network.{Network}
use Rattle.pre_streams.specs.declared.rows.Row.{Row}
use Rattle.pre_history.specs.declared.events.What.TheVariants as what
use Rattle.pre_history.specs.Scenario.{Scenario, arc, row}
use Rattle.pre_history.specs.History.{History}
use Rattle.pre_history.specs.Selected.{RingEntry, frame_number, what_is}
use Rattle.pre_history.specs.Queries.{Begins, Entries, begun_before}
use Rattle.pre_history.specs.Legal.{LegalUpTo}
use Rattle.pre_history.proofs.Lists.{every_at}
use Rattle.pre_history.proofs.Chosen.{into_map}
use Rattle.pre_bound.specs.Uses.{rate_of, hop_of, is_on, rates_on, cost_at}
use Rattle.pre_bound.specs.Values.{Values}
use Rattle.pre_bound.specs.Clauses.{Work, Delay, Load, certified_bursts}
use Rattle.pre_bound.specs.Solutions.{CoversDelay}
use Rattle.pre_bound.proofs.Sums.{sum_by-filter-cons, sums_ge}
use Rattle.pre_bound.proofs.Hops.{OnArc-from, is_on-from}
use Rattle.pre_history.proofs.NatTests.{is_eq}
use Rattle.pre_delay.specs.Ticks.{is_from_to}
use Rattle.pre_delay.specs.Ports.{stream_of, wire, IsOnTime}
use Rattle.pre_delay.proofs.Port.{RingObeys, IsKnown, IsPort}
use Rattle.pre_delay.proofs.Arcs.{Queued, Some_of, Mine, WaitsAt, MineWaits, BegunBefore, Serves, Enters, IsCovered, entered_from_to}
use Rattle.pre_delay.proofs.Shares.{several}
use Rattle.pre_delay.proofs.Members.{every-filter, every-weaker}
use Rattle.pre_delay.proofs.Rings.{entries_prio}
use Rattle.pre_history.specs.Scenario.{no_arc}
use Rattle.pre_topo.specs.declared.arcs.Arc.{Arc}
use Rattle.std.proofs.lemmas.Option.{slice_get-get_or}
use Rattle.pre_delay.proofs.Held.{held}
use Rattle.pre_delay.proofs.Delayed.{begins_in_time, has_begun}
use Rattle.pre_delay.proofs.Members.{at}
use Rattle.pre_delay.proofs.Seen.{serves, every-map, map-some, into-queue, mine-sent, some-begun, rank_of, ranked_mine, traffic, queued, above, as_queued, as_sent, every-queue}

-- ---- sums over rows

both-le : (b c d : Bool) (m : ℕ) → (b ≡ true → d ≡ true) → (c ≡ true → d ≡ true) → (b ≡ true → c ≡ true → ⊥) → cond b m 0 + cond c m 0 ≤ cond d m 0
both-le true true d m h k no' = absurd (no' refl refl)
both-le false false d m h k no' = omega arith
both-le true false true m h k no' = omega arith
both-le true false false m h k no' = absurd (let e = h refl in cc)
both-le false true true m h k no' = omega arith
both-le false true false m h k no' = absurd (let e = k refl in cc)

-- what passes one of two tests that none passes both of
pub sums-apart : {X : Type 0} (f : X → ℕ) (p q r : X → Bool) (xs : List X) → ((x : X) → p x ≡ true → r x ≡ true) → ((x : X) → q x ≡ true → r x ≡ true) → ((x : X) → p x ≡ true → q x ≡ true → ⊥)
    → sum_by f (filter p xs) + sum_by f (filter q xs) ≤ sum_by f (filter r xs)
sums-apart f p q r [] h k no' = omega arith
sums-apart f p q r (x ∷ xs) h k no' =
    let one = sum_by-filter-cons f p x xs in
    let two = sum_by-filter-cons f q x xs in
    let all = sum_by-filter-cons f r x xs in
    let here = both-le (p x) (q x) (r x) (f x) (h x) (k x) (no' x) in
    let rest = sums-apart f p q r xs h k no' in
    omega (arith, one, two, all, here, rest)

on-lower : (a low mid high : ℕ) (r : Row) → mid ≤ high → is_on a low mid r ≡ true → is_on a low high r ≡ true
on-lower a low mid high r le e = let on = OnArc-from a low mid r e in is_on-from a low high r (record { express = on.express; from = on.from; below = omega (arith, on.below); takes = on.takes })

on-upper : (a low mid high : ℕ) (r : Row) → low ≤ mid → is_on a mid high r ≡ true → is_on a low high r ≡ true
on-upper a low mid high r le e = let on = OnArc-from a mid high r e in is_on-from a low high r (record { express = on.express; from = omega (arith, on.from); below = on.below; takes = on.takes })

on-apart : (a low mid high : ℕ) (r : Row) → is_on a low mid r ≡ true → is_on a mid high r ≡ true → ⊥
on-apart a low mid high r e f = let one = OnArc-from a low mid r e in let two = OnArc-from a mid high r f in omega (arith, one.below, two.from)

pub bursts_join : (v : Values) (a low mid high : ℕ) (rows : List Row) → low ≤ mid → mid ≤ high → certified_bursts v a low mid rows + certified_bursts v a mid high rows ≤ certified_bursts v a low high rows
bursts_join v a low mid high rows le more =
    sums-apart (λ e. v.burst e.0 (hop_of a e.1)) (λ e. is_on a low mid e.1) (λ e. is_on a mid high e.1) (λ e. is_on a low high e.1) (enumerate_from 0 rows)
    (λ e on. on-lower a low mid high e.1 more on) (λ e on. on-upper a low mid high e.1 le on) (λ e on off. on-apart a low mid high e.1 on off)

pub rates_join : (a low mid high : ℕ) (rows : List Row) → low ≤ mid → mid ≤ high → rates_on a low mid rows + rates_on a mid high rows ≤ rates_on a low high rows
rates_join a low mid high rows le more =
    sums-apart rate_of (is_on a low mid) (is_on a mid high) (is_on a low high) rows (λ r on. on-lower a low mid high r more on) (λ r on. on-upper a low mid high r le on) (λ r on off. on-apart a low mid high r on off)

pub some-row : (p : Row → Bool) (P : ℕ × Row → Type 0) (n : ℕ) (rows : List Row) (i : ℕ) (r : Row) → slice_get rows i ≡ Some r → p r ≡ true → P (n + i, r) → Some_of P (filter (λ e. p e.1) (enumerate_from n rows))
some-row p P n [] i r at on here = absurd (cc at)
some-row p P n (x ∷ rows) zero r at on here =
    let same : r ≡ x = cc at in
    let yes' : p x ≡ true = ap p (sym same) ∙ on in
    let k : n + 0 ≡ n = omega arith in
    subst (λ b. Some_of P (cond b ((n, x) ∷ filter (λ e. p e.1) (enumerate_from (n + 1) rows)) (filter (λ e. p e.1) (enumerate_from (n + 1) rows)))) (sym yes')
    (inl (subst (λ y. P (n, y)) same (subst (λ m. P (m, r)) k here)))
some-row p P n (x ∷ rows) (suc i) r at on here =
    let k : n + suc i ≡ n + 1 + i = omega arith in
    let rest = some-row p P (n + 1) rows i r at on (subst (λ m. P (m, r)) k here) in
    elim (p x) as (λ b. Some_of P (cond b ((n, x) ∷ filter (λ e. p e.1) (enumerate_from (n + 1) rows)) (filter (λ e. p e.1) (enumerate_from (n + 1) rows)))) [
      | true ↦ inr rest
      | false ↦ rest
    ]

pub every-row : (p : Row → Bool) (P : ℕ × Row → Type 0) (n : ℕ) (rows : List Row) → ((i : ℕ) (r : Row) → slice_get rows i ≡ Some r → p r ≡ true → P (n + i, r)) → Every P (filter (λ e. p e.1) (enumerate_from n rows))
every-row p P n [] says = tt
every-row p P n (x ∷ rows) says =
    by (p x) refl (every-row p P (n + 1) rows (λ i r at on. let k : n + suc i ≡ n + 1 + i = omega arith in subst (λ m. P (m, r)) k (says (suc i) r at on)))
  where
    by : (b : Bool) → p x ≡ b → Every P (filter (λ e. p e.1) (enumerate_from (n + 1) rows)) → Every P (cond b ((n, x) ∷ filter (λ e. p e.1) (enumerate_from (n + 1) rows)) (filter (λ e. p e.1) (enumerate_from (n + 1) rows)))
    by true on rest = (let k : n + 0 ≡ n = omega arith in subst (λ m. P (m, x)) k (says 0 x refl on), rest)
    by false off rest = rest

-- ---- what enters

-- fewer enter than come
pub entered-le : (w : Scenario) (from to i : ℕ) (rs : List RingEntry)
    → sum_by (λ x. x.octets) (filter (λ x. stream_of w x.frame == i) (filter (λ x. is_from_to from to x.tick) (map (as_queued w) (filter (λ r. r.entered) rs))))
    ≤ sum_by (wire w) (filter (λ r. is_from_to from to r.tick && (stream_of w r.frame == i)) rs)
entered-le w from to i [] = omega arith
entered-le w from to i (r ∷ rs) =
    let rest = entered-le w from to i rs in
    let right = sum_by-filter-cons (wire w) (λ r. is_from_to from to r.tick && (stream_of w r.frame == i)) r rs in
    let whole : sum_by (λ x. x.octets) (filter (λ x. stream_of w x.frame == i) (filter (λ x. is_from_to from to x.tick) (map (as_queued w) (filter (λ r. r.entered) (r ∷ rs)))))
    ≤ cond (is_from_to from to r.tick && (stream_of w r.frame == i)) (wire w r) 0 + sum_by (wire w) (filter (λ r. is_from_to from to r.tick && (stream_of w r.frame == i)) rs) =
    elim (r.entered) as (λ e. sum_by (λ x. x.octets) (filter (λ x. stream_of w x.frame == i) (filter (λ x. is_from_to from to x.tick) (map (as_queued w) (cond e (r ∷ filter (λ r. r.entered) rs) (filter (λ r. r.entered) rs)))))
    ≤ cond (is_from_to from to r.tick && (stream_of w r.frame == i)) (wire w r) 0 + sum_by (wire w) (filter (λ r. is_from_to from to r.tick && (stream_of w r.frame == i)) rs)) [
      | true ↦ inside rest
      | false ↦ omega arith
    ]
    in
    omega (arith, right, whole)
  where
    inside : sum_by (λ x. x.octets) (filter (λ x. stream_of w x.frame == i) (filter (λ x. is_from_to from to x.tick) (map (as_queued w) (filter (λ r. r.entered) rs))))
        ≤ sum_by (wire w) (filter (λ r. is_from_to from to r.tick && (stream_of w r.frame == i)) rs)
        → sum_by (λ x. x.octets) (filter (λ x. stream_of w x.frame == i) (filter (λ x. is_from_to from to x.tick) (as_queued w r ∷ map (as_queued w) (filter (λ r. r.entered) rs))))
        ≤ cond (is_from_to from to r.tick && (stream_of w r.frame == i)) (wire w r) 0 + sum_by (wire w) (filter (λ r. is_from_to from to r.tick && (stream_of w r.frame == i)) rs)
    inside rest =
        let more = filter (λ x. is_from_to from to x.tick) (map (as_queued w) (filter (λ r. r.entered) rs)) in
        elim (is_from_to from to r.tick) as (λ b. sum_by (λ x. x.octets) (filter (λ x. stream_of w x.frame == i) (cond b (as_queued w r ∷ more) more))
        ≤ cond (b && (stream_of w r.frame == i)) (wire w r) 0 + sum_by (wire w) (filter (λ r. is_from_to from to r.tick && (stream_of w r.frame == i)) rs)) [
          | true ↦ let one = sum_by-filter-cons (λ x. x.octets) (λ x. stream_of w x.frame == i) (as_queued w r) more in omega (arith, one)
          | false ↦ omega arith
        ]

module _ (w : Scenario) (n : ℕ) (h : History) (a : ℕ) (legal : LegalUpTo w n h)
    (known : (q j : ℕ) (r : RingEntry) → slice_get (Entries h a q) j ≡ Some r → r.entered ≡ true → IsKnown w a r.frame) (v : Values)
    (low : ℕ) (obeys : (q i : ℕ) (r : Row) → low ≤ q → slice_get w.streams.rows i ≡ Some r → is_on a q (q + 1) r ≡ true → RingObeys w h a q i (v.burst i (hop_of a r)) (rate_of r)) where
  rows : List Row
  rows = w.streams.rows

  -- what enters the ring of a priority is within the bursts and the rates of its streams
  pub ring_obeys : (q : ℕ) → low ≤ q → (arc w a).express_from ≤ q → (from to : ℕ) → from ≤ to
      → 1_000_000 * entered_from_to from to (queued w h a q) ≤ 1_000_000 * certified_bursts v a q (q + 1) w.streams.rows + rates_on a q (q + 1) w.streams.rows * (to - from)
  ring_obeys q above_low high from to le =
      let on = λ (e : ℕ × Row). is_on a q (q + 1) e.1 in
      let ks = filter (λ e. is_on a q (q + 1) e.1) (enumerate_from 0 w.streams.rows) in
      let xs = filter (λ x. is_from_to from to x.tick) (queued w h a q) in
      let all = several {X = Queued} {K = ℕ × Row} (λ x. x.octets) (λ k x. stream_of w x.frame == k.0) (λ k. v.burst k.0 (hop_of a k.1)) (λ k. rate_of k.1) (to - from) ks xs
      (every-weaker (λ x. (is_from_to from to x.tick ≡ true) × Some_of (λ k. (stream_of w x.frame == k.0) ≡ true) ks) (λ x. Some_of (λ k. (stream_of w x.frame == k.0) ≡ true) ks) xs (λ x both. both.1)
      (every-filter (λ x. Some_of (λ k. (stream_of w x.frame == k.0) ≡ true) ks) (λ x. is_from_to from to x.tick) (queued w h a q)
      (every-queue w h a q (λ x. Some_of (λ k. (stream_of w x.frame == k.0) ≡ true) ks) (λ j r at entered. belongs j r at entered))))
      (every-row (is_on a q (q + 1)) (λ k. 1_000_000 * sum_by (λ x. x.octets) (filter (λ x. stream_of w x.frame == k.0) xs) ≤ 1_000_000 * v.burst k.0 (hop_of a k.1) + rate_of k.1 * (to - from)) 0 w.streams.rows
      (λ i r at on'. let share = obeys q i r above_low at on' from to le in let fewer = entered-le w from to i (Entries h a q) in
      let z : 0 + i ≡ i = omega arith in
      subst (λ m. 1_000_000 * sum_by (λ x. x.octets) (filter (λ x. stream_of w x.frame == m) xs) ≤ 1_000_000 * v.burst m (hop_of a r) + rate_of r * (to - from)) (sym z) (omega (arith, share, fewer))))
      in
      let rates = sums_ge rate_of (λ (e : ℕ × Row). rate_of e.1) (is_on a q (q + 1)) 0 w.streams.rows (λ i k r same at on'. omega arith) in
      let product : sum_by (λ (e : ℕ × Row). rate_of e.1) ks * (to - from) ≤ rates_on a q (q + 1) w.streams.rows * (to - from) = mul-le-mul_right (to - from) rates in
      omega (arith, all, product)
    where
      belongs : (j : ℕ) (r : RingEntry) → slice_get (Entries h a q) j ≡ Some r → r.entered ≡ true
          → Some_of (λ k. (stream_of w r.frame == k.0) ≡ true) (filter (λ e. is_on a q (q + 1) e.1) (enumerate_from 0 w.streams.rows))
      belongs j r at entered =
          let k = known q j r at entered in
          let prio : q ≡ (row w r.frame).prio = every_at (λ (y : RingEntry). y.entered ≡ true → q ≡ (row w y.frame).prio) (Entries h a q) j r (entries_prio w n h a q legal) at entered in
          let on = is_on-from a q (q + 1) (row w r.frame) (record { express = k.stream (omega (arith, prio)); from = omega (arith, prio); below = omega (arith, prio); takes = k.takes }) in
          some-row (is_on a q (q + 1)) (λ k. (stream_of w r.frame == k.0) ≡ true) 0 w.streams.rows (stream_of w r.frame) (row w r.frame) k.listed on (is_eq (stream_of w r.frame) (0 + stream_of w r.frame) (omega arith))

  -- and what enters the rings above
  pub above_obeys : (p k : ℕ) → low ≤ p → (arc w a).express_from ≤ p → (from to : ℕ) → from ≤ to
      → 1_000_000 * entered_from_to from to (above w h a p k) ≤ 1_000_000 * certified_bursts v a (p + 1) (p + 1 + k) w.streams.rows + rates_on a (p + 1) (p + 1 + k) w.streams.rows * (to - from)
  above_obeys p zero above_low high from to le = omega arith
  above_obeys p (suc k) above_low high from to le =
      let before = above_obeys p k above_low high from to le in
      let here = ring_obeys (p + 1 + k) (omega arith) (omega arith) from to le in
      let split = ap (sum_by (λ (x : Queued). x.octets)) (filter-append (λ (x : Queued). is_from_to from to x.tick) (above w h a p k) (queued w h a (p + 1 + k)))
      ∙ sum_by-append (λ (x : Queued). x.octets) (filter (λ x. is_from_to from to x.tick) (above w h a p k)) (filter (λ x. is_from_to from to x.tick) (queued w h a (p + 1 + k))) in
      let e : p + 1 + k + 1 ≡ p + 1 + suc k = omega arith in
      let bursts = bursts_join v a (p + 1) (p + 1 + k) (p + 1 + k + 1) w.streams.rows (omega arith) (omega arith) in
      let rates = rates_join a (p + 1) (p + 1 + k) (p + 1 + k + 1) w.streams.rows (omega arith) (omega arith) in
      let product : (rates_on a (p + 1) (p + 1 + k) w.streams.rows + rates_on a (p + 1 + k) (p + 1 + k + 1) w.streams.rows) * (to - from) ≤ rates_on a (p + 1) (p + 1 + k + 1) w.streams.rows * (to - from) = mul-le-mul_right (to - from) rates in
      subst (λ m. 1_000_000 * entered_from_to from to (above w h a p (suc k)) ≤ 1_000_000 * certified_bursts v a (p + 1) m w.streams.rows + rates_on a (p + 1) m w.streams.rows * (to - from)) e
      (omega (arith, before, here, split, bursts, product))

  pub enters : (p : ℕ) → low ≤ p → (arc w a).express_from ≤ p → p < 8
      → Enters (traffic w h a p) (certified_bursts v a p (p + 1) w.streams.rows) (rates_on a p (p + 1) w.streams.rows) (certified_bursts v a (p + 1) 8 w.streams.rows) (rates_on a (p + 1) 8 w.streams.rows)
  enters p above_low high top = record {
    own = ring_obeys p above_low high;
    higher = λ from to le. let e : p + 1 + (7 - p) ≡ 8 = omega arith in
        subst (λ m. 1_000_000 * entered_from_to from to (above w h a p (7 - p)) ≤ 1_000_000 * certified_bursts v a (p + 1) m w.streams.rows + rates_on a (p + 1) m w.streams.rows * (to - from)) e (above_obeys p (7 - p) above_low high from to le);
  }

-- the clauses of a good certificate at the port
pub covered : (net : Network) (rows : List Row) (v : Values) (a p : ℕ) → p < 8 → Load net rows a → Work net rows v a p → Delay net v a p
    → IsCovered (cost_at net a) (v.block a p) (v.work a p) (v.delay a p) (certified_bursts v a p (p + 1) rows) (rates_on a p (p + 1) rows) (certified_bursts v a (p + 1) 8 rows) (rates_on a (p + 1) 8 rows)
covered net rows v a p top load work delay = record {
  covers = subst (λ r. CoversDelay (v.block a p) (v.work a p) r (cost_at net a) (v.delay a p)) work.rate delay;
  load =
      let upper = rates_join a p (p + 1) 8 rows (omega arith) (omega arith) in
      let all = rates_join a 0 p 8 rows (omega arith) (omega arith) in
      let product = mul-le-mul_left (cost_at net a) (let le : rates_on a p (p + 1) rows + rates_on a (p + 1) 8 rows ≤ rates_on a 0 8 rows = omega (arith, upper, all) in le) in
      omega (arith, product, load);
  bursts =
      let join = bursts_join v a p (p + 1) 8 rows (omega arith) (omega arith) in
      let product = mul-le-mul_left (cost_at net a) join in
      omega (arith, product, work.bursts);
}

-- ---- the port in the history

module _ (w : Scenario) (n : ℕ) (h : History) (a p done : ℕ) (v : Values) (port : IsPort w n h a p done v) where
  here : slice_get w.net.arcs a ≡ Some (arc w a)
  here = slice_get-get_or w.net.arcs a no_arc port.within

  pub port_serves : Serves (traffic w h a p) done (v.block a p)
  port_serves = serves w n h a p done port.within port.legal port.express port.below port.over port.unstarted (v.block a p)
      (λ u. every-map (as_sent w h) (λ s. ¬ Mine (traffic w h a p) s → s.begin < u → ((x : ℕ) → u ≤ x → x < s.begin + (arc w a).cost * s.wire → MineWaits (traffic w h a p) x) → s.begin + (arc w a).cost * s.wire ≤ u + v.block a p) (Begins h a)
      (λ i b at other early waits. held w n h a p done port.within port.legal port.express port.below port.over port.unstarted port.few port.known port.carried v port.block port.largest u i b at other early waits))

  pub port_covered : IsCovered (arc w a).cost (v.block a p) (v.work a p) (v.delay a p) (certified_bursts v a p (p + 1) w.streams.rows) (rates_on a p (p + 1) w.streams.rows) (certified_bursts v a (p + 1) 8 w.streams.rows) (rates_on a (p + 1) 8 w.streams.rows)
  port_covered =
      subst (λ c. IsCovered c (v.block a p) (v.work a p) (v.delay a p) (certified_bursts v a p (p + 1) w.streams.rows) (rates_on a p (p + 1) w.streams.rows) (certified_bursts v a (p + 1) 8 w.streams.rows) (rates_on a (p + 1) 8 w.streams.rows))
      (ap (λ o. option_map_or (λ (x : Arc). x.cost) o 0) here) (covered w.net w.streams.rows v a p port.below port.load port.work port.delay)

  pub port_enters : Enters (traffic w h a p) (certified_bursts v a p (p + 1) w.streams.rows) (rates_on a p (p + 1) w.streams.rows) (certified_bursts v a (p + 1) 8 w.streams.rows) (rates_on a (p + 1) 8 w.streams.rows)
  port_enters = enters w n h a port.legal port.known v p port.obeys p (omega arith) port.express port.below

  pub on_time : (j : ℕ) (r : RingEntry) → slice_get (Entries h a p) j ≡ Some r → r.entered ≡ true → r.tick < done → begun_before h a r.tick r.frame ≡ false → IsOnTime w h a done (v.delay a p) r
  on_time j r there entered known fresh =
      let f = as_queued w r in
      let listed = into-queue w h a p (λ q. q ≡ as_queued w r) j r there entered refl in
      let prio : p ≡ (row w r.frame).prio = every_at (λ (y : RingEntry). y.entered ≡ true → p ≡ (row w y.frame).prio) (Entries h a p) j r (entries_prio w n h a p port.legal) there entered in
      let waits : WaitsAt (traffic w h a p) r.tick f = (omega arith, λ begun. never begun) in
      let in_time = begins_in_time (traffic w h a p) done (v.block a p) port_serves (v.work a p) (v.delay a p) (certified_bursts v a p (p + 1) w.streams.rows) (rates_on a p (p + 1) w.streams.rows) (certified_bursts v a (p + 1) 8 w.streams.rows) (rates_on a (p + 1) 8 w.streams.rows)
      port_covered port_enters f listed known waits in
      let begun' = has_begun (traffic w h a p) done (v.block a p) port_serves (v.work a p) (v.delay a p) (certified_bursts v a p (p + 1) w.streams.rows) (rates_on a p (p + 1) w.streams.rows) (certified_bursts v a (p + 1) 8 w.streams.rows) (rates_on a (p + 1) 8 w.streams.rows)
      port_covered port_enters f listed known waits in
      record {
        left = λ i b at' carries.
            let rank : rank_of w b.what ≡ suc ((row w r.frame).prio) = ap (rank_of w) carries in
            every_at (λ s. Mine (traffic w h a p) s → s.frame ≡ r.frame → s.begin + (arc w a).cost * wire w r ≤ r.tick + v.delay a p) (map (as_sent w h) (Begins h a)) i (as_sent w h b) in_time (into_map (as_sent w h) (Begins h a) i b at')
            (ranked_mine w h a p b (rank_of w b.what) refl (omega (arith, rank, prio))) (ap frame_number carries);
        begun = λ over.
            let k = port.known p j r there entered in
            let m = map-some (as_sent w h) (λ s. (s.frame ≡ r.frame) × Mine (traffic w h a p) s) (Begins h a) (begun' (omega (arith, k.least)) over) in
            let o = mine-sent w n h a p done port.within port.legal port.express port.below port.over port.unstarted m.0 m.1 m.2 m.3.1 in
            let same : o.0.0 ≡ r.frame = sym (ap frame_number o.1) ∙ m.3.0 in
            (m.0, m.1, m.2, o.1 ∙ ap (λ k. what.Frame (record { 0 = k })) same);
      }
    where
      never : BegunBefore (traffic w h a p) r.tick r.frame → ⊥
      never begun =
          let m = map-some (as_sent w h) (λ s. (s.begin < r.tick) × (s.frame ≡ r.frame) × Mine (traffic w h a p) s) (Begins h a) begun in
          let o = mine-sent w n h a p done port.within port.legal port.express port.below port.over port.unstarted m.0 m.1 m.2 m.3.2 in
          let same : o.0.0 ≡ r.frame = sym (ap frame_number o.1) ∙ m.3.1 in
          let on : what_is m.1.what r.frame ≡ true = ap (λ x. what_is x r.frame) o.1 ∙ is_eq o.0.0 r.frame same in
          let yes' = some-begun h a r.tick r.frame m.0 m.1 m.2 m.3.0 on o.2.from in
          absurd (cc (yes', fresh))

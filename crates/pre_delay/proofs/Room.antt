-- What waits at a port of a legal history, and what comes to its ring, have room.
use Rattle.std.proofs.Common.{ℕ, suc, Bool, true, false, cond, not, ◌==◌, nat_le, ◌≡◌, ◌+◌, ◌-◌, ◌*◌, ◌<◌, ◌≤◌}
use Rattle.std.proofs.Common.{List, [], ◌∷◌, ◌++◌, length, map, filter, refl, sym, ◌∙◌, ap, arith, subst, Some}
use Rattle.std.specs.Prelude.{slice_get, sum_by, ◌&&◌, if◌then◌else◌}
use Rattle.std.specs.List.{AllByRecursion as Every, enumerate_from}
use Rattle.std.proofs.Math.Nat.{mul-le-mul_right}
use Rattle.std.proofs.lemmas.Bool.{and_parts, leb-true}
use Rattle.std.proofs.lemmas.List.Sums.{sum_by-cons}
use Rattle.std.proofs.lemmas.List.{append-nil}
use Rattle.pre_streams.specs.declared.rows.Row.{Row}
use Rattle.pre_history.specs.Scenario.{Scenario, arc, row}
use Rattle.pre_history.specs.History.{History}
use Rattle.pre_history.specs.Selected.{RingEntry, frame_number, what_is}
use Rattle.pre_history.specs.Queries.{Begins, Entries, Waiting, begun_before}
use Rattle.pre_history.proofs.Lists.{every_at, every-append, every_weaker, every_placed}
use Rattle.pre_bound.specs.Uses.{rate_of, hop_of, is_on, rates_on, ring_at}
use Rattle.pre_bound.specs.Values.{Values}
use Rattle.pre_bound.specs.Clauses.{certified_bursts, Size, Ring}
use Rattle.pre_bound.proofs.Sums.{sums_ge}
use Rattle.pre_bound.proofs.Hops.{is_on-from}
use Rattle.pre_history.proofs.NatTests.{is_eq}
use Rattle.pre_delay.specs.Ticks.{is_from_to}
use Rattle.pre_delay.specs.Ports.{stream_of, wire, wire_of, waiting_octets}
use Rattle.pre_delay.proofs.Port.{IsKnown, IsPort, ComesTo}
use Rattle.pre_delay.proofs.Arcs.{Queued, Some_of, BegunBefore, Mine, entered_from_to}
use Rattle.pre_delay.proofs.Shares.{several}
use Rattle.pre_delay.proofs.Members.{every-filter, every-weaker}
use Rattle.pre_delay.proofs.Periods.{frames_within}
use Rattle.pre_delay.proofs.Queue.{queue_fits}
use Rattle.pre_delay.proofs.Rings.{entries_prio}
use Rattle.pre_delay.proofs.Seen.{traffic, queued, as_queued, as_sent, every-queue, map-some, mine-sent, some-begun}
use Rattle.pre_delay.proofs.Certified.{entered-le, some-row, every-row, port_serves, port_covered, port_enters}

-- ---- any entries

abbrev queue_of : Scenario → List RingEntry → List Queued
queue_of w es = map (as_queued w) (filter (λ r. r.entered) es)

every-of : (w : Scenario) (P : Queued → Type 0) (es : List RingEntry) → Every (λ (r : RingEntry). r.entered ≡ true → P (as_queued w r)) es → Every P (queue_of w es)
every-of w P [] e = tt
every-of w P (x ∷ es) e = by (x.entered) refl (every-of w P es e.1)
  where
    by : (b : Bool) → x.entered ≡ b → Every P (queue_of w es) → Every P (map (as_queued w) (if b then x ∷ filter (λ y. y.entered) es else filter (λ y. y.entered) es))
    by true on more = (e.0 on, more)
    by false off more = more

queue_of-append : (w : Scenario) (es cs : List RingEntry) → queue_of w (es ++ cs) ≡ queue_of w es ++ queue_of w cs
queue_of-append w [] cs = refl
queue_of-append w (x ∷ es) cs =
    let rest = queue_of-append w es cs in
    elim (x.entered) as (λ b. map (as_queued w) (if b then x ∷ filter (λ y. y.entered) (es ++ cs) else filter (λ y. y.entered) (es ++ cs)) ≡ map (as_queued w) (if b then x ∷ filter (λ y. y.entered) es else filter (λ y. y.entered) es) ++ queue_of w cs) [
      | true ↦ ap (λ qs. as_queued w x ∷ qs) rest
      | false ↦ rest
    ]

pub entries_obey : (w : Scenario) (a q : ℕ) (v : Values) (es : List RingEntry) → (arc w a).express_from ≤ q
    → Every (λ (r : RingEntry). r.entered ≡ true → IsKnown w a r.frame × (q ≡ (row w r.frame).prio)) es → (from to : ℕ)
    → ((i : ℕ) (r : Row) → slice_get w.streams.rows i ≡ Some r → is_on a q (q + 1) r ≡ true
    → 1_000_000 * sum_by (wire w) (filter (λ r. is_from_to from to r.tick && (stream_of w r.frame == i)) es) ≤ 1_000_000 * v.burst i (hop_of a r) + rate_of r * (to - from))
    → 1_000_000 * entered_from_to from to (queue_of w es) ≤ 1_000_000 * certified_bursts v a q (q + 1) w.streams.rows + rates_on a q (q + 1) w.streams.rows * (to - from)
entries_obey w a q v es high facts from to obeys =
    let ks = filter (λ e. is_on a q (q + 1) e.1) (enumerate_from 0 w.streams.rows) in
    let xs = filter (λ x. is_from_to from to x.tick) (queue_of w es) in
    let all = several {X = Queued} {K = ℕ × Row} (λ x. x.octets) (λ k x. stream_of w x.frame == k.0) (λ k. v.burst k.0 (hop_of a k.1)) (λ k. rate_of k.1) (to - from) ks xs
    (every-weaker (λ x. (is_from_to from to x.tick ≡ true) × Some_of (λ k. (stream_of w x.frame == k.0) ≡ true) ks) (λ x. Some_of (λ k. (stream_of w x.frame == k.0) ≡ true) ks) xs (λ x both. both.1)
    (every-filter (λ x. Some_of (λ k. (stream_of w x.frame == k.0) ≡ true) ks) (λ x. is_from_to from to x.tick) (queue_of w es)
    (every-of w (λ x. Some_of (λ k. (stream_of w x.frame == k.0) ≡ true) ks) es
    (every_weaker (λ (r : RingEntry). r.entered ≡ true → IsKnown w a r.frame × (q ≡ (row w r.frame).prio)) (λ r. r.entered ≡ true → Some_of (λ k. (stream_of w r.frame == k.0) ≡ true) ks) (λ r facts' entered. belongs r (facts' entered)) es facts))))
    (every-row (is_on a q (q + 1)) (λ k. 1_000_000 * sum_by (λ x. x.octets) (filter (λ x. stream_of w x.frame == k.0) xs) ≤ 1_000_000 * v.burst k.0 (hop_of a k.1) + rate_of k.1 * (to - from)) 0 w.streams.rows
    (λ i r at on'. let share = obeys i r at on' in let fewer = entered-le w from to i es in
    let z : 0 + i ≡ i = omega arith in
    subst (λ m. 1_000_000 * sum_by (λ x. x.octets) (filter (λ x. stream_of w x.frame == m) xs) ≤ 1_000_000 * v.burst m (hop_of a r) + rate_of r * (to - from)) (sym z) (omega (arith, share, fewer))))
    in
    let rates = sums_ge rate_of (λ (e : ℕ × Row). rate_of e.1) (is_on a q (q + 1)) 0 w.streams.rows (λ i k r same at on'. omega arith) in
    let product : sum_by (λ (e : ℕ × Row). rate_of e.1) ks * (to - from) ≤ rates_on a q (q + 1) w.streams.rows * (to - from) = mul-le-mul_right (to - from) rates in
    omega (arith, all, product)
  where
    belongs : (r : RingEntry) → IsKnown w a r.frame × (q ≡ (row w r.frame).prio) → Some_of (λ k. (stream_of w r.frame == k.0) ≡ true) (filter (λ e. is_on a q (q + 1) e.1) (enumerate_from 0 w.streams.rows))
    belongs r (k, prio) =
        let on = is_on-from a q (q + 1) (row w r.frame) (record { express = k.stream (omega (arith, prio)); from = omega (arith, prio); below = omega (arith, prio); takes = k.takes }) in
        some-row (is_on a q (q + 1)) (λ k. (stream_of w r.frame == k.0) ≡ true) 0 w.streams.rows (stream_of w r.frame) (row w r.frame) k.listed on (is_eq (stream_of w r.frame) (0 + stream_of w r.frame) (omega arith))

-- ---- counts

count-le : (xs : List Queued) → Every (λ q. 84 ≤ q.octets) xs → 84 * length xs ≤ sum_by (λ q. q.octets) xs
count-le [] e = omega arith
count-le (x ∷ xs) e = let one = sum_by-cons (λ (q : Queued). q.octets) x xs in let rest = count-le xs e.1 in omega (arith, one, rest, e.0)

waiting-count : (w : Scenario) (h : History) (a t : ℕ) (es : List RingEntry)
    → length (map (λ (e : RingEntry). e.frame) (filter (λ e. e.entered && nat_le e.tick t && not (begun_before h a t e.frame)) es)) ≡ length (filter (λ (q : Queued). nat_le q.tick t && not (begun_before h a t q.frame)) (queue_of w es))
waiting-count w h a t [] = refl
waiting-count w h a t (x ∷ es) =
    let rest = waiting-count w h a t es in
    let F = filter (λ (e : RingEntry). e.entered && nat_le e.tick t && not (begun_before h a t e.frame)) es in
    let W = filter (λ (q : Queued). nat_le q.tick t && not (begun_before h a t q.frame)) (queue_of w es) in
    elim (x.entered) as (λ b. length (map (λ (e : RingEntry). e.frame) (cond (b && nat_le x.tick t && not (begun_before h a t x.frame)) (x ∷ F) F))
    ≡ length (filter (λ (q : Queued). nat_le q.tick t && not (begun_before h a t q.frame)) (map (as_queued w) (cond b (x ∷ filter (λ r. r.entered) es) (filter (λ r. r.entered) es))))) [
      | true ↦ elim (nat_le x.tick t && not (begun_before h a t x.frame)) as (λ c. length (map (λ (e : RingEntry). e.frame) (cond c (x ∷ F) F)) ≡ length (cond c (as_queued w x ∷ W) W)) [
        | true ↦ ap suc rest
        | false ↦ rest
      ]
      | false ↦ rest
    ]

come-count : (w : Scenario) (es : List RingEntry) → Every (λ (r : RingEntry). r.entered ≡ true) es → length (queue_of w es) ≡ length es
come-count w [] e = refl
come-count w (x ∷ es) e = subst (λ b. length (map (as_queued w) (if b then x ∷ filter (λ y. y.entered) es else filter (λ y. y.entered) es)) ≡ suc (length es)) (sym e.0) (ap suc (come-count w es e.1))

unsent : (w : Scenario) (n : ℕ) (h : History) (a p done : ℕ) (v : Values) → IsPort w n h a p done v → (x f : ℕ) → begun_before h a x f ≡ false → ¬ BegunBefore (traffic w h a p) x f
unsent w n h a p done v port x f fresh begun =
    let m = map-some (as_sent w h) (λ s. (s.begin < x) × (s.frame ≡ f) × Mine (traffic w h a p) s) (Begins h a) begun in
    let o = mine-sent w n h a p done port.within port.legal port.express port.below port.over port.unstarted m.0 m.1 m.2 m.3.2 in
    let same : o.0.0 ≡ f = sym (ap frame_number o.1) ∙ m.3.1 in
    let on : what_is m.1.what f ≡ true = ap (λ y. what_is y f) o.1 ∙ is_eq o.0.0 f same in
    let yes' = some-begun h a x f m.0 m.1 m.2 m.3.0 on o.2.from in
    absurd (cc (yes', fresh))

waiting-sum : (w : Scenario) (h : History) (a t : ℕ) (es : List RingEntry)
    → sum_by (wire_of w) (map (λ (e : RingEntry). e.frame) (filter (λ e. e.entered && nat_le e.tick t && not (begun_before h a t e.frame)) es))
    ≡ sum_by (λ (q : Queued). q.octets) (filter (λ (q : Queued). nat_le q.tick t && not (begun_before h a t q.frame)) (queue_of w es))
waiting-sum w h a t [] = refl
waiting-sum w h a t (x ∷ es) =
    let rest = waiting-sum w h a t es in
    let F = filter (λ (e : RingEntry). e.entered && nat_le e.tick t && not (begun_before h a t e.frame)) es in
    let W = filter (λ (q : Queued). nat_le q.tick t && not (begun_before h a t q.frame)) (queue_of w es) in
    elim (x.entered) as (λ b. sum_by (wire_of w) (map (λ (e : RingEntry). e.frame) (cond (b && nat_le x.tick t && not (begun_before h a t x.frame)) (x ∷ F) F))
    ≡ sum_by (λ (q : Queued). q.octets) (filter (λ (q : Queued). nat_le q.tick t && not (begun_before h a t q.frame)) (map (as_queued w) (cond b (x ∷ filter (λ r. r.entered) es) (filter (λ r. r.entered) es))))) [
      | true ↦ elim (nat_le x.tick t && not (begun_before h a t x.frame)) as (λ c. sum_by (wire_of w) (map (λ (e : RingEntry). e.frame) (cond c (x ∷ F) F)) ≡ sum_by (λ (q : Queued). q.octets) (cond c (as_queued w x ∷ W) W)) [
        | true ↦
            let one = sum_by-cons (wire_of w) x.frame (map (λ (e : RingEntry). e.frame) F) in
            let two = sum_by-cons (λ (q : Queued). q.octets) (as_queued w x) W in
            omega (arith, one, two, rest)
        | false ↦ rest
      ]
      | false ↦ rest
    ]

-- what enters the ring hadn't begun on the arc before
abbrev pub AreFresh : History → (a p : ℕ) → Type 0
AreFresh h a p = (j : ℕ) (r : RingEntry) → slice_get (Entries h a p) j ≡ Some r → r.entered ≡ true → begun_before h a r.tick r.frame ≡ false

module _ (w : Scenario) (n : ℕ) (h : History) (a p done : ℕ) (v : Values) (port : IsPort w n h a p done v) (size : Size w.streams.rows v a p) (fresh : AreFresh h a p)
    (x : ℕ) (by : x ≤ done) where
  abbrev waiting : Queued → Bool
  waiting q = nat_le q.tick x && not (begun_before h a x q.frame)

  abbrev waiting_sum : ℕ
  waiting_sum = sum_by (λ (q : Queued). q.octets) (filter waiting (queued w h a p))

  off : (b : Bool) → not b ≡ true → b ≡ false
  off false e = refl
  off true e = absurd (cc e)

  -- what waits at the tick, and what comes to the ring at it, is within the size
  total : (comers : List RingEntry) → Every (ComesTo w a p x) comers
      → ((i : ℕ) (r : Row) → slice_get w.streams.rows i ≡ Some r → is_on a p (p + 1) r ≡ true → (from to : ℕ) → from ≤ to
      → 1_000_000 * sum_by (wire w) (filter (λ r. is_from_to from to r.tick && (stream_of w r.frame == i)) (Entries h a p ++ comers)) ≤ 1_000_000 * v.burst i (hop_of a r) + rate_of r * (to - from))
      → waiting_sum + sum_by (λ (q : Queued). q.octets) (queue_of w comers) ≤ v.size a p
  total comers come obeys =
      let l = traffic w h a p in
      let E = Entries h a p in
      let least : Every (λ q. 84 ≤ q.octets) (queued w h a p) = every-queue w h a p (λ q. 84 ≤ q.octets) (λ j r at entered. let k = port.known p j r at entered in omega (arith, k.least)) in
      let facts = every-append (λ (r : RingEntry). r.entered ≡ true → IsKnown w a r.frame × (p ≡ (row w r.frame).prio)) E comers
      (every_placed (λ (r : RingEntry). r.entered ≡ true → IsKnown w a r.frame × (p ≡ (row w r.frame).prio)) E
      (λ j r at entered. (port.known p j r at entered, every_at (λ (y : RingEntry). y.entered ≡ true → p ≡ (row w y.frame).prio) E j r (entries_prio w n h a p port.legal) at entered)))
      (every_weaker (ComesTo w a p x) (λ (r : RingEntry). r.entered ≡ true → IsKnown w a r.frame × (p ≡ (row w r.frame).prio)) (λ r c entered. (c.known, c.prio)) comers come)
      in
      queue_fits l done (v.block a p) (v.work a p) (v.delay a p) (certified_bursts v a p (p + 1) w.streams.rows) (rates_on a p (p + 1) w.streams.rows) (certified_bursts v a (p + 1) 8 w.streams.rows) (rates_on a (p + 1) 8 w.streams.rows)
      (port_serves w n h a p done v port) (port_covered w n h a p done v port) (port_enters w n h a p done v port)
      (every-queue w h a p (λ q. ¬ BegunBefore l q.tick q.frame) (λ j r at entered. unsent w n h a p done v port r.tick r.frame (fresh j r at entered))) least
      (v.size a p) x size by waiting
      (λ q e. let parts = and_parts (nat_le q.tick x) (not (begun_before h a x q.frame)) e in (leb-true q.tick x parts.0, unsent w n h a p done v port x q.frame (off (begun_before h a x q.frame) parts.1)))
      (queue_of w comers) (every-of w (λ q. q.tick ≡ x) comers (every_weaker (ComesTo w a p x) (λ (r : RingEntry). r.entered ≡ true → r.tick ≡ x) (λ r c entered. c.now) comers come))
      (λ from to le. subst (λ qs. 1_000_000 * entered_from_to from to qs ≤ 1_000_000 * certified_bursts v a p (p + 1) w.streams.rows + rates_on a p (p + 1) w.streams.rows * (to - from)) (queue_of-append w E comers)
      (entries_obey w a p v (E ++ comers) port.express facts from to (λ i r at on. obeys i r at on from to le)))

  -- What waits at a tick is within the size, in octets.
  pub queue_within : waiting_octets w h a p x ≤ v.size a p
  unfolding Waiting
  queue_within =
      let sum = waiting-sum w h a x (Entries h a p) in
      let all = total [] tt (λ i r at on. subst (λ rs. (from to : ℕ) → from ≤ to
      → 1_000_000 * sum_by (wire w) (filter (λ r. is_from_to from to r.tick && (stream_of w r.frame == i)) rs) ≤ 1_000_000 * v.burst i (hop_of a r) + rate_of r * (to - from)) (sym (append-nil (Entries h a p)))
      (port.obeys p i r (omega arith) at on)) in
      omega (arith, sum, all)

  -- What waits and what comes has room, in frames.
  pub have_room : Ring w.net v a p → (comers : List RingEntry) → Every (ComesTo w a p x) comers
      → ((i : ℕ) (r : Row) → slice_get w.streams.rows i ≡ Some r → is_on a p (p + 1) r ≡ true → (from to : ℕ) → from ≤ to
      → 1_000_000 * sum_by (wire w) (filter (λ r. is_from_to from to r.tick && (stream_of w r.frame == i)) (Entries h a p ++ comers)) ≤ 1_000_000 * v.burst i (hop_of a r) + rate_of r * (to - from))
      → length (Waiting h a p x) + length comers ≤ ring_at w.net a p
  unfolding Waiting
  have_room ring comers come obeys =
      let least : Every (λ q. 84 ≤ q.octets) (queued w h a p) = every-queue w h a p (λ q. 84 ≤ q.octets) (λ j r at entered. let k = port.known p j r at entered in omega (arith, k.least)) in
      let here = count-le (filter waiting (queued w h a p))
      (every-weaker (λ (q : Queued). (waiting q ≡ true) × (84 ≤ q.octets)) (λ q. 84 ≤ q.octets) (filter waiting (queued w h a p)) (λ q both. both.1)
      (every-filter (λ (q : Queued). 84 ≤ q.octets) waiting (queued w h a p) least)) in
      let new = count-le (queue_of w comers) (every-of w (λ q. 84 ≤ q.octets) comers (every_weaker (ComesTo w a p x) (λ (r : RingEntry). r.entered ≡ true → 84 ≤ wire w r) (λ r c entered. let k = c.known.least in omega (arith, k)) comers come)) in
      let long = waiting-count w h a x (Entries h a p) in
      let some = come-count w comers (every_weaker (ComesTo w a p x) (λ (r : RingEntry). r.entered ≡ true) (λ r c. c.entered) comers come) in
      let all = total comers come obeys in
      let fits = frames_within (length (filter waiting (queued w h a p)) + length (queue_of w comers)) (waiting_sum + sum_by (λ (q : Queued). q.octets) (queue_of w comers)) (v.size a p) (ring_at w.net a p) (omega (arith, here, new)) all ring in
      omega (arith, fits, long, some)

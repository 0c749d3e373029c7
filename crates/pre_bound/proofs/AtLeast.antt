-- Each number of a good certificate is at least the least solution over the numbers before it; so, along the order of its
-- ranks, at least the settled numbers.
use Rattle.std.proofs.Common.{◌≡◌, ℕ, zero, suc, ◌==◌, ◌∙◌, ◌+◌, ◌-◌, ◌*◌, ◌<◌, ◌≤◌, max, min, Bool, true}
use Rattle.std.proofs.Common.{false, List, Option, Some, None, sym, ap, subst, arith, refl, if◌then◌else◌, inl, inr, length, get_or}
use Rattle.std.specs.Prelude.{slice_get, Contains, IsSome}
use Rattle.std.specs.Option.{option_map, option_map_or}
use Rattle.std.proofs.Math.Nat.{mul-le-mul_left, min-le_left, min-le_right, le-min}
use Rattle.std.proofs.lemmas.Bool.{cases_lt, eqb-true, eq-eqb, true≢false}
use Rattle.pre_base.specs.declared.limits.TheConstants.{OVERHEAD}
use Rattle.pre_base.specs.declared.numbers.ArcId.{ArcId}
use Rattle.pre_topo.specs.declared.network.Network.{Network}
use Rattle.pre_topo.specs.declared.arcs.Arc.{Arc}
use Rattle.pre_topo.specs.Arcs.{latency_at}
use Rattle.pre_streams.specs.declared.rows.Row.{Row}
use Rattle.pre_bound.specs.Solutions.{CoversDelay}
use Rattle.pre_bound.specs.Uses.{TakesAt, hop_of, is_on, has_port, rate_of, cost_at, cuts, fragment_octets, preemptable_octets, preemptable_at, has_flow, largest_at, largest_used, Follows, rates_on}
use Rattle.pre_bound.specs.Along.{Delays, burst_at, burst_on, bursts_on, hop_ticks, route_ticks, least_block, least_work, rate_above, port_delay, port_size}
use Rattle.pre_bound.specs.Values.{Values}
use Rattle.pre_bound.specs.Clauses.{certified_bursts, Largest}
use Rattle.pre_bound.specs.Chains.{EndsChain, AreRanks}
use Rattle.pre_bound.specs.Good.{AreGood, AreInOrder, IsStream, AtPorts}
use Rattle.pre_bound.specs.Settled.{Settled, ValuesAtMost, values_over, PriosBelow}
use Rattle.pre_bound.specs.Order.{Rise}
use Rattle.pre_bound.proofs.Within.{ArcsWithin}
use Rattle.pre_bound.proofs.Solved.{least_delay-le, least_growth-le, least_size-le}
use Rattle.pre_bound.proofs.Sums.{sums_le, greatest_le, mul_max, sum_by-le-at}
use Rattle.pre_bound.proofs.Hops.{TakesAt-place, TakesAt-from, TakesAt-hop_of, OnArc-from, has_port-from, has_arc-from_port, burst_at-suc, contains_at}

-- ranks rise along a route
pub rank_rises : (rows : List Row) (rank : ℕ → ℕ) (order : (arc next : ℕ) → Follows rows arc next → rank arc < rank next) (r : Row) → Contains rows r → IsSome r.curve
    → (i j a b : ℕ) → i < j → TakesAt r i a → TakesAt r j b → rank a < rank b
rank_rises rows rank order r listed express i zero a b h here there = absurd (omega arith)
rank_rises rows rank order r listed express i (suc k) a b h here there =
    let d : ArcId = record { 0 = a } in
    let within = TakesAt-place r (suc k) b there in
    let inside : k < length r.arcs = omega (arith, within.0) in
    let c = (get_or r.arcs k d).0 in
    let last : TakesAt r k c = TakesAt-from r k d inside in
    let step : Follows rows c b = record { stream = r; listed = listed; express = express; hop = k; here = last; behind = subst (λ n. TakesAt r n b) (omega arith) there } in
    let one : rank c < rank b = order c b step in
    elim (cases_lt i k) [
      | inl less ↦ let before = rank_rises rows rank order r listed express i k a c less here last in omega arith
      | inr more ↦
          let same : i ≡ k = omega arith in
          let here' : TakesAt r k a = subst (λ n. TakesAt r n a) same here in
          let place = TakesAt-place r k a here' in
          let eq : c ≡ a = place.1 d in
          subst (λ n. rank n < rank b) eq one
    ]

-- greater preemptable frames hold an arc for longer
preemptable_octets-le : (a : Arc) (l m : ℕ) → l ≤ m → preemptable_octets a l ≤ preemptable_octets a m
preemptable_octets-le a l m h = by_zero (l == 0) (m == 0) refl refl
  where
    held : Bool → ℕ → ℕ
    held b n = if b then min (n + OVERHEAD) (fragment_octets a) else n + OVERHEAD

    held-le : (b : Bool) → held b l ≤ held b m
    held-le true =
        let one = min-le_left (l + OVERHEAD) (fragment_octets a) in
        le-min (omega (arith, one, h)) (min-le_right (l + OVERHEAD) (fragment_octets a))
    held-le false = omega (arith, h)

    by_zero : (b c : Bool) → b ≡ (l == 0) → c ≡ (m == 0) → (if b then 0 else held (cuts a.mode a.policy) l) ≤ (if c then 0 else held (cuts a.mode a.policy) m)
    by_zero true c is_l is_m = omega arith
    by_zero false true is_l is_m =
        let none : m ≡ 0 = eqb-true m 0 (sym is_m) in
        absurd (true≢false (sym (eq-eqb l 0 (omega (arith, h, none))) ∙ sym is_l))
    by_zero false false is_l is_m = held-le (cuts a.mode a.policy)

preemptable_at-le : (net : Network) (arc l m : ℕ) → l ≤ m → preemptable_at net arc l ≤ preemptable_at net arc m
preemptable_at-le net arc l m h = by_cases (slice_get net.arcs arc)
  where
    by_cases : (o : Option Arc) → option_map_or (λ a. preemptable_octets a l) o 0 ≤ option_map_or (λ a. preemptable_octets a m) o 0
    by_cases None = omega arith
    by_cases (Some a) = preemptable_octets-le a l m h

-- a certified greatest frame is at least the one that is used
pub largest_used-le : (net : Network) (rows : List Row) (v : Values) (arc : ℕ) → Largest net rows v arc → largest_used net rows arc ≤ v.largest arc
largest_used-le net rows v arc clause = by_cases (has_flow rows arc) clause
  where
    by_cases : (b : Bool) → (b ≡ true → largest_at net arc ≤ v.largest arc) → (if b then largest_at net arc else 0) ≤ v.largest arc
    by_cases true h = h refl
    by_cases false h = omega arith

-- the block of a port
pub good_block-le : (net : Network) (rows : List Row) (v : Values) → AreGood net rows v → (a p : ℕ) → a < length net.arcs → p < 8 → has_port rows a p ≡ true → least_block net rows a p ≤ v.block a p
good_block-le net rows v good a p inside prio port =
    let clause = good.block a p inside prio port in
    let used = preemptable_at net a (largest_used net rows a) in
    let large = largest_used-le net rows v a (good.largest a inside (has_arc-from_port rows a p prio port)) in
    let term = mul-le-mul_left (cost_at net a) (preemptable_at-le net a (largest_used net rows a) (v.largest a) large) in
    greatest_le (λ r. r.max + OVERHEAD) (is_on a 0 p) (cost_at net a) (v.block a p) (max 84 used) rows
    (mul_max (cost_at net a) 84 used (v.block a p) clause.frame (omega (arith, term, clause.preemptable))) (λ r listed on. clause.lower r listed on)

-- a greater delay takes more ticks
pub hop_le : (net : Network) (a d e : ℕ) → d ≤ e → hop_ticks net a d ≤ hop_ticks net a e
hop_le net a d e h = shares (slice_get net.arcs a)
  where
    shares : (o : Option Arc) → option_map_or (λ x. latency_at net.nodes x.from.0 + (d - 12 * x.cost) + x.delay) o 0 ≤ option_map_or (λ x. latency_at net.nodes x.from.0 + (e - 12 * x.cost) + x.delay) o 0
    shares None = omega arith
    shares (Some x) = omega arith

module _ (net : Network) (rows : List Row) (delays : Delays) (v : Values) (within : ArcsWithin net rows) (prio_below : PriosBelow rows) (good : AreGood net rows v) (rank : ℕ → ℕ) (rise : Rise rows rank) where
  -- a stream's burst at a hop, where the delays before it are at most those certified
  pub burst_le : (stream : ℕ) (r : Row) → IsStream rows stream r → (j : ℕ) → j < length r.arcs
      → ((i a : ℕ) → i < j → TakesAt r i a → delays a r.prio ≤ v.delay a r.prio) → burst_at net delays r j ≤ v.burst stream j
  burst_le stream r is zero h below = good.first_burst stream r is
  burst_le stream r is (suc k) h below =
      let d : ArcId = record { 0 = 0 } in
      let inside : k < length r.arcs = omega arith in
      let further : k + 1 < length r.arcs = omega arith in
      let a = (get_or r.arcs k d).0 in
      let b = (get_or r.arcs (k + 1) d).0 in
      let here : TakesAt r k a = TakesAt-from r k d inside in
      let there : TakesAt r (k + 1) b = TakesAt-from r (k + 1) d further in
      let before = burst_le stream r is k inside (λ i c less at. below i c (omega arith) at) in
      let late : delays a r.prio ≤ v.delay a r.prio = below k a (omega arith) here in
      let covers = good.growth stream r is k a b here there in
      let step : burst_at net delays r (k + 1) ≤ v.burst stream (k + 1) =
      rw (burst_at-suc net delays r k a here)
      (least_growth-le (burst_at net delays r k) (rate_of r) (delays a r.prio) (cost_at net a) (v.burst stream k) (v.delay a r.prio) (v.burst stream (k + 1)) before late covers)
      in
      subst (λ n. burst_at net delays r n ≤ v.burst stream n) (omega arith) step

  -- the bursts at an arc, where the delays at arcs of lower rank are at most those certified
  bursts_le : (a low high : ℕ) → high ≤ 8
      → ((b q : ℕ) → rank b < rank a → b < length net.arcs → q < 8 → has_port rows b q ≡ true → delays b q ≤ v.delay b q)
      → bursts_on net delays a low high rows ≤ certified_bursts v a low high rows
  bursts_le a low high top below =
      sums_le (burst_on net delays a) (λ e. v.burst e.0 (hop_of a e.1)) (is_on a low high) 0 rows
      (λ i k r same at on'.
      let on = OnArc-from a low high r on' in
      let number : k ≡ i = omega arith in
      let row : slice_get rows k ≡ Some r = subst (λ n. slice_get rows n ≡ Some r) (sym number) at in
      let listed = contains_at rows k r row in
      let hop = hop_of a r in
      let here = TakesAt-hop_of r a on.takes in
      let inside = TakesAt-place r hop a here in
      burst_le k r (record { row = row; express = on.express }) hop inside.0
      (λ j c less there.
      let rises = rank_rises rows rank rise r listed on.express j hop c a less there here in
      below c r.prio rises (within r listed j c there) (omega (arith, on.below)) (has_port-from rows r c j listed on.express there)))

  -- the delay of a port, where those at arcs of lower rank are at most those certified
  pub delay_le : (a p : ℕ) → a < length net.arcs → p < 8 → has_port rows a p ≡ true
      → ((b q : ℕ) → rank b < rank a → b < length net.arcs → q < 8 → has_port rows b q ≡ true → delays b q ≤ v.delay b q)
      → port_delay net rows delays a p ≤ v.delay a p
  delay_le a p inside prio port below =
      let work = good.work a p inside prio port in
      let bursts = bursts_le a p 8 (omega arith) below in
      let product = mul-le-mul_left (cost_at net a) bursts in
      let enough : least_work net rows delays a p ≤ v.work a p = omega (arith, product, work.bursts) in
      let covers = good.delay a p inside prio port in
      least_delay-le (least_block net rows a p) (least_work net rows delays a p) (rate_above rows a p) (cost_at net a) (v.block a p) (v.work a p) (v.delay a p)
      (good_block-le net rows v good a p inside prio port) enough
      (subst (λ n. CoversDelay (v.block a p) (v.work a p) n (cost_at net a) (v.delay a p)) work.rate covers)

  -- its work and its size
  pub work_le : (a p : ℕ) → a < length net.arcs → p < 8 → has_port rows a p ≡ true
      → ((b q : ℕ) → rank b < rank a → b < length net.arcs → q < 8 → has_port rows b q ≡ true → delays b q ≤ v.delay b q)
      → least_work net rows delays a p ≤ v.work a p
  work_le a p inside prio port below =
      let work = good.work a p inside prio port in
      let bursts = bursts_le a p 8 (omega arith) below in
      let product = mul-le-mul_left (cost_at net a) bursts in
      omega (arith, product, work.bursts)

  pub size_le : (a p : ℕ) → a < length net.arcs → p < 8 → has_port rows a p ≡ true
      → ((b q : ℕ) → rank b < rank a → b < length net.arcs → q < 8 → has_port rows b q ≡ true → delays b q ≤ v.delay b q)
      → port_size net rows delays a p ≤ v.size a p
  size_le a p inside prio port below =
      least_size-le (bursts_on net delays a p (p + 1) rows) (rates_on a p (p + 1) rows) (port_delay net rows delays a p) (certified_bursts v a p (p + 1) rows) (v.delay a p) (v.size a p)
      (bursts_le a p (p + 1) (omega arith) below)
      (delay_le a p inside prio port below)
      (good.size a p inside prio port)

  -- by the order of ranks, where the delays at arcs below a rank are settled
  pub delays_below : (top : ℕ) → AtPorts net rows (λ b q. rank b < top → delays b q ≡ port_delay net rows delays b q)
      → (n a p : ℕ) → rank a < n → rank a < top → a < length net.arcs → p < 8 → has_port rows a p ≡ true → delays a p ≤ v.delay a p
  delays_below top settled zero a p less lower inside prio port = absurd (omega arith)
  delays_below top settled (suc n) a p less lower inside prio port =
      rw (settled a p inside prio port lower)
      (delay_le a p inside prio port (λ b q under there low other. delays_below top settled n b q (omega arith) (omega arith) there low other))

  module _ (settled : Settled net rows delays) where
    pub delays_le : (a p : ℕ) → a < length net.arcs → p < 8 → has_port rows a p ≡ true → delays a p ≤ v.delay a p
    delays_le a p = delays_below (suc (rank a)) (λ b q there low other lower. settled b q there low other) (suc (rank a)) a p (omega arith) (omega arith)

    pub sizes_le : (a p : ℕ) → a < length net.arcs → p < 8 → has_port rows a p ≡ true → port_size net rows delays a p ≤ v.size a p
    sizes_le a p inside prio port = size_le a p inside prio port (λ b q lower. delays_le b q)

    -- the ticks of a route
    route_le : (r : Row) → Contains rows r → IsSome r.curve → route_ticks net (λ a. delays a r.prio) r.arcs ≤ route_ticks net (λ a. v.delay a r.prio) r.arcs
    route_le r listed express =
        sum_by-le-at (λ x. hop_ticks net x.0 (delays x.0 r.prio)) (λ x. hop_ticks net x.0 (v.delay x.0 r.prio)) r.arcs
        (λ i x at.
        let here : TakesAt r i x.0 = ap (option_map (λ (y : ArcId). y.0)) at in
        hop_le net x.0 (delays x.0 r.prio) (v.delay x.0 r.prio)
        (delays_le x.0 r.prio (within r listed i x.0 here) (prio_below r listed) (has_port-from rows r x.0 i listed express here)))

    -- a chain is no longer than a good rank
    chain_le : AreInOrder rows v → (n a : ℕ) → EndsChain rows n a → n ≤ v.rank a
    chain_le order zero a chain = omega arith
    chain_le order (suc n) a chain =
        let before = chain_le order n chain.0 chain.2 in
        let rises = order chain.0 a chain.1 in
        omega arith

    burst_everywhere : (stream : ℕ) (r : Row) → IsStream rows stream r → (j : ℕ) → j < length r.arcs → burst_at net delays r j ≤ v.burst stream j
    burst_everywhere stream r is j inside =
        let listed = contains_at rows stream r is.row in
        burst_le stream r is j inside
        (λ i a less at. delays_le a r.prio (within r listed i a at) (prio_below r listed) (has_port-from rows r a i listed is.express at))

    pub values_le : AreInOrder rows v → (chain : ℕ → ℕ) → AreRanks net rows chain → ValuesAtMost net rows (values_over net rows chain delays) v
    values_le order chain ranks = record {
      rank = λ a inside. chain_le order (chain a) a (ranks a inside).chain;
      largest = λ a inside used. largest_used-le net rows v a (good.largest a inside used);
      block = λ a p inside prio port. good_block-le net rows v good a p inside prio port;
      work = λ a p inside prio port. work_le a p inside prio port (λ b q lower. delays_le b q);
      rate = λ a p inside prio port. let same = (good.work a p inside prio port).rate in omega (arith, same);
      delay = delays_le;
      size = sizes_le;
      burst = λ stream r is hop inside.
          subst (λ o. option_map_or (λ x. burst_at net delays x hop) o 0 ≤ v.burst stream hop) (sym is.row) (burst_everywhere stream r is hop inside);
      bound = λ stream r is.
          let route = route_le r (contains_at rows stream r is.row) is.express in
          let clause = good.bound stream r is in
          subst (λ o. option_map_or (λ x. route_ticks net (λ a. delays a x.prio) x.arcs) o 0 ≤ v.bound stream) (sym is.row) (omega (arith, route, clause));
    }

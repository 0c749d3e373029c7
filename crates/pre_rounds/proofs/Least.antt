-- The numbers of a round are at most all good ones.
use Rattle.std.proofs.Common.{◌≡◌, ℕ, zero, suc, ◌+◌, ◌<◌, ◌≤◌, Bool, true, List, [], ◌∷◌, sym, ap, subst, arith, inl, inr, length, get_or}
use Rattle.std.specs.Prelude.{sum_by, filter, Contains}
use Rattle.std.specs.Option.{option_map_or, option_map}
use Rattle.std.specs.List.{enumerate_from}
use Rattle.std.proofs.Math.Nat.{mul-le-mul_left}
use Rattle.std.proofs.lemmas.Bool.{cases_Bool}
use Rattle.std.proofs.lemmas.List.Sums.{sum_by-cons}
use Rattle.std.proofs.lemmas.Option.{slice_get-get_or}
use Rattle.pre_base.specs.declared.numbers.ArcId.{ArcId}
use Rattle.pre_topo.specs.declared.network.Network.{Network}
use Rattle.pre_streams.specs.declared.rows.Row.{Row}
use Rattle.pre_bound.specs.Solutions.{CoversDelay}
use Rattle.pre_bound.specs.Uses.{TakesAt, hop_of, is_on, has_port, rate_of, rates_on, cost_at}
use Rattle.pre_bound.specs.Along.{hop_ticks, route_ticks, least_block, rate_above}
use Rattle.pre_bound.specs.Values.{Values}
use Rattle.pre_bound.specs.Clauses.{certified_bursts}
use Rattle.pre_bound.specs.Good.{AreGood, IsStream}
use Rattle.pre_bound.specs.Settled.{ValuesAtMost}
use Rattle.pre_bound.proofs.Solved.{least_delay-le, least_growth-le, least_size-le}
use Rattle.pre_bound.proofs.Sums.{sum_by-le-at, contains_head, contains_tail}
use Rattle.pre_bound.proofs.Hops.{TakesAt-from, OnArc-from, has_port-from, contains_at}
use Rattle.pre_bound.proofs.Placed.{stream_at}
use Rattle.pre_bound.proofs.AtLeast.{good_block-le, largest_used-le, hop_le}
use Rattle.pre_rounds.specs.Rounds.{Bursts, bursts_over, work_over, delay_over, size_over, declared, next_bursts, round_bursts, round_values}
use Rattle.pre_rounds.specs.Routed.{AreRouted}
use Rattle.pre_rounds.proofs.Same.{hop_inside}
use Rattle.pre_rounds.proofs.Settled.{round-next, round-first, next-behind}
use Rattle.pre_rounds.proofs.Good.{declared_is}

sum_le : {X : Type 0} (f g : X → ℕ) (p : X → Bool) (xs : List X) → ((x : X) → Contains xs x → p x ≡ true → f x ≤ g x) → sum_by f (filter p xs) ≤ sum_by g (filter p xs)
sum_le f g p [] h = omega arith
sum_le f g p (x ∷ xs) h =
    let rest = sum_le f g p xs (λ y c e. h y (contains_tail x y xs c) e) in
    elim (cases_Bool (p x)) [
      | inl one ↦
          let here = h x (contains_head x xs) one in
          let left = sum_by-cons f x (filter p xs) in
          let right = sum_by-cons g x (filter p xs) in
          rw one (omega (arith, rest, here, left, right))
      | inr none ↦ rw none rest
    ]

module _ (net : Network) (rows : List Row) (routed : AreRouted net rows) (v : Values) (good : AreGood net rows v) where
  -- bursts that are at most those certified
  abbrev pub BurstsBelow : Bursts → Type 0
  BurstsBelow b = (stream : ℕ) (r : Row) → IsStream rows stream r → (hop : ℕ) → hop < length r.arcs → b stream hop ≤ v.burst stream hop

  -- certified bursts don't shrink along a route
  declared_below : BurstsBelow (declared rows)
  declared_below stream r is zero inside =
      let first = good.first_burst stream r is in
      let eq = declared_is rows stream r 0 is.row in
      omega (arith, first, eq)
  declared_below stream r is (suc hop) inside =
      let d : ArcId = record { 0 = 0 } in
      let before : declared rows stream hop ≤ v.burst stream hop = declared_below stream r is hop (omega arith) in
      let here : TakesAt r hop (get_or r.arcs hop d).0 = TakesAt-from r hop d (omega arith) in
      let there : TakesAt r (hop + 1) (get_or r.arcs (hop + 1) d).0 = TakesAt-from r (hop + 1) d (omega arith) in
      let covers = good.growth stream r is hop _ _ here there in
      let step : declared rows stream hop ≤ v.burst stream (hop + 1) = omega (arith, covers, before) in
      let eq : hop + 1 ≡ suc hop = omega arith in
      subst (λ n. declared rows stream hop ≤ v.burst stream n) eq step

  module _ (b : Bursts) (below : BurstsBelow b) where
    bursts_le : (a low high : ℕ) → bursts_over b a low high rows ≤ certified_bursts v a low high rows
    bursts_le a low high =
        sum_le (λ e. b e.0 (hop_of a e.1)) (λ e. v.burst e.0 (hop_of a e.1)) (λ e. is_on a low high e.1) (enumerate_from 0 rows)
        (λ e listed on. below e.0 e.1 (stream_at rows e listed (OnArc-from a low high e.1 on).express) (hop_of a e.1) (hop_inside a low high e.1 on))

    pub work_le : (a p : ℕ) → a < length net.arcs → p < 8 → has_port rows a p ≡ true → work_over net rows b a p ≤ v.work a p
    work_le a p inside prio port =
        let work = good.work a p inside prio port in
        let product = mul-le-mul_left (cost_at net a) (bursts_le a p 8) in
        omega (arith, product, work.bursts)

    pub delay_le : (a p : ℕ) → a < length net.arcs → p < 8 → has_port rows a p ≡ true → delay_over net rows b a p ≤ v.delay a p
    delay_le a p inside prio port =
        let work = good.work a p inside prio port in
        let covers = good.delay a p inside prio port in
        least_delay-le (least_block net rows a p) (work_over net rows b a p) (rate_above rows a p) (cost_at net a) (v.block a p) (v.work a p) (v.delay a p)
        (good_block-le net rows v good a p inside prio port) (work_le a p inside prio port)
        (subst (λ n. CoversDelay (v.block a p) (v.work a p) n (cost_at net a) (v.delay a p)) work.rate covers)

    pub size_le : (a p : ℕ) → a < length net.arcs → p < 8 → has_port rows a p ≡ true → size_over net rows b a p ≤ v.size a p
    size_le a p inside prio port =
        least_size-le (bursts_over b a p (p + 1) rows) (rates_on a p (p + 1) rows) (delay_over net rows b a p) (certified_bursts v a p (p + 1) rows) (v.delay a p) (v.size a p)
        (bursts_le a p (p + 1)) (delay_le a p inside prio port) (good.size a p inside prio port)

    -- so are those of the next round
    pub next_below : BurstsBelow (next_bursts net rows b)
    next_below stream r is zero inside = declared_below stream r is 0 inside
    next_below stream r is (suc hop) inside =
        let d : ArcId = record { 0 = 0 } in
        let listed = contains_at rows stream r is.row in
        let a : ArcId = get_or r.arcs hop d in
        let here : TakesAt r hop a.0 = TakesAt-from r hop d (omega arith) in
        let there : TakesAt r (hop + 1) (get_or r.arcs (hop + 1) d).0 = TakesAt-from r (hop + 1) d (omega arith) in
        let covers = good.growth stream r is hop a.0 _ here there in
        let late = delay_le a.0 r.prio (routed.within r listed hop a.0 here) (routed.prio r listed) (has_port-from rows r a.0 hop listed is.express here) in
        let before : b stream hop ≤ v.burst stream hop = below stream r is hop (omega arith) in
        let step = least_growth-le (b stream hop) (rate_of r) (delay_over net rows b a.0 r.prio) (cost_at net a.0) (v.burst stream hop) (v.delay a.0 r.prio) (v.burst stream (hop + 1)) before late covers in
        let grown = next-behind net rows b stream r hop a is.row (slice_get-get_or r.arcs hop d (omega arith)) in
        let eq : hop + 1 ≡ suc hop = omega arith in
        subst (λ n. next_bursts net rows b stream (suc hop) ≤ v.burst stream n) eq (omega (arith, grown, step))

    -- the ticks of a route
    pub route_le : (stream : ℕ) (r : Row) → IsStream rows stream r → route_ticks net (λ a. delay_over net rows b a r.prio) r.arcs ≤ route_ticks net (λ a. v.delay a r.prio) r.arcs
    route_le stream r is =
        let listed = contains_at rows stream r is.row in
        sum_by-le-at (λ x. hop_ticks net x.0 (delay_over net rows b x.0 r.prio)) (λ x. hop_ticks net x.0 (v.delay x.0 r.prio)) r.arcs
        (λ i x at.
        let here : TakesAt r i x.0 = ap (option_map (λ (y : ArcId). y.0)) at in
        hop_le net x.0 (delay_over net rows b x.0 r.prio) (v.delay x.0 r.prio)
        (delay_le x.0 r.prio (routed.within r listed i x.0 here) (routed.prio r listed) (has_port-from rows r x.0 i listed is.express here)))

  pub round_below : (round : ℕ) → BurstsBelow (round_bursts net rows round)
  round_below zero = subst (λ (b : Bursts). BurstsBelow b) (sym (round-first net rows)) declared_below
  round_below (suc round) =
      let eq : round + 1 ≡ suc round = omega arith in
      subst (λ n. BurstsBelow (round_bursts net rows n)) eq
      (subst (λ (b : Bursts). BurstsBelow b) (sym (round-next net rows round)) (next_below (round_bursts net rows round) (round_below round)))

  pub values_le : (round : ℕ) → ValuesAtMost net rows (round_values net rows round) v
  values_le round =
      let b = round_bursts net rows round in
      let below = round_below round in
      record {
        rank = λ a inside. omega arith;
        largest = λ a inside used. largest_used-le net rows v a (good.largest a inside used);
        block = λ a p inside prio port. good_block-le net rows v good a p inside prio port;
        work = work_le b below;
        rate = λ a p inside prio port. let same = (good.work a p inside prio port).rate in omega (arith, same);
        delay = delay_le b below;
        size = size_le b below;
        burst = below;
        bound = λ stream r is.
            let route = route_le b below stream r is in
            let clause = good.bound stream r is in
            subst (λ o. option_map_or (λ x. route_ticks net (λ a. delay_over net rows b a x.prio) x.arcs) o 0 ≤ v.bound stream) (sym is.row) (omega (arith, route, clause));
      }

-- Settled delays give good numbers.
use Rattle.std.proofs.Common.{◌≡◌, ℕ, suc, ◌+◌, ◌*◌, ◌<◌, ◌≤◌, max, true, List, Some, refl, sym, ◌∙◌, ap, subst, arith, length, if◌then◌else◌}
use Rattle.std.specs.Prelude.{slice_get, Contains, filter}
use Rattle.std.specs.Option.{option_map_or}
use Rattle.std.proofs.Math.Nat.{mul-le-mul_left, le-max_left, le-max_right}
use Rattle.pre_base.specs.declared.limits.TheConstants.{OVERHEAD}
use Rattle.pre_topo.specs.declared.network.Network.{Network}
use Rattle.pre_streams.specs.declared.rows.Row.{Row}
use Rattle.pre_bound.specs.Solutions.{CoversDelay, CoversGrowth, CoversQueue}
use Rattle.pre_bound.specs.Uses.{TakesAt, hop_of, is_on, rate_of, cost_at, preemptable_at, largest_at, largest_used, Follows, rates_on}
use Rattle.pre_bound.specs.Along.{Delays, burst_at, burst_on, bursts_on, route_ticks, least_block, least_work, rate_above, port_delay, port_size}
use Rattle.pre_bound.specs.Values.{Values}
use Rattle.pre_bound.specs.Clauses.{certified_bursts, Load, Growth}
use Rattle.pre_bound.specs.Chains.{AreRanks}
use Rattle.pre_bound.specs.Good.{AreGood, IsStream}
use Rattle.pre_bound.specs.Settled.{Settled, HaveRoom, values_over}
use Rattle.pre_bound.proofs.Solved.{least_delay-covers, least_growth-covers, least_size-covers}
use Rattle.pre_bound.proofs.Sums.{sums_ge, sum_by-filter-le, first-le-greatest, each-le-greatest}
use Rattle.pre_bound.proofs.Hops.{OnArc-from, is_on-from, burst_at-suc}
use Rattle.pre_bound.proofs.Within.{ArcsWithin}

module _ (net : Network) (rows : List Row) (rank : ℕ → ℕ) (delays : Delays) where
  least : Values
  least = values_over net rows rank delays

  burst_of_row : (stream : ℕ) (r : Row) (hop : ℕ) → slice_get rows stream ≡ Some r → option_map_or (λ x. burst_at net delays x hop) (slice_get rows stream) 0 ≡ burst_at net delays r hop
  burst_of_row stream r hop at = ap (λ o. option_map_or (λ x. burst_at net delays x hop) o 0) at

  -- the certified bursts are the settled ones
  bursts_ge : (a low high : ℕ) → certified_bursts (values_over net rows rank delays) a low high rows ≤ bursts_on net delays a low high rows
  bursts_ge a low high =
      sums_ge (burst_on net delays a) (λ e. option_map_or (λ x. burst_at net delays x (hop_of a e.1)) (slice_get rows e.0) 0) (is_on a low high) 0 rows
      (λ i k r same at on.
      let number : k ≡ i = omega arith in
      let row : slice_get rows k ≡ Some r = subst (λ n. slice_get rows n ≡ Some r) (sym number) at in
      let eq = burst_of_row k r (hop_of a r) row in
      omega (arith, eq))

  frame_le : (a p : ℕ) → cost_at net a * 84 ≤ least_block net rows a p
  frame_le a p =
      let one = le-max_left 84 (preemptable_at net a (largest_used net rows a)) in
      let two = first-le-greatest (λ r. r.max + OVERHEAD) (max 84 (preemptable_at net a (largest_used net rows a))) (filter (is_on a 0 p) rows) in
      mul-le-mul_left (cost_at net a) (omega (arith, one, two))

  preemptable_le : (a p : ℕ) → cost_at net a * preemptable_at net a (largest_used net rows a) ≤ least_block net rows a p
  preemptable_le a p =
      let one = le-max_right 84 (preemptable_at net a (largest_used net rows a)) in
      let two = first-le-greatest (λ r. r.max + OVERHEAD) (max 84 (preemptable_at net a (largest_used net rows a))) (filter (is_on a 0 p) rows) in
      mul-le-mul_left (cost_at net a) (omega (arith, one, two))

  lower_le : (a p : ℕ) (r : Row) → Contains rows r → is_on a 0 p r ≡ true → cost_at net a * (r.max + OVERHEAD) ≤ least_block net rows a p
  lower_le a p r listed on =
      mul-le-mul_left (cost_at net a) (each-le-greatest (λ x. x.max + OVERHEAD) (is_on a 0 p) (max 84 (preemptable_at net a (largest_used net rows a))) rows listed.0 r listed.1 listed.2 on)

  -- the higher priorities take less than all of the arc's time
  rate_fits : (a p : ℕ) → Load net rows a → cost_at net a * rate_above rows a p < 1_000_000
  rate_fits a p load =
      let part = sum_by-filter-le rate_of (is_on a (p + 1) 8) (is_on a 0 8) rows (λ r e. let on = OnArc-from a (p + 1) 8 r e in is_on-from a 0 8 r (record { express = on.express; from = omega arith; below = on.below; takes = on.takes })) in
      let product = mul-le-mul_left (cost_at net a) part in
      omega (arith, product)

  growth_holds : (stream : ℕ) (r : Row) → IsStream rows stream r → (hop arc next : ℕ) → TakesAt r hop arc → TakesAt r (hop + 1) next → Growth net (values_over net rows rank delays) stream r hop arc
  growth_holds stream r is hop arc next here there =
      let one = burst_of_row stream r hop is.row in
      let two = burst_of_row stream r (hop + 1) is.row ∙ burst_at-suc net delays r hop arc here in
      let covers = least_growth-covers (burst_at net delays r hop) (rate_of r) (delays arc r.prio) (cost_at net arc) in
      subst (λ b. CoversGrowth b (rate_of r) (delays arc r.prio) (cost_at net arc) (option_map_or (λ x. burst_at net delays x (hop + 1)) (slice_get rows stream) 0)) (sym one)
      (subst (λ b. CoversGrowth (burst_at net delays r hop) (rate_of r) (delays arc r.prio) (cost_at net arc) b) (sym two) covers)

  pub rank_order : ArcsWithin net rows → AreRanks net rows rank → (arc next : ℕ) → Follows rows arc next → rank arc < rank next
  rank_order within ranks arc next f =
      let first = within f.stream f.listed f.hop arc f.here in
      let second = within f.stream f.listed (f.hop + 1) next f.behind in
      let longer = (ranks next second).longest (suc (rank arc)) (arc, f, (ranks arc first).chain) in
      omega (arith, longer)

  pub settled_are_good : ((arc : ℕ) → arc < length net.arcs → Load net rows arc) → Settled net rows delays → HaveRoom net rows delays → AreGood net rows (values_over net rows rank delays)
  settled_are_good load settled room = record {
    load = load;
    first_burst = λ stream r is. let eq = burst_of_row stream r 0 is.row in omega (arith, eq);
    block = λ a p inside prio port. record { frame = frame_le a p; lower = lower_le a p; preemptable = preemptable_le a p };
    work = λ a p inside prio port. record { bursts = mul-le-mul_left (cost_at net a) (bursts_ge a p 8); rate = refl };
    delay = λ a p inside prio port.
        subst (λ d. CoversDelay (least_block net rows a p) (least_work net rows delays a p) (rate_above rows a p) (cost_at net a) d) (sym (settled a p inside prio port))
        (least_delay-covers (least_block net rows a p) (least_work net rows delays a p) (rate_above rows a p) (cost_at net a) (rate_fits a p (load a inside)));
    growth = growth_holds;
    size = λ a p inside prio port.
        let same = settled a p inside prio port in
        let covers = least_size-covers (bursts_on net delays a p (p + 1) rows) (rates_on a p (p + 1) rows) (port_delay net rows delays a p) in
        let covers' = subst (λ d. CoversQueue (bursts_on net delays a p (p + 1) rows) (rates_on a p (p + 1) rows) d (port_size net rows delays a p)) (sym same) covers in
        let less = bursts_ge a p (p + 1) in
        omega (arith, covers', less);
    ring = room;
    bound = λ stream r is.
        let eq = ap (λ o. option_map_or (λ x. route_ticks net (λ a. delays a x.prio) x.arcs) o 0) is.row in
        omega (arith, eq);
    largest = λ a inside used flow. let eq : largest_used net rows a ≡ largest_at net a = ap (λ b. if b then largest_at net a else 0) flow in omega (arith, eq);
  }

-- The numbers of a settled round are good.
use Rattle.std.proofs.Common.{◌≡◌, ℕ, suc, ◌+◌, ◌*◌, ◌≤◌, max, true, false, List, Some, refl, sym, ◌∙◌, ap, subst, arith, if◌then◌else◌}
use Rattle.std.specs.Prelude.{slice_get, Contains, filter, All, IsNone}
use Rattle.std.specs.Option.{option_map_or}
use Rattle.std.proofs.Math.Nat.{mul-le-mul_left, le-max_left, le-max_right}
use Rattle.std.proofs.lemmas.Bool.{ltb-false}
use Rattle.std.proofs.lemmas.List.Elements.{All-map}
use Rattle.std.proofs.lemmas.Option.{slice_get-get_or}
use Rattle.pre_base.specs.declared.limits.TheConstants.{OVERHEAD}
use Rattle.pre_base.specs.declared.numbers.ArcId.{ArcId}
use Rattle.pre_topo.specs.declared.network.Network.{Network}
use Rattle.pre_streams.specs.declared.rows.Row.{Row}
use Rattle.pre_streams.specs.declared.rows.Streams.{Streams}
use Rattle.pre_bound.specs.declared.rows.ArcRow.{ArcRow}
use Rattle.pre_bound.specs.declared.certificate.Certificate.{Certificate}
use Rattle.pre_bound.specs.Solutions.{CoversGrowth, least_growth}
use Rattle.pre_bound.specs.Uses.{TakesAt, is_on, rate_of, burst_of, cost_at, ring_at, preemptable_at, largest_at, largest_used, rates_on}
use Rattle.pre_bound.specs.Along.{route_ticks, least_block, rate_above}
use Rattle.pre_bound.specs.Clauses.{Growth}
use Rattle.pre_bound.specs.Good.{AreGood, IsStream}
use Rattle.pre_bound.specs.Places.{arcs_of}
use Rattle.pre_bound.specs.Listed.{GoodCertificate, arc_row}
use Rattle.pre_bound.proofs.Solved.{least_delay-covers, least_growth-covers, least_size-covers}
use Rattle.pre_bound.proofs.Sums.{first-le-greatest, each-le-greatest}
use Rattle.pre_bound.proofs.Hops.{TakesAt-place}
use Rattle.pre_certify.proofs.Loading.{part_fits, loads_fit}
use Rattle.pre_rounds.specs.Rounds.{bursts_over, work_over, delay_over, declared, next_bursts, round_bursts, round_values}
use Rattle.pre_rounds.specs.Passing.{need_over}
use Rattle.pre_rounds.specs.Answers.{IsOfSettled, HasNoRanks}
use Rattle.pre_rounds.proofs.Settled.{round-next, first_hop, next-behind}

-- the declared burst of a stream
pub declared_is : (rows : List Row) (stream : ℕ) (r : Row) (hop : ℕ) → slice_get rows stream ≡ Some r → declared rows stream hop ≡ burst_of r
declared_is rows stream r hop at = ap (λ o. option_map_or burst_of o 0) at

module _ (net : Network) (rows : List Row) where
  block_holds : (a p : ℕ) (v : _) → v ≡ least_block net rows a p → cost_at net a * 84 ≤ v
  block_holds a p v is =
      let one = le-max_left 84 (preemptable_at net a (largest_used net rows a)) in
      let two = first-le-greatest (λ r. r.max + OVERHEAD) (max 84 (preemptable_at net a (largest_used net rows a))) (filter (is_on a 0 p) rows) in
      let three : cost_at net a * 84 ≤ least_block net rows a p = mul-le-mul_left (cost_at net a) (omega (arith, one, two)) in
      omega (arith, three, is)

  preemptable_holds : (a p : ℕ) → cost_at net a * preemptable_at net a (largest_used net rows a) ≤ least_block net rows a p
  preemptable_holds a p =
      let one = le-max_right 84 (preemptable_at net a (largest_used net rows a)) in
      let two = first-le-greatest (λ r. r.max + OVERHEAD) (max 84 (preemptable_at net a (largest_used net rows a))) (filter (is_on a 0 p) rows) in
      mul-le-mul_left (cost_at net a) (omega (arith, one, two))

  lower_holds : (a p : ℕ) (r : Row) → Contains rows r → is_on a 0 p r ≡ true → cost_at net a * (r.max + OVERHEAD) ≤ least_block net rows a p
  lower_holds a p r listed on =
      mul-le-mul_left (cost_at net a) (each-le-greatest (λ x. x.max + OVERHEAD) (is_on a 0 p) (max 84 (preemptable_at net a (largest_used net rows a))) rows listed.0 r listed.1 listed.2 on)

module _ (net : Network) (rows : List Row) (c : Certificate) (of : IsOfSettled net rows c) where
  -- the burst behind a hop
  behind : (stream : ℕ) (r : Row) → IsStream rows stream r → (hop arc next : ℕ) → TakesAt r hop arc → TakesAt r (hop + 1) next
      → round_bursts net rows of.round stream (hop + 1) ≡ least_growth (round_bursts net rows of.round stream hop) (rate_of r) (delay_over net rows (round_bursts net rows of.round) arc r.prio) (cost_at net arc)
  behind stream r is hop arc next here there =
      let b = round_bursts net rows of.round in
      let d : ArcId = record { 0 = arc } in
      let place = TakesAt-place r hop arc here in
      let further = TakesAt-place r (hop + 1) next there in
      let eq : hop + 1 ≡ suc hop = omega arith in
      let settled = of.settles.settled stream r is (hop + 1) further.0 in
      let grown = next-behind net rows b stream r hop _ is.row (slice_get-get_or r.arcs hop d place.0) in
      sym settled ∙ ap (λ (f : ℕ → ℕ → ℕ). f stream (hop + 1)) (round-next net rows of.round) ∙ ap (next_bursts net rows b stream) eq ∙ grown
      ∙ ap (λ n. least_growth (b stream hop) (rate_of r) (delay_over net rows b n r.prio) (cost_at net n)) (place.1 d)

  growth_holds : (stream : ℕ) (r : Row) → IsStream rows stream r → (hop arc next : ℕ) → TakesAt r hop arc → TakesAt r (hop + 1) next → Growth net (round_values net rows of.round) stream r hop arc
  growth_holds stream r is hop arc next here there =
      let b = round_bursts net rows of.round in
      let covers = least_growth-covers (b stream hop) (rate_of r) (delay_over net rows b arc r.prio) (cost_at net arc) in
      subst (λ n. CoversGrowth (b stream hop) (rate_of r) (delay_over net rows b arc r.prio) (cost_at net arc) n) (sym (behind stream r is hop arc next here there)) covers

  pub are_good : AreGood net rows (round_values net rows of.round)
  are_good =
      let b = round_bursts net rows of.round in
      record {
        load = loads_fit net rows of.load;
        first_burst = λ stream r is. let eq = first_hop net rows of.round stream ∙ declared_is rows stream r 0 is.row in omega (arith, eq);
        block = λ a p inside prio port. record { frame = block_holds net rows a p (least_block net rows a p) refl; lower = lower_holds net rows a p; preemptable = preemptable_holds net rows a p };
        work = λ a p inside prio port. record { bursts = omega arith; rate = refl };
        delay = λ a p inside prio port.
            least_delay-covers (least_block net rows a p) (work_over net rows b a p) (rate_above rows a p) (cost_at net a) (part_fits net rows a (p + 1) 8 (omega arith) (of.load a inside));
        growth = growth_holds;
        size = λ a p inside prio port. least_size-covers (bursts_over b a p (p + 1) rows) (rates_on a p (p + 1) rows) (delay_over net rows b a p);
        ring = λ a p inside prio port. ltb-false (ring_at net a p) (need_over net rows b a p) (of.rings a p inside prio port);
        bound = λ stream r is.
            let eq = ap (λ o. option_map_or (λ x. route_ticks net (λ a. delay_over net rows b a x.prio) x.arcs) o 0) is.row in
            omega (arith, eq);
        largest = λ a inside used flow. let eq : largest_used net rows a ≡ largest_at net a = ap (λ t. if t then largest_at net a else 0) flow in omega (arith, eq);
      }

  pub no_ranks : HasNoRanks c
  no_ranks =
      subst (λ (l : List ArcRow). All (λ row. IsNone row.rank) l) (sym of.says.arcs)
      (All-map (λ (row : ArcRow). IsNone row.rank) (arc_row (round_values net rows of.round)) (arcs_of net rows) (λ k d inside. refl))

pub good_certificate : (net : Network) (streams : Streams) (c : Certificate) → IsOfSettled net streams.rows c → GoodCertificate net streams c
good_certificate net streams c of = record {
  values = round_values net streams.rows of.round;
  says = of.says;
  order = λ ranked. absurd (let no : false ≡ true = ranked in cc);
  good = are_good net streams.rows c of;
}

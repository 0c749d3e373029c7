-- Where there is a good certificate, no round passes the limit, and the settled one fits.
use Rattle.std.proofs.Common.{◌≡◌, ℕ, suc, ◌+◌, ◌*◌, ◌<◌, ◌≤◌, true, false, List, Result, Ok, Err, refl, sym, ◌∙◌, ap, arith, inl, inr, length, get_or}
use Rattle.std.specs.Prelude.{nat_lt, ◌||◌, IfErr}
use Rattle.std.specs.List.{list_any, enumerate_from}
use Rattle.std.proofs.lemmas.Bool.{or_cases, and_parts, ltb-true, leb-true, true≢false}
use Rattle.std.proofs.lemmas.List.{take_all}
use Rattle.std.proofs.lemmas.Option.{slice_get-get_or}
use Rattle.pre_base.specs.declared.numbers.ArcId.{ArcId}
use Rattle.pre_topo.specs.declared.network.Network.{Network}
use Rattle.pre_streams.specs.declared.rows.Row.{Row}
use Rattle.pre_streams.specs.declared.rows.Streams.{Streams}
use Rattle.pre_bound.specs.declared.certificate.Certificate.{Certificate}
use Rattle.pre_bound.specs.Limits.{limit}
use Rattle.pre_bound.specs.Solutions.{least_growth}
use Rattle.pre_bound.specs.Uses.{hop_of, has_port, rate_of, rates_on, cost_at, ring_at}
use Rattle.pre_bound.specs.Along.{least_block, route_ticks}
use Rattle.pre_bound.specs.Values.{Values}
use Rattle.pre_bound.specs.Good.{AreGood, IsStream}
use Rattle.pre_bound.specs.Complete.{ValuesWithin}
use Rattle.pre_bound.specs.Listed.{GoodCertificate}
use Rattle.pre_bound.proofs.Hops.{TakesAt-place, TakesAt-hop_of, OnArc-from}
use Rattle.pre_bound.proofs.AtLeast.{good_block-le}
use Rattle.pre_bound.proofs.Completed.{values_within}
use Rattle.pre_certify.specs.Loads.{FirstOverload}
use Rattle.pre_rounds.specs.Rounds.{work_over, delay_over, size_over, round_bursts}
use Rattle.pre_rounds.specs.Passing.{numbers_pass, goes_on, leaving_passes, need_over}
use Rattle.pre_rounds.specs.Causes.{FirstLarge, FirstWideRound, FirstShort, round_delays, Cause}
use Rattle.pre_rounds.specs.Answers.{HasGoodCertificate, leaves_open}
use Rattle.pre_rounds.specs.Routed.{AreRouted}
use Rattle.pre_rounds.specs.declared.faults.RoundsFault.{RoundsFault}
use Rattle.pre_rounds.specs.declared.faults.RoundsFault.TheVariants.{Overload, Large, Unsettled, Wide, Ring, Memory}
use Rattle.pre_rounds.proofs.Numbered.{some_numbered}
use Rattle.pre_rounds.proofs.Same.{goes_behind}
use Rattle.pre_rounds.proofs.Settled.{next-behind}
use Rattle.pre_rounds.proofs.Least.{round_below, work_le, delay_le, size_le, next_below, route_le}
use Rattle.pre_rounds.proofs.Alone.{wide_ticks}

too_much : (n m : ℕ) → nat_lt limit n ≡ true → n ≤ m → m ≤ limit → ⊥
too_much n m passes le small = let more = ltb-true limit n passes in omega (arith, more, le, small)

module _ (net : Network) (rows : List Row) (routed : AreRouted net rows) (v : Values) (good : AreGood net rows v) (within : ValuesWithin net rows v) where
  module _ (round a p : ℕ) (inside : a < length net.arcs) (prio : p < 8) (port : has_port rows a p ≡ true) where
    numbers_good : numbers_pass net rows (round_bursts net rows round) a p ≡ true → ⊥
    numbers_good passes =
        let b = round_bursts net rows round in
        let below = round_below net rows routed v good round in
        let block = least_block net rows a p in
        let work = work_over net rows b a p in
        let delay = delay_over net rows b a p in
        let size = size_over net rows b a p in
        elim (or_cases (nat_lt limit block) (nat_lt limit work || (nat_lt limit delay || (nat_lt limit size || false))) passes) [
          | inl much ↦ too_much block (v.block a p) much (good_block-le net rows v good a p inside prio port) (within.block a p inside prio port)
          | inr second ↦
              elim (or_cases (nat_lt limit work) (nat_lt limit delay || (nat_lt limit size || false)) second) [
                | inl much ↦ too_much work (v.work a p) much (work_le net rows routed v good b below a p inside prio port) (within.work a p inside prio port)
                | inr third ↦
                    elim (or_cases (nat_lt limit delay) (nat_lt limit size || false) third) [
                      | inl much ↦ too_much delay (v.delay a p) much (delay_le net rows routed v good b below a p inside prio port) (within.delay a p inside prio port)
                      | inr fourth ↦
                          elim (or_cases (nat_lt limit size) false fourth) [
                            | inl much ↦ too_much size (v.size a p) much (size_le net rows routed v good b below a p inside prio port) (within.size a p inside prio port)
                            | inr none ↦ absurd (true≢false (sym none))
                          ]
                    ]
              ]
        ]

    leaving_good : list_any (leaving_passes net (round_bursts net rows round) a p (delay_over net rows (round_bursts net rows round) a p)) (enumerate_from 0 rows) ≡ true → ⊥
    leaving_good passes =
        let b = round_bursts net rows round in
        let delay = delay_over net rows b a p in
        let found = some_numbered (leaving_passes net b a p delay) rows passes in
        let r : Row = found.row in
        let hop = hop_of a r in
        let grown = least_growth (b found.stream hop) (rate_of r) delay (cost_at net a) in
        let parts = and_parts (goes_on a p r) (nat_lt limit grown) found.passes in
        let behind = goes_behind a p r parts.0 in
        let on = OnArc-from a p (p + 1) r behind.on in
        let same : p ≡ r.prio = omega (arith, on.from, on.below) in
        let is : IsStream rows found.stream r = record { row = found.at; express = behind.express } in
        let d : ArcId = record { 0 = a } in
        let place = TakesAt-place r hop a (TakesAt-hop_of r a on.takes) in
        let next = next_below net rows routed v good b (round_below net rows routed v good round) found.stream r is (suc hop) (omega (arith, behind.next)) in
        let eq = next-behind net rows b found.stream r hop (get_or r.arcs hop d) found.at (slice_get-get_or r.arcs hop d place.0)
        ∙ ap (λ n. least_growth (b found.stream hop) (rate_of r) (delay_over net rows b n r.prio) (cost_at net n)) (place.1 d)
        ∙ ap (λ n. least_growth (b found.stream hop) (rate_of r) (delay_over net rows b a n) (cost_at net a)) (sym same)
        in
        too_much grown (v.burst found.stream (suc hop)) parts.1 (omega (arith, eq, next)) (within.burst found.stream r is (suc hop) (omega (arith, behind.next)))

  large_good : (a p : ℕ) → FirstLarge net rows a p → ⊥
  large_good a p first =
      let b = round_bursts net rows first.round in
      elim (or_cases (numbers_pass net rows b a p) (list_any (leaving_passes net b a p (delay_over net rows b a p)) (enumerate_from 0 rows)) first.here.here) [
        | inl numbers ↦ numbers_good first.round a p first.here.within.0 first.here.within.1 first.here.port numbers
        | inr leaving ↦ leaving_good first.round a p first.here.within.0 first.here.within.1 first.here.port leaving
      ]

  wide_good : (stream hop : ℕ) → FirstWideRound net rows stream hop → ⊥
  wide_good stream hop first =
      let b = round_bursts net rows first.round in
      let r : Row = first.here.row in
      let much = wide_ticks net rows (round_delays net rows first.round) stream hop first.here in
      let whole = ap (λ l. route_ticks net (λ a. round_delays net rows first.round a r.prio) l) (take_all (length r.arcs) r.arcs (omega arith)) in
      let route = route_le net rows routed v good b (round_below net rows routed v good first.round) stream r first.here.is in
      let clause = good.bound stream r first.here.is in
      let small = within.bound stream r first.here.is in
      omega (arith, much, whole, route, clause, small)

  short_good : (a p need : ℕ) → FirstShort net rows a p need → ⊥
  short_good a p need first =
      let b = round_bursts net rows first.round in
      let here = first.here in
      let short = ltb-true (ring_at net a p) (need_over net rows b a p) here.here in
      let size = size_le net rows routed v good b (round_below net rows routed v good first.round) a p here.within.0 here.within.1 here.port in
      let ring = good.ring a p here.within.0 here.within.1 here.port in
      omega (arith, short, size, ring)

  overload_good : (arc : ℕ) → FirstOverload net rows arc → ⊥
  overload_good arc first =
      let much = leb-true 1_000_000 (cost_at net arc * rates_on arc 0 8 rows) first.overloaded in
      let load = good.load arc first.within in
      omega (arith, much, load)

  undecided : (e : RoundsFault) → Cause net rows e → leaves_open e ≡ true
  undecided (Overload arc) c = absurd (overload_good arc.0 c)
  undecided (Large arc prio) c = absurd (large_good arc.0 prio c.1)
  undecided (Unsettled arc prio) c = refl
  undecided (Wide stream hop) c = absurd (wide_good stream.0 hop c.1)
  undecided (Ring arc prio need) c = absurd (short_good arc.0 prio need c.1)
  undecided Memory c = refl

pub complete_answer : (net : Network) (streams : Streams) → AreRouted net streams.rows → (r : Result Certificate RoundsFault) → IfErr r (Cause net streams.rows) → HasGoodCertificate net streams → IfErr r (λ e. leaves_open e ≡ true)
complete_answer net streams routed (Ok c) h has = h
complete_answer net streams routed (Err e) h has =
    let good : GoodCertificate net streams has.0 = has.1 in
    undecided net streams.rows routed good.values good.good (values_within net streams.rows has.0 good.values good.says) e h

-- The verdict on a certificate: accepted exactly where it is good, else the first clause that fails with its first line.
use Rattle.std.proofs.Common.{◌≡◌, ℕ, ◌+◌, ◌-◌, ◌/◌, ◌%◌, ◌<◌, ◌≤◌, List, [], ◌∷◌, Option, Some, None}
use Rattle.std.proofs.Common.{refl, sym, ◌∙◌, ap, subst, arith, inl, inr, length, get_or}
use Rattle.std.proofs.lemmas.Bool.{cases_lt}
use Rattle.pre_base.specs.declared.numbers.StreamId.{StreamId}
use Rattle.pre_topo.specs.declared.network.Network.{Network}
use Rattle.pre_streams.specs.declared.rows.Row.{Row}
use Rattle.pre_streams.specs.declared.rows.Streams.{Streams}
use Rattle.pre_streams.specs.Fits.{Fits}
use Rattle.pre_bound.specs.declared.rows.ArcRow.{ArcRow}
use Rattle.pre_bound.specs.declared.rows.PortRow.{PortRow}
use Rattle.pre_bound.specs.declared.rows.HopRow.{HopRow}
use Rattle.pre_bound.specs.declared.certificate.Certificate.{Certificate}
use Rattle.pre_bound.specs.Values.{Values}
use Rattle.pre_bound.specs.Clauses.{Load, Block, Work, Delay, Size, Ring, Bound, Largest}
use Rattle.pre_bound.specs.Settled.{PriosBelow}
use Rattle.pre_bound.specs.Places.{arcs_of, ports_of, streams_of, hops_of}
use Rattle.pre_bound.specs.Listed.{Says, GoodCertificate, arc_row, port_row, hop_row, bound_row}
use Rattle.pre_check.specs.declared.verdicts.Verdict.{Verdict}
use Rattle.pre_check.specs.declared.verdicts.Verdict.TheVariants.{Accepted, Rejected}
use Rattle.pre_check.specs.Lines.{Clause, number_of, HoldsAt, IsFirstBreach, HasRows, Breaks, RankOrderAt, FirstBurstAt, GrowthAt, arcs_from, ports_from, hops_from, bounds_from}
use Rattle.pre_check.specs.Lines as clause
use Rattle.pre_check.specs.Tests.{rank_rises, load_fits, burst_begins, block_covers, work_covers, delay_covers, growth_covers, size_covers, ring_fits, bound_covers, largest_covers}
use Rattle.pre_check.specs.Breaches.{breaches, first_from, port_lines, hop_lines, bound_lines}
use Rattle.pre_check.proofs.Finding.{FirstAt, first_at}
use Rattle.pre_check.proofs.Sizes.{few_arcs, few_ports, few_hops, few_streams, ports_begin, hops_begin, bounds_begin}
use Rattle.pre_check.proofs.Agreeing.{port_due, hop_due, stream_due}
use Rattle.pre_check.proofs.Testing.{load_sound, load_complete, largest_sound, largest_complete, block_sound, block_complete, work_sound, work_complete}
use Rattle.pre_check.proofs.Testing.{delay_sound, delay_complete, size_sound, size_complete, ring_sound, ring_complete, first_sound, first_complete}
use Rattle.pre_check.proofs.Testing.{bound_sound, bound_complete}
use Rattle.pre_check.proofs.Stepping.{rank_sound, rank_complete, growth_sound, growth_complete}
use Rattle.pre_check.proofs.Holding.{HoldAll, good_from, order_from, all_from_good}

-- a clause is told by its number

abbrev in_order : List Clause
in_order = clause.rank_order ∷ clause.load ∷ clause.first_burst ∷ clause.block ∷ clause.work ∷ clause.delay ∷ clause.growth ∷ clause.size ∷ clause.ring ∷ clause.bound ∷ clause.largest ∷ []

by_number : (k : Clause) → get_or in_order (number_of k - 1) clause.rank_order ≡ k
by_number clause.rank_order = refl
by_number clause.load = refl
by_number clause.first_burst = refl
by_number clause.block = refl
by_number clause.work = refl
by_number clause.delay = refl
by_number clause.growth = refl
by_number clause.size = refl
by_number clause.ring = refl
by_number clause.bound = refl
by_number clause.largest = refl

same_clause : (j k : Clause) → number_of j ≡ number_of k → j ≡ k
same_clause j k e = sym (by_number j) ∙ ap (λ n. get_or in_order (n - 1) clause.rank_order) e ∙ by_number k

numbered : (k : Clause) → (1 ≤ number_of k) × (number_of k < 12)
numbered clause.rank_order = (omega arith, omega arith)
numbered clause.load = (omega arith, omega arith)
numbered clause.first_burst = (omega arith, omega arith)
numbered clause.block = (omega arith, omega arith)
numbered clause.work = (omega arith, omega arith)
numbered clause.delay = (omega arith, omega arith)
numbered clause.growth = (omega arith, omega arith)
numbered clause.size = (omega arith, omega arith)
numbered clause.ring = (omega arith, omega arith)
numbered clause.bound = (omega arith, omega arith)
numbered clause.largest = (omega arith, omega arith)

module _ (net : Network) (rows : List Row) (v : Values) where
  record IsEntry (n : ℕ) (o : Option ℕ) : Type 0 where
    which : Clause
    number_is : number_of which ≡ n
    first : FirstAt (HoldsAt net rows v which) o

  -- clause by clause, the first lines at which they fail
  abbrev AreFirst : ℕ → List (Option ℕ) → Type 0
  AreFirst n [] = n ≡ 12
  AreFirst n (o ∷ os) = IsEntry n o × AreFirst (n + 1) os

  abbrev HoldBelow : ℕ → Type 0
  HoldBelow n = (k : Clause) → number_of k < n → (line : ℕ) → HoldsAt net rows v k line

  one_more : (n : ℕ) → IsEntry n None → HoldBelow n → HoldBelow (n + 1)
  one_more n entry before k less line =
      elim (cases_lt (number_of k) n) [
        | inl lower ↦ before k lower line
        | inr higher ↦
            let same = same_clause entry.which k (omega (arith, entry.number_is, less, higher)) in
            subst (λ z. HoldsAt net rows v z line) same (entry.first line)
      ]

  all_hold : (n : ℕ) (os : List (Option ℕ)) → AreFirst n os → HoldBelow n → first_from n os ≡ Accepted → HoldAll net rows v
  all_hold n [] end before e k line = let few = (numbered k).1 in before k (omega (arith, end, few)) line
  all_hold n (None ∷ os) are before e k line = all_hold (n + 1) os are.1 (one_more n are.0 before) e k line
  all_hold n (Some row ∷ os) are before e k line = absurd (cc)

  same_rejected : (m n i j : ℕ) → Rejected m i ≡ Rejected n j → (m ≡ n) × (i ≡ j)
  same_rejected m n i j e = (cc, cc)

  one_breaks : (n : ℕ) (os : List (Option ℕ)) → AreFirst n os → HoldBelow n → (number row : ℕ) → first_from n os ≡ Rejected number row → IsFirstBreach net rows v number row
  one_breaks n [] end before number row e = absurd (cc)
  one_breaks n (None ∷ os) are before number row e = one_breaks (n + 1) os are.1 (one_more n are.0 before) number row e
  one_breaks n (Some line ∷ os) are before number row e =
      let same = same_rejected n number line row e in
      let entry = are.0 in
      let first = subst (λ r. FirstAt (HoldsAt net rows v entry.which) (Some r)) same.1 entry.first in
      record {
        broken = entry.which;
        number_is = entry.number_is ∙ same.0;
        breaks = first.0;
        lines_before = first.1;
        clauses_before = λ other less any. before other (omega (arith, less, same.0)) any;
      }

  none_below : HoldBelow 1
  none_below k less line = absurd (let some = (numbered k).0 in omega (arith, some, less))

module _ (net : Network) (streams : Streams) (c : Certificate) (v : Values) (fits : Fits net streams) (prios : PriosBelow streams.rows) (says : Says net streams.rows c v) where
  abbrev no_arc : ArcRow
  no_arc = record { arc = record { 0 = 0 }; rank = None; largest = 0 }

  abbrev no_port : PortRow
  no_port = record { arc = record { 0 = 0 }; prio = 0; block = 0; work = 0; rate = 0; delay = 0; size = 0 }

  abbrev no_hop : HopRow
  no_hop = record { stream = record { 0 = 0 }; hop = 0; burst = 0 }

  abbrev no_bound : StreamId × ℕ
  no_bound = (record { 0 = 0 }, 0)

  arc_small : arcs_from + length (arcs_of net streams.rows) < 18_446_744_073_709_551_616
  arc_small = let arcs = few_arcs net streams.rows in omega (arith, arcs)

  port_small : ports_from net streams.rows + length (ports_of net streams.rows) < 18_446_744_073_709_551_616
  port_small = let arcs = few_arcs net streams.rows in let ports = few_ports net streams.rows in omega (arith, arcs, ports)

  hop_small : hops_from net streams.rows + length (hops_of streams.rows) < 18_446_744_073_709_551_616
  hop_small =
      let arcs = few_arcs net streams.rows in let ports = few_ports net streams.rows in let hops = few_hops net streams fits in omega (arith, arcs, ports, hops)

  bound_small : bounds_from net streams.rows + length (streams_of streams.rows) < 18_446_744_073_709_551_616
  bound_small =
      let arcs = few_arcs net streams.rows in let ports = few_ports net streams.rows in let hops = few_hops net streams fits in let bounds = few_streams streams in omega (arith, arcs, ports, hops, bounds)

  are_first : AreFirst net streams.rows v 1 (breaches net streams.rows c.arcs c.ports c.hops c.bounds)
  are_first =
      let rows = streams.rows in
      let ports = ports_begin net streams c v fits says in
      let hops = hops_begin net streams c v fits says in
      let bounds = bounds_begin net streams c v fits says in (
        record {
          which = clause.rank_order;
          number_is = refl;
          first = first_at (hop_row v) (rank_rises rows c.arcs) (RankOrderAt rows v) (hops_of rows) no_hop
              (λ i e at. rank_sound net streams c v fits prios says e (hop_due rows i e at))
              (λ i e at. rank_complete net streams c v fits prios says e (hop_due rows i e at))
              c.hops says.hops (hops_from net rows) (hop_lines c.arcs c.ports) hops hop_small;
        },
        (
          record {
            which = clause.load;
            number_is = refl;
            first = first_at (arc_row v) (load_fits net rows) (Load net rows) (arcs_of net rows) no_arc
                (λ i a at. load_sound net rows v a)
                (λ i a at. load_complete net rows v a)
                c.arcs says.arcs arcs_from 2 refl arc_small;
          },
          (
            record {
              which = clause.first_burst;
              number_is = refl;
              first = first_at (hop_row v) (burst_begins rows) (FirstBurstAt rows v) (hops_of rows) no_hop
                  (λ i e at. first_sound net streams c v fits prios says e)
                  (λ i e at. first_complete net streams c v fits prios says e)
                  c.hops says.hops (hops_from net rows) (hop_lines c.arcs c.ports) hops hop_small;
            },
            (
              record {
                which = clause.block;
                number_is = refl;
                first = first_at (port_row v) (block_covers net rows c.arcs) (λ k. Block net rows v (k / 8) (k % 8)) (ports_of net rows) no_port
                    (λ i k at. block_sound net streams c v fits prios says k (port_due net rows i k at))
                    (λ i k at. block_complete net streams c v fits prios says k (port_due net rows i k at))
                    c.ports says.ports (ports_from net rows) (port_lines c.arcs) ports port_small;
              },
              (
                record {
                  which = clause.work;
                  number_is = refl;
                  first = first_at (port_row v) (work_covers net rows c.hops) (λ k. Work net rows v (k / 8) (k % 8)) (ports_of net rows) no_port
                      (λ i k at. work_sound net streams c v fits prios says k)
                      (λ i k at. work_complete net streams c v fits prios says k)
                      c.ports says.ports (ports_from net rows) (port_lines c.arcs) ports port_small;
                },
                (
                  record {
                    which = clause.delay;
                    number_is = refl;
                    first = first_at (port_row v) (delay_covers net) (λ k. Delay net v (k / 8) (k % 8)) (ports_of net rows) no_port
                        (λ i k at. delay_sound net streams c v fits prios says k)
                        (λ i k at. delay_complete net streams c v fits prios says k)
                        c.ports says.ports (ports_from net rows) (port_lines c.arcs) ports port_small;
                  },
                  (
                    record {
                      which = clause.growth;
                      number_is = refl;
                      first = first_at (hop_row v) (growth_covers net rows c.ports c.hops) (GrowthAt net rows v) (hops_of rows) no_hop
                          (λ i e at. growth_sound net streams c v fits prios says e (hop_due rows i e at))
                          (λ i e at. growth_complete net streams c v fits prios says e (hop_due rows i e at))
                          c.hops says.hops (hops_from net rows) (hop_lines c.arcs c.ports) hops hop_small;
                    },
                    (
                      record {
                        which = clause.size;
                        number_is = refl;
                        first = first_at (port_row v) (size_covers rows c.hops) (λ k. Size rows v (k / 8) (k % 8)) (ports_of net rows) no_port
                            (λ i k at. size_sound net streams c v fits prios says k)
                            (λ i k at. size_complete net streams c v fits prios says k)
                            c.ports says.ports (ports_from net rows) (port_lines c.arcs) ports port_small;
                      },
                      (
                        record {
                          which = clause.ring;
                          number_is = refl;
                          first = first_at (port_row v) (ring_fits net) (λ k. Ring net v (k / 8) (k % 8)) (ports_of net rows) no_port
                              (λ i k at. ring_sound net streams c v fits prios says k)
                              (λ i k at. ring_complete net streams c v fits prios says k)
                              c.ports says.ports (ports_from net rows) (port_lines c.arcs) ports port_small;
                        },
                        (
                          record {
                            which = clause.bound;
                            number_is = refl;
                            first = first_at (bound_row v) (bound_covers net rows c.ports) (λ e. Bound net v e.0 e.1) (streams_of rows) no_bound
                                (λ i e at. bound_sound net streams c v fits prios says e (stream_due rows i e at))
                                (λ i e at. bound_complete net streams c v fits prios says e (stream_due rows i e at))
                                c.bounds says.bounds (bounds_from net rows) (bound_lines c.arcs c.ports c.hops) bounds bound_small;
                          },
                          (
                            record {
                              which = clause.largest;
                              number_is = refl;
                              first = first_at (arc_row v) (largest_covers net rows) (Largest net rows v) (arcs_of net rows) no_arc
                                  (λ i a at. largest_sound net rows v a)
                                  (λ i a at. largest_complete net rows v a)
                                  c.arcs says.arcs arcs_from 2 refl arc_small;
                            },
                            refl,
                          ),
                        ),
                      ),
                    ),
                  ),
                ),
              ),
            ),
          ),
        ),
      )

pub judged : (net : Network) (streams : Streams) (c : Certificate) (v : Values) → Fits net streams → PriosBelow streams.rows → Says net streams.rows c v → (r : Verdict) → r ≡ first_from 1 (breaches net streams.rows c.arcs c.ports c.hops c.bounds)
    → (r ≡ Accepted → HoldAll net streams.rows v) × ((number row : ℕ) → r ≡ Rejected number row → IsFirstBreach net streams.rows v number row)
judged net streams c v fits prios says r is =
    let rows = streams.rows in
    let first = are_first net streams c v fits prios says in
    let os = breaches net rows c.arcs c.ports c.hops c.bounds in (
      λ e. all_hold net rows v 1 os first (none_below net rows v) (sym is ∙ e),
      λ number row e. one_breaks net rows v 1 os first (none_below net rows v) number row (sym is ∙ e),
    )

pub accepted : (net : Network) (streams : Streams) (c : Certificate) → Fits net streams → PriosBelow streams.rows → HasRows net streams.rows c → (r : Verdict) → r ≡ first_from 1 (breaches net streams.rows c.arcs c.ports c.hops c.bounds)
    → (r ≡ Accepted → GoodCertificate net streams c) × (GoodCertificate net streams c → r ≡ Accepted)
accepted net streams c fits prios has r is = (
  λ e.
      let hold = (judged net streams c has.0 fits prios has.1 r is).0 e in
      record { values = has.0; says = has.1; order = order_from net streams has.0 fits prios hold; good = good_from net streams has.0 fits prios hold },
  λ good. accepts good r is,
)
  where
    accepts : GoodCertificate net streams c → (q : Verdict) → q ≡ first_from 1 (breaches net streams.rows c.arcs c.ports c.hops c.bounds) → q ≡ Accepted
    accepts good Accepted e = refl
    accepts good (Rejected number row) e =
        let breach = (judged net streams c good.values fits prios good.says (Rejected number row) e).1 number row refl in
        absurd (breach.breaks (all_from_good net streams good.values good.good good.order breach.broken row))

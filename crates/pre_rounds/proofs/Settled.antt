-- The bursts of the next round, and whether they are those of this one.
use Rattle.std.proofs.Common.{◌≡◌, ℕ, zero, suc, ◌+◌, ◌<◌, ◌≤◌, true, false, List, Some, refl, sym, ◌∙◌, ap, subst, arith, length, get_or}
use Rattle.std.specs.Prelude.{slice_get, ◌==◌, nat_lt, ◌&&◌, not}
use Rattle.std.specs.Option.{option_map_or}
use Rattle.std.proofs.lemmas.Bool.{and_parts, and_from, not-true, not-false, eqb-true, eqb-false, lt-ltb}
use Rattle.std.proofs.lemmas.Option.{slice_get-get_or}
use Rattle.pre_base.specs.declared.numbers.ArcId.{ArcId}
use Rattle.pre_topo.specs.declared.network.Network.{Network}
use Rattle.pre_streams.specs.declared.rows.Row.{Row}
use Rattle.pre_bound.specs.Limits.{limit}
use Rattle.pre_bound.specs.Solutions.{least_growth}
use Rattle.pre_bound.specs.Uses.{TakesAt, hop_of, is_on, has_port, rate_of, cost_at}
use Rattle.pre_bound.specs.Good.{IsStream, AtPorts}
use Rattle.pre_bound.proofs.Hops.{TakesAt-from, takes-from, is_on-from, has_port-from, contains_at}
use Rattle.pre_rounds.specs.Rounds.{Bursts, delay_over, declared, next_bursts, grown_behind, round_bursts}
use Rattle.pre_rounds.specs.Passing.{numbers_pass, goes_on, leaving_passes, passes_over, differs_behind, some_differs}
use Rattle.pre_rounds.specs.Settling.{SameBursts}
use Rattle.pre_rounds.specs.Routed.{AreRouted}
use Rattle.pre_rounds.proofs.Numbered.{none_numbered, some_numbered}
use Rattle.pre_rounds.proofs.Same.{goes_behind}
use Rattle.std.proofs.lemmas.Bool.{or_parts, ltb-false}
use Rattle.std.specs.List.{list_any, enumerate_from}

pub round-next : (net : Network) (rows : List Row) (round : ℕ) → round_bursts net rows (round + 1) ≡ next_bursts net rows (round_bursts net rows round)
unfolding round_bursts
round-next net rows round = let eq : round + 1 ≡ suc round = omega arith in ap (round_bursts net rows) eq

pub round-first : (net : Network) (rows : List Row) → round_bursts net rows 0 ≡ declared rows
unfolding round_bursts
round-first net rows = refl

-- at its first hop a stream has its declared burst in each round
pub first_hop : (net : Network) (rows : List Row) (round stream : ℕ) → round_bursts net rows round stream 0 ≡ declared rows stream 0
unfolding round_bursts
first_hop net rows zero stream = refl
first_hop net rows (suc round) stream = refl

-- the burst behind a hop
pub next-behind : (net : Network) (rows : List Row) (b : Bursts) (stream : ℕ) (r : Row) (hop : ℕ) (a : ArcId) → slice_get rows stream ≡ Some r → slice_get r.arcs hop ≡ Some a
    → next_bursts net rows b stream (suc hop) ≡ least_growth (b stream hop) (rate_of r) (delay_over net rows b a.0 r.prio) (cost_at net a.0)
next-behind net rows b stream r hop a row at =
    ap (λ o. option_map_or (grown_behind net rows b stream hop) o 0) row
    ∙ ap (λ o. option_map_or (λ x. least_growth (b stream hop) (rate_of r) (delay_over net rows b x.0 r.prio) (cost_at net x.0)) o 0) at

module _ (net : Network) (rows : List Row) (routed : AreRouted net rows) where
  -- where a stream comes to an arc and goes on
  pub record Passage (stream : ℕ) (r : Row) (hop : ℕ) : Type 0 where
    pub arc : ArcId
    pub at : slice_get r.arcs hop ≡ Some arc
    pub inside : arc.0 < length net.arcs
    pub prio : r.prio < 8
    pub port : has_port rows arc.0 r.prio ≡ true
    pub hop_is : hop_of arc.0 r ≡ hop
    pub goes : goes_on arc.0 r.prio r ≡ true

  pub passage : (stream : ℕ) (r : Row) → IsStream rows stream r → (hop : ℕ) → hop + 1 < length r.arcs → Passage stream r hop
  passage stream r is hop further =
      let d : ArcId = record { 0 = 0 } in
      let listed = contains_at rows stream r is.row in
      let inside : hop < length r.arcs = omega arith in
      let a : ArcId = get_or r.arcs hop d in
      let here : TakesAt r hop a.0 = TakesAt-from r hop d inside in
      let same = routed.once r listed hop a.0 here in
      let on : is_on a.0 r.prio (r.prio + 1) r ≡ true = is_on-from a.0 r.prio (r.prio + 1) r (record { express = is.express; from = omega arith; below = omega arith; takes = takes-from r hop a.0 here }) in
      record {
        arc = a;
        at = slice_get-get_or r.arcs hop d inside;
        inside = routed.within r listed hop a.0 here;
        prio = routed.prio r listed;
        port = has_port-from rows r a.0 hop listed is.express here;
        hop_is = same;
        goes = and_from (is_on a.0 r.prio (r.prio + 1) r) (nat_lt (hop_of a.0 r + 1) (length r.arcs)) on (lt-ltb (hop_of a.0 r + 1) (length r.arcs) (omega (arith, same, further)));
      }

  after_true : (p q : _) → p ≡ true → (p && q) ≡ false → q ≡ false
  after_true true q e h = h
  after_true false q e h = absurd (cc)

  -- where no number passes the limit, no burst behind a hop does
  pub next_small : (b : Bursts) → AtPorts net rows (λ a p. passes_over net rows b a p ≡ false) → (stream : ℕ) (r : Row) → IsStream rows stream r → (hop : ℕ) → hop + 1 < length r.arcs
      → (a : ArcId) → slice_get r.arcs hop ≡ Some a → least_growth (b stream hop) (rate_of r) (delay_over net rows b a.0 r.prio) (cost_at net a.0) ≤ limit
  next_small b none stream r is hop further a at =
      let way = passage stream r is hop further in
      let same : way.arc ≡ a = let two = sym way.at ∙ at in cc in
      let parts = or_parts (numbers_pass net rows b way.arc.0 r.prio) (list_any (leaving_passes net b way.arc.0 r.prio (delay_over net rows b way.arc.0 r.prio)) (enumerate_from 0 rows)) (none way.arc.0 r.prio way.inside way.prio way.port) in
      let mine = none_numbered (leaving_passes net b way.arc.0 r.prio (delay_over net rows b way.arc.0 r.prio)) rows stream r is.row parts.1 in
      let small = ltb-false limit (least_growth (b stream (hop_of way.arc.0 r)) (rate_of r) (delay_over net rows b way.arc.0 r.prio) (cost_at net way.arc.0)) (after_true _ _ way.goes mine) in
      subst (λ x. least_growth (b stream hop) (rate_of r) (delay_over net rows b x.0 r.prio) (cost_at net x.0) ≤ limit) same
      (subst (λ n. least_growth (b stream n) (rate_of r) (delay_over net rows b way.arc.0 r.prio) (cost_at net way.arc.0) ≤ limit) way.hop_is small)

  -- where no burst behind a port differs, all are the same
  pub settled_from : (b c : Bursts) → AtPorts net rows (λ a p. some_differs rows b c a p ≡ false) → ((stream : ℕ) → b stream 0 ≡ c stream 0) → SameBursts rows b c
  settled_from b c none first stream r is zero inside = first stream
  settled_from b c none first stream r is (suc hop) inside =
      let way = passage stream r is hop (omega arith) in
      let mine = none_numbered (differs_behind b c way.arc.0 r.prio) rows stream r is.row (none way.arc.0 r.prio way.inside way.prio way.port) in
      let same = eqb-true (b stream (hop_of way.arc.0 r + 1)) (c stream (hop_of way.arc.0 r + 1)) (not-false (b stream (hop_of way.arc.0 r + 1) == c stream (hop_of way.arc.0 r + 1)) (after_true _ _ way.goes mine)) in
      let eq : hop_of way.arc.0 r + 1 ≡ suc hop = omega (arith, way.hop_is) in
      subst (λ n. b stream n ≡ c stream n) eq same

-- and where one does, they aren't
pub unsettled_from : (rows : List Row) (b c : Bursts) (a p : ℕ) → some_differs rows b c a p ≡ true → SameBursts rows b c → ⊥
unsettled_from rows b c a p some same =
    let found = some_numbered (differs_behind b c a p) rows some in
    let hop = hop_of a found.row + 1 in
    let parts = and_parts (goes_on a p found.row) (not (b found.stream hop == c found.stream hop)) found.passes in
    let behind = goes_behind a p found.row parts.0 in
    eqb-false (b found.stream hop) (c found.stream hop) (not-true (b found.stream hop == c found.stream hop) parts.1)
    (same found.stream found.row (record { row = found.at; express = behind.express }) hop behind.next)

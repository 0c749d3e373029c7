-- Numbers are good exactly where each clause holds at each line.
use Rattle.std.proofs.Common.{◌≡◌, ℕ, ◌+◌, ◌*◌, ◌/◌, ◌%◌, ◌<◌, Bool, true, false, cond, List, [], ◌∷◌, Some}
use Rattle.std.proofs.Common.{refl, sym, ◌∙◌, ap, subst, arith, inl, inr, length, is_some}
use Rattle.std.specs.Prelude.{slice_get, filter, sum_by, IsTrue}
use Rattle.std.specs.List.{list_any}
use Rattle.std.proofs.lemmas.Bool.{cases_Bool, or_parts}
use Rattle.std.proofs.lemmas.Option.{slice_get-get_or}
use Rattle.pre_topo.specs.declared.network.Network.{Network}
use Rattle.pre_streams.specs.declared.rows.Row.{Row}
use Rattle.pre_streams.specs.declared.rows.Streams.{Streams}
use Rattle.pre_streams.specs.Fits.{Fits}
use Rattle.pre_bound.specs.Uses.{TakesAt, Follows, is_on, has_arc, has_port, rate_of, cost_at}
use Rattle.pre_bound.specs.Values.{Values}
use Rattle.pre_bound.specs.Clauses.{Load, Block, Work, Delay, Size, Ring}
use Rattle.pre_bound.specs.Good.{IsStream, AreGood, AreInOrder}
use Rattle.pre_bound.specs.Settled.{PriosBelow}
use Rattle.pre_bound.specs.Places.{ports_of}
use Rattle.pre_bound.proofs.Hops.{TakesAt-place, contains_at}
use Rattle.pre_check.specs.Lines.{Clause, HoldsAt, arcs_from, ports_from, hops_from, bounds_from}
use Rattle.pre_check.specs.Lines as clause
use Rattle.pre_check.proofs.Stepping.{same_row}
use Rattle.pre_check.proofs.Agreeing.{has_arc_due, arc_due, has_port_due, port_due, has_stream_due, stream_due, has_hop_due, HopDue, hop_due}

-- each clause at each line
abbrev pub HoldAll : Network → List Row → Values → Type 0
HoldAll net rows v = (k : Clause) (line : ℕ) → HoldsAt net rows v k line

none_on : {X : Type 0} (f : X → ℕ) (p : X → Bool) (xs : List X) → list_any p xs ≡ false → sum_by f (filter p xs) ≡ 0
none_on f p [] h = refl
none_on f p (x ∷ xs) h =
    let parts = or_parts (p x) (list_any p xs) h in
    subst (λ b. sum_by f (cond b (x ∷ filter p xs) (filter p xs)) ≡ 0) (sym parts.0) (none_on f p xs parts.1)

idle : (net : Network) (rows : List Row) (arc : ℕ) → has_arc rows arc ≡ false → Load net rows arc
idle net rows arc h =
    let none = none_on rate_of (is_on arc 0 8) rows h in
    subst (λ n. cost_at net arc * n < 1_000_000) (sym none) (omega arith)

-- a port by its place
at_place : (P : ℕ → ℕ → Type 0) (arc prio : ℕ) → prio < 8 → P ((arc * 8 + prio) / 8) ((arc * 8 + prio) % 8) → P arc prio
at_place P arc prio low h =
    let a : (arc * 8 + prio) / 8 ≡ arc = omega arith in
    let p : (arc * 8 + prio) % 8 ≡ prio = omega arith in
    subst (λ n. P arc n) p (subst (λ n. P n ((arc * 8 + prio) % 8)) a h)

module _ (net : Network) (streams : Streams) (v : Values) (fits : Fits net streams) (prios : PriosBelow streams.rows) where
  at_port : (P : ℕ → ℕ → Type 0) → ((line place k : ℕ) → slice_get (ports_of net streams.rows) place ≡ Some k → ports_from net streams.rows + place ≡ line → P (k / 8) (k % 8))
      → (arc prio : ℕ) → arc < length net.arcs → prio < 8 → IsTrue (has_port streams.rows arc prio) → P arc prio
  at_port P h arc prio inside low port =
      let due = has_port_due net streams.rows arc prio inside low port in
      at_place P arc prio low (h (ports_from net streams.rows + due.0) due.0 (arc * 8 + prio) due.1 refl)

  starts : (stream : ℕ) (r : Row) → IsStream streams.rows stream r → 0 < length r.arcs
  starts stream r is =
      let listed = contains_at streams.rows stream r is.row in
      subst (λ (x : Row). 0 < length x.arcs) listed.2 (let route = (fits.each listed.0 r listed.1).route in let long = route.long.0 in let hops = route.hops in omega (arith, long, hops))

  pub good_from : HoldAll net streams.rows v → AreGood net streams.rows v
  good_from h = record {
    load = λ arc inside.
        elim (cases_Bool (has_arc streams.rows arc)) [
          | inl used ↦ let due = has_arc_due net streams.rows arc inside used in h clause.load (arcs_from + due.0) due.0 arc due.1 refl
          | inr unused ↦ idle net streams.rows arc unused
        ];
    first_burst = λ stream r is.
        let due = has_hop_due streams.rows stream r 0 is (starts stream r is) in
        h clause.first_burst (hops_from net streams.rows + due.0) due.0 (stream, 0) due.1 refl refl r is.row;
    block = at_port (Block net streams.rows v) (h clause.block);
    work = at_port (Work net streams.rows v) (h clause.work);
    delay = at_port (Delay net v) (h clause.delay);
    growth = λ stream r is hop arc next here there.
        let due = has_hop_due streams.rows stream r (hop + 1) is (TakesAt-place r (hop + 1) next there).0 in
        h clause.growth (hops_from net streams.rows + due.0) due.0 (stream, hop + 1) due.1 refl r hop arc next is.row refl here there;
    size = at_port (Size streams.rows v) (h clause.size);
    ring = at_port (Ring net v) (h clause.ring);
    bound = λ stream r is.
        let due = has_stream_due streams.rows stream r is in
        h clause.bound (bounds_from net streams.rows + due.0) due.0 (stream, r) due.1 refl;
    largest = λ arc inside used.
        let due = has_arc_due net streams.rows arc inside used in
        h clause.largest (arcs_from + due.0) due.0 arc due.1 refl;
  }

  pub order_from : HoldAll net streams.rows v → IsTrue v.ranked → AreInOrder streams.rows v
  order_from h ranked arc next f =
      let at = slice_get-get_or streams.rows f.listed.0 f.stream f.listed.1 ∙ ap (λ z. Some z) f.listed.2 in
      let is : IsStream streams.rows f.listed.0 f.stream = record { row = at; express = f.express } in
      let due = has_hop_due streams.rows f.listed.0 f.stream (f.hop + 1) is (TakesAt-place f.stream (f.hop + 1) next f.behind).0 in
      h clause.rank_order (hops_from net streams.rows + due.0) due.0 (f.listed.0, f.hop + 1) due.1 refl ranked f.stream f.hop arc next at refl f.here f.behind

-- a good certificate's numbers hold at each line
module _ (net : Network) (streams : Streams) (v : Values) where
  -- a hop of a stream, and the one before
  follows : (e : ℕ × ℕ) → HopDue streams.rows e → (r : Row) (hop arc next : ℕ) → slice_get streams.rows e.0 ≡ Some r → hop + 1 ≡ e.1 → TakesAt r hop arc → TakesAt r e.1 next → Follows streams.rows arc next
  follows e due r hop arc next at q here there =
      let both : Some due.row ≡ Some r = sym due.is.row ∙ at in
      let same : due.row ≡ r = cc in
      record {
        stream = r;
        listed = contains_at streams.rows e.0 r at;
        express = subst (λ (x : Row). is_some x.curve ≡ true) same due.is.express;
        hop = hop;
        here = here;
        behind = subst (λ n. TakesAt r n next) (sym q) there;
      }

  pub all_from_good : AreGood net streams.rows v → (IsTrue v.ranked → AreInOrder streams.rows v) → HoldAll net streams.rows v
  all_from_good good order clause.rank_order line = λ place e at q ranked r hop arc next row later here there. order ranked arc next (follows e (hop_due streams.rows place e at) r hop arc next row later here there)
  all_from_good good order clause.load line = λ place arc at q. good.load arc (arc_due net streams.rows place arc at).0
  all_from_good good order clause.first_burst line = λ place e at q start r row.
      let due = hop_due streams.rows place e at in
      good.first_burst e.0 r (same_row streams.rows e.0 due.row r due.is row)
  all_from_good good order clause.block line = λ place k at q. let due = port_due net streams.rows place k at in good.block (k / 8) (k % 8) due.inside due.low due.port
  all_from_good good order clause.work line = λ place k at q. let due = port_due net streams.rows place k at in good.work (k / 8) (k % 8) due.inside due.low due.port
  all_from_good good order clause.delay line = λ place k at q. let due = port_due net streams.rows place k at in good.delay (k / 8) (k % 8) due.inside due.low due.port
  all_from_good good order clause.growth line = λ place e at q r hop arc next row later here there.
      let due = hop_due streams.rows place e at in
      good.growth e.0 r (same_row streams.rows e.0 due.row r due.is row) hop arc next here (subst (λ n. TakesAt r n next) (sym later) there)
  all_from_good good order clause.size line = λ place k at q. let due = port_due net streams.rows place k at in good.size (k / 8) (k % 8) due.inside due.low due.port
  all_from_good good order clause.ring line = λ place k at q. let due = port_due net streams.rows place k at in good.ring (k / 8) (k % 8) due.inside due.low due.port
  all_from_good good order clause.bound line = λ place e at q. good.bound e.0 e.1 (stream_due streams.rows place e at)
  all_from_good good order clause.largest line = λ place arc at q. let due = arc_due net streams.rows place arc at in good.largest arc due.0 due.1

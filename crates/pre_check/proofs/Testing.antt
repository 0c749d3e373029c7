-- Whether a row passes the test of a clause exactly where the clause holds there.
use Rattle.std.proofs.Common.{◌≡◌, ℕ, ◌+◌, ◌*◌, ◌/◌, ◌%◌, ◌<◌, ◌≤◌, Bool, true, false, List, Option, Some, None}
use Rattle.std.proofs.Common.{refl, sym, ◌∙◌, ap, subst, if◌then◌else◌, eq-eqb}
use Rattle.std.specs.Prelude.{slice_get, Contains, ◌==◌, ◌||◌, not, nat_le, IsTrue}
use Rattle.std.specs.Option.{option_map_or}
use Rattle.std.proofs.lemmas.Bool.{eqb-true, and_parts, and_from, leb-true, ltb-true, le-leb, lt-ltb, true≢false}
use Rattle.std.proofs.lemmas.Option.{slice_get-get_or}
use Rattle.pre_base.specs.declared.limits.TheConstants.{OVERHEAD}
use Rattle.pre_topo.specs.declared.network.Network.{Network}
use Rattle.pre_streams.specs.declared.rows.Row.{Row}
use Rattle.pre_streams.specs.declared.rows.Streams.{Streams}
use Rattle.pre_streams.specs.Fits.{Fits}
use Rattle.pre_bound.specs.declared.certificate.Certificate.{Certificate}
use Rattle.pre_bound.specs.Uses.{is_on, has_flow, burst_of, rates_on, cost_at, preemptable_at}
use Rattle.pre_bound.specs.Along.{route_ticks}
use Rattle.pre_bound.specs.Values.{Values}
use Rattle.pre_bound.specs.Clauses.{Load, Block, Work, Delay, Size, Ring, Bound, Largest}
use Rattle.pre_bound.specs.Good.{IsStream}
use Rattle.pre_bound.specs.Settled.{PriosBelow}
use Rattle.pre_bound.specs.Listed.{Says, arc_row, port_row, hop_row, bound_row}
use Rattle.pre_bound.proofs.Hops.{contains_at, has_arc-from_port}
use Rattle.pre_check.specs.Lines.{FirstBurstAt}
use Rattle.pre_check.specs.Said.{largest_in, delay_in}
use Rattle.pre_check.specs.Tests.{load_fits, burst_begins, lower_fit, block_covers, work_covers, delay_covers, size_covers, ring_fits, bound_covers, largest_covers}
use Rattle.pre_check.proofs.Lists.{all_at, all_from}
use Rattle.pre_check.proofs.Agreeing.{PortDue, largest_said, bursts_said, ticks_said}

-- arcs

pub load_sound : (net : Network) (rows : List Row) (v : Values) (arc : ℕ) → load_fits net rows (arc_row v arc) ≡ true → Load net rows arc
load_sound net rows v arc h = ltb-true _ _ h

pub load_complete : (net : Network) (rows : List Row) (v : Values) (arc : ℕ) → Load net rows arc → load_fits net rows (arc_row v arc) ≡ true
load_complete net rows v arc h = lt-ltb _ _ h

if_true : (b : Bool) (t : Bool) → (if b then t else true) ≡ true → b ≡ true → t ≡ true
if_true true t h e = h
if_true false t h e = absurd (true≢false (sym e))

if_from : (b : Bool) (t : Bool) → (b ≡ true → t ≡ true) → (if b then t else true) ≡ true
if_from true t h = h refl
if_from false t h = refl

pub largest_sound : (net : Network) (rows : List Row) (v : Values) (arc : ℕ) → largest_covers net rows (arc_row v arc) ≡ true → Largest net rows v arc
largest_sound net rows v arc h = λ flow. leb-true _ _ (if_true (has_flow rows arc) _ h flow)

pub largest_complete : (net : Network) (rows : List Row) (v : Values) (arc : ℕ) → Largest net rows v arc → largest_covers net rows (arc_row v arc) ≡ true
largest_complete net rows v arc h = if_from (has_flow rows arc) _ (λ flow. le-leb _ _ (h flow))

-- ports

lower_sound : (net : Network) (rows : List Row) (arc prio block : ℕ) → lower_fit net rows arc prio block ≡ true → (r : Row) → Contains rows r → IsTrue (is_on arc 0 prio r) → cost_at net arc * (r.max + OVERHEAD) ≤ block
lower_sound net rows arc prio block h r listed on =
    let at = slice_get-get_or rows listed.0 r listed.1 ∙ ap (λ z. Some z) listed.2 in
    let passes = all_at (λ x. not (is_on arc 0 prio x) || nat_le (cost_at net arc * (x.max + OVERHEAD)) block) rows h listed.0 r at in
    leb-true _ _ (second (is_on arc 0 prio r) _ on passes)
  where
    second : (a b : Bool) → a ≡ true → (not a || b) ≡ true → b ≡ true
    second true b e q = q
    second false b e q = absurd (true≢false (sym e))

lower_complete : (net : Network) (rows : List Row) (arc prio block : ℕ) → ((r : Row) → Contains rows r → IsTrue (is_on arc 0 prio r) → cost_at net arc * (r.max + OVERHEAD) ≤ block) → lower_fit net rows arc prio block ≡ true
lower_complete net rows arc prio block h =
    all_from (λ x. not (is_on arc 0 prio x) || nat_le (cost_at net arc * (x.max + OVERHEAD)) block) rows
    (λ i x at. either (is_on arc 0 prio x) _ (λ on. le-leb _ _ (h x (contains_at rows i x at) on)))
  where
    either : (a b : Bool) → (a ≡ true → b ≡ true) → (not a || b) ≡ true
    either true b q = q refl
    either false b q = refl

module _ (net : Network) (streams : Streams) (c : Certificate) (v : Values) (fits : Fits net streams) (prios : PriosBelow streams.rows) (says : Says net streams.rows c v) where
  rows : List Row
  rows = streams.rows

  largest_same : (k : ℕ) → PortDue net streams.rows k → largest_in c.arcs (k / 8) ≡ v.largest (k / 8)
  largest_same k due = largest_said net streams.rows c v says (k / 8) due.inside (has_arc-from_port streams.rows (k / 8) (k % 8) due.low due.port)

  pub block_sound : (k : ℕ) → PortDue net streams.rows k → block_covers net streams.rows c.arcs (port_row v k) ≡ true → Block net streams.rows v (k / 8) (k % 8)
  block_sound k due h =
      let first = and_parts _ _ h in
      let second = and_parts _ _ first.1 in
      let said = largest_same k due in
      record {
        frame = leb-true _ _ first.0;
        lower = lower_sound net streams.rows (k / 8) (k % 8) (v.block (k / 8) (k % 8)) second.0;
        preemptable = subst (λ n. cost_at net (k / 8) * preemptable_at net (k / 8) n ≤ v.block (k / 8) (k % 8)) said (leb-true _ _ second.1);
      }

  pub block_complete : (k : ℕ) → PortDue net streams.rows k → Block net streams.rows v (k / 8) (k % 8) → block_covers net streams.rows c.arcs (port_row v k) ≡ true
  block_complete k due b =
      let said = largest_same k due in
      and_from _ _ (le-leb _ _ b.frame)
      (and_from _ _ (lower_complete net streams.rows (k / 8) (k % 8) (v.block (k / 8) (k % 8)) b.lower)
      (le-leb _ _ (subst (λ n. cost_at net (k / 8) * preemptable_at net (k / 8) n ≤ v.block (k / 8) (k % 8)) (sym said) b.preemptable)))

  pub work_sound : (k : ℕ) → work_covers net streams.rows c.hops (port_row v k) ≡ true → Work net streams.rows v (k / 8) (k % 8)
  work_sound k h =
      let parts = and_parts _ _ h in
      record {
        bursts = subst (λ n. cost_at net (k / 8) * n ≤ v.work (k / 8) (k % 8)) (bursts_said net streams.rows c v says (k / 8) (k % 8) 8) (leb-true _ _ parts.0);
        rate = eqb-true _ _ parts.1;
      }

  pub work_complete : (k : ℕ) → Work net streams.rows v (k / 8) (k % 8) → work_covers net streams.rows c.hops (port_row v k) ≡ true
  work_complete k w =
      and_from _ _ (le-leb _ _ (subst (λ n. cost_at net (k / 8) * n ≤ v.work (k / 8) (k % 8)) (sym (bursts_said net streams.rows c v says (k / 8) (k % 8) 8)) w.bursts)) (eq-eqb _ _ w.rate)

  pub delay_sound : (k : ℕ) → delay_covers net (port_row v k) ≡ true → Delay net v (k / 8) (k % 8)
  delay_sound k h = let parts = and_parts _ _ h in record { busy = ltb-true _ _ parts.0; frame = leb-true _ _ parts.1 }

  pub delay_complete : (k : ℕ) → Delay net v (k / 8) (k % 8) → delay_covers net (port_row v k) ≡ true
  delay_complete k d = and_from _ _ (lt-ltb _ _ d.busy) (le-leb _ _ d.frame)

  pub size_sound : (k : ℕ) → size_covers streams.rows c.hops (port_row v k) ≡ true → Size streams.rows v (k / 8) (k % 8)
  size_sound k h =
      subst (λ n. 1_000_000 * n + rates_on (k / 8) (k % 8) (k % 8 + 1) streams.rows * v.delay (k / 8) (k % 8) < 1_000_000 * (v.size (k / 8) (k % 8) + 1))
      (bursts_said net streams.rows c v says (k / 8) (k % 8) (k % 8 + 1)) (ltb-true _ _ h)

  pub size_complete : (k : ℕ) → Size streams.rows v (k / 8) (k % 8) → size_covers streams.rows c.hops (port_row v k) ≡ true
  size_complete k s =
      lt-ltb _ _
      (subst (λ n. 1_000_000 * n + rates_on (k / 8) (k % 8) (k % 8 + 1) streams.rows * v.delay (k / 8) (k % 8) < 1_000_000 * (v.size (k / 8) (k % 8) + 1))
      (sym (bursts_said net streams.rows c v says (k / 8) (k % 8) (k % 8 + 1))) s)

  pub ring_sound : (k : ℕ) → ring_fits net (port_row v k) ≡ true → Ring net v (k / 8) (k % 8)
  ring_sound k h = leb-true _ _ h

  pub ring_complete : (k : ℕ) → Ring net v (k / 8) (k % 8) → ring_fits net (port_row v k) ≡ true
  ring_complete k r = le-leb _ _ r

  -- hops

  row_test : (o : Option Row) (t : Row → Bool) → option_map_or t o true ≡ true → (r : Row) → o ≡ Some r → t r ≡ true
  row_test None t h r e = absurd (cc)
  row_test (Some s) t h r e = let same : s ≡ r = cc in ap t (sym same) ∙ h

  row_from : (o : Option Row) (t : Row → Bool) → ((r : Row) → o ≡ Some r → t r ≡ true) → option_map_or t o true ≡ true
  row_from None t h = refl
  row_from (Some s) t h = h s refl

  pub first_sound : (e : ℕ × ℕ) → burst_begins streams.rows (hop_row v e) ≡ true → FirstBurstAt streams.rows v e
  first_sound e h =
      λ start r at.
      let test = row_test (slice_get streams.rows e.0) (λ x. nat_le (burst_of x) (v.burst e.0 e.1)) (if_true (e.1 == 0) _ h (eq-eqb e.1 0 start)) r at in
      subst (λ n. burst_of r ≤ v.burst e.0 n) start (leb-true _ _ test)

  pub first_complete : (e : ℕ × ℕ) → FirstBurstAt streams.rows v e → burst_begins streams.rows (hop_row v e) ≡ true
  first_complete e f =
      if_from (e.1 == 0) _
      (λ start. let zero_is = eqb-true e.1 0 start in
      row_from (slice_get streams.rows e.0) (λ x. nat_le (burst_of x) (v.burst e.0 e.1)) (λ r at. le-leb _ _ (subst (λ n. burst_of r ≤ v.burst e.0 n) (sym zero_is) (f zero_is r at))))

  -- bounds

  pub bound_sound : (e : ℕ × Row) → IsStream streams.rows e.0 e.1 → bound_covers net streams.rows c.ports (bound_row v e) ≡ true → Bound net v e.0 e.1
  bound_sound e is h =
      subst (λ n. n ≤ v.bound e.0) (ticks_said net streams c v fits prios says e.0 e.1 is)
      (leb-true _ _ (row_test (slice_get streams.rows e.0) (λ r. nat_le (route_ticks net (λ a. delay_in c.ports a r.prio) r.arcs) (v.bound e.0)) h e.1 is.row))

  pub bound_complete : (e : ℕ × Row) → IsStream streams.rows e.0 e.1 → Bound net v e.0 e.1 → bound_covers net streams.rows c.ports (bound_row v e) ≡ true
  bound_complete e is b =
      row_from (slice_get streams.rows e.0) (λ r. nat_le (route_ticks net (λ a. delay_in c.ports a r.prio) r.arcs) (v.bound e.0))
      (λ r at.
      let same : e.1 ≡ r = let both : Some e.1 ≡ Some r = sym is.row ∙ at in cc in
      subst (λ x. nat_le (route_ticks net (λ a. delay_in c.ports a x.prio) x.arcs) (v.bound e.0) ≡ true) same
      (le-leb _ _ (subst (λ n. n ≤ v.bound e.0) (sym (ticks_said net streams c v fits prios says e.0 e.1 is)) b)))

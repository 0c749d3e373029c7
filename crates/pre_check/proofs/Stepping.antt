-- Whether a hop behind another passes the tests of rank order and of growth exactly where these clauses hold there.
use Rattle.std.proofs.Common.{◌≡◌, ℕ, ◌+◌, ◌-◌, ◌*◌, ◌<◌, ◌≤◌, Bool, true, false, List, Option, Some, None, refl}
use Rattle.std.proofs.Common.{sym, ◌∙◌, ap, subst, arith, inl, inr, length, is_some, if◌then◌else◌, eq-eqb}
use Rattle.std.specs.Prelude.{slice_get, ◌==◌, nat_le, nat_lt, option_and_then}
use Rattle.std.specs.Option.{option_map, option_map_or}
use Rattle.std.proofs.lemmas.Bool.{eqb-true, leb-true, ltb-true, le-leb, lt-ltb, cases_Bool, cases_lt, true≢false}
use Rattle.std.proofs.lemmas.Option.{slice_get_within}
use Rattle.pre_base.specs.declared.numbers.ArcId.{ArcId}
use Rattle.pre_topo.specs.declared.network.Network.{Network}
use Rattle.pre_streams.specs.declared.rows.Row.{Row}
use Rattle.pre_streams.specs.declared.rows.Streams.{Streams}
use Rattle.pre_streams.specs.Fits.{Fits}
use Rattle.pre_bound.specs.declared.rows.ArcRow.{ArcRow}
use Rattle.pre_bound.specs.declared.rows.HopRow.{HopRow}
use Rattle.pre_bound.specs.declared.certificate.Certificate.{Certificate}
use Rattle.pre_bound.specs.Uses.{TakesAt, has_arc, rate_of, cost_at}
use Rattle.pre_bound.specs.Values.{Values}
use Rattle.pre_bound.specs.Good.{IsStream}
use Rattle.pre_bound.specs.Settled.{PriosBelow}
use Rattle.pre_bound.specs.Places.{arcs_of}
use Rattle.pre_bound.specs.Listed.{Says, arc_row, hop_row}
use Rattle.pre_bound.proofs.Hops.{contains_at, has_arc-from}
use Rattle.pre_bound.proofs.Within.{ArcsWithin-fits}
use Rattle.pre_check.specs.Lines.{RankOrderAt, GrowthAt}
use Rattle.pre_check.specs.Said.{rank_in, delay_in, burst_in, are_ranked}
use Rattle.pre_check.specs.Tests.{steps_at, rank_rises, growth_covers}
use Rattle.pre_check.proofs.Lists.{all_at, all_from, at_map, from_map}
use Rattle.pre_check.proofs.Agreeing.{HopDue, has_arc_due, rank_said, delay_said, burst_said, port_of_hop}

and_then-Some : {A B : Type 0} (g : A → Option B) (o : Option A) (s : B) → option_and_then g o ≡ Some s → (x : A) × (o ≡ Some x) × (g x ≡ Some s)
and_then-Some g None s e = absurd (cc)
and_then-Some g (Some x) s e = (x, refl, e)

map-Some : {A B : Type 0} (f : A → B) (o : Option A) (s : B) → option_map f o ≡ Some s → (x : A) × (o ≡ Some x) × (f x ≡ s)
map-Some f None s e = absurd (cc)
map-Some f (Some x) s e = (x, refl, cc)

-- a hop behind another
record IsStep (rows : List Row) (h : HopRow) (r : Row) (hop : ℕ) (a b : ArcId) : Type 0 where
  row : slice_get rows h.stream.0 ≡ Some r
  next : hop + 1 ≡ h.hop
  before : slice_get r.arcs hop ≡ Some a
  here : slice_get r.arcs h.hop ≡ Some b

not_first : (n : ℕ) → (n == 0) ≡ false → n - 1 + 1 ≡ n
not_first n e =
    elim (cases_lt 0 n) [
      | inl some ↦ omega (arith, some)
      | inr none ↦ let first : n ≡ 0 = omega (arith, none) in absurd (true≢false (sym (eq-eqb n 0 first) ∙ e))
    ]

is_not_first : (hop n : ℕ) → hop + 1 ≡ n → (n == 0) ≡ false
is_not_first hop n e =
    elim (cases_Bool (n == 0)) [
      | inl yes' ↦ let first = eqb-zero n yes' in absurd (omega (arith, e, first))
      | inr no' ↦ no'
    ]
  where
    eqb-zero : (m : ℕ) → (m == 0) ≡ true → m ≡ 0
    eqb-zero m q = eqb-true m 0 q

steps_some : (rows : List Row) (h : HopRow) (r : Row) (hop : ℕ) (a b : ArcId) → IsStep rows h r hop a b → steps_at rows h ≡ Some (r, a, b)
steps_some rows h r hop a b is =
    let before : slice_get r.arcs (h.hop - 1) ≡ Some a = subst (λ n. slice_get r.arcs n ≡ Some a) (omega (arith, is.next)) is.before in
    let third : Row → ArcId → Option (Row × ArcId × ArcId) = λ x y. option_map (λ z. (x, y, z)) (slice_get x.arcs h.hop) in
    let second : Row → Option (Row × ArcId × ArcId) = λ x. option_and_then (third x) (slice_get x.arcs (h.hop - 1)) in
    ap (λ z. if z then None else option_and_then second (slice_get rows h.stream.0)) (is_not_first hop h.hop is.next)
    ∙ ap (option_and_then second) is.row ∙ ap (option_and_then (third r)) before ∙ ap (option_map (λ z. (r, a, z))) is.here

steps_are : (rows : List Row) (h : HopRow) (s : Row × ArcId × ArcId) → steps_at rows h ≡ Some s → IsStep rows h s.0 (h.hop - 1) s.1 s.2
steps_are rows h s e =
    let third : Row → ArcId → Option (Row × ArcId × ArcId) = λ x y. option_map (λ z. (x, y, z)) (slice_get x.arcs h.hop) in
    let second : Row → Option (Row × ArcId × ArcId) = λ x. option_and_then (third x) (slice_get x.arcs (h.hop - 1)) in
    elim (cases_Bool (h.hop == 0)) [
      | inl first ↦
          let none : None ≡ Some s = sym (ap (λ z. if z then None else option_and_then second (slice_get rows h.stream.0)) first) ∙ e in
          absurd (cc)
      | inr later ↦
          let some = sym (ap (λ z. if z then None else option_and_then second (slice_get rows h.stream.0)) later) ∙ e in
          let r = and_then-Some second (slice_get rows h.stream.0) s some in
          let a = and_then-Some (third r.0) (slice_get r.0.arcs (h.hop - 1)) s r.2 in
          let b = map-Some (λ z. (r.0, a.0, z)) (slice_get r.0.arcs h.hop) s a.2 in
          subst (λ (t : Row × ArcId × ArcId). IsStep rows h t.0 (h.hop - 1) t.1 t.2) b.2 (record { row = r.1; next = not_first h.hop later; before = a.1; here = b.1 })
    ]

option_test : {A : Type 0} (o : Option A) (t : A → Bool) → ((x : A) → o ≡ Some x → t x ≡ true) → option_map_or t o true ≡ true
option_test None t h = refl
option_test (Some x) t h = h x refl

test_step : (t : Row × ArcId × ArcId → Bool) (rows : List Row) (h : HopRow) (r : Row) (hop : ℕ) (a b : ArcId) → option_map_or t (steps_at rows h) true ≡ true → IsStep rows h r hop a b → t (r, a, b) ≡ true
test_step t rows h r hop a b e is = sym (ap (λ o. option_map_or t o true) (steps_some rows h r hop a b is)) ∙ e

-- the arc that is taken
taken : (r : Row) (hop arc : ℕ) → TakesAt r hop arc → (a : ArcId) × (slice_get r.arcs hop ≡ Some a) × (a.0 ≡ arc)
taken r hop arc e = map-Some (λ (a : ArcId). a.0) (slice_get r.arcs hop) arc e

if_true : (b : Bool) (t : Bool) → (if b then t else true) ≡ true → b ≡ true → t ≡ true
if_true true t h e = h
if_true false t h e = absurd (true≢false (sym e))

if_from : (b : Bool) (t : Bool) → (b ≡ true → t ≡ true) → (if b then t else true) ≡ true
if_from true t h = h refl
if_from false t h = refl

some_rank : (b : Bool) (n : ℕ) → b ≡ true → is_some (if b then Some n else None) ≡ true
some_rank true n e = refl
some_rank false n e = absurd (cc)

from_rank : (b : Bool) (n : ℕ) → is_some (if b then Some n else None) ≡ true → b ≡ true
from_rank true n e = refl
from_rank false n e = cc

pub same_row : (rows : List Row) (stream : ℕ) (q r : Row) → IsStream rows stream q → slice_get rows stream ≡ Some r → IsStream rows stream r
same_row rows stream q r is at =
    let both : Some q ≡ Some r = sym is.row ∙ at in
    let same : q ≡ r = cc in
    subst (IsStream rows stream) same is

module _ (net : Network) (streams : Streams) (c : Certificate) (v : Values) (fits : Fits net streams) (prios : PriosBelow streams.rows) (says : Says net streams.rows c v) where
  ranked_rows : v.ranked ≡ true → are_ranked c.arcs ≡ true
  ranked_rows ranked =
      subst (λ (l : List ArcRow). are_ranked l ≡ true) (sym says.arcs)
      (all_from (λ (row : ArcRow). is_some row.rank) _
      (λ i row at.
      let made = from_map (arc_row v) (arcs_of net streams.rows) i row at in
      ap (λ (x : ArcRow). is_some x.rank) (sym made.2) ∙ some_rank v.ranked (v.rank made.0) ranked))

  ranked_values : (arc : ℕ) → arc < length net.arcs → has_arc streams.rows arc ≡ true → are_ranked c.arcs ≡ true → v.ranked ≡ true
  ranked_values arc inside used all =
      let place = has_arc_due net streams.rows arc inside used in
      let listed = subst (λ (l : List ArcRow). are_ranked l ≡ true) says.arcs all in
      from_rank v.ranked (v.rank arc) (all_at (λ (row : ArcRow). is_some row.rank) _ listed place.0 (arc_row v arc) (at_map (arc_row v) (arcs_of net streams.rows) place.0 arc place.1))

  used_arc : (stream : ℕ) (r : Row) (hop arc : ℕ) → IsStream streams.rows stream r → TakesAt r hop arc → (arc < length net.arcs) × (has_arc streams.rows arc ≡ true)
  used_arc stream r hop arc is at =
      let listed = contains_at streams.rows stream r is.row in
      (ArcsWithin-fits net streams fits r listed hop arc at, has_arc-from streams.rows r arc hop listed is.express (prios r listed) at)

  pub rank_sound : (e : ℕ × ℕ) → HopDue streams.rows e → rank_rises streams.rows c.arcs (hop_row v e) ≡ true → RankOrderAt streams.rows v e
  rank_sound e due h =
      λ ranked r hop arc next at q here there.
      let a = taken r hop arc here in
      let b = taken r e.1 next there in
      let is = same_row streams.rows e.0 due.row r due.is at in
      let t : Row × ArcId × ArcId → Bool = λ s. nat_lt (rank_in c.arcs s.1.0) (rank_in c.arcs s.2.0) in
      let test = test_step t streams.rows (hop_row v e) r hop a.0 b.0 (if_true (are_ranked c.arcs) _ h (ranked_rows ranked)) (record { row = at; next = q; before = a.1; here = b.1 }) in
      let less = subst (λ n. rank_in c.arcs a.0.0 < rank_in c.arcs n) b.2 (ltb-true _ _ test) in
      let fewer = subst (λ n. rank_in c.arcs n < rank_in c.arcs next) a.2 less in
      let from = used_arc e.0 r hop arc is here in
      let to = used_arc e.0 r e.1 next is there in
      let first = rank_said net streams.rows c v says ranked arc from.0 from.1 in
      let second = rank_said net streams.rows c v says ranked next to.0 to.1 in
      omega (arith, fewer, first, second)

  pub rank_complete : (e : ℕ × ℕ) → HopDue streams.rows e → RankOrderAt streams.rows v e → rank_rises streams.rows c.arcs (hop_row v e) ≡ true
  rank_complete e due order =
      let t : Row × ArcId × ArcId → Bool = λ s. nat_lt (rank_in c.arcs s.1.0) (rank_in c.arcs s.2.0) in
      if_from (are_ranked c.arcs) _
      (λ all. option_test (steps_at streams.rows (hop_row v e)) t
      (λ s at.
      let step = steps_are streams.rows (hop_row v e) s at in
      let is = same_row streams.rows e.0 due.row s.0 due.is step.row in
      let here : TakesAt s.0 (e.1 - 1) s.1.0 = ap (option_map (λ (x : ArcId). x.0)) step.before in
      let there : TakesAt s.0 e.1 s.2.0 = ap (option_map (λ (x : ArcId). x.0)) step.here in
      let from = used_arc e.0 s.0 (e.1 - 1) s.1.0 is here in
      let to = used_arc e.0 s.0 e.1 s.2.0 is there in
      let ranked = ranked_values s.1.0 from.0 from.1 all in
      let first = rank_said net streams.rows c v says ranked s.1.0 from.0 from.1 in
      let second = rank_said net streams.rows c v says ranked s.2.0 to.0 to.1 in
      let less = order ranked s.0 (e.1 - 1) s.1.0 s.2.0 step.row step.next here there in
      lt-ltb _ _ (omega (arith, less, first, second))))

  -- what a hop's burst is compared with
  grown_said : (stream : ℕ) (r : Row) (hop arc before : ℕ) → IsStream streams.rows stream r → TakesAt r hop arc → hop < length r.arcs → before ≡ hop
      → 1_000_000 * burst_in c.hops stream before + rate_of r * (delay_in c.ports arc r.prio - 84 * cost_at net arc) ≡ 1_000_000 * v.burst stream hop + rate_of r * (v.delay arc r.prio - 84 * cost_at net arc)
  grown_said stream r hop arc before is here inside same =
      let port = port_of_hop net streams fits prios stream r hop arc is here in
      let burst = ap (burst_in c.hops stream) same ∙ burst_said net streams.rows c v says stream r hop is inside in
      let delay = delay_said net streams.rows c v says arc r.prio port.0 port.1 port.2 in
      ap (λ n. 1_000_000 * n + rate_of r * (delay_in c.ports arc r.prio - 84 * cost_at net arc)) burst
      ∙ ap (λ n. 1_000_000 * v.burst stream hop + rate_of r * (n - 84 * cost_at net arc)) delay

  pub growth_sound : (e : ℕ × ℕ) → HopDue streams.rows e → growth_covers net streams.rows c.ports c.hops (hop_row v e) ≡ true → GrowthAt net streams.rows v e
  growth_sound e due h =
      λ r hop arc next at q here there.
      let a = taken r hop arc here in
      let b = taken r e.1 next there in
      let is = same_row streams.rows e.0 due.row r due.is at in
      let t : Row × ArcId × ArcId → Bool =
      λ s. nat_le (1_000_000 * burst_in c.hops e.0 (e.1 - 1) + rate_of s.0 * (delay_in c.ports s.1.0 s.0.prio - 84 * cost_at net s.1.0)) (1_000_000 * v.burst e.0 e.1) in
      let test = test_step t streams.rows (hop_row v e) r hop a.0 b.0 h (record { row = at; next = q; before = a.1; here = b.1 }) in
      let moved = subst (λ n. nat_le (1_000_000 * burst_in c.hops e.0 (e.1 - 1) + rate_of r * (delay_in c.ports n r.prio - 84 * cost_at net n)) (1_000_000 * v.burst e.0 e.1) ≡ true) a.2 test in
      let said = grown_said e.0 r hop arc (e.1 - 1) is here (slice_get_within r.arcs hop a.0 a.1) (omega (arith, q)) in
      let covers = subst (λ n. n ≤ 1_000_000 * v.burst e.0 e.1) said (leb-true _ _ moved) in
      subst (λ n. 1_000_000 * v.burst e.0 hop + rate_of r * (v.delay arc r.prio - 84 * cost_at net arc) ≤ 1_000_000 * v.burst e.0 n) (sym q) covers

  pub growth_complete : (e : ℕ × ℕ) → HopDue streams.rows e → GrowthAt net streams.rows v e → growth_covers net streams.rows c.ports c.hops (hop_row v e) ≡ true
  growth_complete e due growth =
      let t : Row × ArcId × ArcId → Bool =
      λ s. nat_le (1_000_000 * burst_in c.hops e.0 (e.1 - 1) + rate_of s.0 * (delay_in c.ports s.1.0 s.0.prio - 84 * cost_at net s.1.0)) (1_000_000 * v.burst e.0 e.1) in
      option_test (steps_at streams.rows (hop_row v e)) t
      (λ s at.
      let step = steps_are streams.rows (hop_row v e) s at in
      let is = same_row streams.rows e.0 due.row s.0 due.is step.row in
      let here : TakesAt s.0 (e.1 - 1) s.1.0 = ap (option_map (λ (x : ArcId). x.0)) step.before in
      let there : TakesAt s.0 e.1 s.2.0 = ap (option_map (λ (x : ArcId). x.0)) step.here in
      let said = grown_said e.0 s.0 (e.1 - 1) s.1.0 (e.1 - 1) is here (slice_get_within s.0.arcs (e.1 - 1) s.1 step.before) refl in
      let covers = growth s.0 (e.1 - 1) s.1.0 s.2.0 step.row step.next here there in
      let moved = subst (λ n. 1_000_000 * v.burst e.0 (e.1 - 1) + rate_of s.0 * (v.delay s.1.0 s.0.prio - 84 * cost_at net s.1.0) ≤ 1_000_000 * v.burst e.0 n) step.next covers in
      le-leb _ _ (subst (λ n. n ≤ 1_000_000 * v.burst e.0 e.1) (sym said) moved))

-- Numbers that are at most others at each arc, port, hop and stream are so at each place of their certificates.
use Rattle.std.proofs.Common.{◌≡◌, ℕ, zero, suc, ◌+◌, ◌*◌, ◌/◌, ◌%◌, ◌<◌, ◌≤◌, Bool, true, false, List, []}
use Rattle.std.proofs.Common.{◌∷◌, Some, None, is_some, unwrap_or, if◌then◌else◌, refl, sym, ap, subst, arith, inl, inr, length}
use Rattle.std.proofs.Common.{get_or, map}
use Rattle.std.specs.Prelude.{slice_get, Contains, All, IsSome, filter}
use Rattle.std.specs.List.{enumerate_from, flat_map, range_with_len}
use Rattle.std.proofs.lemmas.Bool.{cases_Bool}
use Rattle.std.proofs.lemmas.List.Elements.{All-nil, All-cons, All-head, All-tail, All-append, All-map}
use Rattle.std.proofs.lemmas.List.FromFn.{get_or-range_with_len, length-range_with_len}
use Rattle.pre_topo.specs.declared.network.Network.{Network}
use Rattle.pre_streams.specs.declared.rows.Row.{Row}
use Rattle.pre_streams.specs.declared.rows.Streams.{Streams}
use Rattle.pre_streams.specs.Fits.{Fits}
use Rattle.pre_bound.specs.declared.rows.ArcRow.{ArcRow}
use Rattle.pre_bound.specs.declared.certificate.Certificate.{Certificate}
use Rattle.pre_bound.specs.Uses.{is_stream, has_arc, has_port, rate_of, cost_at, rates_on}
use Rattle.pre_bound.specs.Along.{Delays}
use Rattle.pre_bound.specs.Values.{Values}
use Rattle.pre_bound.specs.Clauses.{Load, certified_bursts}
use Rattle.pre_bound.specs.Chains.{AreRanks}
use Rattle.pre_bound.specs.Good.{AreGood, AreInOrder, IsStream}
use Rattle.pre_bound.specs.Settled.{Settled, HaveRoom, PriosBelow, ValuesAtMost, values_over}
use Rattle.pre_bound.specs.Places.{arcs_of, ports_of, streams_of, hops_of}
use Rattle.pre_bound.specs.Listed.{Says, HasRanks, arc_row, port_row, hop_row, bound_row}
use Rattle.pre_bound.specs.Least.{AtMost, NumbersAtMost, Least}
use Rattle.pre_bound.specs.Promises.{AreAtLeast}
use Rattle.pre_bound.proofs.Solved.{least_delay-le, least_growth-le, least_size-le}
use Rattle.pre_bound.proofs.Sums.{contains_head, contains_tail}
use Rattle.pre_bound.proofs.Within.{ArcsWithin-fits}
use Rattle.pre_bound.proofs.AtLeast.{values_le, good_block-le}
use Rattle.pre_bound.proofs.Ranked.{All-mapped, ranks_said, ranks_rise, alike_ranked}
use Rattle.pre_bound.proofs.Settling.{settled_are_good, rank_order}

-- numbers of two lists of rows for the same keys
at_most : {K R : Type 0} (number : R → ℕ) (f g : K → R) (ks : List K) → All (λ k. number (f k) ≤ number (g k)) ks → AtMost (map number (map f ks)) (map number (map g ks))
at_most number f g [] h i = omega arith
at_most number f g (k ∷ ks) h zero = All-head (λ k. number (f k) ≤ number (g k)) k ks h
at_most number f g (k ∷ ks) h (suc i) = at_most number f g ks (All-tail (λ k. number (f k) ≤ number (g k)) k ks h) i

moved : {K R : Type 0} (number : R → ℕ) (f g : K → R) (ks : List K) (xs ys : List R) → xs ≡ map f ks → ys ≡ map g ks → All (λ k. number (f k) ≤ number (g k)) ks → AtMost (map number xs) (map number ys)
moved number f g ks xs ys e q h =
    subst (λ l. AtMost (map number l) (map number ys)) (sym e) (subst (λ l. AtMost (map number (map f ks)) (map number l)) (sym q) (at_most number f g ks h))

-- what holds of each element that passes
pub All-filtered : {X : Type 0} (P : X → Type 0) (p : X → Bool) (xs : List X) → ((x : X) → Contains xs x → p x ≡ true → P x) → All P (filter p xs)
All-filtered P p [] h = All-nil P
All-filtered P p (x ∷ xs) h =
    let rest : All P (filter p xs) = All-filtered P p xs (λ y c e. h y (contains_tail x y xs c) e) in
    elim (cases_Bool (p x)) [
      | inl passes ↦ rw passes (All-cons P x (filter p xs) (h x (contains_head x xs) passes) rest)
      | inr fails ↦ rw fails rest
    ]

pub in_range : (n k : ℕ) → Contains (range_with_len 0 n) k → k < n
in_range n k c =
    let inside : c.0 < n = omega (arith, c.1, length-range_with_len 0 n) in
    let same = get_or-range_with_len 0 n c.0 k inside in
    omega (arith, same, c.2)

-- an element with its number
pub enumerated : {X : Type 0} (n : ℕ) (xs : List X) (k : ℕ) (e : ℕ × X) → k < length (enumerate_from n xs) → get_or (enumerate_from n xs) k e ≡ e → (i : ℕ) × (n + i ≡ e.0) × (slice_get xs i ≡ Some e.1)
enumerated n [] k e h at = absurd (omega arith)
enumerated n (x ∷ xs) zero e h at = (0, let first : n ≡ e.0 = ap (λ y. y.0) at in omega (arith, first), ap (λ y. Some y.1) at)
enumerated n (x ∷ xs) (suc k) e h at =
    let rest = enumerated (n + 1) xs k e (omega arith) at in
    (suc rest.0, omega (arith, rest.1), rest.2)

pub stream_at : (rows : List Row) (e : ℕ × Row) → Contains (enumerate_from 0 rows) e → is_stream e.1 ≡ true → IsStream rows e.0 e.1
stream_at rows e c express =
    let found = enumerated 0 rows c.0 e c.1 c.2 in
    let number : found.0 ≡ e.0 = omega (arith, found.1) in
    record { row = subst (λ n. slice_get rows n ≡ Some e.1) number found.2; express = express }

All-flat_map : {X A : Type 0} (P : A → Type 0) (f : X → List A) (xs : List X) → All (λ x. All P (f x)) xs → All P (flat_map f xs)
All-flat_map P f [] h = All-nil P
All-flat_map P f (x ∷ xs) h =
    All-append P (f x) (flat_map f xs) (All-head (λ y. All P (f y)) x xs h) (All-flat_map P f xs (All-tail (λ y. All P (f y)) x xs h))

All-range : (P : ℕ → Type 0) (n : ℕ) → ((k : ℕ) → k < n → P k) → All P (range_with_len 0 n)
All-range P n h = λ k d less.
    let inside : k < n = omega (arith, less, length-range_with_len 0 n) in
    subst P (sym (get_or-range_with_len 0 n k d inside)) (h (0 + k) (omega arith))

module _ (net : Network) (rows : List Row) (v w : Values) (below : ValuesAtMost net rows v w) where
  by_arc : All (λ a. v.rank a ≤ w.rank a) (arcs_of net rows)
  by_arc = All-filtered (λ a. v.rank a ≤ w.rank a) (has_arc rows) (range_with_len 0 (length net.arcs)) (λ a c used. below.rank a (in_range (length net.arcs) a c))

  by_largest : All (λ a. v.largest a ≤ w.largest a) (arcs_of net rows)
  by_largest = All-filtered (λ a. v.largest a ≤ w.largest a) (has_arc rows) (range_with_len 0 (length net.arcs)) (λ a c used. below.largest a (in_range (length net.arcs) a c) used)

  rank_le : (some other : Bool) (m n : ℕ) → m ≤ n → is_some (if other then Some n else None) ≡ true → unwrap_or (if some then Some m else None) 0 ≤ unwrap_or (if other then Some n else None) 0
  rank_le false other m n h is = omega arith
  rank_le true true m n h is = h
  rank_le true false m n h is = absurd (cc)

  -- ranks as numbers, where each arc of the other has one
  by_rank : All (λ a. IsSome (arc_row w a).rank) (arcs_of net rows) → All (λ a. unwrap_or (arc_row v a).rank 0 ≤ unwrap_or (arc_row w a).rank 0) (arcs_of net rows)
  by_rank ranked k d inside =
      let a = get_or (arcs_of net rows) k d in
      rank_le v.ranked w.ranked (v.rank a) (w.rank a) (by_arc k d inside) (ranked k d inside)

  by_port : (x y : Values → ℕ → ℕ → ℕ) → ((a p : ℕ) → a < length net.arcs → p < 8 → has_port rows a p ≡ true → x v a p ≤ y w a p) → All (λ k. x v (k / 8) (k % 8) ≤ y w (k / 8) (k % 8)) (ports_of net rows)
  by_port x y h =
      All-filtered (λ k. x v (k / 8) (k % 8) ≤ y w (k / 8) (k % 8)) (λ place. has_port rows (place / 8) (place % 8)) (range_with_len 0 (length net.arcs * 8))
      (λ k c port. let inside = in_range (length net.arcs * 8) k c in h (k / 8) (k % 8) (omega arith) (omega arith) port)

  by_stream : All (λ e. v.bound e.0 ≤ w.bound e.0) (streams_of rows)
  by_stream = All-filtered (λ e. v.bound e.0 ≤ w.bound e.0) (λ e. is_stream e.1) (enumerate_from 0 rows) (λ e c express. below.bound e.0 e.1 (stream_at rows e c express))

  by_hop : All {X = ℕ × ℕ} (λ e. v.burst e.0 e.1 ≤ w.burst e.0 e.1) (hops_of rows)
  by_hop =
      All-flat_map {A = ℕ × ℕ} (λ e. v.burst e.0 e.1 ≤ w.burst e.0 e.1) (λ e. map (λ hop. (e.0, hop)) (range_with_len 0 (length e.1.arcs))) (streams_of rows)
      (All-filtered (λ e. All {X = ℕ × ℕ} (λ f. v.burst f.0 f.1 ≤ w.burst f.0 f.1) (map (λ hop. (e.0, hop)) (range_with_len 0 (length e.1.arcs)))) (λ e. is_stream e.1) (enumerate_from 0 rows)
      (λ e c express.
      All-map {X = ℕ × ℕ} (λ f. v.burst f.0 f.1 ≤ w.burst f.0 f.1) (λ hop. (e.0, hop)) (range_with_len 0 (length e.1.arcs))
      (All-range (λ hop. v.burst e.0 hop ≤ w.burst e.0 hop) (length e.1.arcs) (λ hop inside. below.burst e.0 e.1 (stream_at rows e c express) hop inside))))

  pub numbers_at_most : (c other : Certificate) → Says net rows c v → Says net rows other w → HasRanks other → NumbersAtMost c other
  numbers_at_most c other says said ranked = record {
    ranks = moved (λ row. unwrap_or row.rank 0) (arc_row v) (arc_row w) (arcs_of net rows) c.arcs other.arcs says.arcs said.arcs
        (by_rank (All-mapped (λ (row : ArcRow). IsSome row.rank) (arc_row w) (arcs_of net rows) (subst (λ (l : List ArcRow). All (λ row. IsSome row.rank) l) said.arcs ranked)));
    largest = moved (λ row. row.largest) (arc_row v) (arc_row w) (arcs_of net rows) c.arcs other.arcs says.arcs said.arcs by_largest;
    blocks = moved (λ row. row.block) (port_row v) (port_row w) (ports_of net rows) c.ports other.ports says.ports said.ports (by_port (λ x. x.block) (λ x. x.block) below.block);
    works = moved (λ row. row.work) (port_row v) (port_row w) (ports_of net rows) c.ports other.ports says.ports said.ports (by_port (λ x. x.work) (λ x. x.work) below.work);
    rates = moved (λ row. row.rate) (port_row v) (port_row w) (ports_of net rows) c.ports other.ports says.ports said.ports (by_port (λ x. x.rate) (λ x. x.rate) below.rate);
    delays = moved (λ row. row.delay) (port_row v) (port_row w) (ports_of net rows) c.ports other.ports says.ports said.ports (by_port (λ x. x.delay) (λ x. x.delay) below.delay);
    sizes = moved (λ row. row.size) (port_row v) (port_row w) (ports_of net rows) c.ports other.ports says.ports said.ports (by_port (λ x. x.size) (λ x. x.size) below.size);
    bursts = moved (λ row. row.burst) (hop_row v) (hop_row w) (hops_of rows) c.hops other.hops says.hops said.hops by_hop;
    bounds = moved (λ row. row.1) (bound_row v) (bound_row w) (streams_of rows) c.bounds other.bounds says.bounds said.bounds by_stream;
  }

pub good_from_settled : (net : Network) (streams : Streams) (rank : ℕ → ℕ) (delays : Delays) → Fits net streams → AreRanks net streams.rows rank → ((arc : ℕ) → arc < length net.arcs → Load net streams.rows arc)
    → Settled net streams.rows delays → HaveRoom net streams.rows delays → AreGood net streams.rows (values_over net streams.rows rank delays) × AreInOrder streams.rows (values_over net streams.rows rank delays)
good_from_settled net streams rank delays fits ranks load settled room =
    (settled_are_good net streams.rows rank delays load settled room, rank_order net streams.rows rank delays (ArcsWithin-fits net streams fits) ranks)

pub least_from_settled : (net : Network) (streams : Streams) (rank : ℕ → ℕ) (delays : Delays) (v : Values) → Fits net streams → PriosBelow streams.rows → AreRanks net streams.rows rank → Settled net streams.rows delays
    → AreGood net streams.rows v → AreInOrder streams.rows v → ValuesAtMost net streams.rows (values_over net streams.rows rank delays) v
least_from_settled net streams rank delays v fits prios ranks settled good order =
    values_le net streams.rows delays v (ArcsWithin-fits net streams fits) prios good v.rank order settled order rank ranks

pub certificate_from_settled : (net : Network) (streams : Streams) (rank : ℕ → ℕ) (delays : Delays) (c : Certificate) → Fits net streams → PriosBelow streams.rows → AreRanks net streams.rows rank
    → ((arc : ℕ) → arc < length net.arcs → Load net streams.rows arc) → Settled net streams.rows delays → HaveRoom net streams.rows delays
    → Says net streams.rows c (values_over net streams.rows rank delays) → Least net streams c × HasRanks c
certificate_from_settled net streams rank delays c fits prios ranks load settled room says =
    let v = values_over net streams.rows rank delays in
    let are = good_from_settled net streams rank delays fits ranks load settled room in
    let has = ranks_said net streams.rows c v says refl in (
      record {
        good = record { values = v; says = says; order = λ _. are.1; good = are.0 };
        least = λ other good alike.
            let ranked = alike_ranked c other alike has in
            numbers_at_most net streams.rows v good.values
            (least_from_settled net streams rank delays good.values fits prios ranks settled good.good (ranks_rise net streams other good fits prios ranked)) c other says good.says ranked;
      },
      has,
    )

pub at_least_from_good : (net : Network) (rows : List Row) (v : Values) → AreGood net rows v → AreAtLeast net rows v
at_least_from_good net rows v good = record {
  block = λ a p inside prio port. good_block-le net rows v good a p inside prio port;
  delay = λ a p inside prio port.
      least_delay-le (v.block a p) (v.work a p) (v.rate a p) (cost_at net a) (v.block a p) (v.work a p) (v.delay a p) (omega arith) (omega arith) (good.delay a p inside prio port);
  size = λ a p inside prio port.
      least_size-le (certified_bursts v a p (p + 1) rows) (rates_on a p (p + 1) rows) (v.delay a p) (certified_bursts v a p (p + 1) rows) (v.delay a p) (v.size a p) (omega arith) (omega arith) (good.size a p inside prio port);
  burst = λ stream r is hop a b here there.
      least_growth-le (v.burst stream hop) (rate_of r) (v.delay a r.prio) (cost_at net a) (v.burst stream hop) (v.delay a r.prio) (v.burst stream (hop + 1)) (omega arith) (omega arith) (good.growth stream r is hop a b here there);
}

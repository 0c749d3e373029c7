-- Numbers that are at most others at each arc, port, hop and stream are so at each place of their certificates.
use Rattle.std.proofs.Common.{◌≡◌, ℕ, zero, suc, ◌*◌, ◌/◌, ◌%◌, ◌<◌, ◌≤◌, true, List, [], ◌∷◌, sym, subst, arith, length, map, unwrap_or}
use Rattle.std.specs.Prelude.{All}
use Rattle.std.specs.List.{enumerate_from, range_with_len}
use Rattle.std.proofs.lemmas.List.Elements.{All-head, All-tail, All-map}
use Rattle.pre_topo.specs.declared.network.Network.{Network}
use Rattle.pre_streams.specs.declared.rows.Row.{Row}
use Rattle.pre_streams.specs.declared.rows.Streams.{Streams}
use Rattle.pre_bound.specs.declared.certificate.Certificate.{Certificate}
use Rattle.pre_bound.specs.Uses.{is_stream, has_arc, has_port}
use Rattle.pre_bound.specs.Values.{Values}
use Rattle.pre_bound.specs.Settled.{ValuesAtMost}
use Rattle.pre_bound.specs.Places.{arcs_of, ports_of, streams_of, hops_of}
use Rattle.pre_bound.specs.Listed.{Says, arc_row, port_row, hop_row, bound_row}
use Rattle.pre_bound.specs.Least.{AtMost, NumbersAtMost, Least}
use Rattle.pre_bound.proofs.Placed.{All-filtered, in_range, stream_at}
use Rattle.pre_certify.proofs.Certified.{All-pieces, All-range}
use Rattle.pre_rounds.specs.Rounds.{round_values}
use Rattle.pre_rounds.specs.Routed.{AreRouted}
use Rattle.pre_rounds.specs.Answers.{IsOfSettled}
use Rattle.pre_rounds.proofs.Good.{good_certificate}
use Rattle.pre_rounds.proofs.Least.{values_le}

-- numbers of two lists of rows for the same keys
at_most : {K R : Type 0} (number : R → ℕ) (f g : K → R) (ks : List K) → All (λ k. number (f k) ≤ number (g k)) ks → AtMost (map number (map f ks)) (map number (map g ks))
at_most number f g [] h i = omega arith
at_most number f g (k ∷ ks) h zero = All-head (λ k. number (f k) ≤ number (g k)) k ks h
at_most number f g (k ∷ ks) h (suc i) = at_most number f g ks (All-tail (λ k. number (f k) ≤ number (g k)) k ks h) i

moved : {K R : Type 0} (number : R → ℕ) (f g : K → R) (ks : List K) (xs ys : List R) → xs ≡ map f ks → ys ≡ map g ks → All (λ k. number (f k) ≤ number (g k)) ks → AtMost (map number xs) (map number ys)
moved number f g ks xs ys e q h =
    subst (λ l. AtMost (map number l) (map number ys)) (sym e) (subst (λ l. AtMost (map number (map f ks)) (map number l)) (sym q) (at_most number f g ks h))

module _ (net : Network) (rows : List Row) (v w : Values) (below : ValuesAtMost net rows v w) where
  by_largest : All (λ a. v.largest a ≤ w.largest a) (arcs_of net rows)
  by_largest = All-filtered (λ a. v.largest a ≤ w.largest a) (has_arc rows) (range_with_len 0 (length net.arcs)) (λ a c used. below.largest a (in_range (length net.arcs) a c) used)

  by_port : (x : Values → ℕ → ℕ → ℕ) → ((a p : ℕ) → a < length net.arcs → p < 8 → has_port rows a p ≡ true → x v a p ≤ x w a p) → All (λ k. x v (k / 8) (k % 8) ≤ x w (k / 8) (k % 8)) (ports_of net rows)
  by_port x h =
      All-filtered (λ k. x v (k / 8) (k % 8) ≤ x w (k / 8) (k % 8)) (λ place. has_port rows (place / 8) (place % 8)) (range_with_len 0 (length net.arcs * 8))
      (λ k c port. let inside = in_range (length net.arcs * 8) k c in h (k / 8) (k % 8) (omega arith) (omega arith) port)

  by_stream : All (λ e. v.bound e.0 ≤ w.bound e.0) (streams_of rows)
  by_stream = All-filtered (λ e. v.bound e.0 ≤ w.bound e.0) (λ e. is_stream e.1) (enumerate_from 0 rows) (λ e c express. below.bound e.0 e.1 (stream_at rows e c express))

  by_hop : All {X = ℕ × ℕ} (λ e. v.burst e.0 e.1 ≤ w.burst e.0 e.1) (hops_of rows)
  by_hop =
      All-pieces {A = ℕ × ℕ} (λ e. v.burst e.0 e.1 ≤ w.burst e.0 e.1) (λ e. map (λ hop. (e.0, hop)) (range_with_len 0 (length e.1.arcs))) (streams_of rows)
      (All-filtered (λ e. All {X = ℕ × ℕ} (λ f. v.burst f.0 f.1 ≤ w.burst f.0 f.1) (map (λ hop. (e.0, hop)) (range_with_len 0 (length e.1.arcs)))) (λ e. is_stream e.1) (enumerate_from 0 rows)
      (λ e c express.
      All-map {X = ℕ × ℕ} (λ f. v.burst f.0 f.1 ≤ w.burst f.0 f.1) (λ hop. (e.0, hop)) (range_with_len 0 (length e.1.arcs))
      (All-range (λ hop. v.burst e.0 hop ≤ w.burst e.0 hop) (length e.1.arcs) (λ hop inside. below.burst e.0 e.1 (stream_at rows e c express) hop inside))))

  pub numbers_le : (c other : Certificate) → Says net rows c v → Says net rows other w → All (λ a. unwrap_or (arc_row v a).rank 0 ≤ unwrap_or (arc_row w a).rank 0) (arcs_of net rows) → NumbersAtMost c other
  numbers_le c other says said ranks = record {
    ranks = moved (λ row. unwrap_or row.rank 0) (arc_row v) (arc_row w) (arcs_of net rows) c.arcs other.arcs says.arcs said.arcs ranks;
    largest = moved (λ row. row.largest) (arc_row v) (arc_row w) (arcs_of net rows) c.arcs other.arcs says.arcs said.arcs by_largest;
    blocks = moved (λ row. row.block) (port_row v) (port_row w) (ports_of net rows) c.ports other.ports says.ports said.ports (by_port (λ x. x.block) below.block);
    works = moved (λ row. row.work) (port_row v) (port_row w) (ports_of net rows) c.ports other.ports says.ports said.ports (by_port (λ x. x.work) below.work);
    rates = moved (λ row. row.rate) (port_row v) (port_row w) (ports_of net rows) c.ports other.ports says.ports said.ports (by_port (λ x. x.rate) below.rate);
    delays = moved (λ row. row.delay) (port_row v) (port_row w) (ports_of net rows) c.ports other.ports says.ports said.ports (by_port (λ x. x.delay) below.delay);
    sizes = moved (λ row. row.size) (port_row v) (port_row w) (ports_of net rows) c.ports other.ports says.ports said.ports (by_port (λ x. x.size) below.size);
    bursts = moved (λ row. row.burst) (hop_row v) (hop_row w) (hops_of rows) c.hops other.hops says.hops said.hops by_hop;
    bounds = moved (λ row. row.1) (bound_row v) (bound_row w) (streams_of rows) c.bounds other.bounds says.bounds said.bounds by_stream;
  }

pub least_certificate : (net : Network) (streams : Streams) (c : Certificate) → AreRouted net streams.rows → IsOfSettled net streams.rows c → Least net streams c
least_certificate net streams c routed of = record {
  good = good_certificate net streams c of;
  least = λ other good alike.
      numbers_le net streams.rows (round_values net streams.rows of.round) good.values (values_le net streams.rows routed good.values good.good of.round) c other of.says good.says (λ k d inside. omega arith);
}

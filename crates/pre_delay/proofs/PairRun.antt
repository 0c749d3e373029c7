-- The premises can be met: the built-in network and streams, and a script that sends one frame.
use Rattle.std.proofs.Common.{codes, ℕ, zero, suc, true, false, ◌==◌, ◌≡◌, ◌+◌, ◌-◌, ◌*◌, ◌<◌, ◌≤◌, List, []}
use Rattle.std.proofs.Common.{◌∷◌, length, map, filter, refl, sym, ◌∙◌, ap, arith, subst, Option, Some, None}
use Rattle.std.specs.Prelude.{slice_get, slice_index, slice_index_or, is_some, AllPairs, Contains}
use Rattle.std.specs.Option.{option_map_or}
use Rattle.std.proofs.lemmas.List.Folds.{Any-from_list_any}
use Rattle.pre_curve.specs.declared.curves.Curve.{Curve}
use Rattle.pre_curve.specs.Windows.{Obeys, offers_of}
use Rattle.pre_topo.specs.declared.network.Network.{Network}
use Rattle.pre_topo.specs.declared.arcs.Arc.{Arc}
use Rattle.pre_topo.specs.Arcs.{latency_at}
use Rattle.pre_topo.specs.Pair.{pair_arc}
use Rattle.pre_topo.specs.PairNetwork as network
use Rattle.pre_streams.specs.declared.rows.Row.{Row}
use Rattle.pre_streams.specs.Pair.{IsPairCurve, pair_row, pair_rows}
use Rattle.pre_streams.specs.Fits.{Fits}
use Rattle.pre_script.specs.declared.scripts.SendLine.{SendLine}
use Rattle.pre_script.specs.Fits.{SendsInOrder}
use Rattle.pre_history.specs.Scenario.{Scenario, row, send, no_row, no_send}
use Rattle.pre_history.specs.Examples.{SendsFirst, first_send}
use Rattle.pre_history.proofs.Lists.{found_at}
use Rattle.pre_history.proofs.Routes.{contained_at}
use Rattle.pre_bound.specs.Uses.{TakesAt, burst_of, cost_at, has_port, hop_of, is_on, largest_at, preemptable_at, preemptable_octets, rates_on, ring_at}
use Rattle.pre_bound.specs.Along.{hop_ticks, route_ticks}
use Rattle.pre_bound.specs.Clauses.{Block, Work, Delay, Size, Ring, Load, Largest}
use Rattle.pre_bound.specs.Good.{AreGood, IsStream}
use Rattle.pre_bound.specs.Settled.{PriosBelow}
use Rattle.pre_bound.proofs.Hops.{OnArc-from, TakesAt-hop_of, TakesAt-place}
use Rattle.pre_delay.specs.Runs.{IsFrame, IsRun, sends_of}
use Rattle.pre_delay.specs.Example.{pair_numbers}

module _ (net : Network) (pair : network.IsPair net) (c : Curve) (of : IsPairCurve c) where
  x : Row
  x = pair_row (codes "x") 10 6 (Some c)

  arc0 : slice_get net.arcs 0 ≡ Some pair_arc
  arc0 = ap (λ arcs. slice_get arcs 0) pair.arcs

  cost0 : cost_at net 0 ≡ 1
  cost0 = ap (λ (o : Option Arc). option_map_or (λ (a : Arc). a.cost) o 0) arc0

  two : length net.arcs ≡ 2
  two = ap length pair.arcs

  -- only x is a stream
  the_stream : (i : ℕ) (r : Row) → slice_get (pair_rows c) i ≡ Some r → is_some r.curve ≡ true → (i ≡ 0) × (r ≡ pair_row (codes "x") 10 6 (Some c))
  the_stream zero r at express = (refl, cc at)
  the_stream (suc zero) r at express = absurd (
      let same : pair_row (codes "y") 20 0 None ≡ r = cc at in
      let none : is_some r.curve ≡ false = ap (λ (z : Row). is_some z.curve) (sym same) in
      cc (none, express))
  the_stream (suc (suc i)) r at express = absurd (cc at)

  -- and one port is there
  the_port : (a p : ℕ) → has_port (pair_rows c) a p ≡ true → (a ≡ 0) × (p ≡ 6)
  the_port a p has =
      let o = Any-from_list_any (is_on a p (p + 1)) (pair_rows c) has in
      by o.0 o.1 (found_at (pair_rows c) o.0 o.1 o.2 o.3) o.4
    where
      by : (i : ℕ) (r : Row) → slice_get (pair_rows c) i ≡ Some r → is_on a p (p + 1) r ≡ true → (a ≡ 0) × (p ≡ 6)
      by i r at on =
          let e = OnArc-from a p (p + 1) r on in
          let only = (the_stream i r at e.express).1 in
          let prio : r.prio ≡ 6 = ap (λ (z : Row). z.prio) only in
          let takes' : TakesAt (pair_row (codes "x") 10 6 (Some c)) (hop_of a r) a = subst (λ (z : Row). TakesAt z (hop_of a r) a) only (TakesAt-hop_of r a e.takes) in
          (hop_arc (hop_of a r) takes', omega (arith, e.from, e.below, prio))
        where
          hop_arc : (j : ℕ) → TakesAt (pair_row (codes "x") 10 6 (Some c)) j a → a ≡ 0
          hop_arc zero here = sym (cc here)
          hop_arc (suc j) here = absurd (cc here)

  at_port : (P : ℕ → ℕ → Type 0) → P 0 6 → (a p : ℕ) → a < length net.arcs → p < 8 → has_port (pair_rows c) a p ≡ true → P a p
  at_port P here a p lt low has =
      let e = the_port a p has in
      subst (λ k. P k p) (sym e.0) (subst (λ q. P 0 q) (sym e.1) here)

  at_stream : (P : ℕ → Row → Type 0) → P 0 (pair_row (codes "x") 10 6 (Some c)) → (i : ℕ) (r : Row) → IsStream (pair_rows c) i r → P i r
  at_stream P here i r s =
      let e = the_stream i r s.row s.express in
      subst (λ k. P k r) (sym e.0) (subst (λ z. P 0 z) (sym e.1) here)

  at_arc : (P : ℕ → Type 0) → P 0 → P 1 → (a : ℕ) → a < length net.arcs → P a
  at_arc P p q zero lt = p
  at_arc P p q (suc zero) lt = q
  at_arc P p q (suc (suc a)) lt = absurd (omega (arith, lt, two))

  no_lower : (r : Row) → Contains (pair_rows c) r → is_on 0 0 6 r ≡ true → ⊥
  no_lower r listed on =
      let at = contained_at (pair_rows c) r listed in
      let e = OnArc-from 0 0 6 r on in
      let only = (the_stream at.0 r at.1 e.express).1 in
      let prio : r.prio ≡ 6 = ap (λ (z : Row). z.prio) only in
      omega (arith, e.below, prio)

  load : (a : ℕ) → a < length net.arcs → Load net (pair_rows c) a
  load = at_arc (Load net (pair_rows c)) (subst (λ k. k * rates_on 0 0 8 (pair_rows c) < 1_000_000) (sym cost0) (omega (arith, of.rate))) (omega arith)

  block : Block net (pair_rows c) pair_numbers 0 6
  block = record {
    frame = subst (λ k. k * 84 ≤ 143) (sym cost0) (omega arith);
    lower = λ r listed on. absurd (no_lower r listed on);
    preemptable = subst (λ k. k * preemptable_at net 0 1522 ≤ 143) (sym cost0) (let here = ap (λ (o : Option Arc). option_map_or (λ (a : Arc). preemptable_octets a 1522) o 0) arc0 in omega (arith, here));
  }

  work : Work net (pair_rows c) pair_numbers 0 6
  work = record { bursts = subst (λ k. k * 2000 ≤ 2000) (sym cost0) (omega arith); rate = refl }

  delay : Delay net pair_numbers 0 6
  delay = record { busy = omega arith; frame = subst (λ k. 84 * k ≤ 2143) (sym cost0) (omega arith) }

  size : Size (pair_rows c) pair_numbers 0 6
  size = omega (arith, of.rate)

  ring : Ring net pair_numbers 0 6
  ring = let here : ring_at net 0 6 ≡ 64 = ap (λ (o : Option Arc). option_map_or (λ (a : Arc). slice_index a.rings 6) o 0) arc0 in omega (arith, here)

  ticks : route_ticks net (λ a. 2143) (record { 0 = 0 } ∷ []) ≤ 2131
  ticks =
      let station : latency_at net.nodes 0 ≡ 0 = ap (λ ns. latency_at ns 0) pair.nodes in
      let here : hop_ticks net 0 2143 ≡ latency_at net.nodes 0 + 2131 + 0 = ap (λ (o : Option Arc). option_map_or (λ (a : Arc). latency_at net.nodes a.from.0 + (2143 - 12 * a.cost) + a.delay) o 0) arc0 in
      omega (arith, here, station)

  one_hop : (hop arc next : ℕ) → TakesAt (pair_row (codes "x") 10 6 (Some c)) (hop + 1) next → ⊥
  one_hop hop arc next there' = let place = TakesAt-place (pair_row (codes "x") 10 6 (Some c)) (hop + 1) next there' in omega (arith, place.0)

  pub good : AreGood net (pair_rows c) pair_numbers
  good = record {
    load = load;
    first_burst = at_stream (λ i r. burst_of r ≤ 2000) (omega (arith, of.burst));
    block = at_port (Block net (pair_rows c) pair_numbers) block;
    work = at_port (Work net (pair_rows c) pair_numbers) work;
    delay = at_port (Delay net pair_numbers) delay;
    growth = λ i r s hop arc next here there'. absurd (one_hop hop arc next (subst (λ (z : Row). TakesAt z (hop + 1) next) (the_stream i r s.row s.express).1 there'));
    size = at_port (Size (pair_rows c) pair_numbers) size;
    ring = at_port (Ring net pair_numbers) ring;
    bound = at_stream (λ i r. route_ticks net (λ a. 2143) r.arcs ≤ 2131) ticks;
    largest = λ arc lt has. at_arc (Largest net (pair_rows c) pair_numbers)
        (λ used. let here = ap (λ (o : Option Arc). option_map_or (λ (a : Arc). a.largest) o 0) arc0 in omega (arith, here))
        (λ used. let here : largest_at net 1 ≡ 1522 = ap (λ arcs. option_map_or (λ (a : Arc). a.largest) (slice_get arcs 1) 0) pair.arcs in omega (arith, here)) arc lt;
  }

  prios : PriosBelow (pair_rows c)
  prios r listed = by (contained_at (pair_rows c) r listed)
    where
      by : (i : ℕ) × (slice_get (pair_rows c) i ≡ Some r) → r.prio < 8
      by (zero, at) = let same : pair_row (codes "x") 10 6 (Some c) ≡ r = cc at in let prio = ap (λ (z : Row). z.prio) same in omega (arith, prio)
      by (suc zero, at) = let same : pair_row (codes "y") 20 0 None ≡ r = cc at in let prio = ap (λ (z : Row). z.prio) same in omega (arith, prio)
      by (suc (suc i), at) = absurd (cc at)

pub numbers_are_good : (w : Scenario) → SendsFirst w → AreGood w.net w.streams.rows pair_numbers
numbers_are_good w s = subst (λ rows. AreGood w.net rows pair_numbers) (sym s.streams.2) (good w.net s.net s.streams.0 s.streams.1)

module _ (w : Scenario) (s : SendsFirst w) where
  c : Curve
  c = s.streams.0

  one_send : length w.script.sends ≡ 1
  one_send = ap length s.sends

  is_send : send w 0 ≡ first_send
  is_send = ap (λ ss. slice_index_or ss 0 no_send) s.sends

  is_row : row w 0 ≡ pair_row (codes "x") 10 6 (Some s.streams.0)
  is_row = ap (λ (l : SendLine). slice_index_or w.streams.rows l.send.stream.0 no_row) is_send ∙ ap (λ rows. slice_index_or rows 0 no_row) s.streams.2

  frame : (f : ℕ) → f < length w.script.sends → IsFrame w f
  frame zero lt = record {
    listed = ap (λ (l : SendLine). slice_get w.streams.rows l.send.stream.0) is_send ∙ (ap (λ rows. slice_get rows 0) s.streams.2 ∙ ap Some (sym is_row));
    least = let size : (send w 0).send.size ≡ 64 = ap (λ (l : SendLine). l.send.size) is_send in omega (arith, size);
    most = let size : (send w 0).send.size ≡ 64 = ap (λ (l : SendLine). l.send.size) is_send in let most = ap (λ (r : Row). r.max) is_row in omega (arith, size, most);
  }
  frame (suc f) lt = absurd (omega (arith, lt, one_send))

  obeys : (i : ℕ) (r : Row) (d : Curve) → slice_get w.streams.rows i ≡ Some r → r.curve ≡ Some d → Obeys (offers_of (sends_of w i)) d
  obeys i r d at curve =
      let at' : slice_get (pair_rows s.streams.0) i ≡ Some r = subst (λ rows. slice_get rows i ≡ Some r) s.streams.2 at in
      let only = the_stream w.net s.net s.streams.0 s.streams.1 i r at' (ap is_some curve) in
      let same : Some s.streams.0 ≡ Some d = sym (ap (λ (z : Row). z.curve) only.1) ∙ curve in
      let burst : s.streams.0.burst ≡ d.burst = ap (λ (o : Option Curve). option_map_or (λ (z : Curve). z.burst) o 0) same in
      let first : sends_of w 0 ≡ first_send.send ∷ [] = ap (λ (ss : List SendLine). map (λ (l : SendLine). l.send) (filter (λ (l : SendLine). l.send.stream.0 == 0) ss)) s.sends in
      subst (λ k. Obeys (offers_of (sends_of w k)) d) (sym only.0) (subst (λ ss. Obeys (offers_of ss) d) (sym first) (one d (omega (arith, burst, s.streams.1.burst))))
    where
      one : (d : Curve) → 84 ≤ d.burst → Obeys (offers_of (first_send.send ∷ [])) d
      one d long zero zero le lt = omega (arith, long)
      one d long i (suc j) le lt = absurd (omega (arith, lt))
      one d long (suc i) zero le lt = absurd (omega (arith, le))

  pub is_run : Fits w.net w.streams → IsRun w
  is_run fits = record {
    rows = fits.each;
    prios = subst PriosBelow (sym s.streams.2) (prios w.net s.net s.streams.0 s.streams.1);
    frames = frame;
    order = subst (AllPairs SendsInOrder) (sym s.sends) (λ i j d less inside. absurd (omega (arith, less, inside)));
    curves = obeys;
  }

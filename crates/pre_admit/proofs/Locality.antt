-- What a new stream leaves as it was: the numbers of ports outside those that it touches, and the bounds of streams apart from them.
use Rattle.std.proofs.Common.{◌≡◌, ℕ, zero, suc, ◌+◌, ◌*◌, ◌/◌, ◌%◌, ◌<◌, ◌≤◌, max, Bool, true, false, List, length, inl, inr, refl, sym, ◌∙◌, ap, arith}
use Rattle.std.specs.Prelude.{filter, Contains, IsSome, sum_by, fold, nat_le, nat_lt, not, ◌&&◌, if◌then◌else◌}
use Rattle.std.specs.List.{insert}
use Rattle.std.proofs.lemmas.Bool.{cases_Bool}
use Rattle.std.proofs.lemmas.List.{take_all}
use Rattle.pre_base.specs.declared.limits.TheConstants.{OVERHEAD}
use Rattle.pre_topo.specs.declared.network.Network.{Network}
use Rattle.pre_streams.specs.declared.rows.Row.{Row}
use Rattle.pre_bound.specs.declared.rows.PortRow.{PortRow}
use Rattle.pre_bound.specs.Solutions.{least_delay, least_size}
use Rattle.pre_bound.specs.Uses.{TakesAt, hop_of, takes, is_on, is_stream, has_port, rate_of, rates_on, cost_at, largest_used, largest_at, preemptable_at}
use Rattle.pre_bound.specs.Along.{Delays, burst_on, bursts_on, least_block, rate_above, port_delay, port_size, route_ticks}
use Rattle.pre_bound.specs.Order.{Rise}
use Rattle.pre_bound.specs.Settled.{Settled, PriosBelow, values_over}
use Rattle.pre_bound.specs.Listed.{port_row}
use Rattle.pre_bound.specs.Passing.{ticks_before}
use Rattle.pre_bound.proofs.Hops.{TakesAt-hop_of, OnArc-from, has_port-from}
use Rattle.pre_bound.proofs.Within.{ArcsWithin}
use Rattle.pre_bound.proofs.AtLeast.{rank_rises}
use Rattle.pre_bound.proofs.Ordered.{burst_same, ticks_same, sum_same}
use Rattle.pre_bound.proofs.Hops.{TakesAt-place}
use Rattle.pre_admit.specs.Touched.{Touched, IsApart}
use Rattle.pre_admit.proofs.Lists.{filter_without, any_without}

-- a row that doesn't take an arc is on it with off priority
off_second : (a b : Bool) → b ≡ false → (a && b) ≡ false
off_second true b off = off
off_second false b off = refl

off_arc : (arc low high : ℕ) (row : Row) → takes arc row ≡ false → is_on arc low high row ≡ false
off_arc arc low high row off =
    off_second (is_stream row) (nat_le low row.prio && (nat_lt row.prio high && takes arc row))
    (off_second (nat_le low row.prio) (nat_lt row.prio high && takes arc row) (off_second (nat_lt row.prio high) (takes arc row) off))

-- A stream more at a place among the rows, and delays that are settled without it and with it.
module _ (net : Network) (rows : List Row) (i : ℕ) (row : Row) (rank : ℕ → ℕ) (delays other : Delays) (rise : Rise rows rank) (prios : PriosBelow rows) (within : ArcsWithin net rows)
    (settled : Settled net rows delays) (settled_too : Settled net (insert rows i row) other) where
  pub untaken : (a p : ℕ) → ¬ Touched rows row a p → takes a row ≡ false
  untaken a p outside =
      elim (cases_Bool (takes a row)) [
        | inl taken ↦ absurd (outside (0, taken))
        | inr free ↦ free
      ]

  -- what a port has of its streams is the same
  rates_kept : (a low high : ℕ) → takes a row ≡ false → rates_on a low high (insert rows i row) ≡ rates_on a low high rows
  rates_kept a low high free = ap (λ l. sum_by rate_of l) (filter_without (is_on a low high) rows i row (off_arc a low high row free))

  pub port_kept : (a p : ℕ) → takes a row ≡ false → has_port (insert rows i row) a p ≡ has_port rows a p
  port_kept a p free = any_without (is_on a p (p + 1)) rows i row (off_arc a p (p + 1) row free)

  largest_kept : (a : ℕ) → takes a row ≡ false → largest_used net (insert rows i row) a ≡ largest_used net rows a
  largest_kept a free =
      ap (λ b. if b then largest_at net a else 0) (any_without (λ r. not (is_stream r) && takes a r) rows i row (off_second (not (is_stream row)) (takes a row) free))

  block_kept : (a p : ℕ) → takes a row ≡ false → least_block net (insert rows i row) a p ≡ least_block net rows a p
  block_kept a p free =
      let most : ℕ → List Row → ℕ = λ n l. cost_at net a * fold (λ m r. max m (r.max + OVERHEAD)) (max 84 (preemptable_at net a n)) l in
      ap (λ n. most n (filter (is_on a 0 p) (insert rows i row))) (largest_kept a free) ∙ ap (λ l. most (largest_used net rows a) l) (filter_without (is_on a 0 p) rows i row (off_arc a 0 p row free))

  -- delays on the way to a port of that priority or a lower one are those of ports outside too
  outside_before : (a p : ℕ) → ¬ Touched rows row a p → (r : Row) → Contains rows r → IsSome r.curve → p ≤ r.prio → takes a r ≡ true → (j c : ℕ) → j < hop_of a r → TakesAt r j c → ¬ Touched rows row c r.prio
  outside_before a p outside r listed express lower on j c less here touched =
      outside (suc touched.0, record { stream = r; listed = listed; express = express; hop = j; before = c; here = here; inside = touched.1; later = hop_of a r; onward = less; there = TakesAt-hop_of r a on; lower = lower })

  hop_inside : (r : Row) (a : ℕ) → takes a r ≡ true → hop_of a r ≤ length r.arcs
  hop_inside r a on = let place = TakesAt-place r (hop_of a r) a (TakesAt-hop_of r a on) in omega (arith, place.0)

  bursts_kept : (a p low high : ℕ) → ¬ Touched rows row a p → p ≤ low → ((b q : ℕ) → rank b < rank a → b < length net.arcs → q < 8 → has_port rows b q ≡ true → ¬ Touched rows row b q → other b q ≡ delays b q)
      → bursts_on net other a low high (insert rows i row) ≡ bursts_on net delays a low high rows
  bursts_kept a p low high outside lower same =
      ap (λ l. sum_by (burst_on net other a) l) (filter_without (is_on a low high) rows i row (off_arc a low high row (untaken a p outside)))
      ∙ sum_same (burst_on net other a) (burst_on net delays a) (is_on a low high) rows
      (λ r listed e.
      let on = OnArc-from a low high r e in
      burst_same net other delays r (hop_of a r) (hop_inside r a on.takes)
      (λ j c less here.
      same c r.prio (rank_rises rows rank rise r listed on.express j (hop_of a r) c a less here (TakesAt-hop_of r a on.takes)) (within r listed j c here) (prios r listed)
      (has_port-from rows r c j listed on.express here) (outside_before a p outside r listed on.express (omega (arith, lower, on.from)) on.takes j c less here)))

  delay_kept : (a p : ℕ) → ¬ Touched rows row a p → ((b q : ℕ) → rank b < rank a → b < length net.arcs → q < 8 → has_port rows b q ≡ true → ¬ Touched rows row b q → other b q ≡ delays b q)
      → port_delay net (insert rows i row) other a p ≡ port_delay net rows delays a p
  delay_kept a p outside same =
      let free = untaken a p outside in
      let of : ℕ → ℕ → ℕ → ℕ = λ b w r. least_delay b (cost_at net a * w) r (cost_at net a) in
      ap (λ b. of b (bursts_on net other a p 8 (insert rows i row)) (rate_above (insert rows i row) a p)) (block_kept a p free)
      ∙ ap (λ w. of (least_block net rows a p) w (rate_above (insert rows i row) a p)) (bursts_kept a p p 8 outside (omega arith) same)
      ∙ ap (λ r. of (least_block net rows a p) (bursts_on net delays a p 8 rows) r) (rates_kept a (p + 1) 8 free)

  delays_kept : (n a p : ℕ) → rank a < n → a < length net.arcs → p < 8 → has_port rows a p ≡ true → ¬ Touched rows row a p → other a p ≡ delays a p
  delays_kept zero a p less inside low port outside = absurd (omega arith)
  delays_kept (suc n) a p less inside low port outside =
      settled_too a p inside low (port_kept a p (untaken a p outside) ∙ port)
      ∙ delay_kept a p outside (λ b q under there lower had apart. delays_kept n b q (omega arith) there lower had apart)
      ∙ sym (settled a p inside low port)

  same_before : (a b q : ℕ) → rank b < rank a → b < length net.arcs → q < 8 → has_port rows b q ≡ true → ¬ Touched rows row b q → other b q ≡ delays b q
  same_before a b q under there lower had apart = delays_kept (suc (rank b)) b q (omega arith) there lower had apart

  -- the numbers of a port outside
  pub row_kept : (rank_too : ℕ → ℕ) (k : ℕ) → k < length net.arcs * 8 → has_port rows (k / 8) (k % 8) ≡ true → ¬ Touched rows row (k / 8) (k % 8)
      → port_row (values_over net (insert rows i row) rank_too other) k ≡ port_row (values_over net rows rank delays) k
  row_kept rank_too k inside port outside =
      let a = k / 8 in
      let p = k % 8 in
      let free = untaken a p outside in
      let make : ℕ → ℕ → ℕ → ℕ → ℕ → PortRow = λ b w r d s. record { arc = record { 0 = a }; prio = p; block = b; work = cost_at net a * w; rate = r; delay = d; size = s } in
      let block = block_kept a p free in
      let work = bursts_kept a p p 8 outside (omega arith) (same_before a) in
      let rate = rates_kept a (p + 1) 8 free in
      let delay = delays_kept (suc (rank a)) a p (omega arith) (omega (arith, inside)) (omega arith) port outside in
      let size : port_size net (insert rows i row) other a p ≡ port_size net rows delays a p =
      ap (λ n. least_size n (rates_on a p (p + 1) (insert rows i row)) (port_delay net (insert rows i row) other a p)) (bursts_kept a p p (p + 1) outside (omega arith) (same_before a))
      ∙ ap (λ n. least_size (bursts_on net delays a p (p + 1) rows) n (port_delay net (insert rows i row) other a p)) (rates_kept a p (p + 1) free)
      ∙ ap (λ n. least_size (bursts_on net delays a p (p + 1) rows) (rates_on a p (p + 1) rows) n) (delay_kept a p outside (same_before a))
      in
      ap (λ n. make n (bursts_on net other a p 8 (insert rows i row)) (rate_above (insert rows i row) a p) (other a p) (port_size net (insert rows i row) other a p)) block
      ∙ ap (λ n. make (least_block net rows a p) n (rate_above (insert rows i row) a p) (other a p) (port_size net (insert rows i row) other a p)) work
      ∙ ap (λ n. make (least_block net rows a p) (bursts_on net delays a p 8 rows) n (other a p) (port_size net (insert rows i row) other a p)) rate
      ∙ ap (λ n. make (least_block net rows a p) (bursts_on net delays a p 8 rows) (rate_above rows a p) n (port_size net (insert rows i row) other a p)) delay
      ∙ ap (λ n. make (least_block net rows a p) (bursts_on net delays a p 8 rows) (rate_above rows a p) (delays a p) n) size

  -- the ticks of a stream's route apart
  pub ticks_kept : (r : Row) → Contains rows r → IsSome r.curve → IsApart rows row r → route_ticks net (λ a. other a r.prio) r.arcs ≡ route_ticks net (λ a. delays a r.prio) r.arcs
  ticks_kept r listed express apart =
      let whole = take_all (length r.arcs) r.arcs (omega arith) in
      let same : ticks_before net other r (length r.arcs) ≡ ticks_before net delays r (length r.arcs) =
      ticks_same net other delays r (length r.arcs) (omega arith)
      (λ j c less here. delays_kept (suc (rank c)) c r.prio (omega arith) (within r listed j c here) (prios r listed) (has_port-from rows r c j listed express here) (apart j c here)) in
      ap (λ l. route_ticks net (λ a. other a r.prio) l) (sym whole) ∙ same ∙ ap (λ l. route_ticks net (λ a. delays a r.prio) l) whole

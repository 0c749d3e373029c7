-- The certificates before and after a new stream.
use Rattle.std.proofs.Common.{◌≡◌, ℕ, ◌*◌, ◌/◌, ◌%◌, ◌<◌, ◌≤◌, true, Some, length, map, slice_get, Option, None, get_or, inl, inr, refl, sym, ◌∙◌, ap, subst, arith}
use Rattle.std.specs.Prelude.{Contains, All, IsSome, IsNone, is_none}
use Rattle.std.specs.Option.{option_map_or}
use Rattle.std.specs.List.{range_with_len, enumerate_from}
use Rattle.std.proofs.lemmas.Bool.{cases_lt, cases_order}
use Rattle.std.proofs.lemmas.Option.{slice_get_within, get_or_from_slice_get}
use Rattle.std.proofs.lemmas.List.Elements.{All-map}
use Rattle.std.proofs.lemmas.List.Sums.{passes_at_first}
use Rattle.pre_base.specs.declared.numbers.StreamId.{StreamId}
use Rattle.pre_curve.specs.declared.curves.Curve.{Curve}
use Rattle.pre_topo.specs.declared.network.Network.{Network}
use Rattle.pre_streams.specs.declared.rows.Row.{Row}
use Rattle.pre_streams.specs.declared.rows.Streams.{Streams}
use Rattle.pre_streams.specs.Fits.{Fits}
use Rattle.pre_streams.specs.Joined.{first_flow, with_stream}
use Rattle.pre_bound.specs.declared.rows.PortRow.{PortRow}
use Rattle.pre_bound.specs.declared.certificate.Certificate.{Certificate}
use Rattle.pre_bound.specs.Uses.{is_stream, has_port}
use Rattle.pre_bound.specs.Along.{Delays, route_ticks}
use Rattle.pre_bound.specs.Values.{Values}
use Rattle.pre_bound.specs.Good.{IsStream}
use Rattle.pre_bound.specs.Settled.{PriosBelow, values_over}
use Rattle.pre_bound.specs.Places.{ports_of, streams_of}
use Rattle.pre_bound.specs.Listed.{port_row, bound_row}
use Rattle.pre_bound.proofs.Hops.{contains_at}
use Rattle.pre_bound.proofs.Within.{ArcsWithin-fits}
use Rattle.pre_bound.proofs.Ordered.{rise-from_ranks}
use Rattle.pre_bound.proofs.Placed.{All-filtered, in_range, stream_at}
use Rattle.pre_bound.proofs.Completed.{enumerated_at}
use Rattle.pre_bound.proofs.Ranked.{range_at}
use Rattle.pre_certify.specs.Computed.{SaysSettled}
use Rattle.pre_admit.specs.Touched.{Touched, IsApart}
use Rattle.pre_admit.specs.Local.{IsLocal}
use Rattle.pre_admit.proofs.Lists.{at_before, kept_at, mapped, first_within}
use Rattle.pre_admit.proofs.Locality.{untaken, port_kept, row_kept, ticks_kept}

-- a stream stands before the first flow
stream_before : (net : Network) (streams : Streams) → Fits net streams → (k : ℕ) (r : Row) → IsStream streams.rows k r → k < first_flow streams.rows
stream_before net streams fits k r is =
    elim (cases_lt k (first_flow streams.rows)) [
      | inl less ↦ less
      | inr past ↦ absurd (behind past)
    ]
  where
    flows : (o : Option Curve) → is_none o ≡ true → IsSome o → ⊥
    flows (Some c) none some = cc
    flows None none some = cc

    no_curve : (o : Option Curve) → is_none o ≡ true → IsNone o
    no_curve (Some c) none = absurd (cc)
    no_curve None none = refl

    both : (o : Option Curve) → IsNone o → IsSome o → ⊥
    both (Some c) none some = cc
    both None none some = cc

    inside : k < length streams.rows
    inside = slice_get_within streams.rows k r is.row

    here : get_or streams.rows k r ≡ r
    here = get_or_from_slice_get streams.rows k r r is.row

    behind : first_flow streams.rows ≤ k → ⊥
    behind past =
        let flow : is_none (get_or streams.rows (first_flow streams.rows) r).curve ≡ true = passes_at_first (λ (x : Row). is_none x.curve) streams.rows r (omega (arith, past, inside)) in
        elim (cases_order (first_flow streams.rows) k) [
          | inl same ↦ flows r.curve (subst (λ (x : Row). is_none x.curve ≡ true) here (subst (λ n. is_none (get_or streams.rows n r).curve ≡ true) same flow)) is.express
          | inr apart ↦
              elim apart [
                | inl less ↦ both r.curve (subst (λ (x : Row). IsNone x.curve) here (fits.streams_first (first_flow streams.rows) k r less inside (no_curve _ flow))) is.express
                | inr more ↦ omega (arith, past, more)
              ]
        ]

-- the ports and the bounds that stay
module _ (net : Network) (streams : Streams) (row : Row) (c new : Certificate) (fits : Fits net streams) (prios : PriosBelow streams.rows)
    (says : SaysSettled net streams.rows c) (says_too : SaysSettled net (with_stream streams.rows row) new) where
  v : Values
  v = values_over net streams.rows says.rank says.delays

  w : Values
  w = values_over net (with_stream streams.rows row) says_too.rank says_too.delays

  same_row : (k : ℕ) → k < length net.arcs * 8 → has_port streams.rows (k / 8) (k % 8) ≡ true → ¬ Touched streams.rows row (k / 8) (k % 8)
      → port_row (values_over net (with_stream streams.rows row) says_too.rank says_too.delays) k ≡ port_row (values_over net streams.rows says.rank says.delays) k
  same_row k inside port outside =
      row_kept net streams.rows (first_flow streams.rows) row says.rank says.delays says_too.delays (rise-from_ranks net streams says.rank fits says.ranks) prios (ArcsWithin-fits net streams fits) says.settled says_too.settled says_too.rank k inside port outside

  same_port : (k : ℕ) → ¬ Touched streams.rows row (k / 8) (k % 8) → has_port (with_stream streams.rows row) (k / 8) (k % 8) ≡ has_port streams.rows (k / 8) (k % 8)
  same_port k outside =
      port_kept net streams.rows (first_flow streams.rows) row says.rank says.delays says_too.delays (rise-from_ranks net streams says.rank fits says.ranks) prios (ArcsWithin-fits net streams fits) says.settled says_too.settled (k / 8) (k % 8)
      (untaken net streams.rows (first_flow streams.rows) row says.rank says.delays says_too.delays (rise-from_ranks net streams says.rank fits says.ranks) prios (ArcsWithin-fits net streams fits) says.settled says_too.settled (k / 8) (k % 8) outside)

  ports_stay : All (λ port. ¬ Touched streams.rows row port.arc.0 port.prio → Contains new.ports port) c.ports
  ports_stay =
      subst (λ l. All (λ port. ¬ Touched streams.rows row port.arc.0 port.prio → Contains new.ports port) l) (sym says.says.ports)
      (All-map (λ (port : PortRow). ¬ Touched streams.rows row port.arc.0 port.prio → Contains new.ports port) (port_row (values_over net streams.rows says.rank says.delays)) (ports_of net streams.rows)
      (All-filtered (λ k. ¬ Touched streams.rows row (k / 8) (k % 8) → Contains new.ports (port_row (values_over net streams.rows says.rank says.delays) k)) (λ k. has_port streams.rows (k / 8) (k % 8)) (range_with_len 0 (length net.arcs * 8))
      (λ k listed port outside.
      let inside = in_range (length net.arcs * 8) k listed in
      let there = mapped (port_row (values_over net (with_stream streams.rows row) says_too.rank says_too.delays)) (ports_of net (with_stream streams.rows row)) k
      (kept_at (λ n. has_port (with_stream streams.rows row) (n / 8) (n % 8)) (range_with_len 0 (length net.arcs * 8)) k k (range_at (length net.arcs * 8) k inside) (same_port k outside ∙ port)) in
      subst (λ l. Contains l (port_row (values_over net streams.rows says.rank says.delays) k)) (sym says_too.says.ports)
      (subst (λ x. Contains (map (port_row (values_over net (with_stream streams.rows row) says_too.rank says_too.delays)) (ports_of net (with_stream streams.rows row))) x) (same_row k inside port outside) there))))

  ports_alone : All (λ port. ¬ Touched streams.rows row port.arc.0 port.prio → Contains c.ports port) new.ports
  ports_alone =
      subst (λ l. All (λ port. ¬ Touched streams.rows row port.arc.0 port.prio → Contains c.ports port) l) (sym says_too.says.ports)
      (All-map (λ (port : PortRow). ¬ Touched streams.rows row port.arc.0 port.prio → Contains c.ports port) (port_row (values_over net (with_stream streams.rows row) says_too.rank says_too.delays)) (ports_of net (with_stream streams.rows row))
      (All-filtered (λ k. ¬ Touched streams.rows row (k / 8) (k % 8) → Contains c.ports (port_row (values_over net (with_stream streams.rows row) says_too.rank says_too.delays) k)) (λ k. has_port (with_stream streams.rows row) (k / 8) (k % 8)) (range_with_len 0 (length net.arcs * 8))
      (λ k listed port outside.
      let inside = in_range (length net.arcs * 8) k listed in
      let old : has_port streams.rows (k / 8) (k % 8) ≡ true = sym (same_port k outside) ∙ port in
      let there = mapped (port_row (values_over net streams.rows says.rank says.delays)) (ports_of net streams.rows) k
      (kept_at (λ n. has_port streams.rows (n / 8) (n % 8)) (range_with_len 0 (length net.arcs * 8)) k k (range_at (length net.arcs * 8) k inside) old) in
      subst (λ l. Contains l (port_row (values_over net (with_stream streams.rows row) says_too.rank says_too.delays) k)) (sym says.says.ports)
      (subst (λ x. Contains (map (port_row (values_over net streams.rows says.rank says.delays)) (ports_of net streams.rows)) x) (sym (same_row k inside old outside)) there))))

  -- the bound of a stream by its number
  bound_kept : (e : ℕ × Row) → IsStream streams.rows e.0 e.1 → IsApart streams.rows row e.1
      → bound_row (values_over net (with_stream streams.rows row) says_too.rank says_too.delays) e ≡ bound_row (values_over net streams.rows says.rank says.delays) e
  bound_kept e is apart =
      let ticks : Delays → Row → ℕ = λ d r. route_ticks net (λ a. d a r.prio) r.arcs in
      let make : ℕ → StreamId × ℕ = λ n. (record { 0 = e.0 }, n) in
      let before = stream_before net streams fits e.0 e.1 is in
      let there : slice_get (with_stream streams.rows row) e.0 ≡ Some e.1 = at_before streams.rows (first_flow streams.rows) e.0 row before (first_within (λ (x : Row). is_none x.curve) streams.rows) ∙ is.row in
      ap (λ o. make (option_map_or (λ r. ticks says_too.delays r) o 0)) there
      ∙ ap make (ticks_kept net streams.rows (first_flow streams.rows) row says.rank says.delays says_too.delays (rise-from_ranks net streams says.rank fits says.ranks) prios (ArcsWithin-fits net streams fits) says.settled says_too.settled e.1 (contains_at streams.rows e.0 e.1 is.row) is.express apart)
      ∙ ap (λ o. make (option_map_or (λ r. ticks says.delays r) o 0)) (sym is.row)

  bounds_stay : All (λ b. (r : Row) → slice_get streams.rows b.0.0 ≡ Some r → IsApart streams.rows row r → Contains new.bounds b) c.bounds
  bounds_stay =
      subst (λ l. All (λ b. (r : Row) → slice_get streams.rows b.0.0 ≡ Some r → IsApart streams.rows row r → Contains new.bounds b) l) (sym says.says.bounds)
      (All-map {X = StreamId × ℕ} (λ (b : StreamId × ℕ). (r : Row) → slice_get streams.rows b.0.0 ≡ Some r → IsApart streams.rows row r → Contains new.bounds b) (bound_row (values_over net streams.rows says.rank says.delays)) (streams_of streams.rows)
      (All-filtered {X = ℕ × Row} (λ e. (r : Row) → slice_get streams.rows e.0 ≡ Some r → IsApart streams.rows row r → Contains new.bounds (bound_row (values_over net streams.rows says.rank says.delays) e)) (λ e. is_stream e.1) (enumerate_from 0 streams.rows)
      (λ e listed express r at apart.
      let is = stream_at streams.rows e listed express in
      let same : e.1 ≡ r = cc in
      let mine : IsApart streams.rows row e.1 = subst (λ x. IsApart streams.rows row x) (sym same) apart in
      let before = stream_before net streams fits e.0 e.1 is in
      let there : slice_get (with_stream streams.rows row) e.0 ≡ Some e.1 = at_before streams.rows (first_flow streams.rows) e.0 row before (first_within (λ (x : Row). is_none x.curve) streams.rows) ∙ is.row in
      let found = mapped {X = ℕ × Row} (bound_row (values_over net (with_stream streams.rows row) says_too.rank says_too.delays)) (streams_of (with_stream streams.rows row)) e
      (kept_at {X = ℕ × Row} (λ x. is_stream x.1) (enumerate_from 0 (with_stream streams.rows row)) e.0 e (enumerated_at 0 (with_stream streams.rows row) e.0 e.0 e.1 (omega arith) there) express) in
      subst (λ l. Contains l (bound_row (values_over net streams.rows says.rank says.delays) e)) (sym says_too.says.bounds)
      (subst (λ x. Contains (map (bound_row (values_over net (with_stream streams.rows row) says_too.rank says_too.delays)) (streams_of (with_stream streams.rows row))) x) (bound_kept e is mine) found))))

  pub is_local : IsLocal streams.rows row c new
  is_local = record { ports = ports_stay; alone = ports_alone; bounds = bounds_stay }

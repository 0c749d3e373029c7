-- A certificate whose rows have the keys that are due, with ranks on all of its arcs or on none, has the rows that are due.
use Rattle.std.proofs.Common.{◌≡◌, ℕ, ◌+◌, ◌*◌, ◌/◌, ◌%◌, ◌≤◌, Bool, true, false, List, Option, Some, None, refl}
use Rattle.std.proofs.Common.{sym, ◌∙◌, ap, subst, arith, inl, inr, length, map, is_some, unwrap_or, if◌then◌else◌, eq-eqb}
use Rattle.std.specs.Prelude.{slice_get, ◌==◌, ◌&&◌}
use Rattle.std.specs.Option.{option_map_or}
use Rattle.std.specs.List.{range_with_len}
use Rattle.std.proofs.lemmas.Bool.{eqb-true, and_parts, and_from, cases_Bool, true≢false}
use Rattle.std.proofs.lemmas.List.{map-id}
use Rattle.pre_base.specs.declared.numbers.StreamId.{StreamId}
use Rattle.pre_topo.specs.declared.network.Network.{Network}
use Rattle.pre_streams.specs.declared.rows.Row.{Row}
use Rattle.pre_streams.specs.declared.rows.Streams.{Streams}
use Rattle.pre_streams.specs.Fits.{Fits}
use Rattle.pre_bound.specs.declared.rows.ArcRow.{ArcRow}
use Rattle.pre_bound.specs.declared.rows.PortRow.{PortRow}
use Rattle.pre_bound.specs.declared.rows.HopRow.{HopRow}
use Rattle.pre_bound.specs.declared.certificate.Certificate.{Certificate}
use Rattle.pre_bound.specs.Uses.{is_stream, has_arc, has_port}
use Rattle.pre_bound.specs.Places.{arcs_of, ports_of, streams_of, hops_of}
use Rattle.pre_bound.specs.Listed.{Says, arc_row, port_row, hop_row, bound_row}
use Rattle.pre_bound.proofs.Hops.{contains_at}
use Rattle.pre_check.specs.Said.{values_in, rank_in, largest_in, are_ranked}
use Rattle.pre_check.proofs.Lists.{all_at, all_from}
use Rattle.pre_check.proofs.Agreeing.{stream_due}
use Rattle.pre_check.proofs.Sizes.{short_route}
use Rattle.pre_check.proofs.Rising.{Rise, rise_range, rise_filter, rise_numbered, rise_hops, hop_code, found_one, from_keys, map_twice}

-- the keys of a port, of a hop and of a bound
abbrev pub port_key : PortRow → ℕ × ℕ
port_key row = (row.arc.0, row.prio)

abbrev pub hop_key : HopRow → ℕ × ℕ
hop_key row = (row.stream.0, row.hop)

abbrev pub port_keys : Network → List Row → List (ℕ × ℕ)
port_keys net rows = map (λ k. (k / 8, k % 8)) (ports_of net rows)

pub record HasKeys (net : Network) (rows : List Row) (c : Certificate) : Type 0 where
  pub arcs : map (λ (row : ArcRow). row.arc.0) c.arcs ≡ arcs_of net rows
  pub ports : map port_key c.ports ≡ port_keys net rows
  pub hops : map hop_key c.hops ≡ hops_of rows
  pub bounds : map (λ (row : StreamId × ℕ). row.0.0) c.bounds ≡ map (λ e. e.0) (streams_of rows)
  pub ranked : Bool
  pub alike : (i : ℕ) (row : ArcRow) → slice_get c.arcs i ≡ Some row → is_some row.rank ≡ ranked

rank_of : (b : Bool) (o : Option ℕ) (n : ℕ) → is_some o ≡ b → unwrap_or o 0 ≡ n → (if b then Some n else None) ≡ o
rank_of true (Some m) n e same = ap (λ z. Some z) (sym same)
rank_of true None n e same = absurd (cc)
rank_of false (Some m) n e same = absurd (cc)
rank_of false None n e same = refl

all_alike : (b : Bool) (rows : List ArcRow) → ((i : ℕ) (row : ArcRow) → slice_get rows i ≡ Some row → is_some row.rank ≡ b) → (i : ℕ) (row : ArcRow) → slice_get rows i ≡ Some row → are_ranked rows ≡ b
all_alike true rows h i row e = all_from (λ (r : ArcRow). is_some r.rank) rows h
all_alike false rows h i row e =
    elim (cases_Bool (are_ranked rows)) [
      | inl all ↦ absurd (true≢false (sym (all_at (λ (r : ArcRow). is_some r.rank) rows all i row e) ∙ h i row e))
      | inr some ↦ some
    ]

module _ (net : Network) (streams : Streams) (c : Certificate) (fits : Fits net streams) (keys : HasKeys net streams.rows c) where
  arcs_said : c.arcs ≡ map (arc_row (values_in c)) (arcs_of net streams.rows)
  arcs_said =
      from_keys (λ (row : ArcRow). row.arc.0) (arc_row (values_in c)) c.arcs
      (λ i row at.
      let rise = subst Rise (sym keys.arcs) (rise_filter (has_arc streams.rows) (range_with_len 0 (length net.arcs)) (rise_range 0 (length net.arcs))) in
      let found = found_one (λ (r : ArcRow). r.arc.0) (λ r. r.arc.0 == row.arc.0) c.arcs i row rise at (eq-eqb row.arc.0 row.arc.0 refl) (λ x h. eqb-true x.arc.0 row.arc.0 h) in
      let all = all_alike keys.ranked c.arcs keys.alike i row at in
      let rank : (if are_ranked c.arcs then Some (rank_in c.arcs row.arc.0) else None) ≡ row.rank =
      rank_of (are_ranked c.arcs) row.rank (rank_in c.arcs row.arc.0) (keys.alike i row at ∙ sym all) (sym (ap (λ o. option_map_or (λ (r : ArcRow). unwrap_or r.rank 0) o 0) found))
      in
      let largest : largest_in c.arcs row.arc.0 ≡ row.largest = ap (λ o. option_map_or (λ (r : ArcRow). r.largest) o 0) found in
      let made : Option ℕ → ℕ → ArcRow = λ r l. record { arc = row.arc; rank = r; largest = l } in
      ap (λ r. made r (largest_in c.arcs row.arc.0)) rank ∙ ap (made row.rank) largest)
      ∙ ap (map (arc_row (values_in c))) keys.arcs

  ports_said : c.ports ≡ map (port_row (values_in c)) (ports_of net streams.rows)
  ports_said =
      let u = values_in c in
      let code : ℕ × ℕ → ℕ = λ p. p.0 * 8 + p.1 in
      let make : ℕ × ℕ → PortRow = λ p. record { arc = record { 0 = p.0 }; prio = p.1; block = u.block p.0 p.1; work = u.work p.0 p.1; rate = u.rate p.0 p.1; delay = u.delay p.0 p.1; size = u.size p.0 p.1 } in
      let codes : map (λ (r : PortRow). r.arc.0 * 8 + r.prio) c.ports ≡ ports_of net streams.rows =
      sym (map_twice code port_key (λ (r : PortRow). r.arc.0 * 8 + r.prio) (λ x. refl) c.ports) ∙ ap (map code) keys.ports
      ∙ map_twice code (λ (k : ℕ). (k / 8, k % 8)) (λ (k : ℕ). k) (λ k. omega arith) (ports_of net streams.rows) ∙ map-id (ports_of net streams.rows)
      in
      let rise = subst Rise (sym codes) (rise_filter (λ place. has_port streams.rows (place / 8) (place % 8)) (range_with_len 0 (length net.arcs * 8)) (rise_range 0 (length net.arcs * 8))) in
      from_keys port_key make c.ports
      (λ i row at.
      let found = found_one (λ (r : PortRow). r.arc.0 * 8 + r.prio) (λ r. r.arc.0 == row.arc.0 && r.prio == row.prio) c.ports i row rise at (and_from _ _ (eq-eqb row.arc.0 row.arc.0 refl) (eq-eqb row.prio row.prio refl))
      (λ x h. let parts = and_parts _ _ h in let a = eqb-true x.arc.0 row.arc.0 parts.0 in let p = eqb-true x.prio row.prio parts.1 in omega (arith, a, p)) in
      ap (λ (o : Option PortRow). record {
        arc = row.arc;
        prio = row.prio;
        block = option_map_or (λ (r : PortRow). r.block) o 0;
        work = option_map_or (λ (r : PortRow). r.work) o 0;
        rate = option_map_or (λ (r : PortRow). r.rate) o 0;
        delay = option_map_or (λ (r : PortRow). r.delay) o 0;
        size = option_map_or (λ (r : PortRow). r.size) o 0;
      }) found)
      ∙ ap (map make) keys.ports ∙ map_twice make (λ (k : ℕ). (k / 8, k % 8)) (port_row u) (λ k. refl) (ports_of net streams.rows)

  hops_said : c.hops ≡ map (hop_row (values_in c)) (hops_of streams.rows)
  hops_said =
      let short : (i : ℕ) (e : ℕ × Row) → slice_get (streams_of streams.rows) i ≡ Some e → length e.1.arcs ≤ 65536 =
      λ i e at. let is = stream_due streams.rows i e at in let most = short_route net streams fits e.1 (contains_at streams.rows e.0 e.1 is.row) in omega (arith, most)
      in
      let codes : map (λ (r : HopRow). r.stream.0 * 65536 + r.hop) c.hops ≡ map hop_code (hops_of streams.rows) =
      sym (map_twice hop_code hop_key (λ (r : HopRow). r.stream.0 * 65536 + r.hop) (λ x. refl) c.hops) ∙ ap (map hop_code) keys.hops
      in
      let rise = subst Rise (sym codes) (rise_hops (λ (r : Row). length r.arcs) (streams_of streams.rows) (rise_numbered is_stream 0 streams.rows) short) in
      from_keys hop_key (hop_row (values_in c)) c.hops
      (λ i row at.
      let found = found_one (λ (r : HopRow). r.stream.0 * 65536 + r.hop) (λ r. r.stream.0 == row.stream.0 && r.hop == row.hop) c.hops i row rise at (and_from _ _ (eq-eqb row.stream.0 row.stream.0 refl) (eq-eqb row.hop row.hop refl))
      (λ x h. let parts = and_parts _ _ h in let s = eqb-true x.stream.0 row.stream.0 parts.0 in let p = eqb-true x.hop row.hop parts.1 in omega (arith, s, p)) in
      ap (λ (o : Option HopRow). record { stream = row.stream; hop = row.hop; burst = option_map_or (λ (r : HopRow). r.burst) o 0 }) found)
      ∙ ap (map (hop_row (values_in c))) keys.hops

  bounds_said : c.bounds ≡ map (bound_row (values_in c)) (streams_of streams.rows)
  bounds_said =
      let u = values_in c in
      let key : StreamId × ℕ → ℕ = λ row. row.0.0 in
      let make : ℕ → StreamId × ℕ = λ s. (record { 0 = s }, u.bound s) in
      let rise = subst Rise (sym keys.bounds) (rise_numbered is_stream 0 streams.rows) in
      from_keys key make c.bounds
      (λ i row at.
      let found = found_one key (λ r. r.0.0 == row.0.0) c.bounds i row rise at (eq-eqb row.0.0 row.0.0 refl) (λ x h. eqb-true x.0.0 row.0.0 h) in
      let same : u.bound row.0.0 ≡ row.1 = ap (λ (o : Option (StreamId × ℕ)). option_map_or (λ (r : StreamId × ℕ). r.1) o 0) found in
      ap (λ (n : ℕ). (row.0, n)) same)
      ∙ ap (map make) keys.bounds ∙ map_twice make (λ (e : ℕ × Row). e.0) (bound_row u) (λ e. refl) (streams_of streams.rows)

  pub keys_said : Says net streams.rows c (values_in c)
  keys_said = record { arcs = arcs_said; ports = ports_said; hops = hops_said; bounds = bounds_said }

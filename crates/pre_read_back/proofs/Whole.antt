-- A certificate with the rows that are due is read back, line by line.
use Rattle.std.proofs.Common.{◌≡◌, ℕ, ◌+◌, ◌^◌, ◌<◌, ◌≤◌, Bool, true, false, List, [], ◌∷◌, ◌++◌, append_assoc, length, map, Some, None}
use Rattle.std.proofs.Common.{Result, Ok, Err, refl, sym, ◌∙◌, ap, subst, arith, slice_get, All, is_some, if◌then◌else◌, eq-eqb}
use Rattle.std.proofs.lemmas.List.{append-nil}
use Rattle.std.proofs.lemmas.Option.{get_or_from_slice_get}
use Rattle.pre_base.specs.declared.numbers.StreamId.{StreamId}
use Rattle.pre_text.specs.Lines.{lines_of}
use Rattle.pre_topo.specs.declared.network.Network.{Network}
use Rattle.pre_streams.specs.declared.rows.Row.{Row}
use Rattle.pre_streams.specs.declared.rows.Streams.{Streams}
use Rattle.pre_streams.specs.Fits.{Fits}
use Rattle.pre_script.proofs.NameWords.{place_inside}
use Rattle.pre_bound.specs.declared.rows.ArcRow.{ArcRow}
use Rattle.pre_bound.specs.declared.rows.PortRow.{PortRow}
use Rattle.pre_bound.specs.declared.rows.HopRow.{HopRow}
use Rattle.pre_bound.specs.declared.certificate.Certificate.{Certificate}
use Rattle.pre_bound.specs.Limits.{limit, ArcIsWithin, PortIsWithin}
use Rattle.pre_bound.specs.Values.{Values}
use Rattle.pre_bound.specs.Places.{arcs_of, ports_of, streams_of, hops_of}
use Rattle.pre_bound.specs.Listed.{Says, arc_row, port_row, hop_row, bound_row}
use Rattle.pre_bound.proofs.Hops.{contains_at}
use Rattle.pre_certify.specs.Text as text
use Rattle.pre_check.specs.declared.reading.CertificateFault.{CertificateFault}
use Rattle.pre_check.specs.declared.reading.CertificateFault.TheVariants.{Fault, Memory}
use Rattle.pre_check.specs.declared.due.Due.{Due}
use Rattle.pre_check.specs.declared.due.Due.TheVariants as due
use Rattle.pre_check.specs.declared.saying.Said.{Said}
use Rattle.pre_check.specs.declared.saying.Said.TheVariants as said
use Rattle.pre_check.specs.Due.{due_lines, due_arcs, due_ports, due_hops, due_bounds, due_port, due_hop}
use Rattle.pre_check.specs.Seen.{Seen, Rows, rows_in, nothing_seen, with_said}
use Rattle.pre_check.specs.Reading.{ReadsAs, certificate_of, ended, until_end}
use Rattle.pre_check.specs.Saying.{end_rule}
use Rattle.pre_check.proofs.Agreeing.{arc_due, port_due, hop_due, stream_due}
use Rattle.pre_check.proofs.Lists.{from_map}
use Rattle.pre_check.proofs.Matching as matching
use Rattle.pre_check.proofs.Rising.{map_twice}
use Rattle.pre_check.proofs.Sizes.{short_route}
use Rattle.pre_read_back.specs.ReadBack.{DueAreReadBack, GivesBack, GoodAreReadBack, ReadAreReadBack}
use Rattle.pre_read_back.proofs.Steps.{Reads, SaysRows, Stands, kept, rest_read, rows_read, seen_after, stands_next, step}
use Rattle.pre_read_back.proofs.Sayings.{RankFits, arc_reads, bound_reads, first_reads, hop_reads, last_reads, port_reads}

each_at : {X : Type 0} (P : X → Type 0) (xs : List X) → All P xs → (i : ℕ) (x : X) → slice_get xs i ≡ Some x → P x
each_at P xs all i x at = subst P (get_or_from_slice_get xs i x x at) (all i x (place_inside xs i x at))

-- what is due for a row

abbrev arc_key : ArcRow → Due
arc_key row = due.Arc row.arc

abbrev port_key : PortRow → Due
port_key row = due.Port row.arc row.prio

abbrev hop_key : HopRow → Due
hop_key row = due.Hop row.stream row.hop

abbrev bound_key : StreamId × ℕ → Due
bound_key row = due.Bound row.0

-- the rows behind those that were seen

arcs_after : (rows : List ArcRow) (seen : Seen) → (seen_after said.Arc seen rows).rows ≡ record seen.rows { arcs = seen.rows.arcs ++ rows }
arcs_after [] seen = ap (λ (l : List ArcRow). record seen.rows { arcs = l }) (sym (append-nil seen.rows.arcs))
arcs_after (row ∷ rows) seen = arcs_after rows (with_said seen (said.Arc row)) ∙ ap (λ (l : List ArcRow). record seen.rows { arcs = l }) (append_assoc seen.rows.arcs (row ∷ []) rows)

ports_after : (rows : List PortRow) (seen : Seen) → (seen_after said.Port seen rows).rows ≡ record seen.rows { ports = seen.rows.ports ++ rows }
ports_after [] seen = ap (λ (l : List PortRow). record seen.rows { ports = l }) (sym (append-nil seen.rows.ports))
ports_after (row ∷ rows) seen = ports_after rows (with_said seen (said.Port row)) ∙ ap (λ (l : List PortRow). record seen.rows { ports = l }) (append_assoc seen.rows.ports (row ∷ []) rows)

hops_after : (rows : List HopRow) (seen : Seen) → (seen_after said.Hop seen rows).rows ≡ record seen.rows { hops = seen.rows.hops ++ rows }
hops_after [] seen = ap (λ (l : List HopRow). record seen.rows { hops = l }) (sym (append-nil seen.rows.hops))
hops_after (row ∷ rows) seen = hops_after rows (with_said seen (said.Hop row)) ∙ ap (λ (l : List HopRow). record seen.rows { hops = l }) (append_assoc seen.rows.hops (row ∷ []) rows)

abbrev bound_said : StreamId × ℕ → Said
bound_said row = said.Bound row.0 row.1

bounds_after : (rows : List (StreamId × ℕ)) (seen : Seen) → (seen_after bound_said seen rows).rows ≡ record seen.rows { bounds = seen.rows.bounds ++ rows }
bounds_after [] seen = ap (λ (l : List (StreamId × ℕ)). record seen.rows { bounds = l }) (sym (append-nil seen.rows.bounds))
bounds_after (row ∷ rows) seen =
    bounds_after rows (with_said seen (bound_said row)) ∙ ap (λ (l : List (StreamId × ℕ)). record seen.rows { bounds = l }) (append_assoc seen.rows.bounds (row ∷ []) rows)

-- where the lines due end behind what was read, the rows are those of the certificate
all_seen : (lines : List Due) (count : ℕ) (seen : Seen) → Stands lines seen.place [] → until_end lines count seen ≡ Ok seen.rows
all_seen lines count seen h =
    let whole : seen.place ≡ length lines = sym h.long ∙ ap length (sym (append-nil h.front)) ∙ ap length (sym h.is) in
    ap (λ b. if b then Ok seen.rows else Err (count + 1, end_rule)) (eq-eqb seen.place (length lines) whole)

module _ (net : Network) (streams : Streams) (c : Certificate) (fits : Fits net streams) (v : Values) (says : Says net streams.rows c v) where
  abbrev lines : List Due
  lines = due_lines net streams.rows

  abbrev version : ℕ
  version = text.version_of c.arcs

  -- the lines due are those of the rows

  abbrev behind_hops : List Due
  behind_hops = map bound_key c.bounds ++ due.End ∷ []

  abbrev behind_ports : List Due
  behind_ports = map hop_key c.hops ++ behind_hops

  abbrev behind_arcs : List Due
  behind_arcs = map port_key c.ports ++ behind_ports

  arcs_due : due_arcs net streams.rows ≡ map arc_key c.arcs
  arcs_due = sym (ap (map arc_key) says.arcs ∙ map_twice arc_key (arc_row v) (λ (a : ℕ). due.Arc (record { 0 = a })) (λ a. refl) (arcs_of net streams.rows))

  ports_due : due_ports net streams.rows ≡ map port_key c.ports
  ports_due = sym (ap (map port_key) says.ports ∙ map_twice port_key (port_row v) due_port (λ k. refl) (ports_of net streams.rows))

  hops_due : due_hops streams.rows ≡ map hop_key c.hops
  hops_due = sym (ap (map hop_key) says.hops ∙ map_twice hop_key (hop_row v) due_hop (λ e. refl) (hops_of streams.rows))

  bounds_due : due_bounds streams.rows ≡ map bound_key c.bounds
  bounds_due = sym (ap (map bound_key) says.bounds ∙ map_twice bound_key (bound_row v) (λ (e : ℕ × Row). due.Bound (record { 0 = e.0 })) (λ e. refl) (streams_of streams.rows))

  lines_due : lines ≡ due.First ∷ (map arc_key c.arcs ++ behind_arcs)
  lines_due = λ k. due.First ∷ (arcs_due k ++ (ports_due k ++ (hops_due k ++ (bounds_due k ++ due.End ∷ []))))

  -- each row is said by its line

  rank_fits : (places : List ℕ) (i a : ℕ) → slice_get places i ≡ Some a → RankFits (text.version_of (map (arc_row v) places)) (if v.ranked then Some (v.rank a) else None)
  rank_fits [] i a at = absurd cc
  rank_fits (b ∷ places) i a at = both v.ranked
    where
      both : (t : Bool) → RankFits (if is_some (if t then Some (v.rank b) else None) then 2 else 3) (if t then Some (v.rank a) else None)
      both true = refl
      both false = refl

  each_arc : (i : ℕ) (row : ArcRow) → slice_get c.arcs i ≡ Some row → Reads net streams version (arc_key row) (text.arc_line net row) (said.Arc row)
  each_arc i row at =
      let made = from_map (arc_row v) (arcs_of net streams.rows) i row (subst (λ l. slice_get l i ≡ Some row) says.arcs at) in
      let within = subst ArcIsWithin (sym made.2) (each_at ArcIsWithin c.arcs c.within.each_arc i row at) in
      let rank = subst (λ l. RankFits (text.version_of l) (if v.ranked then Some (v.rank made.0) else None)) (sym says.arcs) (rank_fits (arcs_of net streams.rows) i made.0 made.1) in
      subst (λ (r : ArcRow). Reads net streams version (arc_key r) (text.arc_line net r) (said.Arc r)) made.2
      (arc_reads net streams version made.0 (if v.ranked then Some (v.rank made.0) else None) (v.largest made.0) (arc_due net streams.rows i made.0 made.1).0 within.rank within.largest rank)

  each_port : (i : ℕ) (row : PortRow) → slice_get c.ports i ≡ Some row → Reads net streams version (port_key row) (text.port_line net row) (said.Port row)
  each_port i row at =
      let made = from_map (port_row v) (ports_of net streams.rows) i row (subst (λ l. slice_get l i ≡ Some row) says.ports at) in
      let within = subst PortIsWithin (sym made.2) (each_at PortIsWithin c.ports c.within.each_port i row at) in
      let found = port_due net streams.rows i made.0 made.1 in
      subst (λ (r : PortRow). Reads net streams version (port_key r) (text.port_line net r) (said.Port r)) made.2 (port_reads net streams version (port_row v made.0) found.inside found.low within)

  each_hop : (i : ℕ) (row : HopRow) → slice_get c.hops i ≡ Some row → Reads net streams version (hop_key row) (text.hop_line streams.rows row) (said.Hop row)
  each_hop i row at =
      let made = from_map (hop_row v) (hops_of streams.rows) i row (subst (λ l. slice_get l i ≡ Some row) says.hops at) in
      let within : (hop_row v made.0).burst ≤ limit = subst (λ (r : HopRow). r.burst ≤ limit) (sym made.2) (each_at (λ (r : HopRow). r.burst ≤ limit) c.hops c.within.each_hop i row at) in
      let found = hop_due streams.rows i made.0 made.1 in
      let short = short_route net streams fits found.row (contains_at streams.rows made.0.0 found.row found.is.row) in
      let few : made.0.1 < 2 ^ 64 = omega (arith, short, found.inside) in
      subst (λ (r : HopRow). Reads net streams version (hop_key r) (text.hop_line streams.rows r) (said.Hop r)) made.2
      (hop_reads net streams made.0.0 found.row fits found.is.row version made.0.1 (v.burst made.0.0 made.0.1) few within)

  each_bound : (i : ℕ) (row : StreamId × ℕ) → slice_get c.bounds i ≡ Some row → Reads net streams version (bound_key row) (text.bound_line streams.rows row) (bound_said row)
  each_bound i row at =
      let made = from_map (bound_row v) (streams_of streams.rows) i row (subst (λ l. slice_get l i ≡ Some row) says.bounds at) in
      let within : (bound_row v made.0).1 ≤ limit
      = subst (λ (r : StreamId × ℕ). r.1 ≤ limit) (sym made.2) (each_at (λ (r : StreamId × ℕ). r.1 ≤ limit) c.bounds c.within.each_bound i row at) in
      let found = stream_due streams.rows i made.0 made.1 in
      subst (λ (r : StreamId × ℕ). Reads net streams version (bound_key r) (text.bound_line streams.rows r) (bound_said r)) made.2
      (bound_reads net streams made.0.0 made.0.1 fits found.row version (v.bound made.0.0) within)

  -- the whole text

  abbrev bounds_text : List ℕ
  bounds_text = text.bound_lines streams.rows c.bounds ++ text.last_line

  abbrev hops_text : List ℕ
  hops_text = text.hop_lines streams.rows c.hops ++ bounds_text

  abbrev ports_text : List ℕ
  ports_text = text.port_lines net c.ports ++ hops_text

  abbrev arcs_text : List ℕ
  arcs_text = text.arc_lines net c.arcs ++ ports_text

  spelled : certificate_of net streams (text.certificate_text net streams.rows c) ≡ Ok (rows_in c)
  spelled =
      let seen1 : Seen = with_said nothing_seen (said.First version) in
      let seen2 : Seen = seen_after said.Arc seen1 c.arcs in
      let seen3 : Seen = seen_after said.Port seen2 c.ports in
      let seen4 : Seen = seen_after said.Hop seen3 c.hops in
      let seen5 : Seen = seen_after bound_said seen4 c.bounds in
      let seen6 : Seen = with_said seen5 said.End in
      let begins : Stands lines 0 (due.First ∷ (map arc_key c.arcs ++ behind_arcs)) = record { front = []; is = lines_due; long = refl } in
      let opens = first_reads net streams 2 c.arcs in
      let first = step net streams lines nothing_seen 1 due.First (text.first_line c.arcs) (said.First version) arcs_text (map arc_key c.arcs ++ behind_arcs) opens begins in
      let stands1 = stands_next lines 0 1 due.First (map arc_key c.arcs ++ behind_arcs) refl begins in
      let says_arcs : SaysRows said.Arc = record { version = λ s x. refl; place = λ s x. refl } in
      let says_ports : SaysRows said.Port = record { version = λ s x. refl; place = λ s x. refl } in
      let says_hops : SaysRows said.Hop = record { version = λ s x. refl; place = λ s x. refl } in
      let says_bounds : SaysRows bound_said = record { version = λ s x. refl; place = λ s x. refl } in
      let arcs = rows_read net streams lines (text.arc_line net) arc_key said.Arc version c.arcs says_arcs each_arc ports_text 2 seen1 behind_arcs refl stands1 in
      let kept2 = kept said.Arc says_arcs c.arcs seen1 in
      let ports = rows_read net streams lines (text.port_line net) port_key said.Port version c.ports says_ports each_port hops_text arcs.next seen2 behind_ports kept2 arcs.stands in
      let kept3 = kept said.Port says_ports c.ports seen2 ∙ kept2 in
      let hops = rows_read net streams lines (text.hop_line streams.rows) hop_key said.Hop version c.hops says_hops each_hop bounds_text ports.next seen3 behind_hops kept3 ports.stands in
      let kept4 = kept said.Hop says_hops c.hops seen3 ∙ kept3 in
      let ends_text = text.last_line in
      let bounds = rows_read net streams lines (text.bound_line streams.rows) bound_key bound_said version c.bounds says_bounds each_bound ends_text hops.next seen4 (due.End ∷ []) kept4 hops.stands in
      let last = step net streams lines seen5 bounds.next due.End text.last_line said.End [] [] (last_reads net streams seen5.version) bounds.stands in
      let ends = stands_next lines seen5.place seen6.place due.End [] refl bounds.stands in
      let all : rest_read net streams lines nothing_seen 1 (text.certificate_text net streams.rows c) ≡ Ok seen6
      = first ∙ arcs.read ∙ ports.read ∙ hops.read ∙ bounds.read ∙ ap (rest_read net streams lines seen5 bounds.next) (sym (append-nil text.last_line)) ∙ last in
      let rows : seen6.rows ≡ rows_in c
      = bounds_after c.bounds seen4
      ∙ ap (λ (r : Rows). record r { bounds = r.bounds ++ c.bounds })
      (hops_after c.hops seen3 ∙ ap (λ (r : Rows). record r { hops = r.hops ++ c.hops })
      (ports_after c.ports seen2 ∙ ap (λ (r : Rows). record r { ports = r.ports ++ c.ports }) (arcs_after c.arcs seen1))) in
      let count = length (lines_of (text.certificate_text net streams.rows c)) in
      ap (ended lines count) all ∙ all_seen lines count seen6 ends ∙ ap (λ (r : Rows). Ok r) rows

given_back : (c : Certificate) (read : Result Rows (ℕ × ℕ)) → read ≡ Ok (rows_in c) → (r : Result Certificate CertificateFault) → ReadsAs r read → GivesBack c r
given_back c (Ok rows) e (Ok d) is = let same : rows ≡ rows_in c = cc in is ∙ same
given_back c (Ok rows) e (Err (Fault line rule)) is = absurd is
given_back c (Ok rows) e (Err Memory) is = refl
given_back c (Err fault) e r is = absurd cc

pub due_read_back : DueAreReadBack
due_read_back net streams c fits has =
    let is = spelled net streams c fits has.0 has.1 in
    record { spells = is; gives = given_back c (certificate_of net streams (text.certificate_text net streams.rows c)) is }

pub good_read_back : GoodAreReadBack
good_read_back net streams c d fits good = (
  due_read_back net streams c fits (good.values, good.says),
  λ same. record {
    values = good.values;
    says = record {
      arcs = ap (λ (r : Rows). r.arcs) same ∙ good.says.arcs;
      ports = ap (λ (r : Rows). r.ports) same ∙ good.says.ports;
      hops = ap (λ (r : Rows). r.hops) same ∙ good.says.hops;
      bounds = ap (λ (r : Rows). r.bounds) same ∙ good.says.bounds;
    };
    order = good.order;
    good = good.good;
  },
)

pub read_read_back : ReadAreReadBack
read_read_back net streams text c fits e = due_read_back net streams c fits (matching.rows_read net streams text (Ok c) fits (subst (ReadsAs (Ok c)) (sym e) refl))

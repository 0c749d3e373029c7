-- What was read so far has the keys of the lines that were due so far.
use Rattle.std.proofs.Common.{◌≡◌, ℕ, zero, suc, ◌+◌, ◌/◌, ◌%◌, Bool, true, false, List, [], ◌∷◌, ◌++◌, Option, Some}
use Rattle.std.proofs.Common.{None, Result, Ok, Err, refl, sym, ◌∙◌, ap, subst, arith, inl, inr, length, map, take, if◌then◌else◌}
use Rattle.std.specs.Prelude.{slice_get, ◌==◌, not, IfOk}
use Rattle.std.specs.List.{flat_map}
use Rattle.std.proofs.lemmas.Bool.{eqb-true}
use Rattle.std.proofs.Math.Seq.{take-length}
use Rattle.std.proofs.lemmas.List.{map-append, map-id, append-nil}
use Rattle.std.proofs.lemmas.List.Concat.{flat_map-append}
use Rattle.pre_base.specs.declared.numbers.StreamId.{StreamId}
use Rattle.pre_text.specs.Lines.{words_of, lines_of, numbered_lines}
use Rattle.pre_topo.specs.declared.network.Network.{Network}
use Rattle.pre_streams.specs.declared.rows.Row.{Row}
use Rattle.pre_streams.specs.declared.rows.Streams.{Streams}
use Rattle.pre_streams.specs.Fits.{Fits}
use Rattle.pre_bound.specs.declared.rows.ArcRow.{ArcRow}
use Rattle.pre_bound.specs.declared.certificate.Certificate.{Certificate}
use Rattle.pre_bound.specs.Places.{arcs_of, ports_of, streams_of, hops_of}
use Rattle.pre_check.specs.declared.due.Due.{Due}
use Rattle.pre_check.specs.declared.due.Due.TheVariants as due
use Rattle.pre_check.specs.declared.reading.CertificateFault.{CertificateFault}
use Rattle.pre_check.specs.declared.saying.Said.{Said}
use Rattle.pre_check.specs.declared.saying.Said.TheVariants as said
use Rattle.pre_check.specs.Lines.{HasRows}
use Rattle.pre_check.specs.Due.{due_lines, due_arcs, due_ports, due_hops, due_bounds, due_port, due_hop}
use Rattle.pre_check.specs.Saying.{said_by, end_rule}
use Rattle.pre_check.specs.Seen.{Seen, Rows, rows_in, nothing_seen, with_said}
use Rattle.pre_text.specs.Words.{is_comment}
use Rattle.pre_check.specs.Reading.{ReadsAs, after_line, after_lines, after_words, by_due, certificate_of, ended, then_after, told, until_end}
use Rattle.pre_check.specs.Said.{values_in}
use Rattle.pre_check.proofs.Lists.{from_append, from_map}
use Rattle.pre_check.proofs.Fitting.{SaidFits, HasVersion, due_of, said_by_fits}
use Rattle.pre_check.proofs.Keys.{HasKeys, port_key, hop_key, port_keys, keys_said}

-- the arcs, the ports, the hops and the streams that lines are due for

abbrev arc_in : Due → List ℕ
arc_in due.First = []
arc_in (due.Arc arc) = arc.0 ∷ []
arc_in (due.Port arc prio) = []
arc_in (due.Hop stream hop) = []
arc_in (due.Bound stream) = []
arc_in due.End = []

abbrev port_in : Due → List (ℕ × ℕ)
port_in due.First = []
port_in (due.Arc arc) = []
port_in (due.Port arc prio) = (arc.0, prio) ∷ []
port_in (due.Hop stream hop) = []
port_in (due.Bound stream) = []
port_in due.End = []

abbrev hop_in : Due → List (ℕ × ℕ)
hop_in due.First = []
hop_in (due.Arc arc) = []
hop_in (due.Port arc prio) = []
hop_in (due.Hop stream hop) = (stream.0, hop) ∷ []
hop_in (due.Bound stream) = []
hop_in due.End = []

abbrev bound_in : Due → List ℕ
bound_in due.First = []
bound_in (due.Arc arc) = []
bound_in (due.Port arc prio) = []
bound_in (due.Hop stream hop) = []
bound_in (due.Bound stream) = stream.0 ∷ []
bound_in due.End = []

take_more : {X : Type 0} (xs : List X) (k : ℕ) (x : X) → slice_get xs k ≡ Some x → take (suc k) xs ≡ take k xs ++ x ∷ []
take_more [] k x e = absurd (cc)
take_more (y ∷ ys) zero x e = let same : y ≡ x = cc in ap (λ z. z ∷ []) same
take_more (y ∷ ys) (suc k) x e = ap (λ l. y ∷ l) (take_more ys k x e)

take_next : {X : Type 0} (xs : List X) (k : ℕ) (x : X) → slice_get xs k ≡ Some x → take (k + 1) xs ≡ take k xs ++ x ∷ []
take_next xs k x e = let eq : suc k ≡ k + 1 = omega arith in subst (λ m. take m xs ≡ take k xs ++ x ∷ []) eq (take_more xs k x e)

-- what one more line is due for
picks : {A : Type 0} (f : Due → List A) (lines : List Due) (k : ℕ) (d : Due) (s : Said) → slice_get lines k ≡ Some d → d ≡ due_of s → flat_map f (take (k + 1) lines) ≡ flat_map f (take k lines) ++ f (due_of s)
picks f lines k d s at is =
    ap (flat_map f) (take_next lines k d at) ∙ flat_map-append f (take k lines) (d ∷ []) ∙ ap (λ l. flat_map f (take k lines) ++ l) (append-nil (f d) ∙ ap f is)

same_keys : {A : Type 0} (f : Due → List A) (lines : List Due) (k : ℕ) (keys : List A) (now : List A) → keys ≡ flat_map f (take k lines) → now ≡ flat_map f (take k lines) ++ [] → keys ≡ now
same_keys f lines k keys now before more = before ∙ sym (more ∙ append-nil (flat_map f (take k lines)))

more_keys : {A R : Type 0} (key : R → A) (rows : List R) (row : R) (before now : List A) → map key rows ≡ before → now ≡ before ++ key row ∷ [] → map key (rows ++ row ∷ []) ≡ now
more_keys key rows row before now is more = map-append key rows (row ∷ []) ∙ ap (λ l. l ++ key row ∷ []) is ∙ sym more

-- what was read so far
record SeenFits (lines : List Due) (seen : Seen) : Type 0 where
  arcs : map (λ (row : ArcRow). row.arc.0) seen.rows.arcs ≡ flat_map arc_in (take seen.place lines)
  ports : map port_key seen.rows.ports ≡ flat_map port_in (take seen.place lines)
  hops : map hop_key seen.rows.hops ≡ flat_map hop_in (take seen.place lines)
  bounds : map (λ (row : StreamId × ℕ). row.0.0) seen.rows.bounds ≡ flat_map bound_in (take seen.place lines)
  ranked : (i : ℕ) (row : ArcRow) → slice_get seen.rows.arcs i ≡ Some row → HasVersion seen.version row

-- the version stands first alone
abbrev pub FirstAlone : List Due → Type 0
FirstAlone lines = (k : ℕ) → slice_get lines k ≡ Some due.First → k ≡ 0

none_mapped : {X Y : Type 0} (f : X → Y) (xs : List X) → map f xs ≡ [] → (i : ℕ) (x : X) → slice_get xs i ≡ Some x → ⊥
none_mapped f [] e i x at = absurd (cc)
none_mapped f (y ∷ xs) e i x at = absurd (cc)

pushed_ranked : (version : ℕ) (rows : List ArcRow) (row : ArcRow) → ((i : ℕ) (r : ArcRow) → slice_get rows i ≡ Some r → HasVersion version r) → HasVersion version row → (i : ℕ) (r : ArcRow) → slice_get (rows ++ row ∷ []) i ≡ Some r → HasVersion version r
pushed_ranked version rows row h has i r e =
    elim (from_append rows (row ∷ []) i r e) [
      | inl before ↦ h before.0 r before.1
      | inr last ↦ the_last last.0 last.1
    ]
  where
    the_last : (j : ℕ) → slice_get (row ∷ []) j ≡ Some r → HasVersion version r
    the_last zero q = let same : row ≡ r = cc in subst (HasVersion version) same has
    the_last (suc j) q = absurd (cc)

nothing_fits : (lines : List Due) → SeenFits lines nothing_seen
nothing_fits lines = record { arcs = refl; ports = refl; hops = refl; bounds = refl; ranked = λ i row e. absurd (cc) }

more_fits : (rows : List Row) (lines : List Due) (seen : Seen) (d : Due) (s : Said) → FirstAlone lines → slice_get lines seen.place ≡ Some d → SaidFits rows seen.version d s → SeenFits lines seen → SeenFits lines (with_said seen s)
more_fits rows lines seen d (said.First version) alone at says fits =
    let s = said.First version in
    let k = seen.place in
    let start : k ≡ 0 = alone k (at ∙ ap (λ z. Some z) says.due_is) in
    record {
      arcs = same_keys arc_in lines k _ _ fits.arcs (picks arc_in lines k d s at says.due_is);
      ports = same_keys port_in lines k _ _ fits.ports (picks port_in lines k d s at says.due_is);
      hops = same_keys hop_in lines k _ _ fits.hops (picks hop_in lines k d s at says.due_is);
      bounds = same_keys bound_in lines k _ _ fits.bounds (picks bound_in lines k d s at says.due_is);
      ranked = λ i row e. absurd (none_mapped (λ (r : ArcRow). r.arc.0) seen.rows.arcs (fits.arcs ∙ ap (λ n. flat_map arc_in (take n lines)) start) i row e);
    }
more_fits rows lines seen d (said.Arc row) alone at says fits =
    let s = said.Arc row in
    let k = seen.place in
    record {
      arcs = more_keys (λ (r : ArcRow). r.arc.0) seen.rows.arcs row _ _ fits.arcs (picks arc_in lines k d s at says.due_is);
      ports = same_keys port_in lines k _ _ fits.ports (picks port_in lines k d s at says.due_is);
      hops = same_keys hop_in lines k _ _ fits.hops (picks hop_in lines k d s at says.due_is);
      bounds = same_keys bound_in lines k _ _ fits.bounds (picks bound_in lines k d s at says.due_is);
      ranked = λ i r e. pushed_ranked seen.version seen.rows.arcs row fits.ranked says.is.1 i r e;
    }
more_fits rows lines seen d (said.Port row) alone at says fits =
    let s = said.Port row in
    let k = seen.place in
    record {
      arcs = same_keys arc_in lines k _ _ fits.arcs (picks arc_in lines k d s at says.due_is);
      ports = more_keys port_key seen.rows.ports row _ _ fits.ports (picks port_in lines k d s at says.due_is);
      hops = same_keys hop_in lines k _ _ fits.hops (picks hop_in lines k d s at says.due_is);
      bounds = same_keys bound_in lines k _ _ fits.bounds (picks bound_in lines k d s at says.due_is);
      ranked = fits.ranked;
    }
more_fits rows lines seen d (said.Hop row) alone at says fits =
    let s = said.Hop row in
    let k = seen.place in
    record {
      arcs = same_keys arc_in lines k _ _ fits.arcs (picks arc_in lines k d s at says.due_is);
      ports = same_keys port_in lines k _ _ fits.ports (picks port_in lines k d s at says.due_is);
      hops = more_keys hop_key seen.rows.hops row _ _ fits.hops (picks hop_in lines k d s at says.due_is);
      bounds = same_keys bound_in lines k _ _ fits.bounds (picks bound_in lines k d s at says.due_is);
      ranked = fits.ranked;
    }
more_fits rows lines seen d (said.Bound stream bound) alone at says fits =
    let s = said.Bound stream bound in
    let k = seen.place in
    let row : StreamId × ℕ = (stream, bound) in
    record {
      arcs = same_keys arc_in lines k _ _ fits.arcs (picks arc_in lines k d s at says.due_is);
      ports = same_keys port_in lines k _ _ fits.ports (picks port_in lines k d s at says.due_is);
      hops = same_keys hop_in lines k _ _ fits.hops (picks hop_in lines k d s at says.due_is);
      bounds = more_keys (λ (r : StreamId × ℕ). r.0.0) seen.rows.bounds row _ _ fits.bounds (picks bound_in lines k d s at says.due_is);
      ranked = fits.ranked;
    }
more_fits rows lines seen d said.End alone at says fits =
    let s = said.End in
    let k = seen.place in
    record {
      arcs = same_keys arc_in lines k _ _ fits.arcs (picks arc_in lines k d s at says.due_is);
      ports = same_keys port_in lines k _ _ fits.ports (picks port_in lines k d s at says.due_is);
      hops = same_keys hop_in lines k _ _ fits.hops (picks hop_in lines k d s at says.due_is);
      bounds = same_keys bound_in lines k _ _ fits.bounds (picks bound_in lines k d s at says.due_is);
      ranked = fits.ranked;
    }

told_fits : (rows : List Row) (lines : List Due) (line : ℕ) (seen now : Seen) (d : Due) (r : Result Said ℕ) → FirstAlone lines → slice_get lines seen.place ≡ Some d → ((s : Said) → r ≡ Ok s → SaidFits rows seen.version d s) → SeenFits lines seen → told line seen r ≡ Ok now → SeenFits lines now
told_fits rows lines line seen now d (Ok s) alone at says fits e = let is : with_said seen s ≡ now = cc in subst (SeenFits lines) is (more_fits rows lines seen d s alone at (says s refl) fits)
told_fits rows lines line seen now d (Err rule) alone at says fits e = absurd cc

due_fits : (net : Network) (streams : Streams) (lines : List Due) (seen now : Seen) (line : ℕ) (first : List ℕ) (words : List (List ℕ)) (o : Option Due) → FirstAlone lines → slice_get lines seen.place ≡ o → SeenFits lines seen → by_due net streams seen line first words o ≡ Ok now → SeenFits lines now
due_fits net streams lines seen now line first words None alone at fits e = absurd cc
due_fits net streams lines seen now line first words (Some d) alone at fits e =
    told_fits streams.rows lines line seen now d (said_by net streams seen.version d first words) alone at (said_by_fits net streams seen.version d first words) fits e

words_fit : (net : Network) (streams : Streams) (lines : List Due) (seen now : Seen) (line : ℕ) (words : List (List ℕ)) → FirstAlone lines → SeenFits lines seen → after_words net streams lines seen line words ≡ Ok now → SeenFits lines now
words_fit net streams lines seen now line [] alone fits e = let is : seen ≡ now = cc in subst (SeenFits lines) is fits
words_fit net streams lines seen now line (first ∷ words) alone fits e = commented (is_comment first) e
  where
    commented : (b : Bool) → (if b then Ok seen else by_due net streams seen line first words (slice_get lines seen.place)) ≡ Ok now → SeenFits lines now
    commented true h = let is : seen ≡ now = cc in subst (SeenFits lines) is fits
    commented false h = due_fits net streams lines seen now line first words (slice_get lines seen.place) alone refl fits h

pub then-Ok : (r : Result Seen (ℕ × ℕ)) (next : Seen → Result Seen (ℕ × ℕ)) (now : Seen) → then_after r next ≡ Ok now → (s : Seen) × (r ≡ Ok s) × (next s ≡ Ok now)
then-Ok (Ok s) next now e = (s, refl, e)
then-Ok (Err fault) next now e = absurd cc

lines_fit : (net : Network) (streams : Streams) (lines : List Due) (seen now : Seen) (text : List (ℕ × List ℕ)) → FirstAlone lines → SeenFits lines seen → after_lines net streams lines seen text ≡ Ok now → SeenFits lines now
lines_fit net streams lines seen now [] alone fits e = let is : seen ≡ now = cc in subst (SeenFits lines) is fits
lines_fit net streams lines seen now (line ∷ text) alone fits e =
    let w = then-Ok (after_line net streams lines seen line) (λ s. after_lines net streams lines s text) now e in
    lines_fit net streams lines w.0 now text alone (words_fit net streams lines seen w.0 line.0 (words_of line.1) alone fits w.1) w.2

-- the whole list

none_picked : {A X : Type 0} (f : Due → List A) (g : X → Due) (xs : List X) → ((x : X) → f (g x) ≡ []) → flat_map f (map g xs) ≡ []
none_picked f g [] h = refl
none_picked f g (x ∷ xs) h = ap (λ l. l ++ flat_map f (map g xs)) (h x) ∙ none_picked f g xs h

all_picked : {A X : Type 0} (f : Due → List A) (g : X → Due) (key : X → A) (xs : List X) → ((x : X) → f (g x) ≡ key x ∷ []) → flat_map f (map g xs) ≡ map key xs
all_picked f g key [] h = refl
all_picked f g key (x ∷ xs) h = ap (λ l. l ++ flat_map f (map g xs)) (h x) ∙ ap (λ l. key x ∷ l) (all_picked f g key xs h)

parts : {A : Type 0} (f : Due → List A) (net : Network) (rows : List Row) → f due.First ≡ [] → f due.End ≡ []
    → flat_map f (due_lines net rows) ≡ flat_map f (due_arcs net rows) ++ (flat_map f (due_ports net rows) ++ (flat_map f (due_hops rows) ++ flat_map f (due_bounds rows)))
parts f net rows first last =
    let a = due_arcs net rows in
    let p = due_ports net rows in
    let h = due_hops rows in
    let b = due_bounds rows in
    let e = due.End ∷ [] in
    ap (λ l. l ++ flat_map f (a ++ (p ++ (h ++ (b ++ e))))) first
    ∙ flat_map-append f a (p ++ (h ++ (b ++ e)))
    ∙ ap (λ l. flat_map f a ++ l)
    (flat_map-append f p (h ++ (b ++ e))
    ∙ ap (λ l. flat_map f p ++ l)
    (flat_map-append f h (b ++ e)
    ∙ ap (λ l. flat_map f h ++ l) (flat_map-append f b e ∙ ap (λ l. flat_map f b ++ (l ++ [])) last ∙ append-nil (flat_map f b))))

arcs_due : (net : Network) (rows : List Row) → flat_map arc_in (due_lines net rows) ≡ arcs_of net rows
arcs_due net rows =
    parts arc_in net rows refl refl
    ∙ ap (λ l. flat_map arc_in (due_arcs net rows) ++ (flat_map arc_in (due_ports net rows) ++ (flat_map arc_in (due_hops rows) ++ l))) (none_picked arc_in (λ (e : ℕ × Row). due.Bound (record { 0 = e.0 })) (streams_of rows) (λ x. refl))
    ∙ ap (λ l. flat_map arc_in (due_arcs net rows) ++ (flat_map arc_in (due_ports net rows) ++ (l ++ []))) (none_picked arc_in due_hop (hops_of rows) (λ x. refl))
    ∙ ap (λ l. flat_map arc_in (due_arcs net rows) ++ (l ++ [])) (none_picked arc_in due_port (ports_of net rows) (λ x. refl))
    ∙ append-nil (flat_map arc_in (due_arcs net rows))
    ∙ all_picked arc_in (λ (n : ℕ). due.Arc (record { 0 = n })) (λ n. n) (arcs_of net rows) (λ x. refl) ∙ map-id (arcs_of net rows)

ports_due : (net : Network) (rows : List Row) → flat_map port_in (due_lines net rows) ≡ port_keys net rows
ports_due net rows =
    parts port_in net rows refl refl
    ∙ ap (λ l. flat_map port_in (due_arcs net rows) ++ (flat_map port_in (due_ports net rows) ++ (flat_map port_in (due_hops rows) ++ l))) (none_picked port_in (λ (e : ℕ × Row). due.Bound (record { 0 = e.0 })) (streams_of rows) (λ x. refl))
    ∙ ap (λ l. flat_map port_in (due_arcs net rows) ++ (flat_map port_in (due_ports net rows) ++ (l ++ []))) (none_picked port_in due_hop (hops_of rows) (λ x. refl))
    ∙ ap (λ l. l ++ (flat_map port_in (due_ports net rows) ++ [])) (none_picked port_in (λ (n : ℕ). due.Arc (record { 0 = n })) (arcs_of net rows) (λ x. refl))
    ∙ append-nil (flat_map port_in (due_ports net rows))
    ∙ all_picked port_in due_port (λ k. (k / 8, k % 8)) (ports_of net rows) (λ x. refl)

hops_due : (net : Network) (rows : List Row) → flat_map hop_in (due_lines net rows) ≡ hops_of rows
hops_due net rows =
    parts hop_in net rows refl refl
    ∙ ap (λ l. flat_map hop_in (due_arcs net rows) ++ (flat_map hop_in (due_ports net rows) ++ (flat_map hop_in (due_hops rows) ++ l))) (none_picked hop_in (λ (e : ℕ × Row). due.Bound (record { 0 = e.0 })) (streams_of rows) (λ x. refl))
    ∙ ap (λ l. flat_map hop_in (due_arcs net rows) ++ (l ++ (flat_map hop_in (due_hops rows) ++ []))) (none_picked hop_in due_port (ports_of net rows) (λ x. refl))
    ∙ ap (λ l. l ++ (flat_map hop_in (due_hops rows) ++ [])) (none_picked hop_in (λ (n : ℕ). due.Arc (record { 0 = n })) (arcs_of net rows) (λ x. refl))
    ∙ append-nil (flat_map hop_in (due_hops rows))
    ∙ all_picked hop_in due_hop (λ (e : ℕ × ℕ). e) (hops_of rows) (λ x. refl) ∙ map-id (hops_of rows)

bounds_due : (net : Network) (rows : List Row) → flat_map bound_in (due_lines net rows) ≡ map (λ e. e.0) (streams_of rows)
bounds_due net rows =
    parts bound_in net rows refl refl
    ∙ ap (λ l. flat_map bound_in (due_arcs net rows) ++ (flat_map bound_in (due_ports net rows) ++ (l ++ flat_map bound_in (due_bounds rows)))) (none_picked bound_in due_hop (hops_of rows) (λ x. refl))
    ∙ ap (λ l. flat_map bound_in (due_arcs net rows) ++ (l ++ flat_map bound_in (due_bounds rows))) (none_picked bound_in due_port (ports_of net rows) (λ x. refl))
    ∙ ap (λ l. l ++ flat_map bound_in (due_bounds rows)) (none_picked bound_in (λ (n : ℕ). due.Arc (record { 0 = n })) (arcs_of net rows) (λ x. refl))
    ∙ all_picked bound_in (λ (e : ℕ × Row). due.Bound (record { 0 = e.0 })) (λ e. e.0) (streams_of rows) (λ x. refl)

-- no line but the first is one of the version

no_first : {X : Type 0} (g : X → Due) (xs : List X) → ((x : X) → g x ≡ due.First → ⊥) → (i : ℕ) → slice_get (map g xs) i ≡ Some due.First → ⊥
no_first g xs h i e = let made = from_map g xs i due.First e in h made.0 made.2

not_behind : (xs ys : List Due) → ((i : ℕ) → slice_get xs i ≡ Some due.First → ⊥) → ((i : ℕ) → slice_get ys i ≡ Some due.First → ⊥) → (i : ℕ) → slice_get (xs ++ ys) i ≡ Some due.First → ⊥
not_behind xs ys f g i e =
    elim (from_append xs ys i due.First e) [
      | inl h ↦ f h.0 h.1
      | inr h ↦ g h.0 h.1
    ]

no_last : (i : ℕ) → slice_get (due.End ∷ []) i ≡ Some due.First → ⊥
no_last zero e = absurd (cc)
no_last (suc i) e = absurd (cc)

pub first_alone : (net : Network) (rows : List Row) → FirstAlone (due_lines net rows)
first_alone net rows zero e = refl
first_alone net rows (suc k) e =
    absurd
    (not_behind (due_arcs net rows) _ (no_first (λ (n : ℕ). due.Arc (record { 0 = n })) (arcs_of net rows) (λ x q. absurd (cc)))
    (not_behind (due_ports net rows) _ (no_first due_port (ports_of net rows) (λ x q. absurd (cc)))
    (not_behind (due_hops rows) _ (no_first due_hop (hops_of rows) (λ x q. absurd (cc)))
    (not_behind (due_bounds rows) (due.End ∷ []) (no_first (λ (e : ℕ × Row). due.Bound (record { 0 = e.0 })) (streams_of rows) (λ x q. absurd (cc))) no_last))) k e)

-- what was read to the end

abbrev end_by : Bool → ℕ → Rows → Result Rows (ℕ × ℕ)
end_by b count rows = if b then Ok rows else Err (count + 1, end_rule)

pub all_read : (lines : List Due) (count : ℕ) (seen : Seen) (rows : Rows) → until_end lines count seen ≡ Ok rows → (take seen.place lines ≡ lines) × (seen.rows ≡ rows)
all_read lines count seen rows e = both (seen.place == length lines) refl e
  where
    both : (b : Bool) → (seen.place == length lines) ≡ b → end_by b count seen.rows ≡ Ok rows → (take seen.place lines ≡ lines) × (seen.rows ≡ rows)
    both true is h = (ap (λ n. take n lines) (eqb-true _ _ is) ∙ take-length lines, cc)
    both false is h = absurd (cc)

pub ended-Ok : (lines : List Due) (count : ℕ) (r : Result Seen (ℕ × ℕ)) (rows : Rows) → ended lines count r ≡ Ok rows → (seen : Seen) × (r ≡ Ok seen) × (until_end lines count seen ≡ Ok rows)
ended-Ok lines count (Ok seen) rows e = (seen, refl, e)
ended-Ok lines count (Err fault) rows e = absurd (cc)

keys_read : (net : Network) (streams : Streams) (text : List ℕ) (c : Certificate) → certificate_of net streams text ≡ Ok (rows_in c) → HasKeys net streams.rows c
keys_read net streams text c e =
    let lines = due_lines net streams.rows in
    let end = ended-Ok lines (length (lines_of text)) (after_lines net streams lines nothing_seen (numbered_lines text)) (rows_in c) e in
    let seen = end.0 in
    let fits = lines_fit net streams lines nothing_seen seen (numbered_lines text) (first_alone net streams.rows) (nothing_fits lines) end.1 in
    let all = all_read lines (length (lines_of text)) seen (rows_in c) end.2 in
    record {
      arcs = ap (λ (r : Rows). map (λ (row : ArcRow). row.arc.0) r.arcs) (sym all.1) ∙ fits.arcs ∙ ap (flat_map arc_in) all.0 ∙ arcs_due net streams.rows;
      ports = ap (λ (r : Rows). map port_key r.ports) (sym all.1) ∙ fits.ports ∙ ap (flat_map port_in) all.0 ∙ ports_due net streams.rows;
      hops = ap (λ (r : Rows). map hop_key r.hops) (sym all.1) ∙ fits.hops ∙ ap (flat_map hop_in) all.0 ∙ hops_due net streams.rows;
      bounds = ap (λ (r : Rows). map (λ (row : StreamId × ℕ). row.0.0) r.bounds) (sym all.1) ∙ fits.bounds ∙ ap (flat_map bound_in) all.0 ∙ bounds_due net streams.rows;
      ranked = not (seen.version == 3);
      alike = λ i row at. fits.ranked i row (subst (λ (r : Rows). slice_get r.arcs i ≡ Some row) (sym all.1) at);
    }

pub rows_read : (net : Network) (streams : Streams) (text : List ℕ) (r : Result Certificate CertificateFault) → Fits net streams → ReadsAs r (certificate_of net streams text) → IfOk r (HasRows net streams.rows)
rows_read net streams text r fits is = read r (certificate_of net streams text) refl is
  where
    read : (q : Result Certificate CertificateFault) (read : Result Rows (ℕ × ℕ)) → certificate_of net streams text ≡ read → ReadsAs q read → IfOk q (HasRows net streams.rows)
    read (Ok c) (Ok rows) e same = (values_in c, keys_said net streams c fits (keys_read net streams text c (e ∙ ap (λ (x : Rows). Ok x) (sym same))))
    read (Ok c) (Err fault) e same = absurd same
    read (Err fault) rows e same = tt

-- A text of version 1 is read as a good certificate exactly where the older frames fit.
use Rattle.std.proofs.Common.{◌≡◌, ℕ, zero, suc, ◌+◌, ◌*◌, ◌<◌, ◌≤◌, Bool, true, false, cond, List, [], ◌∷◌}
use Rattle.std.proofs.Common.{◌++◌, Option, Some, None, Result, Ok, Err, refl, sym, ◌∙◌, ap, subst, arith, inl, inr, length, map}
use Rattle.std.proofs.Common.{if◌then◌else◌}
use Rattle.std.specs.Prelude.{slice_get, filter, codes, not, min}
use Rattle.std.specs.Option.{option_map_or}
use Rattle.std.specs.List.{enumerate_from}
use Rattle.std.proofs.Math.Nat.{min-le_right, mul-le-mul_left}
use Rattle.std.proofs.lemmas.Bool.{cases_Bool, true≢false}
use Rattle.pre_text.specs.Lines.{lines_of, numbered_lines, words_of}
use Rattle.pre_topo.specs.declared.network.Network.{Network}
use Rattle.pre_topo.specs.declared.arcs.Arc.{Arc}
use Rattle.pre_streams.specs.declared.rows.Row.{Row}
use Rattle.pre_streams.specs.declared.rows.Streams.{Streams}
use Rattle.pre_bound.specs.declared.rows.ArcRow.{ArcRow}
use Rattle.pre_bound.specs.declared.certificate.Certificate.{Certificate}
use Rattle.pre_bound.specs.Uses.{has_arc, has_flow, cost_at, cuts, fragment_octets, preemptable_octets, preemptable_at}
use Rattle.pre_bound.specs.Values.{Values}
use Rattle.pre_bound.specs.Clauses.{Block}
use Rattle.pre_bound.specs.Places.{arcs_of}
use Rattle.pre_bound.specs.Listed.{Says, arc_row}
use Rattle.pre_bound.proofs.Hops.{has_arc-from_port}
use Rattle.pre_check.specs.declared.due.Due.{Due}
use Rattle.pre_check.specs.declared.due.Due.TheVariants as due
use Rattle.pre_check.specs.declared.saying.Said.{Said}
use Rattle.pre_check.specs.declared.saying.Said.TheVariants as said
use Rattle.pre_check.specs.Due.{due_lines}
use Rattle.pre_check.specs.Saying.{old_largest, said_by}
use Rattle.pre_check.specs.Seen.{Seen, Rows, rows_in, nothing_seen, with_said}
use Rattle.pre_text.specs.Words.{is_comment}
use Rattle.pre_check.specs.Reading.{after_line, after_lines, after_words, by_due, certificate_of, told}
use Rattle.pre_check.specs.Migration.{is_kept, IsVersionOne, old_preemptable, OldBlock, Migrates}
use Rattle.pre_check.proofs.Lists.{at_map, from_append}
use Rattle.pre_check.proofs.Agreeing.{has_arc_due}
use Rattle.pre_check.proofs.Fitting.{SaidFits, said_by_fits}
use Rattle.pre_check.proofs.Matching.{FirstAlone, first_alone, then-Ok, ended-Ok, all_read}

record OldSeen (rows : List Row) (seen : Seen) : Type 0 where
  version : seen.version ≡ 1
  begun : 0 < seen.place
  largest : (i : ℕ) (row : ArcRow) → slice_get seen.rows.arcs i ≡ Some row → row.largest ≡ old_largest rows row.arc.0

pushed_old : (rows : List Row) (arcs : List ArcRow) (row : ArcRow) → ((i : ℕ) (r : ArcRow) → slice_get arcs i ≡ Some r → r.largest ≡ old_largest rows r.arc.0) → row.largest ≡ old_largest rows row.arc.0
    → (i : ℕ) (r : ArcRow) → slice_get (arcs ++ row ∷ []) i ≡ Some r → r.largest ≡ old_largest rows r.arc.0
pushed_old rows arcs row h is i r e =
    elim (from_append arcs (row ∷ []) i r e) [
      | inl before ↦ h before.0 r before.1
      | inr last ↦ the_last last.0 last.1
    ]
  where
    the_last : (j : ℕ) → slice_get (row ∷ []) j ≡ Some r → r.largest ≡ old_largest rows r.arc.0
    the_last zero q = let same : row ≡ r = cc in subst (λ (x : ArcRow). x.largest ≡ old_largest rows x.arc.0) same is
    the_last (suc j) q = absurd (cc)

more_old : (rows : List Row) (lines : List Due) (seen : Seen) (d : Due) (s : Said) → FirstAlone lines → slice_get lines seen.place ≡ Some d → SaidFits rows seen.version d s → OldSeen rows seen → OldSeen rows (with_said seen s)
more_old rows lines seen d (said.First version) alone at says so = absurd (let start = alone seen.place (at ∙ ap (λ z. Some z) says.due_is) in let begun = so.begun in omega (arith, start, begun))
more_old rows lines seen d (said.Arc row) alone at says so = record { version = so.version; begun = omega arith; largest = pushed_old rows seen.rows.arcs row so.largest (says.is.2 so.version) }
more_old rows lines seen d (said.Port row) alone at says so = record { version = so.version; begun = omega arith; largest = so.largest }
more_old rows lines seen d (said.Hop row) alone at says so = record { version = so.version; begun = omega arith; largest = so.largest }
more_old rows lines seen d (said.Bound stream bound) alone at says so = record { version = so.version; begun = omega arith; largest = so.largest }
more_old rows lines seen d said.End alone at says so = record { version = so.version; begun = omega arith; largest = so.largest }

told_old : (rows : List Row) (lines : List Due) (line : ℕ) (seen now : Seen) (d : Due) (r : Result Said ℕ) → FirstAlone lines → slice_get lines seen.place ≡ Some d → ((s : Said) → r ≡ Ok s → SaidFits rows seen.version d s) → OldSeen rows seen → told line seen r ≡ Ok now → OldSeen rows now
told_old rows lines line seen now d (Ok s) alone at says so e = let is : with_said seen s ≡ now = cc in subst (OldSeen rows) is (more_old rows lines seen d s alone at (says s refl) so)
told_old rows lines line seen now d (Err rule) alone at says so e = absurd cc

due_old : (net : Network) (streams : Streams) (lines : List Due) (seen now : Seen) (line : ℕ) (first : List ℕ) (words : List (List ℕ)) (o : Option Due) → FirstAlone lines → slice_get lines seen.place ≡ o → OldSeen streams.rows seen → by_due net streams seen line first words o ≡ Ok now → OldSeen streams.rows now
due_old net streams lines seen now line first words None alone at so e = absurd cc
due_old net streams lines seen now line first words (Some d) alone at so e =
    told_old streams.rows lines line seen now d (said_by net streams seen.version d first words) alone at (said_by_fits net streams seen.version d first words) so e

words_old : (net : Network) (streams : Streams) (lines : List Due) (seen now : Seen) (line : ℕ) (words : List (List ℕ)) → FirstAlone lines → OldSeen streams.rows seen → after_words net streams lines seen line words ≡ Ok now → OldSeen streams.rows now
words_old net streams lines seen now line [] alone so e = let is : seen ≡ now = cc in subst (OldSeen streams.rows) is so
words_old net streams lines seen now line (first ∷ words) alone so e = commented (is_comment first) e
  where
    commented : (b : Bool) → (if b then Ok seen else by_due net streams seen line first words (slice_get lines seen.place)) ≡ Ok now → OldSeen streams.rows now
    commented true h = let is : seen ≡ now = cc in subst (OldSeen streams.rows) is so
    commented false h = due_old net streams lines seen now line first words (slice_get lines seen.place) alone refl so h

lines_old : (net : Network) (streams : Streams) (lines : List Due) (seen now : Seen) (text : List (ℕ × List ℕ)) → FirstAlone lines → OldSeen streams.rows seen → after_lines net streams lines seen text ≡ Ok now → OldSeen streams.rows now
lines_old net streams lines seen now [] alone so e = let is : seen ≡ now = cc in subst (OldSeen streams.rows) is so
lines_old net streams lines seen now (line ∷ text) alone so e =
    let w = then-Ok (after_line net streams lines seen line) (λ s. after_lines net streams lines s text) now e in
    lines_old net streams lines w.0 now text alone (words_old net streams lines seen w.0 line.0 (words_of line.1) alone so w.1) w.2

-- a line that is skipped
skipped : (net : Network) (streams : Streams) (lines : List Due) (seen : Seen) (line : ℕ) (words : List (List ℕ)) → is_kept words ≡ false → after_words net streams lines seen line words ≡ Ok seen
skipped net streams lines seen line [] e = refl
skipped net streams lines seen line (first ∷ words) e = commented (is_comment first) e
  where
    commented : (b : Bool) → not b ≡ false → (if b then Ok seen else by_due net streams seen line first words (slice_get lines seen.place)) ≡ Ok seen
    commented true h = refl
    commented false h = absurd (true≢false h)

abbrev version_one : List (List ℕ)
version_one = codes "certificate" ∷ codes "1" ∷ []

-- the line of version 1
first_line : (net : Network) (streams : Streams) (lines : List Due) (line : ℕ) → slice_get lines 0 ≡ Some due.First → after_words net streams lines nothing_seen line version_one ≡ Ok (with_said nothing_seen (said.First 1))
first_line net streams lines line at = ap (λ o. by_due net streams nothing_seen line (codes "certificate") (codes "1" ∷ []) o) at

old_begun : (rows : List Row) → OldSeen rows (with_said nothing_seen (said.First 1))
old_begun rows = record { version = refl; begun = omega arith; largest = λ i row e. absurd (cc) }

first_kept : (words : List (List ℕ)) (further : List (List (List ℕ))) (w : List (List ℕ)) → is_kept words ≡ true → slice_get (filter is_kept (words ∷ further)) 0 ≡ Some w → words ≡ w
first_kept words further w on e =
    let head : Some words ≡ Some w = subst (λ b. slice_get (cond b (words ∷ filter is_kept further) (filter is_kept further)) 0 ≡ Some w) on e in
    cc

all_old : (net : Network) (streams : Streams) (lines : List Due) (now : Seen) (text : List (ℕ × List ℕ)) → FirstAlone lines → slice_get lines 0 ≡ Some due.First
    → slice_get (filter is_kept (map (λ (l : ℕ × List ℕ). words_of l.1) text)) 0 ≡ Some version_one → after_lines net streams lines nothing_seen text ≡ Ok now → OldSeen streams.rows now
all_old net streams lines now [] alone at one e = absurd (cc)
all_old net streams lines now (line ∷ text) alone at one e =
    let rest = map (λ (l : ℕ × List ℕ). words_of l.1) text in
    let w = then-Ok (after_line net streams lines nothing_seen line) (λ s. after_lines net streams lines s text) now e in
    elim (cases_Bool (is_kept (words_of line.1))) [
      | inl on ↦
          let is = first_kept (words_of line.1) rest version_one on one in
          let first : Ok w.0 ≡ Ok (with_said nothing_seen (said.First 1)) = sym w.1 ∙ ap (after_words net streams lines nothing_seen line.0) is ∙ first_line net streams lines line.0 at in
          let same : with_said nothing_seen (said.First 1) ≡ w.0 = cc in
          lines_old net streams lines w.0 now text alone (subst (OldSeen streams.rows) same (old_begun streams.rows)) w.2
      | inr off ↦
          let skip : Ok w.0 ≡ Ok nothing_seen = sym w.1 ∙ skipped net streams lines nothing_seen line.0 (words_of line.1) off in
          let same : w.0 ≡ nothing_seen = cc in
          all_old net streams lines now text alone at (subst (λ b. slice_get (cond b (words_of line.1 ∷ filter is_kept rest) (filter is_kept rest)) 0 ≡ Some version_one) off one)
          (subst (λ s. after_lines net streams lines s text ≡ Ok now) same w.2)
    ]

unnumbered : (n : ℕ) (xs : List (List ℕ)) → map (λ (l : ℕ × List ℕ). words_of l.1) (enumerate_from n xs) ≡ map words_of xs
unnumbered n [] = refl
unnumbered n (x ∷ xs) = ap (λ l. words_of x ∷ l) (unnumbered (n + 1) xs)

-- the greatest preemptable frames that a text of version 1 is read with
read_old : (net : Network) (streams : Streams) (text : List ℕ) (c : Certificate) → IsVersionOne text → certificate_of net streams text ≡ Ok (rows_in c) → (i : ℕ) (row : ArcRow) → slice_get c.arcs i ≡ Some row → row.largest ≡ old_largest streams.rows row.arc.0
read_old net streams text c one e i row at =
    let lines = due_lines net streams.rows in
    let end = ended-Ok lines (length (lines_of text)) (after_lines net streams lines nothing_seen (numbered_lines text)) (rows_in c) e in
    let all = all_read lines (length (lines_of text)) end.0 (rows_in c) end.2 in
    let kept = subst (λ l. slice_get (filter is_kept l) 0 ≡ Some version_one) (sym (unnumbered 1 (lines_of text))) one in
    let old = all_old net streams lines end.0 (numbered_lines text) (first_alone net streams.rows) refl kept end.1 in
    old.largest i row (subst (λ (r : Rows). slice_get r.arcs i ≡ Some row) (sym all.1) at)

said_old : (net : Network) (streams : Streams) (c : Certificate) (v : Values) → Says net streams.rows c v → ((i : ℕ) (row : ArcRow) → slice_get c.arcs i ≡ Some row → row.largest ≡ old_largest streams.rows row.arc.0)
    → (arc : ℕ) → arc < length net.arcs → has_arc streams.rows arc ≡ true → v.largest arc ≡ old_largest streams.rows arc
said_old net streams c v says old arc inside used =
    let place = has_arc_due net streams.rows arc inside used in
    old place.0 (arc_row v arc) (subst (λ (l : List ArcRow). slice_get l place.0 ≡ Some (arc_row v arc)) (sym says.arcs) (at_map (arc_row v) (arcs_of net streams.rows) place.0 arc place.1))

-- what preemptable frames hold an arc for by the newer rules is no more
no_longer : (a : Arc) → preemptable_octets a 1522 ≤ (if cuts a.mode a.policy then fragment_octets a else 1542)
no_longer a = both (cuts a.mode a.policy)
  where
    both : (b : Bool) → (if b then min 1542 (fragment_octets a) else 1542) ≤ (if b then fragment_octets a else 1542)
    both true = min-le_right 1542 (fragment_octets a)
    both false = omega arith

no_longer_at : (o : Option Arc) → option_map_or (λ a. preemptable_octets a 1522) o 0 ≤ option_map_or (λ a. if cuts a.mode a.policy then fragment_octets a else 1542) o 0
no_longer_at None = omega arith
no_longer_at (Some a) = no_longer a

none_holds : (o : Option Arc) → option_map_or (λ a. preemptable_octets a 0) o 0 ≡ 0
none_holds None = refl
none_holds (Some a) = refl

old_term : (net : Network) (rows : List Row) (arc : ℕ) → preemptable_at net arc (old_largest rows arc) ≤ old_preemptable net rows arc
old_term net rows arc = both (has_flow rows arc)
  where
    both : (b : Bool) → preemptable_at net arc (if b then 1522 else 0) ≤ (if b then option_map_or (λ a. if cuts a.mode a.policy then fragment_octets a else 1542) (slice_get net.arcs arc) 0 else 0)
    both true = no_longer_at (slice_get net.arcs arc)
    both false = let none = none_holds (slice_get net.arcs arc) in omega (arith, none)

block_now : (net : Network) (rows : List Row) (v : Values) (arc prio : ℕ) → v.largest arc ≡ old_largest rows arc → OldBlock net rows v arc prio → Block net rows v arc prio
block_now net rows v arc prio same old =
    let product = mul-le-mul_left (cost_at net arc) (old_term net rows arc) in
    let held = old.preemptable in
    let now : cost_at net arc * preemptable_at net arc (old_largest rows arc) ≤ v.block arc prio = omega (arith, product, held) in
    record { frame = old.frame; lower = old.lower; preemptable = subst (λ n. cost_at net arc * preemptable_at net arc n ≤ v.block arc prio) (sym same) now }

old_with_flow : (rows : List Row) (arc : ℕ) → has_flow rows arc ≡ true → old_largest rows arc ≡ 1522
old_with_flow rows arc flow = ap (λ b. if b then 1522 else 0) flow

pub migrates : Migrates
migrates net streams text c v fits prios one e says were =
    let old = read_old net streams text c one e in (
      λ good arc inside used flow.
          let said = said_old net streams c good.values good.says old arc inside used ∙ old_with_flow streams.rows arc flow in
          let most = good.good.largest arc inside used flow in
          omega (arith, said, most),
      λ fit. record {
        values = v;
        says = says;
        order = λ _. were.order;
        good = record {
          load = were.load;
          first_burst = were.first_burst;
          block = λ arc prio inside low port. block_now net streams.rows v arc prio (said_old net streams c v says old arc inside (has_arc-from_port streams.rows arc prio low port)) (were.block arc prio inside low port);
          work = were.work;
          delay = were.delay;
          growth = were.growth;
          size = were.size;
          ring = were.ring;
          bound = were.bound;
          largest = λ arc inside used flow.
              let said = said_old net streams c v says old arc inside used ∙ old_with_flow streams.rows arc flow in
              let most = fit arc inside used flow in
              omega (arith, said, most);
        };
      },
    )

-- The sends of a script that was read stand in the order of their lines.
use Rattle.std.proofs.Common.{◌≡◌, ℕ, ◌+◌, ◌<◌, Bool, true, false, ◌&&◌, nat_le, nat_lt, codes, List, [], ◌∷◌, length}
use Rattle.std.proofs.Common.{Option, Some, None, Result, Ok, Err, refl, subst, arith, if◌then◌else◌}
use Rattle.std.specs.Prelude.{All, AllPairs, is_some, slice_get}
use Rattle.std.specs.List.{enumerate_from}
use Rattle.std.specs.Str.{bytes_eq}
use Rattle.std.proofs.lemmas.List.Elements.{All-push}
use Rattle.std.proofs.lemmas.List.Quantifiers.{all_pairs_push}
use Rattle.pre_base.specs.declared.numbers.Tick.{Tick}
use Rattle.pre_text.specs.Words.{number_of, pairs_within, is_comment}
use Rattle.pre_text.specs.Lines.{words_of, numbered_lines, lines_of}
use Rattle.pre_topo.specs.declared.network.Network.{Network}
use Rattle.pre_topo.specs.Named.{arc_named}
use Rattle.pre_streams.specs.declared.rows.Streams.{Streams}
use Rattle.pre_streams.specs.Named.{row_named}
use Rattle.pre_script.specs.declared.scripts.Script.{Script}
use Rattle.pre_script.specs.declared.scripts.SendLine.{SendLine}
use Rattle.pre_script.specs.declared.saying.Said.{Said}
use Rattle.pre_script.specs.declared.saying.Said.TheVariants as said
use Rattle.pre_script.specs.Rules.{given, kept, horizon, horizon_rule, max_damaged, max_damages, max_losses, max_sends, max_sets, mode_rule}
use Rattle.pre_script.specs.Rules.{name_rule, number_rule, order_rule, size_rule, word_rule, count_rule, after_rule}
use Rattle.pre_script.specs.Seen.{Seen, nothing_seen, with_said, comes_last}
use Rattle.pre_script.specs.Saying.{one, two, three, four, said_by, send_said, set_said, setting_at, lose_said, damage_said, until_said}
use Rattle.pre_script.specs.Reading.{after_line, after_lines, after_words, ended, script_of, told, then_after, until_end}

abbrev pub LinesRise : List SendLine → Type 0
LinesRise sends = AllPairs (λ a b. a.line < b.line) sends

-- what is said of a send is said of this line
abbrev IsOfLine : ℕ → Said → Type 0
IsOfLine line (said.Send s) = s.line ≡ line
IsOfLine line _ = Unit {0}

-- ---- one line

given_ok : {A B : Type 0} (o : Option A) (rule : ℕ) (next : A → Result B ℕ) (r : B) → given o rule next ≡ Ok r → (x : A) × (next x ≡ Ok r)
given_ok None rule next r e = absurd cc
given_ok (Some x) rule next r e = (x, e)

kept_ok : {B : Type 0} (b : Bool) (rule : ℕ) (next : Result B ℕ) (r : B) → kept b rule next ≡ Ok r → next ≡ Ok r
kept_ok true rule next r e = e
kept_ok false rule next r e = absurd cc

if_ok : {B : Type 0} (P : B → Type 0) (b : Bool) (x y : Result B ℕ) → ((s : B) → x ≡ Ok s → P s) → ((s : B) → y ≡ Ok s → P s) → (s : B) → (if b then x else y) ≡ Ok s → P s
if_ok P true x y f g s e = f s e
if_ok P false x y f g s e = g s e

none_ok : {B : Type 0} (P : B → Type 0) (rule : ℕ) (s : B) → Err rule ≡ Ok s → P s
none_ok P rule s e = absurd cc

module _ (net : Network) (streams : Streams) (seen : Seen) (line : ℕ) where
  send_of_line : (words : List (List ℕ)) (s : Said) → send_said streams seen line words ≡ Ok s → IsOfLine line s
  send_of_line words s e =
      let w = given_ok (three words) word_rule _ s e in
      let tick = given_ok (number_of w.0.0) number_rule _ s w.1 in
      let size = given_ok (number_of w.0.2) number_rule _ s tick.1 in
      let stream = given_ok (row_named streams w.0.1) name_rule _ s size.1 in
      let row = given_ok (slice_get streams.rows stream.0) name_rule _ s stream.1 in
      let order = kept_ok (comes_last seen tick.0) order_rule _ s row.1 in
      let sized = kept_ok (nat_le 64 size.0 && nat_le size.0 row.0.max) size_rule _ s order in
      let few = kept_ok (nat_lt (length seen.sends) max_sends) count_rule _ s sized in
      let is : said.Send (record { send = record { tick = record { 0 = tick.0 }; stream = record { 0 = stream.0 }; size = size.0 }; line = line }) ≡ s = cc few in
      subst (IsOfLine line) is refl

  set_of_line : (words : List (List ℕ)) (s : Said) → set_said net seen words ≡ Ok s → IsOfLine line s
  set_of_line words s e =
      let w = given_ok (three words) word_rule _ s e in
      let tick = given_ok (number_of w.0.0) number_rule _ s w.1 in
      let arc = given_ok (arc_named net w.0.1) name_rule _ s tick.1 in
      let order = kept_ok (comes_last seen tick.0) order_rule _ s arc.1 in
      let value = given_ok (setting_at net arc.0 w.0.2) mode_rule _ s order in
      let few = kept_ok (nat_lt (length seen.sets) max_sets) count_rule _ s value.1 in
      let is : said.Set (record { tick = record { 0 = tick.0 }; arc = record { 0 = arc.0 }; value = value.0 }) ≡ s = cc few in
      subst (IsOfLine line) is tt

  loss_of_line : (words : List (List ℕ)) (s : Said) → lose_said net seen words ≡ Ok s → IsOfLine line s
  loss_of_line words s e =
      let w = given_ok (two words) word_rule _ s e in
      let ordinal = given_ok (number_of w.0.1) number_rule _ s w.1 in
      let arc = given_ok (arc_named net w.0.0) name_rule _ s ordinal.1 in
      let few = kept_ok (nat_lt (length seen.losses) max_losses) count_rule _ s arc.1 in
      let is : said.Lose (record { arc = record { 0 = arc.0 }; ordinal = ordinal.0 }) ≡ s = cc few in
      subst (IsOfLine line) is tt

  damage_of_line : (words : List (List ℕ)) (s : Said) → damage_said net seen words ≡ Ok s → IsOfLine line s
  damage_of_line words s e =
      let w = given_ok (four words) word_rule _ s e in
      let ordinal = given_ok (number_of w.0.1) number_rule _ s w.1 in
      let offset = given_ok (number_of w.0.2) number_rule _ s ordinal.1 in
      let octets = given_ok (pairs_within max_damaged w.0.3) number_rule _ s offset.1 in
      let arc = given_ok (arc_named net w.0.0) name_rule _ s octets.1 in
      let few = kept_ok (nat_lt (length seen.damages) max_damages) count_rule _ s arc.1 in
      let is : said.Damage (record { arc = record { 0 = arc.0 }; ordinal = ordinal.0; offset = offset.0; octets = octets.0 }) ≡ s = cc few in
      subst (IsOfLine line) is tt

  until_of_line : (words : List (List ℕ)) (s : Said) → until_said net words ≡ Ok s → IsOfLine line s
  until_of_line words s e =
      let w = given_ok (one words) word_rule _ s e in
      let tick = given_ok (number_of w.0) number_rule _ s w.1 in
      let early = kept_ok (nat_le tick.0 (horizon net)) horizon_rule _ s tick.1 in
      let is : said.Until (record { 0 = tick.0 }) ≡ s = cc early in
      subst (IsOfLine line) is tt

  said_of_line : (first : List ℕ) (words : List (List ℕ)) (s : Said) → said_by net streams seen line first words ≡ Ok s → IsOfLine line s
  said_of_line first words =
      if_ok (IsOfLine line) (bytes_eq first (codes "send")) _ _ (send_of_line words)
      (if_ok (IsOfLine line) (bytes_eq first (codes "set")) _ _ (set_of_line words)
      (if_ok (IsOfLine line) (bytes_eq first (codes "lose")) _ _ (loss_of_line words)
      (if_ok (IsOfLine line) (bytes_eq first (codes "damage")) _ _ (damage_of_line words)
      (if_ok (IsOfLine line) (bytes_eq first (codes "until")) _ _ (until_of_line words) (none_ok (IsOfLine line) word_rule)))))

-- ---- line by line

-- the sends so far stand in the order of their lines, which are before this one
record RiseTo (line : ℕ) (seen : Seen) : Type 0 where
  rise : LinesRise seen.sends
  before : All (λ s. s.line < line) seen.sends

later : (line : ℕ) (seen : Seen) → RiseTo line seen → RiseTo (line + 1) seen
later line seen r = record { rise = r.rise; before = λ k d lt. let less = r.before k d lt in omega (arith, less) }

more_rise : (line : ℕ) (seen : Seen) (s : Said) → RiseTo line seen → IsOfLine line s → RiseTo (line + 1) (with_said seen s)
more_rise line seen (said.Send s) r is =
    let at : s.line ≡ line = is in
    record {
      rise = all_pairs_push (λ a b. a.line < b.line) seen.sends s r.rise (λ k d lt. let less = r.before k d lt in omega (arith, less, at));
      before = All-push (λ x. x.line < line + 1) seen.sends s (later line seen r).before (omega (arith, at));
    }
more_rise line seen (said.Set s) r is = record { rise = r.rise; before = (later line seen r).before }
more_rise line seen (said.Lose s) r is = record { rise = r.rise; before = (later line seen r).before }
more_rise line seen (said.Damage s) r is = record { rise = r.rise; before = (later line seen r).before }
more_rise line seen (said.Until tick) r is = record { rise = r.rise; before = (later line seen r).before }

told_rise : (line : ℕ) (seen : Seen) (r : Result Said ℕ) (now : Seen) → RiseTo line seen → ((s : Said) → r ≡ Ok s → IsOfLine line s) → told line seen r ≡ Ok now → RiseTo (line + 1) now
told_rise line seen (Ok s) now rises says e = let is : with_said seen s ≡ now = cc in subst (RiseTo (line + 1)) is (more_rise line seen s rises (says s refl))
told_rise line seen (Err rule) now rises says e = absurd cc

words_rise : (net : Network) (streams : Streams) (seen : Seen) (line : ℕ) (words : List (List ℕ)) (now : Seen) → RiseTo line seen → after_words net streams seen line words ≡ Ok now
    → RiseTo (line + 1) now
words_rise net streams seen line [] now rises e = let is : seen ≡ now = cc in subst (RiseTo (line + 1)) is (later line seen rises)
words_rise net streams seen line (first ∷ words) now rises e = commented (is_comment first) e
  where
    unended : (b : Bool) → (if b then Err (line, after_rule) else told line seen (said_by net streams seen line first words)) ≡ Ok now → RiseTo (line + 1) now
    unended true h = absurd cc
    unended false h = told_rise line seen (said_by net streams seen line first words) now rises (said_of_line net streams seen line first words) h

    commented : (b : Bool) → (if b then Ok seen else if is_some seen.until then Err (line, after_rule) else told line seen (said_by net streams seen line first words)) ≡ Ok now → RiseTo (line + 1) now
    commented true h = let is : seen ≡ now = cc in subst (RiseTo (line + 1)) is (later line seen rises)
    commented false h = unended (is_some seen.until) h

then_rise : (r : Result Seen (ℕ × ℕ)) (next : Seen → Result Seen (ℕ × ℕ)) (now : Seen) → then_after r next ≡ Ok now → (s : Seen) × (r ≡ Ok s) × (next s ≡ Ok now)
then_rise (Ok s) next now e = (s, refl, e)
then_rise (Err fault) next now e = absurd cc

all_rise : (net : Network) (streams : Streams) (seen : Seen) (line : ℕ) (lines : List (List ℕ)) (now : Seen) → RiseTo line seen
    → after_lines net streams seen (enumerate_from line lines) ≡ Ok now → LinesRise now.sends
all_rise net streams seen line [] now rises e = let is : seen ≡ now = cc in subst (λ (s : Seen). LinesRise s.sends) is rises.rise
all_rise net streams seen line (x ∷ lines) now rises e =
    let w = then_rise (after_line net streams seen (line, x)) (λ s. after_lines net streams s (enumerate_from (line + 1) lines)) now e in
    all_rise net streams w.0 (line + 1) lines now (words_rise net streams seen line (words_of x) w.0 rises w.1) w.2

ended_rise : (count : ℕ) (r : Result Seen (ℕ × ℕ)) (script : Script) → ((seen : Seen) → r ≡ Ok seen → LinesRise seen.sends) → ended count r ≡ Ok script → LinesRise script.sends
ended_rise count (Ok seen) script f e = until seen.until e
  where
    until : (o : Option Tick) → until_end count seen o ≡ Ok script → LinesRise script.sends
    until None h = absurd cc
    until (Some tick) h =
        let same : record { sends = seen.sends; sets = seen.sets; losses = seen.losses; damages = seen.damages; until = tick } ≡ script = cc in
        subst (λ (s : Script). LinesRise s.sends) same (f seen refl)
ended_rise count (Err fault) script f e = absurd cc

nothing_rises : RiseTo 1 nothing_seen
nothing_rises = record { rise = λ i j d lt past. absurd (omega arith); before = λ k d lt. absurd (omega arith) }

pub lines_rise : (net : Network) (streams : Streams) (text : List ℕ) (script : Script) → script_of net streams text ≡ Ok script → LinesRise script.sends
lines_rise net streams text script e =
    ended_rise (length (lines_of text)) (after_lines net streams nothing_seen (numbered_lines text)) script (λ seen h. all_rise net streams nothing_seen 1 (lines_of text) seen nothing_rises h) e

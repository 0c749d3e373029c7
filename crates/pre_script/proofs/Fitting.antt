-- A script that was read fits.
use Rattle.std.proofs.Common.{◌≡◌, ℕ, ◌^◌, ◌<◌, ◌≤◌, Bool, true, false, ◌&&◌, nat_le, nat_lt, List, [], ◌∷◌, length}
use Rattle.std.proofs.Common.{get_or, Option, Some, None, Result, Ok, Err, IfOk, All, AllPairs, refl, sym, subst, arith, slice_get, is_some}
use Rattle.std.proofs.Common.{if◌then◌else◌, codes}
use Rattle.std.specs.List.{list_all}
use Rattle.std.specs.Str.{bytes_eq}
use Rattle.std.proofs.lemmas.List.Elements.{All-push}
use Rattle.std.proofs.lemmas.List.Quantifiers.{all_pairs_push}
use Rattle.std.proofs.lemmas.List.Sums.{AllPass-from_list_all}
use Rattle.std.proofs.lemmas.List.{length_push}
use Rattle.pre_text.specs.Words.{number_of, pairs_within, is_comment}
use Rattle.pre_text.specs.Lines.{words_of, numbered_lines, lines_of}
use Rattle.pre_base.specs.declared.numbers.Tick.{Tick}
use Rattle.pre_topo.specs.declared.network.Network.{Network}
use Rattle.pre_topo.specs.Named.{arc_named}
use Rattle.pre_streams.specs.declared.rows.Row.{Row}
use Rattle.pre_streams.specs.declared.rows.Streams.{Streams}
use Rattle.pre_streams.specs.Named.{row_named}
use Rattle.pre_script.specs.declared.scripts.Script.{Script}
use Rattle.pre_script.specs.declared.scripts.ScriptFault.{ScriptFault}
use Rattle.pre_script.specs.declared.scripts.SendLine.{SendLine}
use Rattle.pre_script.specs.declared.scripts.SetLine.{SetLine}
use Rattle.pre_script.specs.declared.saying.Said.{Said}
use Rattle.pre_script.specs.declared.saying.Said.TheVariants as said
use Rattle.pre_script.specs.Rules.{given, kept, horizon, horizon_rule, max_damaged, max_damages, max_losses, max_sends, max_sets, mode_rule}
use Rattle.pre_script.specs.Rules.{name_rule, number_rule, order_rule, size_rule, word_rule, count_rule, after_rule}
use Rattle.pre_script.specs.Seen.{Seen, nothing_seen, with_said, comes_last}
use Rattle.pre_script.specs.Saying.{damage_said, four, lose_said, negotiates_at, one, three, two, said_by, send_said, send_of_size, set_said, setting_at, setting_of, until_said}
use Rattle.pre_script.specs.Reading.{ReadsAs, after_line, after_lines, after_words, ended, script_of, told, then_after, until_end}
use Rattle.pre_script.specs.Fits.{Fits, IsDamage, IsLoss, IsSend, IsSet, SendsInOrder, SetsInOrder}
use Rattle.pre_script.proofs.Values.{arc_known, both, number_below, octets_read}
use Rattle.pre_base.proofs.NumberTests.{at_most, below}

given-Ok : {A B : Type 0} (o : Option A) (rule : ℕ) (next : A → Result B ℕ) (r : B) → given o rule next ≡ Ok r → (x : A) × (o ≡ Some x) × (next x ≡ Ok r)
given-Ok None rule next r e = absurd cc
given-Ok (Some x) rule next r e = (x, refl, e)

kept-Ok : {B : Type 0} (b : Bool) (rule : ℕ) (next : Result B ℕ) (r : B) → kept b rule next ≡ Ok r → (b ≡ true) × (next ≡ Ok r)
kept-Ok true rule next r e = (refl, e)
kept-Ok false rule next r e = absurd cc

-- what may be said next
abbrev SaidFits : Network → Streams → Seen → Said → Type 0
SaidFits net streams seen (said.Send s) = IsSend net streams s × (comes_last seen s.send.tick.0 ≡ true) × (length seen.sends < max_sends)
SaidFits net streams seen (said.Set s) = IsSet net s × (comes_last seen s.tick.0 ≡ true) × (length seen.sets < max_sets)
SaidFits net streams seen (said.Lose l) = IsLoss net l × (length seen.losses < max_losses)
SaidFits net streams seen (said.Damage d) = IsDamage net d × (length seen.damages < max_damages)
SaidFits net streams seen (said.Until tick) = tick.0 ≤ horizon net

if-Option : {A : Type 0} (b : Bool) (o : Option A) (y : A) → (if b then o else None) ≡ Some y → (b ≡ true) × (o ≡ Some y)
if-Option true o y e = (refl, e)
if-Option false o y e = absurd cc

send_fits : (net : Network) (streams : Streams) (seen : Seen) (row : Row) (line tick stream size : ℕ) (s : Said) → slice_get streams.rows stream ≡ Some row → tick < 2 ^ 64 → send_of_size seen row line tick stream size ≡ Ok s → SaidFits net streams seen s
send_fits net streams seen row line tick stream size s known early e =
    let order = kept-Ok (comes_last seen tick) order_rule _ s e in
    let sized = kept-Ok (nat_le 64 size && nat_le size row.max) size_rule _ s order.1 in
    let few = kept-Ok (nat_lt (length seen.sends) max_sends) count_rule _ s sized.1 in
    let sizes = both (nat_le 64 size) (nat_le size row.max) sized.0 in
    let is : said.Send (record { send = record { tick = record { 0 = tick }; stream = record { 0 = stream }; size = size }; line = line }) ≡ s = cc (few.1) in
    subst (SaidFits net streams seen) is (
      record { row = row; known = known; least = at_most 64 size sizes.0; most = at_most size row.max sizes.1; tick = early },
      order.0,
      below (length seen.sends) max_sends few.0,
    )

send_said_fits : (net : Network) (streams : Streams) (seen : Seen) (line : ℕ) (words : List (List ℕ)) (s : Said) → send_said streams seen line words ≡ Ok s → SaidFits net streams seen s
send_said_fits net streams seen line words s e =
    let w = given-Ok (three words) word_rule _ s e in
    let tick = given-Ok (number_of w.0.0) number_rule _ s w.2 in
    let size = given-Ok (number_of w.0.2) number_rule _ s tick.2 in
    let stream = given-Ok (row_named streams w.0.1) name_rule _ s size.2 in
    let row = given-Ok (slice_get streams.rows stream.0) name_rule _ s stream.2 in
    send_fits net streams seen row.0 line tick.0 stream.0 size.0 s row.1 (number_below w.0.0 tick.0 tick.1) row.2

set_said_fits : (net : Network) (streams : Streams) (seen : Seen) (words : List (List ℕ)) (s : Said) → set_said net seen words ≡ Ok s → SaidFits net streams seen s
set_said_fits net streams seen words s e =
    let w = given-Ok (three words) word_rule _ s e in
    let tick = given-Ok (number_of w.0.0) number_rule _ s w.2 in
    let arc = given-Ok (arc_named net w.0.1) name_rule _ s tick.2 in
    let order = kept-Ok (comes_last seen tick.0) order_rule _ s arc.2 in
    let value = given-Ok (setting_at net arc.0 w.0.2) mode_rule _ s order.1 in
    let few = kept-Ok (nat_lt (length seen.sets) max_sets) count_rule _ s value.2 in
    let can = if-Option (negotiates_at net arc.0) (setting_of w.0.2) value.0 value.1 in
    let is : said.Set (record { tick = record { 0 = tick.0 }; arc = record { 0 = arc.0 }; value = value.0 }) ≡ s = cc (few.1) in
    subst (SaidFits net streams seen) is (record { negotiates = can.0; tick = number_below w.0.0 tick.0 tick.1 }, order.0, below (length seen.sets) max_sets few.0)

lose_said_fits : (net : Network) (streams : Streams) (seen : Seen) (words : List (List ℕ)) (s : Said) → lose_said net seen words ≡ Ok s → SaidFits net streams seen s
lose_said_fits net streams seen words s e =
    let w = given-Ok (two words) word_rule _ s e in
    let ordinal = given-Ok (number_of w.0.1) number_rule _ s w.2 in
    let arc = given-Ok (arc_named net w.0.0) name_rule _ s ordinal.2 in
    let few = kept-Ok (nat_lt (length seen.losses) max_losses) count_rule _ s arc.2 in
    let is : said.Lose (record { arc = record { 0 = arc.0 }; ordinal = ordinal.0 }) ≡ s = cc (few.1) in
    subst (SaidFits net streams seen) is (record { known = arc_known net w.0.0 arc.0 arc.1; ordinal = number_below w.0.1 ordinal.0 ordinal.1 }, below (length seen.losses) max_losses few.0)

damage_said_fits : (net : Network) (streams : Streams) (seen : Seen) (words : List (List ℕ)) (s : Said) → damage_said net seen words ≡ Ok s → SaidFits net streams seen s
damage_said_fits net streams seen words s e =
    let w = given-Ok (four words) word_rule _ s e in
    let ordinal = given-Ok (number_of w.0.1) number_rule _ s w.2 in
    let offset = given-Ok (number_of w.0.2) number_rule _ s ordinal.2 in
    let octets = given-Ok (pairs_within max_damaged w.0.3) number_rule _ s offset.2 in
    let arc = given-Ok (arc_named net w.0.0) name_rule _ s octets.2 in
    let few = kept-Ok (nat_lt (length seen.damages) max_damages) count_rule _ s arc.2 in
    let read = octets_read max_damaged w.0.3 octets.0 octets.1 in
    let is : said.Damage (record { arc = record { 0 = arc.0 }; ordinal = ordinal.0; offset = offset.0; octets = octets.0 }) ≡ s = cc (few.1) in
    subst (SaidFits net streams seen) is (
      record {
        known = arc_known net w.0.0 arc.0 arc.1;
        ordinal = number_below w.0.1 ordinal.0 ordinal.1;
        offset = number_below w.0.2 offset.0 offset.1;
        least = read.least;
        most = read.most;
        octets = read.each;
      },
      below (length seen.damages) max_damages few.0,
    )

until_said_fits : (net : Network) (streams : Streams) (seen : Seen) (words : List (List ℕ)) (s : Said) → until_said net words ≡ Ok s → SaidFits net streams seen s
until_said_fits net streams seen words s e =
    let w = given-Ok (one words) word_rule _ s e in
    let tick = given-Ok (number_of w.0) number_rule _ s w.2 in
    let early = kept-Ok (nat_le tick.0 (horizon net)) horizon_rule _ s tick.2 in
    let is : said.Until (record { 0 = tick.0 }) ≡ s = cc (early.1) in
    subst (SaidFits net streams seen) is (at_most tick.0 (horizon net) early.0)

one_of : {B : Type 0} (P : B → Type 0) (b : Bool) (x y : Result B ℕ) → ((s : B) → x ≡ Ok s → P s) → ((s : B) → y ≡ Ok s → P s) → (s : B) → (if b then x else y) ≡ Ok s → P s
one_of P true x y f g s e = f s e
one_of P false x y f g s e = g s e

refused : {B : Type 0} (P : B → Type 0) (rule : ℕ) (s : B) → Err rule ≡ Ok s → P s
refused P rule s e = absurd cc

said_by_fits : (net : Network) (streams : Streams) (seen : Seen) (line : ℕ) (first : List ℕ) (words : List (List ℕ)) (s : Said) → said_by net streams seen line first words ≡ Ok s → SaidFits net streams seen s
said_by_fits net streams seen line first words =
    one_of (SaidFits net streams seen) (bytes_eq first (codes "send")) _ _ (send_said_fits net streams seen line words)
    (one_of (SaidFits net streams seen) (bytes_eq first (codes "set")) _ _ (set_said_fits net streams seen words)
    (one_of (SaidFits net streams seen) (bytes_eq first (codes "lose")) _ _ (lose_said_fits net streams seen words)
    (one_of (SaidFits net streams seen) (bytes_eq first (codes "damage")) _ _ (damage_said_fits net streams seen words)
    (one_of (SaidFits net streams seen) (bytes_eq first (codes "until")) _ _ (until_said_fits net streams seen words)
    (refused (SaidFits net streams seen) word_rule)))))

-- what was seen so far fits
record SeenFits (net : Network) (streams : Streams) (seen : Seen) : Type 0 where
  sends : All (IsSend net streams) seen.sends
  sends_order : AllPairs SendsInOrder seen.sends
  sends_count : length seen.sends ≤ max_sends
  sets : All (IsSet net) seen.sets
  sets_order : AllPairs SetsInOrder seen.sets
  sets_count : length seen.sets ≤ max_sets
  losses : All (IsLoss net) seen.losses
  losses_count : length seen.losses ≤ max_losses
  damages : All (IsDamage net) seen.damages
  damages_count : length seen.damages ≤ max_damages
  until : (tick : Tick) → seen.until ≡ Some tick → tick.0 ≤ horizon net

nothing_fits : (net : Network) (streams : Streams) → SeenFits net streams nothing_seen
nothing_fits net streams = record {
  sends = λ k d lt. absurd (omega arith);
  sends_order = λ i j d lt past. absurd (omega arith);
  sends_count = omega arith;
  sets = λ k d lt. absurd (omega arith);
  sets_order = λ i j d lt past. absurd (omega arith);
  sets_count = omega arith;
  losses = λ k d lt. absurd (omega arith);
  losses_count = omega arith;
  damages = λ k d lt. absurd (omega arith);
  damages_count = omega arith;
  until = λ tick e. absurd cc;
}

sends_before : (sends : List SendLine) (t : ℕ) → list_all (λ s. nat_le s.send.tick.0 t) sends ≡ true → (k : ℕ) (d : SendLine) → k < length sends → (get_or sends k d).send.tick.0 ≤ t
sends_before sends t e k d lt = at_most _ t (AllPass-from_list_all (λ s. nat_le s.send.tick.0 t) sends e k d lt)

sets_before : (sets : List SetLine) (t : ℕ) → list_all (λ s. nat_le s.tick.0 t) sets ≡ true → (k : ℕ) (d : SetLine) → k < length sets → (get_or sets k d).tick.0 ≤ t
sets_before sets t e k d lt = at_most _ t (AllPass-from_list_all (λ s. nat_le s.tick.0 t) sets e k d lt)

more_fits : (net : Network) (streams : Streams) (seen : Seen) (s : Said) → SeenFits net streams seen → SaidFits net streams seen s → SeenFits net streams (with_said seen s)
more_fits net streams seen (said.Send s) fits says =
    let before = both (list_all (λ r. nat_le r.send.tick.0 s.send.tick.0) seen.sends) (list_all (λ r. nat_le r.tick.0 s.send.tick.0) seen.sets) says.1 in
    record {
      sends = All-push (IsSend net streams) seen.sends s fits.sends says.0;
      sends_order = all_pairs_push SendsInOrder seen.sends s fits.sends_order (sends_before seen.sends s.send.tick.0 before.0);
      sends_count = omega (arith, length_push seen.sends s, says.2);
      sets = fits.sets;
      sets_order = fits.sets_order;
      sets_count = fits.sets_count;
      losses = fits.losses;
      losses_count = fits.losses_count;
      damages = fits.damages;
      damages_count = fits.damages_count;
      until = fits.until;
    }
more_fits net streams seen (said.Set s) fits says =
    let before = both (list_all (λ r. nat_le r.send.tick.0 s.tick.0) seen.sends) (list_all (λ r. nat_le r.tick.0 s.tick.0) seen.sets) says.1 in
    record {
      sends = fits.sends;
      sends_order = fits.sends_order;
      sends_count = fits.sends_count;
      sets = All-push (IsSet net) seen.sets s fits.sets says.0;
      sets_order = all_pairs_push SetsInOrder seen.sets s fits.sets_order (sets_before seen.sets s.tick.0 before.1);
      sets_count = omega (arith, length_push seen.sets s, says.2);
      losses = fits.losses;
      losses_count = fits.losses_count;
      damages = fits.damages;
      damages_count = fits.damages_count;
      until = fits.until;
    }
more_fits net streams seen (said.Lose l) fits says = record {
  sends = fits.sends;
  sends_order = fits.sends_order;
  sends_count = fits.sends_count;
  sets = fits.sets;
  sets_order = fits.sets_order;
  sets_count = fits.sets_count;
  losses = All-push (IsLoss net) seen.losses l fits.losses says.0;
  losses_count = omega (arith, length_push seen.losses l, says.1);
  damages = fits.damages;
  damages_count = fits.damages_count;
  until = fits.until;
}
more_fits net streams seen (said.Damage d) fits says = record {
  sends = fits.sends;
  sends_order = fits.sends_order;
  sends_count = fits.sends_count;
  sets = fits.sets;
  sets_order = fits.sets_order;
  sets_count = fits.sets_count;
  losses = fits.losses;
  losses_count = fits.losses_count;
  damages = All-push (IsDamage net) seen.damages d fits.damages says.0;
  damages_count = omega (arith, length_push seen.damages d, says.1);
  until = fits.until;
}
more_fits net streams seen (said.Until tick) fits says = record {
  sends = fits.sends;
  sends_order = fits.sends_order;
  sends_count = fits.sends_count;
  sets = fits.sets;
  sets_order = fits.sets_order;
  sets_count = fits.sets_count;
  losses = fits.losses;
  losses_count = fits.losses_count;
  damages = fits.damages;
  damages_count = fits.damages_count;
  until = λ other e. let same : tick ≡ other = cc in subst (λ (t : Tick). t.0 ≤ horizon net) same says;
}

told_fits : (net : Network) (streams : Streams) (seen : Seen) (line : ℕ) (r : Result Said ℕ) (now : Seen) → SeenFits net streams seen → ((s : Said) → r ≡ Ok s → SaidFits net streams seen s) → told line seen r ≡ Ok now → SeenFits net streams now
told_fits net streams seen line (Ok s) now fits says e =
    let is : with_said seen s ≡ now = cc in
    subst (SeenFits net streams) is (more_fits net streams seen s fits (says s refl))
told_fits net streams seen line (Err rule) now fits says e = absurd cc

words_fit : (net : Network) (streams : Streams) (seen : Seen) (line : ℕ) (words : List (List ℕ)) (now : Seen) → SeenFits net streams seen → after_words net streams seen line words ≡ Ok now → SeenFits net streams now
words_fit net streams seen line [] now fits e = let is : seen ≡ now = cc in subst (SeenFits net streams) is fits
words_fit net streams seen line (first ∷ words) now fits e = commented (is_comment first) e
  where
    unended : (b : Bool) → (if b then Err (line, after_rule) else told line seen (said_by net streams seen line first words)) ≡ Ok now → SeenFits net streams now
    unended true h = absurd cc
    unended false h = told_fits net streams seen line (said_by net streams seen line first words) now fits (said_by_fits net streams seen line first words) h

    commented : (b : Bool) → (if b then Ok seen else if is_some seen.until then Err (line, after_rule) else told line seen (said_by net streams seen line first words)) ≡ Ok now → SeenFits net streams now
    commented true h = let is : seen ≡ now = cc in subst (SeenFits net streams) is fits
    commented false h = unended (is_some seen.until) h

then-Ok : (r : Result Seen (ℕ × ℕ)) (next : Seen → Result Seen (ℕ × ℕ)) (now : Seen) → then_after r next ≡ Ok now → (s : Seen) × (r ≡ Ok s) × (next s ≡ Ok now)
then-Ok (Ok s) next now e = (s, refl, e)
then-Ok (Err fault) next now e = absurd cc

lines_fit : (net : Network) (streams : Streams) (seen : Seen) (lines : List (ℕ × List ℕ)) (now : Seen) → SeenFits net streams seen → after_lines net streams seen lines ≡ Ok now → SeenFits net streams now
lines_fit net streams seen [] now fits e = let is : seen ≡ now = cc in subst (SeenFits net streams) is fits
lines_fit net streams seen (line ∷ lines) now fits e =
    let w = then-Ok (after_line net streams seen line) (λ s. after_lines net streams s lines) now e in
    lines_fit net streams w.0 lines now (words_fit net streams seen line.0 (words_of line.1) w.0 fits w.1) w.2

until_fits : (net : Network) (streams : Streams) (count : ℕ) (seen : Seen) (o : Option Tick) (script : Script) → SeenFits net streams seen → seen.until ≡ o → until_end count seen o ≡ Ok script → Fits net streams script
until_fits net streams count seen None script fits is e = absurd cc
until_fits net streams count seen (Some tick) script fits is e =
    let same : record { sends = seen.sends; sets = seen.sets; losses = seen.losses; damages = seen.damages; until = tick } ≡ script = cc in
    subst (Fits net streams) same
    (record {
      sends = fits.sends;
      sends_order = fits.sends_order;
      sends_count = fits.sends_count;
      sets = fits.sets;
      sets_order = fits.sets_order;
      sets_count = fits.sets_count;
      losses = fits.losses;
      losses_count = fits.losses_count;
      damages = fits.damages;
      damages_count = fits.damages_count;
      until = fits.until tick is;
    })

ended_fits : (net : Network) (streams : Streams) (count : ℕ) (r : Result Seen (ℕ × ℕ)) (script : Script) → ((seen : Seen) → r ≡ Ok seen → SeenFits net streams seen) → ended count r ≡ Ok script → Fits net streams script
ended_fits net streams count (Ok seen) script fits e = until_fits net streams count seen seen.until script (fits seen refl) refl e
ended_fits net streams count (Err fault) script fits e = absurd cc

script_fits : (net : Network) (streams : Streams) (text : List ℕ) (script : Script) → script_of net streams text ≡ Ok script → Fits net streams script
script_fits net streams text script e =
    ended_fits net streams (length (lines_of text)) (after_lines net streams nothing_seen (numbered_lines text)) script (λ seen h. lines_fit net streams nothing_seen (numbered_lines text) seen (nothing_fits net streams) h) e

reads_fit : (P : Script → Type 0) (r : Result Script ScriptFault) (due : Result Script (ℕ × ℕ)) → ReadsAs r due → ((s : Script) → due ≡ Ok s → P s) → IfOk r P
reads_fit P (Ok script) (Ok s) is f = subst P (sym is) (f s refl)
reads_fit P (Ok script) (Err e) is f = absurd is
reads_fit P (Err e) due is f = tt

pub read_fits : (net : Network) (streams : Streams) (text : List ℕ) (r : Result Script ScriptFault) → ReadsAs r (script_of net streams text) → IfOk r (Fits net streams)
read_fits net streams text r is = reads_fit (Fits net streams) r (script_of net streams text) is (script_fits net streams text)

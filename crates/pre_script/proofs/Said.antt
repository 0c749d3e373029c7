-- What each line says, where it is written of a script that fits.
use Rattle.std.proofs.Common.{◌≡◌, ℕ, ◌*◌, ◌^◌, ◌<◌, ◌≤◌, Bool, true, false, ◌&&◌, nat_le, nat_lt, min}
use Rattle.std.proofs.Common.{if◌then◌else◌, List, [], ◌∷◌, length, Option, Some, None, Result, Ok, refl, ◌∙◌, ap, arith}
use Rattle.std.proofs.Common.{slice_get, codes}
use Rattle.std.specs.Fmt.{decimal}
use Rattle.std.specs.List.{list_any}
use Rattle.std.proofs.lemmas.Bool.Decides.{nat_tests}
use Rattle.pre_text.specs.Lines.{is_nonempty}
use Rattle.pre_text.specs.Words.{number_of, pairs_within}
use Rattle.pre_text.specs.Writing.{hex}
use Rattle.pre_text.proofs.Decimals.{number_back, hex_back}
use Rattle.pre_base.specs.declared.numbers.Tick.{Tick}
use Rattle.pre_topo.specs.declared.network.Network.{Network}
use Rattle.pre_topo.specs.Named.{arc_name, arc_named}
use Rattle.pre_streams.specs.declared.rows.Row.{Row}
use Rattle.pre_streams.specs.declared.rows.Streams.{Streams}
use Rattle.pre_streams.specs.Named.{row_named}
use Rattle.pre_script.specs.declared.scripts.SendLine.{SendLine}
use Rattle.pre_script.specs.declared.scripts.SetLine.{SetLine}
use Rattle.pre_script.specs.declared.scripts.Setting.{Setting}
use Rattle.pre_script.specs.declared.scripts.Setting.TheVariants.{On, Off, Gone}
use Rattle.pre_script.specs.declared.scripts.Loss.{Loss}
use Rattle.pre_script.specs.declared.scripts.Damage.{Damage}
use Rattle.pre_script.specs.declared.saying.Said.TheVariants as said
use Rattle.pre_script.specs.Rules.{given, kept, horizon, horizon_rule, max_damaged, max_damages, max_losses, max_sends, max_sets, mode_rule}
use Rattle.pre_script.specs.Rules.{name_rule, negotiates, number_rule, order_rule, size_rule, count_rule}
use Rattle.pre_script.specs.Seen.{Seen, comes_last}
use Rattle.pre_script.specs.Saying.{said_by, setting_at, setting_of}
use Rattle.pre_script.specs.Fits.{IsDamage, IsLoss, IsSet}
use Rattle.pre_script.specs.Text.{row_name, setting_word}
use Rattle.pre_script.proofs.NameWords.{arc_back}

pub nonempty_number : (w : List ℕ) (n : ℕ) → number_of w ≡ Some n → is_nonempty w ≡ true
nonempty_number [] n e = absurd cc
nonempty_number (c ∷ w) n e = refl

pub nonempty_pairs : (room : ℕ) (w octets : List ℕ) → pairs_within room w ≡ Some octets → is_nonempty w ≡ true
nonempty_pairs room [] octets e = absurd cc
nonempty_pairs room (c ∷ w) octets e = refl

given-Some : {A B : Type 0} (o : Option A) (rule : ℕ) (next : A → Result B ℕ) (x : A) → o ≡ Some x → given o rule next ≡ next x
given-Some o rule next x e = ap (λ r. given r rule next) e

kept-true : {B : Type 0} (b : Bool) (rule : ℕ) (next : Result B ℕ) → b ≡ true → kept b rule next ≡ next
kept-true b rule next e = ap (λ r. kept r rule next) e

is_at_most : (m n : ℕ) → m ≤ n → nat_le m n ≡ true
is_at_most m n le = grind (arith, nat_tests)

is_below : (m n : ℕ) → m < n → nat_lt m n ≡ true
is_below m n lt = grind (arith, nat_tests)

and_true : (p q : Bool) → p ≡ true → q ≡ true → (p && q) ≡ true
and_true p q e f = rw (e, f) refl

pub send_says : (net : Network) (streams : Streams) (seen : Seen) (n : ℕ) (s : SendLine) (row : Row) → slice_get streams.rows s.send.stream.0 ≡ Some row → row_named streams (row_name streams s.send.stream.0) ≡ Some s.send.stream.0
    → s.send.tick.0 < 2 ^ 64 → 64 ≤ s.send.size → s.send.size ≤ row.max → row.max ≤ 2000 → comes_last seen s.send.tick.0 ≡ true → length seen.sends < max_sends
    → said_by net streams seen n (codes "send") (decimal s.send.tick.0 ∷ row_name streams s.send.stream.0 ∷ decimal s.send.size ∷ []) ≡ Ok (said.Send (record { send = s.send; line = n }))
send_says net streams seen n s row at named early least most short last few =
    given-Some (number_of (decimal s.send.tick.0)) number_rule _ s.send.tick.0 (number_back s.send.tick.0 early)
    ∙ given-Some (number_of (decimal s.send.size)) number_rule _ s.send.size (number_back s.send.size (omega (arith, most, short)))
    ∙ given-Some (row_named streams (row_name streams s.send.stream.0)) name_rule _ s.send.stream.0 named
    ∙ given-Some (slice_get streams.rows s.send.stream.0) name_rule _ row at
    ∙ kept-true (comes_last seen s.send.tick.0) order_rule _ last
    ∙ kept-true (nat_le 64 s.send.size && nat_le s.send.size row.max) size_rule _ (and_true _ _ (is_at_most 64 s.send.size least) (is_at_most s.send.size row.max most))
    ∙ kept-true (nat_lt (length seen.sends) max_sends) count_rule _ (is_below (length seen.sends) max_sends few)

setting_back : (v : Setting) → setting_of (setting_word v) ≡ Some v
setting_back On = refl
setting_back Off = refl
setting_back Gone = refl

pub set_says : (net : Network) (streams : Streams) (seen : Seen) (n : ℕ) (s : SetLine) → IsSet net s → s.arc.0 < length net.arcs → comes_last seen s.tick.0 ≡ true → length seen.sets < max_sets
    → said_by net streams seen n (codes "set") (decimal s.tick.0 ∷ arc_name net s.arc.0 ∷ setting_word s.value ∷ []) ≡ Ok (said.Set s)
set_says net streams seen n s is known last few =
    given-Some (number_of (decimal s.tick.0)) number_rule _ s.tick.0 (number_back s.tick.0 is.tick)
    ∙ given-Some (arc_named net (arc_name net s.arc.0)) name_rule _ s.arc.0 (arc_back net s.arc.0 known)
    ∙ kept-true (comes_last seen s.tick.0) order_rule _ last
    ∙ given-Some (setting_at net s.arc.0 (setting_word s.value)) mode_rule _ s.value (ap (λ (b : Bool). if b then setting_of (setting_word s.value) else None) is.negotiates ∙ setting_back s.value)
    ∙ kept-true (nat_lt (length seen.sets) max_sets) count_rule _ (is_below (length seen.sets) max_sets few)

pub loss_says : (net : Network) (streams : Streams) (seen : Seen) (n : ℕ) (l : Loss) → IsLoss net l → length seen.losses < max_losses
    → said_by net streams seen n (codes "lose") (arc_name net l.arc.0 ∷ decimal l.ordinal ∷ []) ≡ Ok (said.Lose l)
loss_says net streams seen n l is few =
    given-Some (number_of (decimal l.ordinal)) number_rule _ l.ordinal (number_back l.ordinal is.ordinal)
    ∙ given-Some (arc_named net (arc_name net l.arc.0)) name_rule _ l.arc.0 (arc_back net l.arc.0 is.known)
    ∙ kept-true (nat_lt (length seen.losses) max_losses) count_rule _ (is_below (length seen.losses) max_losses few)

pub damage_says : (net : Network) (streams : Streams) (seen : Seen) (n : ℕ) (d : Damage) → IsDamage net d → length seen.damages < max_damages
    → said_by net streams seen n (codes "damage") (arc_name net d.arc.0 ∷ decimal d.ordinal ∷ decimal d.offset ∷ hex d.octets ∷ []) ≡ Ok (said.Damage d)
damage_says net streams seen n d is few =
    given-Some (number_of (decimal d.ordinal)) number_rule _ d.ordinal (number_back d.ordinal is.ordinal)
    ∙ given-Some (number_of (decimal d.offset)) number_rule _ d.offset (number_back d.offset is.offset)
    ∙ given-Some (pairs_within max_damaged (hex d.octets)) number_rule _ d.octets (hex_back d.octets max_damaged is.octets is.least is.most)
    ∙ given-Some (arc_named net (arc_name net d.arc.0)) name_rule _ d.arc.0 (arc_back net d.arc.0 is.known)
    ∙ kept-true (nat_lt (length seen.damages) max_damages) count_rule _ (is_below (length seen.damages) max_damages few)

at_most_horizon : (b : Bool) (m : ℕ) → (if b then min (4 * 10 ^ 12) m else 4 * 10 ^ 12) < 2 ^ 64
at_most_horizon true m = omega arith
at_most_horizon false m = omega arith

pub until_small : (net : Network) (t : Tick) → t.0 ≤ horizon net → t.0 < 2 ^ 64
until_small net t le = let small : horizon net < 2 ^ 64 = at_most_horizon (list_any negotiates net.arcs) (10000 * net.timing.interval) in omega (arith, le, small)

pub until_says : (net : Network) (streams : Streams) (seen : Seen) (n : ℕ) (t : Tick) → t.0 ≤ horizon net
    → said_by net streams seen n (codes "until") (decimal t.0 ∷ []) ≡ Ok (said.Until t)
until_says net streams seen n t le =
    given-Some (number_of (decimal t.0)) number_rule _ t.0 (number_back t.0 (until_small net t le))
    ∙ kept-true (nat_le t.0 (horizon net)) horizon_rule _ (is_at_most t.0 (horizon net) le)

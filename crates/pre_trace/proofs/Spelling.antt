-- The word that is written for a value isn't empty, and is read as that value.
use Rattle.std.proofs.Common.{ℕ, ◌≡◌, ◌≢◌, ◌==◌, ◌&&◌, ◌+◌, ◌-◌, ◌*◌, ◌/◌, ◌%◌, ◌<◌, ◌≤◌}
use Rattle.std.proofs.Common.{◌^◌, nat_lt, nat_le, Bool, true, false, List, [], ◌∷◌, ◌++◌, length, refl, ◌∙◌, ap, arith, subst}
use Rattle.std.proofs.Common.{Some, None, codes, if◌then◌else◌}
use Rattle.std.specs.Prelude.{IsTrue}
use Rattle.std.proofs.lemmas.Option.{get_or_from_slice_get}
use Rattle.std.specs.Option.{option_map, option_and_then, option_map_or}
use Rattle.std.specs.List.{list_all}
use Rattle.std.specs.Str.{bytes_eq}
use Rattle.std.specs.Fmt.{decimal}
use Rattle.std.proofs.lemmas.Slice.Eq.{bytes_eq-Decides}
use Rattle.std.proofs.lemmas.Bool.Decides.{nat_tests}
use Rattle.pre_text.specs.Lines.{is_nonempty}
use Rattle.pre_text.specs.Writing.{hex, hex_digit}
use Rattle.pre_text.specs.Words.{is_name, number_of, pairs_within}
use Rattle.pre_text.specs.Reading.{AreOctets}
use Rattle.pre_text.proofs.Decimals.{number_back, hex_back}
use Rattle.pre_topo.specs.declared.network.Network.{Network}
use Rattle.pre_topo.specs.declared.nodes.Node.{Node}
use Rattle.pre_topo.specs.Names.{name_of_arc, name_of_node}
use Rattle.pre_topo.specs.Named.{node_name, arc_name}
use Rattle.pre_topo.specs.Nodes.{IsNode}
use Rattle.pre_script.specs.declared.scripts.Setting.{Setting}
use Rattle.pre_script.specs.declared.scripts.Setting.TheVariants as setting
use Rattle.pre_mpacket.specs.declared.packets.Kind.{Kind}
use Rattle.pre_mpacket.specs.declared.packets.Kind.TheVariants as kind
use Rattle.pre_history.specs.declared.events.What.{What}
use Rattle.pre_history.specs.declared.events.What.TheVariants as what
use Rattle.pre_history.specs.declared.events.Outcome.{Outcome}
use Rattle.pre_history.specs.declared.events.Outcome.TheVariants as outcome
use Rattle.pre_history.specs.Plain.{IsKind}
use Rattle.pre_history.specs.Names.{HasArc, HasNode}
use Rattle.pre_trace.specs.Text.{setting_word, kind_word, what_word, outcome_word, yes_word}
use Rattle.pre_history.specs.Written.{IsNumber, IsWhat, HasOctets}
use Rattle.pre_history.proofs.Lists.{there}
use Rattle.pre_script.specs.Saying.{setting_of}
use Rattle.pre_trace.specs.Values.{check_of, count_of, is_lower_case_digit, kind_of, lower_case_pairs, number_below, outcome_of, what_of, yes_of}
use Rattle.pre_trace.specs.Reading.{FitsWhat}

-- ---- none is empty

some_number : (w : List ℕ) (n : ℕ) → number_of w ≡ Some n → is_nonempty w ≡ true
some_number [] n is = absurd (cc is)
some_number (c ∷ cs) n is = refl

pub number_nonempty : (n : ℕ) → IsNumber n → is_nonempty (decimal n) ≡ true
number_nonempty n lt = some_number (decimal n) n (number_back n lt)

pub hex_nonempty : (octets : List ℕ) → HasOctets octets → is_nonempty (hex octets) ≡ true
hex_nonempty [] are = absurd (omega (arith, are.1))
hex_nonempty (b ∷ bs) are = refl

joined_nonempty : (a b : List ℕ) → is_nonempty (a ++ 62 ∷ b) ≡ true
joined_nonempty [] b = refl
joined_nonempty (c ∷ cs) b = refl

pub arc_nonempty : (net : Network) (i : ℕ) → HasArc net i → is_nonempty (arc_name net i) ≡ true
arc_nonempty net i lt =
    let a = there net.arcs i lt in
    let spelled : arc_name net i ≡ name_of_arc net.nodes a.0 = ap (λ o. option_map_or (name_of_arc net.nodes) o []) a.1 in
    ap is_nonempty spelled ∙ joined_nonempty (name_of_node net.nodes a.0.from.0) (name_of_node net.nodes a.0.to.0)

name_nonempty : (w : List ℕ) → IsTrue (is_name w) → is_nonempty w ≡ true
name_nonempty [] is = absurd (cc is)
name_nonempty (c ∷ cs) is = refl

pub node_nonempty : (net : Network) (i : ℕ) → HasNode net i → is_nonempty (node_name net i) ≡ true
node_nonempty net i lt =
    let n = there net.nodes i lt in
    let is : IsNode n.0 = subst IsNode (get_or_from_slice_get net.nodes i n.0 n.0 n.1) (net.rules.each_node i n.0 lt) in
    let spelled : node_name net i ≡ n.0.name = ap (λ o. option_map_or (λ (x : Node). x.name) o []) n.1 in
    ap is_nonempty spelled ∙ name_nonempty n.0.name is.name

pub setting_nonempty : (x : Setting) → is_nonempty (setting_word x) ≡ true
setting_nonempty setting.On = refl
setting_nonempty setting.Off = refl
setting_nonempty setting.Gone = refl

pub yes_nonempty : (x : Bool) → is_nonempty (yes_word x) ≡ true
yes_nonempty true = refl
yes_nonempty false = refl

pub outcome_nonempty : (x : Outcome) → is_nonempty (outcome_word x) ≡ true
outcome_nonempty outcome.Lost = refl
outcome_nonempty outcome.Frame = refl
outcome_nonempty outcome.Lldp = refl
outcome_nonempty outcome.Part = refl
outcome_nonempty outcome.Verify = refl
outcome_nonempty outcome.Respond = refl
outcome_nonempty outcome.Nothing = refl

pub kind_nonempty : (x : Kind) → is_nonempty (kind_word x) ≡ true
kind_nonempty kind.Express = refl
kind_nonempty kind.Verify = refl
kind_nonempty kind.Respond = refl
kind_nonempty (kind.Start c) = refl
kind_nonempty (kind.Continue c n) = refl

pub what_nonempty : (x : What) → IsWhat x → is_nonempty (what_word x) ≡ true
what_nonempty (what.Frame f) lt = number_nonempty f.0 lt
what_nonempty what.Lldp u = refl
what_nonempty what.Nothing u = refl

-- ---- each is read back

pub below_back : (limit n : ℕ) → IsNumber n → n < limit → number_below limit (decimal n) ≡ Some n
below_back limit n lt few =
    let test : nat_lt n limit ≡ true = grind (arith, nat_tests) in
    ap (option_and_then (λ (m : ℕ). if nat_lt m limit then Some m else None)) (number_back n lt) ∙ ap (λ (b : Bool). if b then Some n else None) test

false_text : (b : Bool) (xs ys : List ℕ) → bytes_eq xs ys ≡ b → xs ≢ ys → bytes_eq xs ys ≡ false
false_text true xs ys is differ = absurd (differ ((bytes_eq-Decides xs ys).0 is))
false_text false xs ys is differ = is

-- a number is no other word
pub not_text : (n : ℕ) (w : List ℕ) → IsNumber n → number_of w ≡ None → bytes_eq (decimal n) w ≡ false
not_text n w lt none = false_text (bytes_eq (decimal n) w) (decimal n) w refl (λ is. cc (number_back n lt, ap number_of is, none))

pub setting_back : (x : Setting) → setting_of (setting_word x) ≡ Some x
setting_back setting.On = refl
setting_back setting.Off = refl
setting_back setting.Gone = refl

pub yes_back : (x : Bool) → yes_of (yes_word x) ≡ Some x
yes_back true = refl
yes_back false = refl

pub outcome_back : (x : Outcome) → outcome_of (outcome_word x) ≡ Some x
outcome_back outcome.Lost = refl
outcome_back outcome.Frame = refl
outcome_back outcome.Lldp = refl
outcome_back outcome.Part = refl
outcome_back outcome.Verify = refl
outcome_back outcome.Respond = refl
outcome_back outcome.Nothing = refl

count_back : (n : ℕ) → n < 4 → count_of (48 + n) ≡ Some n
count_back n lt =
    let least : nat_le 48 (48 + n) ≡ true = grind (arith, nat_tests) in
    let most : nat_le (48 + n) 51 ≡ true = grind (arith, nat_tests) in
    let value : 48 + n - 48 ≡ n = omega arith in
    (λ i. if least i && most i then Some (value i) else None)

pub kind_back : (x : Kind) → IsKind x → kind_of (kind_word x) ≡ Some x
kind_back kind.Express u = refl
kind_back kind.Verify u = refl
kind_back kind.Respond u = refl
kind_back (kind.Start c) lt = ap (option_map kind.Start) (count_back c lt)
kind_back (kind.Continue c f) (lt, lt') =
    ap (option_and_then (λ count. option_map (kind.Continue count) (count_of (48 + f)))) (count_back c lt) ∙ ap (option_map (kind.Continue c)) (count_back f lt')

pub what_back : (x : What) → IsWhat x → FitsWhat x → what_of (what_word x) ≡ Some x
what_back (what.Frame f) lt few =
    let one = not_text f.0 (codes "lldp") lt refl in
    let two = not_text f.0 (codes "-") lt refl in
    rw (one, two, below_back (2 ^ 32) f.0 lt few) refl
what_back what.Lldp u v = refl
what_back what.Nothing u v = refl

low_hex : (d : ℕ) → d < 16 → is_lower_case_digit (hex_digit d) ≡ true
low_hex d lt = grind (arith, nat_tests)

low_all : (octets : List ℕ) → AreOctets octets → list_all is_lower_case_digit (hex octets) ≡ true
low_all [] are = refl
low_all (b ∷ bs) (lt, are) =
    let one = low_hex (b / 16) (omega (arith, lt)) in
    let two = low_hex (b % 16) (omega arith) in
    (λ i. one i && (two i && low_all bs are i))

pub low_back : (room : ℕ) (octets : List ℕ) → HasOctets octets → length octets ≤ room → lower_case_pairs room (hex octets) ≡ Some octets
low_back room octets (are, some) few =
    ap (λ (b : Bool). if b then pairs_within room (hex octets) else None) (low_all octets are) ∙ hex_back octets room are some few

length-hex : (octets : List ℕ) → length (hex octets) ≡ 2 * length octets
length-hex [] = refl
length-hex (b ∷ bs) = omega (arith, length-hex bs)

pub check_back : (octets : List ℕ) → HasOctets octets → length octets ≡ 4 → check_of (hex octets) ≡ Some octets
check_back octets are four =
    let eight : length (hex octets) ≡ 8 = omega (arith, length-hex octets, four) in
    let test : (length (hex octets) == 8) ≡ true = grind (arith, nat_tests) in
    ap (λ (b : Bool). if b then lower_case_pairs 4 (hex octets) else None) test ∙ low_back 4 octets are (omega (arith, four))

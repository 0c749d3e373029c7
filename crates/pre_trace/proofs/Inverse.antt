-- A word that is read as a value is the one that is written for it.
use Rattle.std.proofs.Common.{ℕ, ◌≡◌, ◌==◌, ◌&&◌, ◌+◌, ◌-◌, ◌*◌, ◌/◌, ◌%◌, ◌<◌, ◌≤◌, ◌^◌, nat_lt}
use Rattle.std.proofs.Common.{nat_le, Bool, true, false, List, [], ◌∷◌, length, refl, sym, ◌∙◌, ap, arith, subst, Option, Some}
use Rattle.std.proofs.Common.{None, codes, if◌then◌else◌}
use Rattle.std.specs.Option.{option_map, option_and_then}
use Rattle.std.specs.Char.{digit_value, is_ascii_hexdigit}
use Rattle.std.specs.List.{list_all}
use Rattle.std.specs.Str.{bytes_eq}
use Rattle.std.specs.Str.Parse.{digits_value}
use Rattle.std.specs.Fmt.{decimal}
use Rattle.std.proofs.lemmas.Slice.Eq.{bytes_eq-Decides}
use Rattle.std.proofs.lemmas.Bool.{false≢true}
use Rattle.std.proofs.lemmas.Bool.Decides.{nat_tests}
use Rattle.pre_text.specs.Writing.{hex, hex_digit}
use Rattle.pre_text.specs.Words.{are_pairs, is_plain, number_of, pair_octets, pairs_within}
use Rattle.pre_text.specs.Reading.{AreOctets}
use Rattle.pre_text.proofs.Decimals.{number_only}
use Rattle.pre_text.proofs.Pairs.{length-pair_octets}
use Rattle.pre_script.specs.declared.scripts.Setting.{Setting}
use Rattle.pre_script.specs.declared.scripts.Setting.TheVariants as setting
use Rattle.pre_mpacket.specs.declared.packets.Kind.{Kind}
use Rattle.pre_mpacket.specs.declared.packets.Kind.TheVariants as kind
use Rattle.pre_history.specs.declared.events.What.{What}
use Rattle.pre_history.specs.declared.events.What.TheVariants as what
use Rattle.pre_history.specs.declared.events.Outcome.{Outcome}
use Rattle.pre_history.specs.declared.events.Outcome.TheVariants as outcome
use Rattle.pre_history.specs.Plain.{IsKind}
use Rattle.pre_trace.specs.Text.{setting_word, kind_word, what_word, outcome_word, yes_word}
use Rattle.pre_history.specs.Written.{IsNumber, IsWhat, HasOctets}
use Rattle.pre_script.specs.Saying.{setting_of}
use Rattle.pre_trace.specs.Values.{check_of, count_of, is_lower_case_digit, kind_of, lower_case_pairs, number_below, outcome_of, what_of, yes_of}
use Rattle.pre_trace.specs.Reading.{FitsWhat}
use Rattle.pre_base.proofs.NumberTests.{below}

pub both : (p q : Bool) → (p && q) ≡ true → (p ≡ true) × (q ≡ true)
both true true e = (refl, refl)
both true false e = absurd (false≢true e)
both false q e = absurd (false≢true e)

-- a test with a value
pub one_of : {A : Type 0} (P : A → Type 0) (b : Bool) (x y : A) (o : Option A) → (b ≡ true → P x) → (o ≡ Some y → P y) → (if b then Some x else o) ≡ Some y → P y
one_of P true x y o first other e = let same : x ≡ y = cc e in subst P same (first refl)
one_of P false x y o first other e = other e

nothing : {A : Type 0} (P : A → Type 0) (y : A) → None ≡ Some y → P y
nothing P y e = absurd cc

pub texts_same : (xs ys : List ℕ) → bytes_eq xs ys ≡ true → xs ≡ ys
texts_same xs ys e = (bytes_eq-Decides xs ys).0 e

octets_same : (c d : ℕ) → (c == d) ≡ true → c ≡ d
octets_same c d e = grind (arith, nat_tests)

-- ---- numbers

number_some' : (b : Bool) (v n : ℕ) → (if b then Some v else None) ≡ Some n → (b ≡ true) × (v ≡ n)
number_some' true v n e = (refl, cc)
number_some' false v n e = absurd cc

pub number_some : (word : List ℕ) (n : ℕ) → number_of word ≡ Some n → (word ≡ decimal n) × IsNumber n
number_some word n e =
    let parts = number_some' (is_plain word && nat_lt (digits_value 10 word) (2 ^ 64)) (digits_value 10 word) n e in
    let small : digits_value 10 word < 2 ^ 64 = below (digits_value 10 word) (2 ^ 64) (both (is_plain word) (nat_lt (digits_value 10 word) (2 ^ 64)) parts.0).1 in
    (number_only word n e, subst (λ (m : ℕ). m < 2 ^ 64) parts.1 small)

below_some' : (limit n : ℕ) (o : Option ℕ) → option_and_then (λ n. if nat_lt n limit then Some n else None) o ≡ Some n → (o ≡ Some n) × (n < limit)
below_some' limit n None e = absurd cc
below_some' limit n (Some m) e =
    let parts = number_some' (nat_lt m limit) m n e in
    (ap Some parts.1, subst (λ (k : ℕ). k < limit) parts.1 (below m limit parts.0))

pub below_some : (limit : ℕ) (word : List ℕ) (n : ℕ) → number_below limit word ≡ Some n → (word ≡ decimal n) × IsNumber n × (n < limit)
below_some limit word n e =
    let parts = below_some' limit n (number_of word) e in
    let number = number_some word n parts.0 in
    (number.0, number.1, parts.1)

-- ---- words of a few

pub setting_some : (word : List ℕ) (y : Setting) → setting_of word ≡ Some y → word ≡ setting_word y
setting_some word y e =
    let P : Setting → Type 0 = λ v. word ≡ setting_word v in
    one_of P (bytes_eq word (codes "on")) setting.On y _ (texts_same word (codes "on"))
    (one_of P (bytes_eq word (codes "off")) setting.Off y _ (texts_same word (codes "off"))
    (one_of P (bytes_eq word (codes "gone")) setting.Gone y None (texts_same word (codes "gone")) (nothing P y))) e

pub yes_some : (word : List ℕ) (y : Bool) → yes_of word ≡ Some y → word ≡ yes_word y
yes_some word y e =
    let P : Bool → Type 0 = λ v. word ≡ yes_word v in
    one_of P (bytes_eq word (codes "yes")) true y _ (texts_same word (codes "yes"))
    (one_of P (bytes_eq word (codes "no")) false y None (texts_same word (codes "no")) (nothing P y)) e

pub outcome_some : (word : List ℕ) (y : Outcome) → outcome_of word ≡ Some y → word ≡ outcome_word y
outcome_some word y e =
    let P : Outcome → Type 0 = λ v. word ≡ outcome_word v in
    one_of P (bytes_eq word (codes "lost")) outcome.Lost y _ (texts_same word (codes "lost"))
    (one_of P (bytes_eq word (codes "frame")) outcome.Frame y _ (texts_same word (codes "frame"))
    (one_of P (bytes_eq word (codes "lldp")) outcome.Lldp y _ (texts_same word (codes "lldp"))
    (one_of P (bytes_eq word (codes "part")) outcome.Part y _ (texts_same word (codes "part"))
    (one_of P (bytes_eq word (codes "verify")) outcome.Verify y _ (texts_same word (codes "verify"))
    (one_of P (bytes_eq word (codes "respond")) outcome.Respond y _ (texts_same word (codes "respond"))
    (one_of P (bytes_eq word (codes "nothing")) outcome.Nothing y None (texts_same word (codes "nothing")) (nothing P y))))))) e

-- ---- kinds

count_some : (c n : ℕ) → count_of c ≡ Some n → (c ≡ 48 + n) × (n < 4)
count_some c n e =
    let parts = number_some' (nat_le 48 c && nat_le c 51) (c - 48) n e in
    let sides = both (nat_le 48 c) (nat_le c 51) parts.0 in
    let least : 48 ≤ c = grind (arith, nat_tests) in
    let most : c ≤ 51 = grind (arith, nat_tests) in
    (omega (arith, least, parts.1), omega (arith, least, most, parts.1))

abbrev KindTold : List ℕ → Kind → Type 0
KindTold word k = (word ≡ kind_word k) × IsKind k

map_some : {A B : Type 0} (f : A → B) (o : Option A) (y : B) → option_map f o ≡ Some y → (x : A) × (o ≡ Some x) × (f x ≡ y)
map_some f None y e = absurd cc
map_some f (Some x) y e = (x, refl, cc)

then_some : {A B : Type 0} (f : A → Option B) (o : Option A) (y : B) → option_and_then f o ≡ Some y → (x : A) × (o ≡ Some x) × (f x ≡ Some y)
then_some f None y e = absurd cc
then_some f (Some x) y e = (x, refl, e)

if_some : {A : Type 0} (b : Bool) (o : Option A) (y : A) → (if b then o else None) ≡ Some y → (b ≡ true) × (o ≡ Some y)
if_some true o y e = (refl, e)
if_some false o y e = absurd cc

one_octet : (k c : ℕ) → (k == c) ≡ true → k ∷ [] ≡ c ∷ []
one_octet k c e = ap (λ (x : ℕ). x ∷ []) (octets_same k c e)

pub kind_some : (word : List ℕ) (y : Kind) → kind_of word ≡ Some y → KindTold word y
kind_some [] y e = absurd cc
kind_some (k ∷ []) y e =
    one_of (KindTold (k ∷ [])) (k == 69) kind.Express y _ (λ is. (one_octet k 69 is, tt))
    (one_of (KindTold (k ∷ [])) (k == 86) kind.Verify y _ (λ is. (one_octet k 86 is, tt))
    (one_of (KindTold (k ∷ [])) (k == 82) kind.Respond y None (λ is. (one_octet k 82 is, tt)) (nothing (KindTold (k ∷ [])) y))) e
kind_some (k ∷ c ∷ []) y e =
    let test = if_some (k == 83) (option_map kind.Start (count_of c)) y e in
    let count = map_some kind.Start (count_of c) y test.1 in
    let digit = count_some c count.0 count.1 in
    let letter = octets_same k 83 test.0 in
    subst (KindTold (k ∷ c ∷ [])) count.2 ((λ i. letter i ∷ digit.0 i ∷ []), digit.1)
kind_some (k ∷ c ∷ p ∷ []) y e = absurd cc
kind_some (k ∷ c ∷ p ∷ f ∷ []) y e =
    let test = if_some ((k == 67) && (p == 46)) (option_and_then (λ count. option_map (kind.Continue count) (count_of f)) (count_of c)) y e in
    let letters = both (k == 67) (p == 46) test.0 in
    let letter = octets_same k 67 letters.0 in
    let point = octets_same p 46 letters.1 in
    let count = then_some (λ count. option_map (kind.Continue count) (count_of f)) (count_of c) y test.1 in
    let fragment = map_some (kind.Continue count.0) (count_of f) y count.2 in
    let digit = count_some c count.0 count.1 in
    let digit' = count_some f fragment.0 fragment.1 in
    subst (KindTold (k ∷ c ∷ p ∷ f ∷ [])) fragment.2 ((λ i. letter i ∷ digit.0 i ∷ point i ∷ digit'.0 i ∷ []), (digit.1, digit'.1))
kind_some (k ∷ c ∷ p ∷ f ∷ g ∷ rest) y e = absurd cc

-- ---- what is carried

abbrev WhatTold : List ℕ → What → Type 0
WhatTold word y = (word ≡ what_word y) × IsWhat y × FitsWhat y

what_number : (word : List ℕ) (y : What) → option_map (λ n. what.Frame (record { 0 = n })) (number_below (2 ^ 32) word) ≡ Some y → WhatTold word y
what_number word y e =
    let number = map_some (λ n. what.Frame (record { 0 = n })) (number_below (2 ^ 32) word) y e in
    subst (WhatTold word) number.2 (below_some (2 ^ 32) word number.0 number.1)

pub what_some : (word : List ℕ) (y : What) → what_of word ≡ Some y → WhatTold word y
what_some word y e =
    one_of (WhatTold word) (bytes_eq word (codes "lldp")) what.Lldp y _ (λ is. (texts_same word (codes "lldp") is, tt, tt))
    (one_of (WhatTold word) (bytes_eq word (codes "-")) what.Nothing y _ (λ is. (texts_same word (codes "-") is, tt, tt)) (what_number word y)) e

-- ---- hexadecimal

record Digit (c : ℕ) : Type 0 where
  value : digit_value c < 16
  back : hex_digit (digit_value c) ≡ c

low_digit : (c : ℕ) → is_lower_case_digit c ≡ true → Digit c
low_digit c e = record { value = grind (arith, nat_tests); back = grind (arith, nat_tests) }

AreLow : List ℕ → Type 0
AreLow [] = Unit {0}
AreLow (c ∷ cs) = (is_lower_case_digit c ≡ true) × AreLow cs

are_low : (w : List ℕ) → list_all is_lower_case_digit w ≡ true → AreLow w
unfolding AreLow
are_low [] e = tt
are_low (c ∷ cs) e = let parts = both (is_lower_case_digit c) (list_all is_lower_case_digit cs) e in (parts.0, are_low cs parts.1)

high_of : (h l : ℕ) → l < 16 → (16 * h + l) / 16 ≡ h
high_of h l lt = omega (arith, lt)

low_of : (h l : ℕ) → l < 16 → (16 * h + l) % 16 ≡ l
low_of h l lt = omega (arith, lt)

hex_only : (w : List ℕ) → AreLow w → length w % 2 ≡ 0 → (w ≡ hex (pair_octets w)) × AreOctets (pair_octets w)
unfolding AreLow
hex_only [] low even = (refl, tt)
hex_only (a ∷ []) low even = absurd (omega (arith, even))
hex_only (a ∷ b ∷ w) low even =
    let one = low_digit a low.0 in
    let two = low_digit b low.1.0 in
    let rest = hex_only w low.1.1 (omega (arith, even)) in
    let first : a ≡ hex_digit ((16 * digit_value a + digit_value b) / 16) = sym (ap hex_digit (high_of (digit_value a) (digit_value b) two.value) ∙ one.back) in
    let second : b ≡ hex_digit ((16 * digit_value a + digit_value b) % 16) = sym (ap hex_digit (low_of (digit_value a) (digit_value b) two.value) ∙ two.back) in
    ((λ i. first i ∷ second i ∷ rest.0 i), (omega (arith, one.value, two.value), rest.1))

pub record HexTold (room : ℕ) (word octets : List ℕ) : Type 0 where
  pub spelled : word ≡ hex octets
  pub are : HasOctets octets
  pub few : length octets ≤ room
  pub long : length word ≡ 2 * length octets

hex_told : (room : ℕ) (word : List ℕ) → list_all is_lower_case_digit word ≡ true → are_pairs word ≡ true → nat_le (length (pair_octets word)) room ≡ true → HexTold room word (pair_octets word)
hex_told room word low pairs few =
    let test = both (nat_lt 0 (length word) && (length word % 2 == 0)) (list_all is_ascii_hexdigit word) pairs in
    let lengths = both (nat_lt 0 (length word)) (length word % 2 == 0) test.0 in
    let some : 0 < length word = below 0 (length word) lengths.0 in
    let even : length word % 2 ≡ 0 = octets_same (length word % 2) 0 lengths.1 in
    let back = hex_only word (are_low word low) even in
    let half = length-pair_octets word in
    record {
      spelled = back.0;
      are = (back.1, omega (arith, half, some, even));
      few = grind (arith, nat_tests);
      long = omega (arith, half, even);
    }

pub low_some : (room : ℕ) (word octets : List ℕ) → lower_case_pairs room word ≡ Some octets → HexTold room word octets
low_some room word octets e =
    let low = if_some (list_all is_lower_case_digit word) (pairs_within room word) octets e in
    let pairs = if_some (are_pairs word && nat_le (length (pair_octets word)) room) (Some (pair_octets word)) octets low.1 in
    let tests = both (are_pairs word) (nat_le (length (pair_octets word)) room) pairs.0 in
    let same : pair_octets word ≡ octets = cc (pairs.1) in
    subst (HexTold room word) same (hex_told room word low.0 tests.0 tests.1)

pub check_some : (word octets : List ℕ) → check_of word ≡ Some octets → (word ≡ hex octets) × HasOctets octets × (length octets ≡ 4)
check_some word octets e =
    let parts = if_some (length word == 8) (lower_case_pairs 4 word) octets e in
    let told = low_some 4 word octets parts.1 in
    let eight = octets_same (length word) 8 parts.0 in
    (told.spelled, told.are, omega (arith, told.long, eight))

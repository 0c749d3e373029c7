-- What pairs are written to the front of a slice.
use Rattle.std.proofs.Common.{◌≡◌, ◌≤◌, ℕ, true, List, ◌++◌, length, take, drop, Option, Some, None, refl, sym, ◌∙◌, ap}
use Rattle.std.proofs.Math.Seq.{take-append_seam}
use Rattle.std.proofs.lemmas.List.{length-take-le}
use Rattle.std.specs.Option.{option_map, option_map_or}
use Rattle.std.specs.List.{list_all}
use Rattle.pre_text.specs.Words.{pairs_within}
use Rattle.pre_base.specs.declared.limits.TheConstants.{GREATEST_FRAME}
use Rattle.pre_trace.specs.Values.{is_lower_case_digit, lower_case_pairs}

pub front_is : (n : ℕ) (old new : List ℕ) (o : Option (List ℕ)) → Some n ≡ option_map length o → new ≡ option_map_or (λ octets. octets ++ drop (length octets) old) o old
    → (Some (take n new) ≡ o) × (n ≡ length (take n new))
front_is n old new None is written = absurd cc
front_is n old new (Some octets) is written =
    let count : n ≡ length octets = cc is in
    let same : take n new ≡ octets = ap (λ (k : ℕ). take k new) count ∙ (ap (take (length octets)) written ∙ take-append_seam octets (drop (length octets) old)) in
    (ap Some same, count ∙ ap length (sym same))

none_mapped : (o : Option (List ℕ)) → None ≡ option_map length o → None ≡ o
none_mapped None is = refl
none_mapped (Some octets) is = absurd cc

low_is : (into word : List ℕ) → GREATEST_FRAME ≤ length into → list_all is_lower_case_digit word ≡ true → pairs_within (length (take GREATEST_FRAME into)) word ≡ lower_case_pairs GREATEST_FRAME word
low_is into word room low =
    let whole : length (take GREATEST_FRAME into) ≡ GREATEST_FRAME = length-take-le GREATEST_FRAME into room in
    rw (low, whole) refl

pub no_pairs : (into word : List ℕ) → GREATEST_FRAME ≤ length into → list_all is_lower_case_digit word ≡ true
    → None ≡ option_map length (pairs_within (length (take GREATEST_FRAME into)) word) → None ≡ lower_case_pairs GREATEST_FRAME word
no_pairs into word room low is = none_mapped (pairs_within (length (take GREATEST_FRAME into)) word) is ∙ low_is into word room low

pub some_pairs : (n : ℕ) (into new word : List ℕ) → GREATEST_FRAME ≤ length into → list_all is_lower_case_digit word ≡ true
    → Some n ≡ option_map length (pairs_within (length (take GREATEST_FRAME into)) word)
    → new ≡ option_map_or (λ octets. octets ++ drop (length octets) (take GREATEST_FRAME into)) (pairs_within (length (take GREATEST_FRAME into)) word) (take GREATEST_FRAME into)
    → Some (take n new) ≡ lower_case_pairs GREATEST_FRAME word
some_pairs n into new word room low is written = (front_is n (take GREATEST_FRAME into) new (pairs_within (length (take GREATEST_FRAME into)) word) is written).0 ∙ low_is into word room low

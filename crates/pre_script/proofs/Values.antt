-- What is known of a number, of octets and of an arc that a word spells.
use Rattle.std.proofs.Common.{◌≡◌, ℕ, ◌%◌, ◌^◌, ◌<◌, ◌≤◌, Bool, true, false, ◌==◌, ◌&&◌, nat_le, nat_lt}
use Rattle.std.proofs.Common.{if◌then◌else◌, List, [], ◌∷◌, ◌++◌, length, take, drop, position, Option, Some, None, refl, ap}
use Rattle.std.proofs.Common.{subst, arith}
use Rattle.std.specs.Char.{digit_value, is_ascii_hexdigit}
use Rattle.std.specs.List.{list_all}
use Rattle.std.specs.Str.{bytes_eq}
use Rattle.std.specs.Str.Parse.{digits_value}
use Rattle.std.proofs.lemmas.Bool.{false≢true}
use Rattle.std.proofs.lemmas.Bool.Decides.{nat_tests}
use Rattle.std.specs.Option.{option_map, option_map_or}
use Rattle.std.proofs.lemmas.Grind.{common_steps}
use Rattle.std.proofs.lemmas.List.{length-append}
use Rattle.std.proofs.Math.Seq.{take-append_seam}
use Rattle.pre_text.specs.Reading.{AreOctets}
use Rattle.pre_text.specs.Words.{are_pairs, is_plain, number_of, pair_octets, pairs_within}
use Rattle.pre_text.proofs.Pairs.{length-pair_octets}
use Rattle.pre_topo.specs.declared.network.Network.{Network}
use Rattle.pre_topo.specs.declared.arcs.Arc.{Arc}
use Rattle.pre_topo.specs.Names.{name_of_arc}
use Rattle.pre_topo.specs.Named.{arc_named}
use Rattle.pre_base.proofs.NumberTests.{at_most, below}

pub both : (p q : Bool) → (p && q) ≡ true → (p ≡ true) × (q ≡ true)
both true true e = (refl, refl)
both true false e = absurd (false≢true e)
both false q e = absurd (false≢true e)

pub if-Some : {A : Type 0} (b : Bool) (x y : A) → (if b then Some x else None) ≡ Some y → (b ≡ true) × (x ≡ y)
if-Some true x y e = (refl, cc)
if-Some false x y e = absurd cc

-- a number that was read has at most 64 bits
pub number_below : (word : List ℕ) (n : ℕ) → number_of word ≡ Some n → n < 2 ^ 64
number_below word n e =
    let value = digits_value 10 word in
    let parts = if-Some (is_plain word && nat_lt value (2 ^ 64)) value n e in
    let fits : value < 2 ^ 64 = below value (2 ^ 64) (both (is_plain word) (nat_lt value (2 ^ 64)) parts.0).1 in
    subst (λ (m : ℕ). m < 2 ^ 64) parts.1 fits

digit_below : (c : ℕ) → is_ascii_hexdigit c ≡ true → digit_value c < 16
digit_below c e = grind (arith, nat_tests)

octets_spelled : (word : List ℕ) → list_all is_ascii_hexdigit word ≡ true → AreOctets (pair_octets word)
octets_spelled [] h = tt
octets_spelled (high ∷ []) h = tt
octets_spelled (high ∷ low ∷ rest) h =
    let first = both (is_ascii_hexdigit high) (list_all is_ascii_hexdigit (low ∷ rest)) h in
    let second = both (is_ascii_hexdigit low) (list_all is_ascii_hexdigit rest) first.1 in
    (omega (arith, digit_below high first.0, digit_below low second.0), octets_spelled rest second.1)

-- octets that were read
pub record AreRead (room : ℕ) (octets : List ℕ) : Type 0 where
  pub least : 1 ≤ length octets
  pub most : length octets ≤ room
  pub each : AreOctets octets

pub octets_read : (room : ℕ) (word octets : List ℕ) → pairs_within room word ≡ Some octets → AreRead room octets
octets_read room word octets e =
    let found = pair_octets word in
    let parts = if-Some (are_pairs word && nat_le (length found) room) found octets e in
    let within = both (are_pairs word) (nat_le (length found) room) parts.0 in
    let first = both (nat_lt 0 (length word) && (length word % 2 == 0)) (list_all is_ascii_hexdigit word) within.0 in
    let second = both (nat_lt 0 (length word)) (length word % 2 == 0) first.0 in
    let some : 0 < length word = below 0 (length word) second.0 in
    let even : length word % 2 ≡ 0 = grind (arith, nat_tests, second.1) in
    subst (AreRead room) parts.1
    (record {
      least = omega (arith, length-pair_octets word, some, even);
      most = at_most (length found) room within.1;
      each = octets_spelled word first.1;
    })

place_within : {X : Type 0} (p : X → Bool) (xs : List X) (i : ℕ) → position p xs ≡ Some i → i < length xs
place_within p xs i e = grind (arith, common_steps)

-- an arc that is named is one of the network
pub arc_known : (net : Network) (word : List ℕ) (arc : ℕ) → arc_named net word ≡ Some arc → arc < length net.arcs
arc_known net word arc e = place_within (λ (a : Arc). bytes_eq (name_of_arc net.nodes a) word) net.arcs arc e

-- where no count is answered, no octets are spelled
pub none_spelled : (spelled : Option (List ℕ)) → None ≡ option_map (λ (xs : List ℕ). length xs) spelled → None ≡ spelled
none_spelled None is = refl
none_spelled (Some xs) is = absurd cc

-- the octets stand at the front of the room
pub spelled_in_front : (spelled : Option (List ℕ)) (count : ℕ) (old new : List ℕ) → Some count ≡ option_map (λ (xs : List ℕ). length xs) spelled
    → new ≡ option_map_or (λ (xs : List ℕ). xs ++ drop (length xs) old) spelled old → (count ≤ length new) × (Some (take count new) ≡ spelled)
spelled_in_front None count old new is written = absurd cc
spelled_in_front (Some xs) count old new is written =
    let long : count ≡ length xs = cc in
    let front : take count new ≡ xs = rw (written, long) (take-append_seam xs (drop (length xs) old)) in
    (omega (arith, long, ap length written, length-append xs (drop (length xs) old)), ap Some front)

-- Which octets are a frame.
use Rattle.std.proofs.Common.{◌≡◌, ℕ, ◌+◌, ◌-◌, ◌*◌, ◌/◌, ◌%◌, ◌<◌, ◌≤◌, ◌==◌, Bool, List, [], ◌∷◌}
use Rattle.std.proofs.Common.{◌++◌, length, get_or, take, drop, refl, sym, ap, ap₂, ◌∙◌, arith, append_assoc, length-append}
use Rattle.std.proofs.Common.{length-drop}
use Rattle.std.proofs.lemmas.List.{take_at, drop_at, drop-drop, get_or-drop, take-append-drop, take_rest, length-take-le}
use Rattle.std.specs.Int.{bytes_high_first}
use Rattle.pre_crc.specs.Checks.{Fcs}
use Rattle.pre_crc.proofs.CheckFacts.{length-Fcs}
use Rattle.pre_frame.specs.Layout.{tag_type, tag_control}
use Rattle.pre_frame.specs.FrameFields.{Fields, checked_of, HasFrameSize, EndsWithFcs, IsTagged, IsFrame, number_at, fields_at}
use Rattle.pre_frame.proofs.Octets.{tag_control-lt, prio-of, vid-of, dei-of, tag_control-parts, two_octets, Placed, placed, six_more, in_row, at_place}

-- ---- from the fields to the octets

length-fcs : (f : Fields) (octets : List ℕ) → IsFrame f octets → length f.fcs ≡ 4
length-fcs f octets is = ap length is.check ∙ length-Fcs (checked_of f)

checked-length : (f : Fields) (octets : List ℕ) → IsFrame f octets → length (checked_of f) ≡ length octets - 4
checked-length f octets is =
    let whole = ap length is.in_order in
    omega (arith, whole, length-append (checked_of f) f.fcs, length-fcs f octets is)

front-is : (f : Fields) (octets : List ℕ) → IsFrame f octets → take (length octets - 4) octets ≡ checked_of f
front-is f octets is = ap (take (length octets - 4)) is.in_order ∙ take_at (checked_of f) f.fcs (length octets - 4) (checked-length f octets is)

end-is : (f : Fields) (octets : List ℕ) → IsFrame f octets → drop (length octets - 4) octets ≡ f.fcs
end-is f octets is = ap (drop (length octets - 4)) is.in_order ∙ drop_at (checked_of f) f.fcs (length octets - 4) (checked-length f octets is)

pub EndsWithFcs-from_frame : (f : Fields) (octets : List ℕ) → IsFrame f octets → EndsWithFcs octets
EndsWithFcs-from_frame f octets is = end-is f octets is ∙ is.check ∙ ap Fcs (sym (front-is f octets is))

-- what follows the addresses
abbrev rest_of : Fields → List ℕ
rest_of f = bytes_high_first 2 tag_type ++ bytes_high_first 2 (tag_control f.prio f.dei f.vid) ++ bytes_high_first 2 f.ether ++ f.payload ++ f.fcs

row-of : (d s t c e p k : List ℕ) → (d ++ s ++ t ++ c ++ e ++ p) ++ k ≡ d ++ (s ++ (t ++ c ++ e ++ p ++ k))
row-of d s t c e p k = simp append_assoc

fields-placed : (f : Fields) (octets : List ℕ) → IsFrame f octets → Placed f.destination f.source (rest_of f) octets
fields-placed f octets is =
    placed f.destination f.source (rest_of f) octets is.destination is.source
    (is.in_order ∙ row-of f.destination f.source (bytes_high_first 2 tag_type) (bytes_high_first 2 (tag_control f.prio f.dei f.vid)) (bytes_high_first 2 f.ether) f.payload f.fcs)

pub IsTagged-from_frame : (f : Fields) (octets : List ℕ) → IsFrame f octets → IsTagged octets
IsTagged-from_frame f octets is = ap (take 2) (fields-placed f octets is).others

same_fields : (d d' s s' : List ℕ) (p p' : ℕ) (b b' : Bool) (v v' e e' : ℕ) (l l' k k' : List ℕ)
    → d ≡ d' → s ≡ s' → p ≡ p' → b ≡ b' → v ≡ v' → e ≡ e' → l ≡ l' → k ≡ k'
    → (let x : Fields = record { destination = d; source = s; prio = p; dei = b; vid = v; ether = e; payload = l; fcs = k } in x)
    ≡ (let x : Fields = record { destination = d'; source = s'; prio = p'; dei = b'; vid = v'; ether = e'; payload = l'; fcs = k' } in x)
same_fields d d' s s' p p' b b' v v' e e' l l' k k' h0 h1 h2 h3 h4 h5 h6 h7 = cc

pub IsFrame-alone : (f : Fields) (octets : List ℕ) → IsFrame f octets → fields_at octets ≡ f
unfolding fields_at
IsFrame-alone f octets is =
    let at = fields-placed f octets is in
    let control : ℕ = tag_control f.prio f.dei f.vid in
    let c14 : get_or octets 14 0 ≡ control / 256 % 256 = at_place octets (rest_of f) 2 at.others in
    let c15 : get_or octets 15 0 ≡ control % 256 = at_place octets (rest_of f) 3 at.others in
    let e16 : get_or octets 16 0 ≡ f.ether / 256 % 256 = at_place octets (rest_of f) 4 at.others in
    let e17 : get_or octets 17 0 ≡ f.ether % 256 = at_place octets (rest_of f) 5 at.others in
    let number : number_at 14 octets ≡ control = ap₂ (λ x y. x * 256 + y) c14 c15 ∙ two_octets control (tag_control-lt f.prio f.vid f.dei is.prio is.vid) in
    let ether : number_at 16 octets ≡ f.ether = ap₂ (λ x y. x * 256 + y) e16 e17 ∙ two_octets f.ether is.ether in
    let past : drop 18 octets ≡ f.payload ++ f.fcs = sym (drop-drop 6 12 octets) ∙ ap (drop 6) at.others in
    let long : length f.payload ≡ length octets - 22 =
    omega (arith, is.size, length-fcs f octets is, ap length past, length-drop 18 octets, length-append f.payload f.fcs) in
    same_fields _ _ _ _ _ _ _ _ _ _ _ _ _ _ _ _
    at.first at.second
    (ap (λ n. n / 8192) number ∙ prio-of f.prio f.vid f.dei is.vid)
    (ap (λ n. n / 4096 % 2 == 1) number ∙ dei-of f.prio f.vid f.dei is.vid)
    (ap (λ n. n % 4096) number ∙ vid-of f.prio f.vid f.dei is.vid)
    ether
    (ap (take (length octets - 22)) past ∙ take_at f.payload f.fcs (length octets - 22) long)
    (end-is f octets is)

-- ---- from the octets to the fields

pair-is : (a b : ℕ) → a < 256 → b < 256 → bytes_high_first 2 (a * 256 + b) ≡ a ∷ b ∷ []
pair-is a b ha hb =
    let high : (a * 256 + b) / 256 % 256 ≡ a = omega arith in
    let low : (a * 256 + b) % 256 ≡ b = omega arith in
    ap₂ (λ x y. x ∷ y ∷ []) high low

joined : (a b c d e f a' b' c' d' e' f' : ℕ) (past past' : List ℕ) → a ∷ b ∷ [] ≡ a' ∷ b' ∷ [] → c' ∷ d' ∷ [] ≡ c ∷ d ∷ [] → e' ∷ f' ∷ [] ≡ e ∷ f ∷ [] → past ≡ past'
    → a ∷ b ∷ c ∷ d ∷ e ∷ f ∷ past ≡ a' ∷ b' ∷ c' ∷ d' ∷ e' ∷ f' ∷ past'
joined a b c d e f a' b' c' d' e' f' past past' h0 h1 h2 h3 = cc

-- the front, the tag, its numbers and the payload make the octets before the check
checked-at : (octets : List ℕ) → ((i : ℕ) → get_or octets i 0 < 256) → HasFrameSize octets → IsTagged octets
    → octets ≡ checked_of (fields_at octets) ++ drop (length octets - 4) octets
unfolding fields_at
checked-at octets small size tagged =
    let n : ℕ = length octets in
    let d : List ℕ = take 6 octets in
    let s : List ℕ = take 6 (drop 6 octets) in
    let p : List ℕ = take (n - 22) (drop 18 octets) in
    let k : List ℕ = drop (n - 4) octets in
    let six = six_more octets (omega arith) in
    let tag : get_or octets 12 0 ∷ get_or octets 13 0 ∷ [] ≡ 0x81 ∷ 0x00 ∷ [] = sym (ap (take 2) six) ∙ tagged in
    let c : bytes_high_first 2 (tag_control (number_at 14 octets / 8192) (number_at 14 octets / 4096 % 2 == 1) (number_at 14 octets % 4096)) ≡ get_or octets 14 0 ∷ get_or octets 15 0 ∷ [] =
    ap (bytes_high_first 2) (tag_control-parts (number_at 14 octets)) ∙ pair-is (get_or octets 14 0) (get_or octets 15 0) (small 14) (small 15) in
    let e : bytes_high_first 2 (number_at 16 octets) ≡ get_or octets 16 0 ∷ get_or octets 17 0 ∷ [] = pair-is (get_or octets 16 0) (get_or octets 17 0) (small 16) (small 17) in
    let last : drop (n - 22) (drop 18 octets) ≡ k = drop-drop (n - 22) 18 octets ∙ ap (λ m. drop m octets) (omega arith) in
    let past : drop 18 octets ≡ p ++ k = sym (take-append-drop (n - 22) (drop 18 octets)) ∙ ap (λ xs. p ++ xs) last in
    let rest : drop 12 octets ≡ bytes_high_first 2 tag_type ++ bytes_high_first 2 (tag_control (number_at 14 octets / 8192) (number_at 14 octets / 4096 % 2 == 1) (number_at 14 octets % 4096)) ++ bytes_high_first 2 (number_at 16 octets) ++ p ++ k =
    six ∙ joined _ _ _ _ _ _ _ _ _ _ _ _ _ _ tag c e past in
    in_row octets ∙ ap (λ xs. d ++ (s ++ xs)) rest ∙ sym (row-of d s (bytes_high_first 2 tag_type) _ _ p k)

front-at : (octets : List ℕ) → ((i : ℕ) → get_or octets i 0 < 256) → HasFrameSize octets → IsTagged octets → take (length octets - 4) octets ≡ checked_of (fields_at octets)
front-at octets small size tagged =
    let order = checked-at octets small size tagged in
    let left : length (drop (length octets - 4) octets) ≡ 4 = omega (arith, size, length-drop (length octets - 4) octets) in
    let whole = ap length order in
    let long : length (checked_of (fields_at octets)) ≡ length octets - 4 =
    omega (arith, whole, left, size, length-append (checked_of (fields_at octets)) (drop (length octets - 4) octets)) in
    ap (take (length octets - 4)) order ∙ take_at (checked_of (fields_at octets)) (drop (length octets - 4) octets) (length octets - 4) long

pub IsFrame-at : (octets : List ℕ) → ((i : ℕ) → get_or octets i 0 < 256) → HasFrameSize octets → EndsWithFcs octets → IsTagged octets → IsFrame (fields_at octets) octets
unfolding fields_at
IsFrame-at octets small size ends tagged =
    let first = small 14 in
    let second = small 15 in
    let third = small 16 in
    let fourth = small 17 in record {
      size = size;
      in_order = checked-at octets small size tagged;
      destination = length-take-le 6 octets (omega arith);
      source = length-take-le 6 (drop 6 octets) (omega (arith, size, length-drop 6 octets));
      prio = omega arith;
      vid = omega arith;
      ether = omega arith;
      check = ends ∙ ap Fcs (front-at octets small size tagged);
    }

-- a number read from the octets from a place on
pub read-at : (octets : List ℕ) (place n : ℕ)
    → n ≡ get_or (take (length octets - place) (drop place octets)) 0 0 * 256 + (get_or (take (length octets - place) (drop place octets)) 1 0 * 1 + 0)
    → n ≡ number_at place octets
read-at octets place n e =
    let rest = take_rest octets place in
    let first : get_or (take (length octets - place) (drop place octets)) 0 0 ≡ get_or octets place 0 =
    ap (λ xs. get_or xs 0 0) rest ∙ get_or-drop place octets 0 0 ∙ ap (λ k. get_or octets k 0) (omega arith) in
    let second : get_or (take (length octets - place) (drop place octets)) 1 0 ≡ get_or octets (place + 1) 0 =
    ap (λ xs. get_or xs 1 0) rest ∙ get_or-drop place octets 1 0 in
    omega (arith, e, first, second)

-- the fields as a view of them gives them
pub view-at : (octets payload fcs : List ℕ) (control ether : ℕ) → 22 ≤ length octets
    → payload ≡ take (length octets - 4 - 18) (drop 18 octets) → fcs ≡ take (length octets - (length octets - 4)) (drop (length octets - 4) octets)
    → control ≡ number_at 14 octets → ether ≡ number_at 16 octets
    → (let x : Fields = record { destination = take 6 octets; source = take 6 (drop 6 octets); prio = control / 8192; dei = control / 4096 % 2 == 1; vid = control % 4096; ether = ether; payload = payload; fcs = fcs } in x)
    ≡ fields_at octets
unfolding fields_at
view-at octets payload fcs control ether h ep ek ec ee =
    same_fields _ _ _ _ _ _ _ _ _ _ _ _ _ _ _ _ refl refl
    (ap (λ n. n / 8192) ec) (ap (λ n. n / 4096 % 2 == 1) ec) (ap (λ n. n % 4096) ec) ee
    (ep ∙ ap (λ m. take m (drop 18 octets)) (omega arith)) (ek ∙ take_rest octets (length octets - 4))

-- A frame written from its front to its end.
use Rattle.std.proofs.Common.{◌≡◌, ℕ, ◌+◌, ◌-◌, ◌/◌, ◌%◌, ◌<◌, ◌≤◌, List, [], ◌∷◌, ◌++◌, length, take}
use Rattle.std.proofs.Common.{drop, replicate, sym, ap, ap₂, ◌∙◌, arith, append_assoc, append-nil, length-append, length-drop, decimal}
use Rattle.std.proofs.lemmas.List.{length-replicate}
use Rattle.std.proofs.lemmas.List.{take_at, drop_at, drop_all, length-take-le}
use Rattle.std.specs.Int.{bytes_high_first}
use borrow.Rule.Slice.PartMut.{put_mid, post_of}
use Rattle.pre_crc.specs.Checks.{Fcs}
use Rattle.pre_frame.specs.Layout.{address_of, with_check}
use Rattle.pre_lldp.specs.declared.adverts.Advert.{Advert}
use Rattle.pre_lldp.specs.Tlvs.{tlv_octets}
use Rattle.pre_lldp.specs.LldpLayout.{nearest_bridge, lldp_type, chassis_of, capabilities_tlv, lldpdu_of, padded, lldp_frame}

-- zeros and the check behind the octets that were put there
pub closed : (xs front zeros check : List ℕ) (p : ℕ) → length xs ≡ 64 → take p xs ≡ front → length front ≡ p → p ≤ 60
    → zeros ≡ replicate (60 - p) 0 → length zeros ≡ 60 - p → check ≡ Fcs (take 60 (put_mid p (60 - p) xs zeros))
    → take 60 (put_mid p (60 - p) xs zeros) ++ (check ++ post_of 60 4 (put_mid p (60 - p) xs zeros)) ≡ with_check (padded front)
closed xs front zeros check p ex ef el h ez lz ec =
    let whole : List ℕ = put_mid p (60 - p) xs zeros in
    let in_two : whole ≡ (take p xs ++ zeros) ++ post_of p (60 - p) xs = sym (append_assoc (take p xs) zeros (post_of p (60 - p) xs)) in
    let size : length (take p xs ++ zeros) ≡ 60 = omega (arith, length-append (take p xs) zeros, ap length ef) in
    let first : take 60 whole ≡ take p xs ++ zeros = ap (take 60) in_two ∙ take_at (take p xs ++ zeros) (post_of p (60 - p) xs) 60 size in
    let sixty : take 60 whole ≡ padded front = first ∙ ap₂ (λ us vs. us ++ vs) ef (ez ∙ ap (λ n. replicate (60 - n) 0) (sym el)) in
    let last : drop 60 whole ≡ drop (60 - p) (drop p xs) = ap (drop 60) in_two ∙ drop_at (take p xs ++ zeros) (post_of p (60 - p) xs) 60 size in
    let four : length (drop 60 whole) ≡ 4 = ap length last ∙ omega (arith, length-drop (60 - p) (drop p xs), length-drop p xs) in
    let none : post_of 60 4 whole ≡ [] = drop_all 4 (drop 60 whole) (omega arith) in
    ap₂ (λ us vs. us ++ vs) sixty (ap (λ vs. check ++ vs) none ∙ append-nil check ∙ ec ∙ ap Fcs sixty)

same_head : (a d : ℕ) (xs : List ℕ) → 1024 + (1 + d) ≡ a → d < 100 → 4 ∷ (1 + d) ∷ xs ≡ a / 256 % 256 ∷ a % 256 ∷ xs
same_head a d xs e h =
    let high : 4 ≡ a / 256 % 256 = omega arith in
    let low : 1 + d ≡ a % 256 = omega arith in
    ap₂ (λ x y. x ∷ y ∷ xs) high low

-- the three pieces are the frame's octets before the padding
pub in_order : (node arc : ℕ) (says : Advert) (digits : ℕ) → length (decimal arc) ≡ digits → digits < 100
    → ((nearest_bridge ++ address_of node ++ lldp_type ++ tlv_octets (record { kind = 1; value = chassis_of node }) ++ 0x04 ∷ (1 + digits) ∷ 7 ∷ []) ++ decimal arc)
    ++ (tlv_octets (record { kind = 3; value = bytes_high_first 2 says.ttl }) ++ tlv_octets (capabilities_tlv says) ++ 0x00 ∷ 0x00 ∷ [])
    ≡ nearest_bridge ++ address_of node ++ lldp_type ++ lldpdu_of node arc says
in_order node arc says digits e h =
    let time : List ℕ = tlv_octets (record { kind = 3; value = bytes_high_first 2 says.ttl }) in
    let caps : List ℕ = tlv_octets (capabilities_tlv says) in
    let a : ℕ = 1024 + length (7 ∷ decimal arc) in
    ap (λ xs. nearest_bridge ++ address_of node ++ lldp_type ++ tlv_octets (record { kind = 1; value = chassis_of node }) ++ xs)
    (same_head a digits (7 ∷ (decimal arc ++ (time ++ caps ++ 0 ∷ 0 ∷ []))) (omega arith) h
    ∙ ap (λ xs. a / 256 % 256 ∷ a % 256 ∷ 7 ∷ xs) (sym (append_assoc (decimal arc) (time ++ caps) (0 ∷ 0 ∷ []))))

-- the octets before the arc's number, and those behind it
abbrev pub front_of : ℕ → ℕ → List ℕ
front_of node digits = nearest_bridge ++ address_of node ++ lldp_type ++ tlv_octets (record { kind = 1; value = chassis_of node }) ++ 0x04 ∷ (1 + digits) ∷ 7 ∷ []

abbrev pub back_of : Advert → List ℕ
back_of says = tlv_octets (record { kind = 3; value = bytes_high_first 2 says.ttl }) ++ tlv_octets (capabilities_tlv says) ++ 0x00 ∷ 0x00 ∷ []

in_frame : (node arc : ℕ) (says : Advert) (digits : ℕ) → length (decimal arc) ≡ digits → digits < 100
    → with_check (padded ((front_of node digits ++ decimal arc) ++ back_of says)) ≡ lldp_frame node arc says
unfolding lldp_frame
in_frame node arc says digits e h = ap (λ xs. with_check (padded xs)) (in_order node arc says digits e h)

-- three pieces put one behind the other, and the end closed
pub frame_written : (node arc : ℕ) (says : Advert) (xs1 xs2 xs3 first text last zeros check : List ℕ) (p1 p2 p3 : ℕ)
    → length xs3 ≡ 64 → take p1 xs1 ≡ first → take p2 xs2 ≡ take p1 xs1 ++ text → take p3 xs3 ≡ take p2 xs2 ++ last
    → p1 ≡ length first → p2 ≡ p1 + length text → p3 ≡ p2 + length last
    → first ≡ front_of node (length text) → text ≡ decimal arc → last ≡ back_of says → length text ≤ 5
    → zeros ≡ replicate (length (take (60 - p3) (drop p3 xs3))) 0 → check ≡ Fcs (take 60 (put_mid p3 (60 - p3) xs3 zeros))
    → take 60 (put_mid p3 (60 - p3) xs3 zeros) ++ (check ++ post_of 60 4 (put_mid p3 (60 - p3) xs3 zeros)) ≡ lldp_frame node arc says
frame_written node arc says xs1 xs2 xs3 first text last zeros check p1 p2 p3 long w1 w2 w3 q1 q2 q3 ef et el h ez ec =
    let all : take p3 xs3 ≡ (first ++ text) ++ last = w3 ∙ ap (λ us. us ++ last) (w2 ∙ ap (λ us. us ++ text) w1) in
    let front_long : length first ≡ 26 = ap length ef in
    let back_long : length last ≡ 14 = ap length el in
    let size : length ((first ++ text) ++ last) ≡ p3 = omega (arith, length-append (first ++ text) last, length-append first text) in
    let left : length (take (60 - p3) (drop p3 xs3)) ≡ 60 - p3 = length-take-le (60 - p3) (drop p3 xs3) (omega (arith, length-drop p3 xs3)) in
    let zero_is : zeros ≡ replicate (60 - p3) 0 = ez ∙ ap (λ n. replicate n 0) left in
    let zero_long : length zeros ≡ 60 - p3 = ap length zero_is ∙ length-replicate (60 - p3) 0 in
    closed xs3 ((first ++ text) ++ last) zeros check p3 long all size (omega arith) zero_is zero_long ec
    ∙ ap₂ (λ us vs. with_check (padded ((us ++ text) ++ vs))) ef el
    ∙ ap (λ us. with_check (padded ((front_of node (length text) ++ us) ++ back_of says))) et
    ∙ in_frame node arc says (length text) (sym (ap length et)) (omega arith)

-- What stands at the front of octets.
use Rattle.std.proofs.Common.{◌≡◌, ◌≢◌, ℕ, zero, suc, ◌+◌, ◌*◌, ◌/◌, ◌%◌, ◌<◌, ◌≤◌, ◌⊎◌, inl, inr, Bool, true, false, cond, not, ◌&&◌, List}
use Rattle.std.proofs.Common.{[], ◌∷◌, ◌++◌, length, get_or, take, drop, Option, Some, None, Result, Ok, Err, refl, sym, ap, ap₂, ◌∙◌, arith, eqb, leb, ltb, length-append}
use Rattle.std.proofs.Common.{length-drop}
use Rattle.std.proofs.lemmas.Bool.{eqb-true, eqb-false, leb-true, leb-false, le-leb, lt-leb, lt-ltb, le-ltb, ne_eqb, and_parts, and_from, and_cases, and_left, and_right, cond-true, cond-false}
use Rattle.std.proofs.lemmas.List.{take_at, drop_at, drop_more, take-append-drop, nil_from_length, length-take-le}
use Rattle.std.specs.Int.{bytes_high_first}
use Rattle.pre_frame.specs.FrameFields.{number_at}
use Rattle.pre_lldp.specs.declared.reading.LldpFault.{LldpFault}
use Rattle.pre_lldp.specs.declared.reading.LldpFault.TheVariants.{Short, Order, Length, Repeat}
use Rattle.pre_lldp.specs.Tlvs.{Tlv, tlv_octets, HasHeader, has_place, has_length, is_capabilities, fault_of}
use Rattle.pre_lldp.specs.Pdus.{IsEnd, IsCutOff, length_at}
use Rattle.pre_lldp.specs.PduReading.{has_tlv, tlv_at, behind_tlv, unless, next_at}

-- each is an octet
abbrev pub AreOctets : List ℕ → Type 0
AreOctets octets = (i : ℕ) → get_or octets i 0 < 256

-- ---- which way a test went

pub chosen : {A : Type 0} (b : Bool) (x y z : A) → cond b x y ≡ z → ((b ≡ true) × (x ≡ z)) ⊎ ((b ≡ false) × (y ≡ z))
chosen true x y z e = inl (refl, e)
chosen false x y z e = inr (refl, e)

-- what stands at the front, by the tests that tell it
abbrev front : Bool → Bool → Bool → Option LldpFault → Tlv × List ℕ → Result (Option (Tlv × List ℕ)) LldpFault
front empty there ends fault x = cond empty (Ok None) (cond (not there) (Err Short) (unless fault (cond ends None (Some x))))

front-cut : (empty there ends : Bool) (fault : Option LldpFault) (x : Tlv × List ℕ) → empty ≡ false → there ≡ false → front empty there ends fault x ≡ Err Short
front-cut true there ends fault x e h = absurd cc
front-cut false true ends fault x e h = absurd cc
front-cut false false ends fault x e h = refl

front-some : (empty there ends : Bool) (fault : Option LldpFault) (x y : Tlv × List ℕ) → front empty there ends fault x ≡ Ok (Some y) → (there ≡ true) × (ends ≡ false) × (fault ≡ None) × (x ≡ y)
front-some true there ends fault x y e = absurd cc
front-some false false ends fault x y e = absurd cc
front-some false true ends (Some f) x y e = absurd cc
front-some false true true None x y e = absurd cc
front-some false true false None x y e = (refl, refl, refl, cc)

front-err : (empty there ends : Bool) (fault : Option LldpFault) (x : Tlv × List ℕ) (f : LldpFault) → front empty there ends fault x ≡ Err f
    → ((empty ≡ false) × (there ≡ false) × (f ≡ Short)) ⊎ ((there ≡ true) × (fault ≡ Some f))
front-err true there ends fault x f e = absurd cc
front-err false false ends fault x f e = inl (refl, refl, cc)
front-err false true ends (Some g) x f e = inr (refl, cc)
front-err false true true None x f e = absurd cc
front-err false true false None x f e = absurd cc

front-none : (empty there ends : Bool) (fault : Option LldpFault) (x : Tlv × List ℕ) → front empty there ends fault x ≡ Ok None → (empty ≡ true) ⊎ ((there ≡ true) × (ends ≡ true) × (fault ≡ None))
front-none true there ends fault x e = inl refl
front-none false false ends fault x e = absurd cc
front-none false true ends (Some f) x e = absurd cc
front-none false true true None x e = inr (refl, refl, refl)
front-none false true false None x e = absurd cc

-- ---- a TLV in its octets

two_octets : (n : ℕ) → n < 65536 → n / 256 % 256 * 256 + n % 256 ≡ n
two_octets n h = omega arith

pub header-is : (t : Tlv) (rest : List ℕ) → HasHeader t → number_at 0 (tlv_octets t ++ rest) ≡ t.kind * 512 + length t.value
header-is t rest h = two_octets (t.kind * 512 + length t.value) (omega (arith, h.kind, h.size))

pub length-is : (t : Tlv) (rest : List ℕ) → HasHeader t → length_at (tlv_octets t ++ rest) ≡ length t.value
length-is t rest h = ap (λ n. n % 512) (header-is t rest h) ∙ omega (arith, h.size)

pub kind-is : (t : Tlv) (rest : List ℕ) → HasHeader t → number_at 0 (tlv_octets t ++ rest) / 512 ≡ t.kind
kind-is t rest h = ap (λ n. n / 512) (header-is t rest h) ∙ omega (arith, h.size)

same_tlv : (k k' : ℕ) (v v' : List ℕ) → k ≡ k' → v ≡ v' → (let x : Tlv = record { kind = k; value = v } in x) ≡ (let x : Tlv = record { kind = k'; value = v' } in x)
same_tlv k k' v v' e f = cc

pub tlv_at-is : (t : Tlv) (rest : List ℕ) → HasHeader t → tlv_at (tlv_octets t ++ rest) ≡ t
tlv_at-is t rest h =
    same_tlv _ t.kind _ t.value (kind-is t rest h) (ap (λ n. take n (t.value ++ rest)) (length-is t rest h) ∙ take_at t.value rest (length t.value) refl)

pub behind_tlv-is : (t : Tlv) (rest : List ℕ) → HasHeader t → behind_tlv (tlv_octets t ++ rest) ≡ rest
behind_tlv-is t rest h = ap (λ n. drop n (t.value ++ rest)) (length-is t rest h) ∙ drop_at t.value rest (length t.value) refl

pub has_tlv-is : (t : Tlv) (rest : List ℕ) → HasHeader t → has_tlv (tlv_octets t ++ rest) ≡ true
has_tlv-is t rest h =
    let size = length-append t.value rest in
    let long = length-is t rest h in
    and_from _ _ (le-leb 2 (length (tlv_octets t ++ rest)) (omega arith)) (le-leb (2 + length_at (tlv_octets t ++ rest)) (length (tlv_octets t ++ rest)) (omega arith))

-- ---- what the front of octets gives

whole : {A : Type 0} (octets : List ℕ) (x y z : A) → has_tlv octets ≡ true → cond (eqb (length octets) 0) x (cond (not (has_tlv octets)) y z) ≡ z
whole octets x y z h =
    let long : 2 ≤ length octets = leb-true _ _ (and_parts _ _ h).0 in
    cond-false (eqb (length octets) 0) x _ (ne_eqb (length octets) 0 (λ e. absurd (omega arith))) ∙ ap (λ b. cond (not b) y z) h

-- a TLV without a fault that isn't an End TLV
pub next_at-tlv : (place : ℕ) (known : Bool) (t : Tlv) (rest : List ℕ) → HasHeader t → t.kind ≢ 0 → fault_of place known t ≡ None
    → next_at place known (tlv_octets t ++ rest) ≡ Ok (Some (t, rest))
unfolding next_at
next_at-tlv place known t rest h goes_on fault =
    let octets : List ℕ = tlv_octets t ++ rest in
    let is = tlv_at-is t rest h in
    whole octets _ _ _ (has_tlv-is t rest h)
    ∙ ap (λ o. unless o (cond (eqb (number_at 0 octets / 512) 0) None (Some (tlv_at octets, behind_tlv octets)))) (ap (fault_of place known) is ∙ fault)
    ∙ ap (λ o. Ok o) (cond-false _ _ _ (ne_eqb _ _ (λ e. goes_on (sym (kind-is t rest h) ∙ e))) ∙ ap₂ (λ u v. Some (u, v)) is (behind_tlv-is t rest h))

-- a TLV with a fault
pub next_at-fault : (place : ℕ) (known : Bool) (t : Tlv) (rest : List ℕ) (fault : LldpFault) → HasHeader t → fault_of place known t ≡ Some fault
    → next_at place known (tlv_octets t ++ rest) ≡ Err fault
unfolding next_at
next_at-fault place known t rest fault h is_fault =
    let octets : List ℕ = tlv_octets t ++ rest in
    whole octets _ _ _ (has_tlv-is t rest h)
    ∙ ap (λ o. unless o (cond (eqb (number_at 0 octets / 512) 0) None (Some (tlv_at octets, behind_tlv octets)))) (ap (fault_of place known) (tlv_at-is t rest h) ∙ is_fault)

-- no whole TLV
pub next_at-cut : (place : ℕ) (known : Bool) (octets : List ℕ) → IsCutOff octets → next_at place known octets ≡ Err Short
unfolding next_at
next_at-cut place known octets (inl one) =
    front-cut (eqb (length octets) 0) (has_tlv octets) (eqb (number_at 0 octets / 512) 0) (fault_of place known (tlv_at octets)) (tlv_at octets, behind_tlv octets)
    (ne_eqb (length octets) 0 (λ e. absurd (omega arith)))
    (and_left (leb 2 (length octets)) (leb (2 + length_at octets) (length octets)) (lt-leb 2 (length octets) (omega arith)))
next_at-cut place known octets (inr cut) =
    let long = cut.0 in
    front-cut (eqb (length octets) 0) (has_tlv octets) (eqb (number_at 0 octets / 512) 0) (fault_of place known (tlv_at octets)) (tlv_at octets, behind_tlv octets)
    (ne_eqb (length octets) 0 (λ e. absurd (omega arith)))
    (and_right (leb 2 (length octets)) (leb (2 + length_at octets) (length octets)) (lt-leb (2 + length_at octets) (length octets) cut.1))

end_fault : (place : ℕ) (known : Bool) → 3 ≤ place → fault_of place known (record { kind = 0; value = [] }) ≡ None
unfolding fault_of has_place has_length is_capabilities
end_fault place known h = rw (le-ltb place 3 h) refl

-- the end, where the first three TLVs are there
pub next_at-end : (place : ℕ) (known : Bool) (octets : List ℕ) → IsEnd octets → 3 ≤ place → next_at place known octets ≡ Ok None
unfolding next_at
next_at-end place known octets (inl e) h = ap (next_at place known) e
next_at-end place known octets (inr x) h =
    let fault = end_fault place known h in
    ap (next_at place known) x.1
    ∙ whole (0 ∷ 0 ∷ x.0) _ _ _ (and_from _ _ (le-leb 2 (length (0 ∷ 0 ∷ x.0)) (omega arith)) (le-leb 2 (length (0 ∷ 0 ∷ x.0)) (omega arith)))
    ∙ ap (λ o. unless o None) fault

-- ---- what stands at the front, from what it gives

pub has_tlv-split : (octets : List ℕ) → AreOctets octets → has_tlv octets ≡ true → HasHeader (tlv_at octets) × (octets ≡ tlv_octets (tlv_at octets) ++ behind_tlv octets)
has_tlv-split octets small h =
    let parts = and_parts _ _ h in
    let two : 2 ≤ length octets = leb-true _ _ parts.0 in
    let fits : 2 + length_at octets ≤ length octets = leb-true _ _ parts.1 in
    let first = small 0 in
    let second = small 1 in
    let size : length (take (length_at octets) (drop 2 octets)) ≡ length_at octets = length-take-le (length_at octets) (drop 2 octets) (omega (arith, length-drop 2 octets)) in
    let n : ℕ = number_at 0 octets in
    let header : n / 512 * 512 + length (take (length_at octets) (drop 2 octets)) ≡ n = omega (arith, size) in
    let high : get_or octets 0 0 ≡ n / 256 % 256 = omega arith in
    let low : get_or octets 1 0 ≡ n % 256 = omega arith in
    let split : octets ≡ get_or octets 0 0 ∷ get_or octets 1 0 ∷ drop 2 octets =
    drop_more octets 0 0 (omega arith) ∙ ap (λ xs. get_or octets 0 0 ∷ xs) (drop_more octets 1 0 (omega arith)) in (
      record { kind = omega arith; size = omega (arith, size) },
      split ∙ ap₂ (λ x y. x ∷ y ∷ drop 2 octets) high low ∙ ap (λ m. bytes_high_first 2 m ++ drop 2 octets) (sym header)
          ∙ ap (λ xs. bytes_high_first 2 (n / 512 * 512 + length (take (length_at octets) (drop 2 octets))) ++ xs) (sym (take-append-drop (length_at octets) (drop 2 octets))),
    )

pub record IsNext (place : ℕ) (known : Bool) (octets : List ℕ) (t : Tlv) (rest : List ℕ) : Type 0 where
  pub there : has_tlv octets ≡ true
  pub fault : fault_of place known t ≡ None
  pub goes_on : t.kind ≢ 0
  pub is : tlv_at octets ≡ t
  pub behind : behind_tlv octets ≡ rest

pub next_at-some : (place : ℕ) (known : Bool) (octets : List ℕ) (t : Tlv) (rest : List ℕ) → next_at place known octets ≡ Ok (Some (t, rest)) → IsNext place known octets t rest
unfolding next_at
next_at-some place known octets t rest e =
    let p = front-some (eqb (length octets) 0) (has_tlv octets) (eqb (number_at 0 octets / 512) 0) (fault_of place known (tlv_at octets)) (tlv_at octets, behind_tlv octets) (t, rest) e in
    let is : tlv_at octets ≡ t = ap (λ (x : Tlv × List ℕ). x.0) p.3 in
    record {
      there = p.0;
      fault = ap (fault_of place known) (sym is) ∙ p.2;
      goes_on = λ z. eqb-false _ _ p.1 (ap (λ (u : Tlv). u.kind) is ∙ z);
      is = is;
      behind = ap (λ (x : Tlv × List ℕ). x.1) p.3;
    }

two_or_one : (n : ℕ) → n ≢ 0 → (n ≡ 1) ⊎ (2 ≤ n)
two_or_one zero h = absurd (h refl)
two_or_one (suc zero) h = inl refl
two_or_one (suc (suc n)) h = inr (omega arith)

cut_off : (octets : List ℕ) → length octets ≢ 0 → has_tlv octets ≡ false → IsCutOff octets
cut_off octets some h = go (two_or_one (length octets) some) (and_cases (leb 2 (length octets)) (leb (2 + length_at octets) (length octets)) h)
  where
    go : (length octets ≡ 1) ⊎ (2 ≤ length octets) → (leb 2 (length octets) ≡ false) ⊎ (leb (2 + length_at octets) (length octets) ≡ false) → IsCutOff octets
    go (inl one) which = inl one
    go (inr two) (inl short) = absurd (omega (arith, leb-false 2 (length octets) short))
    go (inr two) (inr cut) = inr (two, leb-false _ _ cut)

-- the fault, of octets that are cut off or of a whole TLV
pub next_at-err : (place : ℕ) (known : Bool) (octets : List ℕ) (fault : LldpFault) → next_at place known octets ≡ Err fault
    → ((fault ≡ Short) × IsCutOff octets) ⊎ ((has_tlv octets ≡ true) × (fault_of place known (tlv_at octets) ≡ Some fault))
unfolding next_at
next_at-err place known octets fault e =
    go (front-err (eqb (length octets) 0) (has_tlv octets) (eqb (number_at 0 octets / 512) 0) (fault_of place known (tlv_at octets)) (tlv_at octets, behind_tlv octets) fault e)
  where
    go : ((eqb (length octets) 0 ≡ false) × (has_tlv octets ≡ false) × (fault ≡ Short)) ⊎ ((has_tlv octets ≡ true) × (fault_of place known (tlv_at octets) ≡ Some fault))
        → ((fault ≡ Short) × IsCutOff octets) ⊎ ((has_tlv octets ≡ true) × (fault_of place known (tlv_at octets) ≡ Some fault))
    go (inl p) = inl (p.2, cut_off octets (eqb-false _ _ p.0) p.1)
    go (inr p) = inr p

-- ---- what a TLV without a fault is

pub has_place-is : (place : ℕ) (known : Bool) (t : Tlv) → fault_of place known t ≡ None → (has_place place t ≡ true) × (has_length t ≡ true)
unfolding fault_of
has_place-is place known t e = go (has_place place t) (has_length t) _ e
  where
    go : (a b c : Bool) → cond (not a) (Some Order) (cond (not b) (Some Length) (cond c (Some Repeat) None)) ≡ None → (a ≡ true) × (b ≡ true)
    go false b c e = absurd cc
    go true false c e = absurd cc
    go true true c e = (refl, refl)

pub required-kind : (place : ℕ) (known : Bool) (t : Tlv) → place < 3 → fault_of place known t ≡ None → t.kind ≡ place + 1
unfolding has_place
required-kind place known t h e =
    let p = has_place-is place known t e in
    eqb-true t.kind (place + 1) (sym (cond-true (ltb place 3) _ _ (lt-ltb place 3 h)) ∙ p.0)

pub required-length : (place : ℕ) (known : Bool) (t : Tlv) → place < 3 → fault_of place known t ≡ None → 2 ≤ length t.value
unfolding has_length
required-length place known t h e =
    let kind = required-kind place known t h e in
    let p = has_place-is place known t e in
    go t.kind (length t.value) (is_capabilities t) (omega arith) (omega arith) p.1
  where
    go : (kind n : ℕ) (c : Bool) → 0 < kind → kind ≤ 3
        → cond (eqb kind 0) (eqb n 0) (cond (leb kind 2) (leb 2 n && leb n 256) (cond (eqb kind 3) (leb 2 n) (cond c (leb 6 n) true))) ≡ true → 2 ≤ n
    go zero n c h k e = absurd (omega arith)
    go (suc zero) n c h k e = leb-true 2 n (and_parts _ _ e).0
    go (suc (suc zero)) n c h k e = leb-true 2 n (and_parts _ _ e).0
    go (suc (suc (suc zero))) n c h k e = leb-true 2 n e
    go (suc (suc (suc (suc m)))) n c h k e = absurd (omega arith)

end_length : (place : ℕ) (known : Bool) (t : Tlv) → fault_of place known t ≡ None → t.kind ≡ 0 → length t.value ≡ 0
unfolding has_length
end_length place known t e z =
    let p = has_place-is place known t e in
    eqb-true (length t.value) 0 (sym (cond-true (eqb t.kind 0) _ _ (ap (λ n. eqb n 0) z)) ∙ p.1)

pub next_at-shorter : (octets : List ℕ) → has_tlv octets ≡ true → length (behind_tlv octets) + 2 ≤ length octets
next_at-shorter octets h =
    let fits : 2 + length_at octets ≤ length octets = leb-true (2 + length_at octets) (length octets) (and_parts (leb 2 (length octets)) (leb (2 + length_at octets) (length octets)) h).1 in
    omega (arith, length-drop (length_at octets) (drop 2 octets), length-drop 2 octets)

-- the end: no octet is left, or an End TLV stands there
pub next_at-none : (place : ℕ) (known : Bool) (octets : List ℕ) → AreOctets octets → next_at place known octets ≡ Ok None → IsEnd octets
unfolding next_at
next_at-none place known octets small e =
    go (front-none (eqb (length octets) 0) (has_tlv octets) (eqb (number_at 0 octets / 512) 0) (fault_of place known (tlv_at octets)) (tlv_at octets, behind_tlv octets) e)
  where
    go : (eqb (length octets) 0 ≡ true) ⊎ ((has_tlv octets ≡ true) × (eqb (number_at 0 octets / 512) 0 ≡ true) × (fault_of place known (tlv_at octets) ≡ None)) → IsEnd octets
    go (inl p) = inl (nil_from_length octets (eqb-true _ _ p))
    go (inr p) =
        let split = has_tlv-split octets small p.0 in
        let kind : number_at 0 octets / 512 ≡ 0 = eqb-true _ _ p.1 in
        let size : length (take (length_at octets) (drop 2 octets)) ≡ 0 = end_length place known (tlv_at octets) p.2 kind in
        let value = nil_from_length (take (length_at octets) (drop 2 octets)) size in
        inr (behind_tlv octets, split.1 ∙ ap₂ (λ k v. tlv_octets (record { kind = k; value = v }) ++ behind_tlv octets) kind value)

-- before the first three TLVs only the last octet ends them
pub next_at-none_early : (place : ℕ) (known : Bool) (octets : List ℕ) → place < 3 → next_at place known octets ≡ Ok None → octets ≡ []
unfolding next_at
next_at-none_early place known octets early e =
    go (front-none (eqb (length octets) 0) (has_tlv octets) (eqb (number_at 0 octets / 512) 0) (fault_of place known (tlv_at octets)) (tlv_at octets, behind_tlv octets) e)
  where
    go : (eqb (length octets) 0 ≡ true) ⊎ ((has_tlv octets ≡ true) × (eqb (number_at 0 octets / 512) 0 ≡ true) × (fault_of place known (tlv_at octets) ≡ None)) → octets ≡ []
    go (inl p) = nil_from_length octets (eqb-true _ _ p)
    go (inr p) =
        let kind : number_at 0 octets / 512 ≡ 0 = eqb-true _ _ p.1 in
        let due : number_at 0 octets / 512 ≡ place + 1 = required-kind place known (tlv_at octets) early p.2 in
        absurd (omega arith)

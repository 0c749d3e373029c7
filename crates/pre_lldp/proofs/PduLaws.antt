-- What is read of octets is what IsPdu or IsFirstFault says of them, and nothing else.
use Rattle.std.proofs.Common.{◌≡◌, ℕ, zero, suc, ◌+◌, ◌<◌, ◌≤◌, inl, inr, false, ltb, List, [], ◌∷◌, ◌++◌, length}
use Rattle.std.proofs.Common.{drop, Option, Some, None, Result, Ok, Err, refl, sym, ap, ap₂, subst, ◌∙◌, arith, lit<, append_assoc}
use Rattle.std.proofs.Common.{append-nil}
use Rattle.std.specs.List.{list_any}
use Rattle.std.proofs.lemmas.Bool.{cases_lt, lt-ltb, le-ltb, cond-true, cond-false}
use Rattle.std.proofs.lemmas.List.{get_or-drop}
use Rattle.pre_lldp.specs.declared.reading.LldpFault.{LldpFault}
use Rattle.pre_lldp.specs.declared.reading.LldpFault.TheVariants.{Order}
use Rattle.pre_lldp.specs.Tlvs.{Tlv, tlv_octets, octets_of, HasHeader, is_capabilities}
use Rattle.pre_lldp.specs.Pdus.{IsFaultless, Faultless, IsEnd, Fields, tlvs_of, IsPdu, BeginsWithFault, IsFirstFault, length_at}
use Rattle.pre_lldp.specs.PduReading.{tlv_at, behind_tlv, next_at, go_on, at_end, tlvs_from, fields_of, read_as_fields, pdu_of}
use Rattle.std.specs.Prelude.{IfOk, IfErr, IsOkAnd}
use Rattle.pre_lldp.specs.declared.reading.Pdu.{Pdu}
use Rattle.pre_lldp.specs.Views.{fields_in, read_fields}
use Rattle.pre_lldp.proofs.NextTlv.{AreOctets, has_tlv-split, next_at-some, next_at-err, next_at-none, next_at-none_early, next_at-shorter, required-kind}
use Rattle.pre_lldp.proofs.Whole.{reached, at_the_end, at_a_fault}

-- ---- what they say is read

same_fields : (chassis port : List ℕ) (ttl ttl' : ℕ) (caps caps' : Option ℕ) → ttl ≡ ttl' → caps ≡ caps'
    → (let x : Fields = record { chassis = chassis; port = port; ttl = ttl; caps = caps } in x) ≡ (let x : Fields = record { chassis = chassis; port = port; ttl = ttl'; caps = caps' } in x)
same_fields chassis port ttl ttl' caps caps' e f = cc

pub pdu_of-pdu : (f : Fields) (octets : List ℕ) → IsPdu f octets → pdu_of octets ≡ Ok f
unfolding pdu_of
pdu_of-pdu f octets is =
    let tlvs : List Tlv = tlvs_of f.chassis f.port is.time is.others in
    let size = ap length is.in_order in
    let so = reached tlvs (suc (length octets)) [] is.last is.faultless (omega arith) in
    let whole : tlvs_from (suc (length octets)) [] octets ≡ Ok tlvs =
    ap (tlvs_from (suc (length octets)) []) is.in_order ∙ so.is ∙ at_the_end so.left tlvs is.last so.enough is.ends (omega arith) in
    ap read_as_fields whole ∙ ap (λ x. Ok x) (same_fields f.chassis f.port _ f.ttl _ f.caps (sym is.ttl) (sym is.caps))

pub pdu_of-fault : (fault : LldpFault) (octets : List ℕ) → IsFirstFault fault octets → pdu_of octets ≡ Err fault
unfolding pdu_of
pdu_of-fault fault octets is =
    let size = ap length is.in_order in
    let so = reached is.before (suc (length octets)) [] is.rest is.faultless (omega arith) in
    ap read_as_fields (ap (tlvs_from (suc (length octets)) []) is.in_order ∙ so.is ∙ at_a_fault so.left is.before is.rest fault so.enough is.here)

-- ---- what is read they say

pub record FoundAll (before : List Tlv) (octets : List ℕ) (tlvs : List Tlv) : Type 0 where
  pub more : List Tlv
  pub last : List ℕ
  pub is : tlvs ≡ before ++ more
  pub faultless : Faultless before more
  pub in_order : octets ≡ octets_of more ++ last
  pub ends : IsEnd last
  pub three : 3 ≤ length tlvs

pub record FoundFault (before : List Tlv) (octets : List ℕ) (fault : LldpFault) : Type 0 where
  pub more : List Tlv
  pub rest : List ℕ
  pub faultless : Faultless before more
  pub in_order : octets ≡ octets_of more ++ rest
  pub here : BeginsWithFault fault (before ++ more) rest

abbrev Found : List Tlv → List ℕ → Result (List Tlv) LldpFault → Type 0
Found before octets (Ok tlvs) = FoundAll before octets tlvs
Found before octets (Err fault) = FoundFault before octets fault

fault_here : (before : List Tlv) (octets : List ℕ) (fault : LldpFault) → BeginsWithFault fault before octets → FoundFault before octets fault
fault_here before octets fault here = record {
  more = [];
  rest = octets;
  faultless = tt;
  in_order = refl;
  here = subst (λ (b : List Tlv). BeginsWithFault fault b octets) (sym (append-nil before)) here;
}

end_here : (before : List Tlv) (octets : List ℕ) → AreOctets octets → next_at (length before) (list_any is_capabilities before) octets ≡ Ok None → Found before octets (at_end before)
end_here before octets small e =
    elim (cases_lt (length before) 3) [
      | inl early ↦ subst (Found before octets) (sym (cond-true (ltb (length before) 3) (Err Order) (Ok before) (lt-ltb (length before) 3 early)))
          (fault_here before octets Order (inr (inl (refl, next_at-none_early (length before) (list_any is_capabilities before) octets early e, early))))
      | inr late ↦ subst (Found before octets) (sym (cond-false (ltb (length before) 3) (Err Order) (Ok before) (le-ltb (length before) 3 late)))
          (record {
            more = [];
            last = octets;
            is = sym (append-nil before);
            faultless = tt;
            in_order = refl;
            ends = next_at-none (length before) (list_any is_capabilities before) octets small e;
            three = late;
          })
    ]

pushed : (before : List Tlv) (t : Tlv) (octets rest : List ℕ) (r : Result (List Tlv) LldpFault) → IsFaultless before t → octets ≡ tlv_octets t ++ rest → Found (before ++ t ∷ []) rest r → Found before octets r
pushed before t octets rest (Ok tlvs) h e f = record {
  more = t ∷ f.more;
  last = f.last;
  is = f.is ∙ append_assoc before (t ∷ []) f.more;
  faultless = (h, f.faultless);
  in_order = e ∙ ap (λ xs. tlv_octets t ++ xs) f.in_order ∙ sym (append_assoc (tlv_octets t) (octets_of f.more) f.last);
  ends = f.ends;
  three = f.three;
}
pushed before t octets rest (Err fault) h e f = record {
  more = t ∷ f.more;
  rest = f.rest;
  faultless = (h, f.faultless);
  in_order = e ∙ ap (λ xs. tlv_octets t ++ xs) f.in_order ∙ sym (append_assoc (tlv_octets t) (octets_of f.more) f.rest);
  here = subst (λ (b : List Tlv). BeginsWithFault fault b f.rest) (append_assoc before (t ∷ []) f.more) f.here;
}

fault_found : (before : List Tlv) (octets : List ℕ) (fault : LldpFault) → AreOctets octets → next_at (length before) (list_any is_capabilities before) octets ≡ Err fault → BeginsWithFault fault before octets
fault_found before octets fault small e =
    elim (next_at-err (length before) (list_any is_capabilities before) octets fault e) [
      | inl cut ↦ inl cut
      | inr whole ↦ inr (inr (tlv_at octets, behind_tlv octets, (has_tlv-split octets small whole.0).0, (has_tlv-split octets small whole.0).1, whole.1))
    ]

octets-drop : (n : ℕ) (octets : List ℕ) → AreOctets octets → AreOctets (drop n octets)
octets-drop n octets small = λ i. let at = small (n + i) in omega (arith, get_or-drop n octets i 0)

found : (n : ℕ) (before : List Tlv) (octets : List ℕ) → AreOctets octets → length octets < n → Found before octets (tlvs_from n before octets)
unfolding tlvs_from
found zero before octets small enough = absurd (omega arith)
found (suc n) before octets small enough =
    go (next_at (length before) (list_any is_capabilities before) octets) refl (λ t rest low less. found n (before ++ t ∷ []) rest low less)
  where
    go : (r : Result (Option (Tlv × List ℕ)) LldpFault) → next_at (length before) (list_any is_capabilities before) octets ≡ r
        → ((t : Tlv) (rest : List ℕ) → AreOctets rest → length rest < n → Found (before ++ t ∷ []) rest (tlvs_from n (before ++ t ∷ []) rest))
        → Found before octets (go_on r (at_end before) (λ t rest. tlvs_from n (before ++ t ∷ []) rest))
    go (Err fault) e further = fault_here before octets fault (fault_found before octets fault small e)
    go (Ok None) e further = end_here before octets small e
    go (Ok (Some x)) e further =
        let next = next_at-some (length before) (list_any is_capabilities before) octets x.0 x.1 e in
        let split = has_tlv-split octets small next.there in
        let low : AreOctets x.1 = subst AreOctets next.behind (octets-drop (length_at octets) (drop 2 octets) (octets-drop 2 octets small)) in
        let same = ap length next.behind in
        let shorter = next_at-shorter octets next.there in
        let good : IsFaultless before x.0 = record { header = subst HasHeader next.is split.0; goes_on = next.goes_on; fault = next.fault } in
        pushed before x.0 octets x.1 (tlvs_from n (before ++ x.0 ∷ []) x.1) good (split.1 ∙ ap₂ (λ u v. tlv_octets u ++ v) next.is next.behind)
        (further x.0 x.1 low (omega arith))

with_kind : (t : Tlv) (k : ℕ) → t.kind ≡ k → t ≡ record { kind = k; value = t.value }
with_kind t k e = ap (λ (n : ℕ). let x : Tlv = record { kind = n; value = t.value } in x) e

shaped : (tlvs : List Tlv) (last octets : List ℕ) → Faultless [] tlvs → octets ≡ octets_of tlvs ++ last → IsEnd last → 3 ≤ length tlvs → IsPdu (fields_of tlvs) octets
shaped [] last octets h e ends three = absurd (omega arith)
shaped (t1 ∷ []) last octets h e ends three = absurd (omega arith)
shaped (t1 ∷ t2 ∷ []) last octets h e ends three = absurd (omega arith)
shaped (t1 ∷ t2 ∷ t3 ∷ others) last octets h e ends three =
    let k1 : t1.kind ≡ 1 = required-kind 0 false t1 (lit< tt) h.0.fault in
    let k2 : t2.kind ≡ 2 = required-kind 1 (list_any is_capabilities (t1 ∷ [])) t2 (lit< tt) h.1.0.fault in
    let k3 : t3.kind ≡ 3 = required-kind 2 (list_any is_capabilities (t1 ∷ t2 ∷ [])) t3 (lit< tt) h.1.1.0.fault in
    let same : t1 ∷ t2 ∷ t3 ∷ others ≡ tlvs_of t1.value t2.value t3.value others =
    joined t1 _ t2 _ t3 _ others (with_kind t1 1 k1) (with_kind t2 2 k2) (with_kind t3 3 k3) in record {
      time = t3.value;
      others = others;
      last = last;
      in_order = e ∙ ap (λ ts. octets_of ts ++ last) same;
      faultless = subst (Faultless []) same h;
      ends = ends;
      ttl = refl;
      caps = refl;
    }
  where
    joined : (a a' b b' c c' : Tlv) (others : List Tlv) → a ≡ a' → b ≡ b' → c ≡ c' → a ∷ b ∷ c ∷ others ≡ a' ∷ b' ∷ c' ∷ others
    joined a a' b b' c c' others e f g = cc

pub IsPdu-from_read : (octets : List ℕ) (f : Fields) → AreOctets octets → pdu_of octets ≡ Ok f → IsPdu f octets
unfolding pdu_of
IsPdu-from_read octets f small e = go (tlvs_from (suc (length octets)) [] octets) (found (suc (length octets)) [] octets small (omega arith)) e
  where
    go : (r : Result (List Tlv) LldpFault) → Found [] octets r → read_as_fields r ≡ Ok f → IsPdu f octets
    go (Err fault) h e = absurd cc
    go (Ok tlvs) h e =
        let same : fields_of h.more ≡ f = ap fields_of (sym h.is) ∙ ok_is (fields_of tlvs) f e in
        subst (λ (x : Fields). IsPdu x octets) same (shaped h.more h.last octets h.faultless h.in_order h.ends (subst (λ ts. 3 ≤ length ts) h.is h.three))
      where
        ok_is : (x y : Fields) → (let r : Result Fields LldpFault = Ok x in r) ≡ Ok y → x ≡ y
        ok_is x y e = cc

pub IsFirstFault-from_read : (octets : List ℕ) (fault : LldpFault) → AreOctets octets → pdu_of octets ≡ Err fault → IsFirstFault fault octets
unfolding pdu_of
IsFirstFault-from_read octets fault small e = go (tlvs_from (suc (length octets)) [] octets) (found (suc (length octets)) [] octets small (omega arith)) e
  where
    go : (r : Result (List Tlv) LldpFault) → Found [] octets r → read_as_fields r ≡ Err fault → IsFirstFault fault octets
    go (Ok tlvs) h e = absurd cc
    go (Err g) h e =
        let same : g ≡ fault = cc in
        record { before = h.more; rest = h.rest; in_order = h.in_order; faultless = h.faultless; here = subst (λ f. BeginsWithFault f h.more h.rest) same h.here }

-- ---- the same of what the reader answers

pub answers-pdu : (r : Result Pdu LldpFault) (octets : List ℕ) → AreOctets octets → read_fields r ≡ pdu_of octets → IfOk r (λ pdu. IsPdu (fields_in pdu) octets)
answers-pdu (Ok pdu) octets small e = IsPdu-from_read octets (fields_in pdu) small (sym e)
answers-pdu (Err fault) octets small e = tt

pub answers-pdu_due : (r : Result Pdu LldpFault) (octets : List ℕ) (f : Fields) → read_fields r ≡ pdu_of octets → IsPdu f octets → IsOkAnd r (λ pdu. fields_in pdu ≡ f)
answers-pdu_due (Ok pdu) octets f e is = let read = e ∙ pdu_of-pdu f octets is in cc
answers-pdu_due (Err fault) octets f e is = absurd (let read = e ∙ pdu_of-pdu f octets is in cc)

pub answers-fault : (r : Result Pdu LldpFault) (octets : List ℕ) → AreOctets octets → read_fields r ≡ pdu_of octets → IfErr r (λ fault. IsFirstFault fault octets)
answers-fault (Ok pdu) octets small e = tt
answers-fault (Err fault) octets small e = IsFirstFault-from_read octets fault small (sym e)

pub answers-fault_due : (r : Result Pdu LldpFault) (octets : List ℕ) (fault : LldpFault) → read_fields r ≡ pdu_of octets → IsFirstFault fault octets → r ≡ Err fault
answers-fault_due (Ok pdu) octets fault e is = absurd (let read = e ∙ pdu_of-fault fault octets is in cc)
answers-fault_due (Err g) octets fault e is = let read = e ∙ pdu_of-fault fault octets is in cc

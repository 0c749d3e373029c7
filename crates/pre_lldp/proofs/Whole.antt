-- TLVs one after the other: reading them is what IsPdu and IsFirstFault say.
use Rattle.std.proofs.Common.{◌≡◌, ℕ, zero, suc, ◌+◌, ◌-◌, ◌<◌, ◌≤◌, inl, inr, Bool, true, false, cond, not, ◌&&◌, ◌||◌, eqb, ltb, leb, ◌/◌, ◌*◌, List}
use Rattle.std.proofs.Common.{[], ◌∷◌, ◌++◌, length, get_or, take, drop, Option, Some, None, Result, Ok, Err, refl, sym, ap, ap₂, ◌∙◌, arith, append_assoc, append-nil}
use Rattle.std.proofs.Common.{length-append}
use Rattle.std.specs.List.{list_any}
use Rattle.std.proofs.lemmas.Bool.{lt-ltb, le-ltb, eqb-true, leb-true, and_parts, or_parts, cond-true, cond-false}
use Rattle.std.proofs.lemmas.List.{get_or-drop, take_rest}
use Rattle.pre_frame.specs.FrameFields.{number_at}
use Rattle.pre_lldp.specs.declared.reading.LldpFault.{LldpFault}
use Rattle.pre_lldp.specs.declared.reading.LldpFault.TheVariants.{Short, Order, Length, Repeat}
use Rattle.pre_lldp.specs.Tlvs.{Tlv, tlv_octets, octets_of, is_capabilities, has_place, has_length, fault_of}
use Rattle.pre_lldp.specs.Pdus.{IsFaultless, Faultless, IsEnd, caps_of, BeginsWithFault}
use Rattle.pre_lldp.specs.PduReading.{has_tlv, unless, tlv_at, behind_tlv, next_at, go_on, at_end, tlvs_from}
use Rattle.pre_lldp.specs.Parts.{mapped, LeadsOn, GivesOptions}
use Rattle.std.specs.Prelude.{IsErrAnd, is_some, option_map, find}
use Rattle.std.proofs.lemmas.List.Folds.{list_any-append}
use Rattle.pre_lldp.proofs.NextTlv.{next_at-tlv, next_at-fault, next_at-cut, next_at-end, next_at-some, next_at-shorter, has_place-is, required-kind, required-length}

-- ---- reading goes on over TLVs without a fault

tlv_long : (t : Tlv) → 2 ≤ length (tlv_octets t)
tlv_long t = omega arith

one_more : (n : ℕ) (before : List Tlv) (t : Tlv) (rest : List ℕ) → IsFaultless before t → tlvs_from (suc n) before (tlv_octets t ++ rest) ≡ tlvs_from n (before ++ t ∷ []) rest
unfolding tlvs_from
one_more n before t rest h =
    ap (λ r. go_on r (at_end before) (λ u more. tlvs_from n (before ++ u ∷ []) more)) (next_at-tlv (length before) (list_any is_capabilities before) t rest h.header h.goes_on h.fault)

pub record Reached (n : ℕ) (before tlvs : List Tlv) (octets rest : List ℕ) : Type 0 where
  pub left : ℕ
  pub enough : length rest < left
  pub is : tlvs_from n before octets ≡ tlvs_from left (before ++ tlvs) rest

pub reached : (tlvs : List Tlv) (n : ℕ) (before : List Tlv) (rest : List ℕ) → Faultless before tlvs → length (octets_of tlvs ++ rest) < n → Reached n before tlvs (octets_of tlvs ++ rest) rest
reached [] n before rest h enough = record { left = n; enough = enough; is = ap (λ b. tlvs_from n b rest) (sym (append-nil before)) }
reached (t ∷ tlvs) zero before rest h enough = absurd (omega arith)
reached (t ∷ tlvs) (suc n) before rest h enough =
    let regroup : octets_of (t ∷ tlvs) ++ rest ≡ tlv_octets t ++ (octets_of tlvs ++ rest) = append_assoc (tlv_octets t) (octets_of tlvs) rest in
    let size = ap length regroup in
    let long = length-append (tlv_octets t) (octets_of tlvs ++ rest) in
    let two = tlv_long t in
    let more = reached tlvs n (before ++ t ∷ []) rest h.1 (omega arith) in record {
      left = more.left;
      enough = more.enough;
      is = ap (tlvs_from (suc n) before) regroup ∙ one_more n before t (octets_of tlvs ++ rest) h.0 ∙ more.is
          ∙ ap (λ b. tlvs_from more.left b rest) (append_assoc before (t ∷ []) tlvs);
    }

pub at_the_end : (n : ℕ) (before : List Tlv) (rest : List ℕ) → length rest < n → IsEnd rest → 3 ≤ length before → tlvs_from n before rest ≡ Ok before
unfolding tlvs_from
at_the_end zero before rest enough h three = absurd (omega arith)
at_the_end (suc n) before rest enough h three =
    ap (λ r. go_on r (at_end before) (λ u more. tlvs_from n (before ++ u ∷ []) more)) (next_at-end (length before) (list_any is_capabilities before) rest h three)
    ∙ cond-false _ _ _ (le-ltb (length before) 3 three)

none_left : (n : ℕ) (before : List Tlv) → length before < 3 → tlvs_from (suc n) before [] ≡ Err Order
unfolding tlvs_from next_at
none_left n before h = cond-true _ _ _ (lt-ltb (length before) 3 h)

pub at_a_fault : (n : ℕ) (before : List Tlv) (rest : List ℕ) (fault : LldpFault) → length rest < n → BeginsWithFault fault before rest → tlvs_from n before rest ≡ Err fault
unfolding tlvs_from
at_a_fault zero before rest fault enough h = absurd (omega arith)
at_a_fault (suc n) before rest fault enough (inl cut) =
    ap (λ r. go_on r (at_end before) (λ u more. tlvs_from n (before ++ u ∷ []) more)) (next_at-cut (length before) (list_any is_capabilities before) rest cut.1) ∙ ap (λ f. Err f) (sym cut.0)
at_a_fault (suc n) before rest fault enough (inr (inl missing)) =
    ap (λ xs. tlvs_from (suc n) before xs) missing.1 ∙ none_left n before missing.2 ∙ ap (λ f. Err f) (sym missing.0)
at_a_fault (suc n) before rest fault enough (inr (inr whole)) =
    ap (λ xs. tlvs_from (suc n) before xs) whole.3
    ∙ ap (λ r. go_on r (at_end before) (λ u more. tlvs_from n (before ++ u ∷ []) more)) (next_at-fault (length before) (list_any is_capabilities before) whole.0 whole.1 fault whole.2 whole.4)

-- ---- what reading finds

pub required_goes : (place : ℕ) (octets : List ℕ) (t : Tlv) (rest : List ℕ) → place < 3 → next_at place false octets ≡ Ok (Some (t, rest))
    → (n : ℕ) (before : List Tlv) → length before ≡ place → list_any is_capabilities before ≡ false
    → tlvs_from (suc n) before octets ≡ tlvs_from n (before ++ record { kind = place + 1; value = t.value } ∷ []) rest
unfolding tlvs_from
required_goes place octets t rest h e n before len caps =
    let next = next_at-some place false octets t rest e in
    let kind = required-kind place false t h next.fault in
    ap (λ r. go_on r (at_end before) (λ u more. tlvs_from n (before ++ u ∷ []) more)) (ap₂ (λ p k. next_at p k octets) len caps ∙ e)
    ∙ ap (λ k. tlvs_from n (before ++ record { kind = k; value = t.value } ∷ []) rest) kind

pub required_fails : (place : ℕ) (octets : List ℕ) (fault : LldpFault) → next_at place false octets ≡ Err fault
    → (n : ℕ) (before : List Tlv) → length before ≡ place → list_any is_capabilities before ≡ false → tlvs_from (suc n) before octets ≡ Err fault
unfolding tlvs_from
required_fails place octets fault e n before len caps =
    ap (λ r. go_on r (at_end before) (λ u more. tlvs_from n (before ++ u ∷ []) more)) (ap₂ (λ p k. next_at p k octets) len caps ∙ e)

pub required_lacks : (place : ℕ) (octets : List ℕ) → place < 3 → next_at place false octets ≡ Ok None
    → (n : ℕ) (before : List Tlv) → length before ≡ place → list_any is_capabilities before ≡ false → tlvs_from (suc n) before octets ≡ Err Order
unfolding tlvs_from
required_lacks place octets h e n before len caps =
    ap (λ r. go_on r (at_end before) (λ u more. tlvs_from n (before ++ u ∷ []) more)) (ap₂ (λ p k. next_at p k octets) len caps ∙ e)
    ∙ cond-true _ _ _ (lt-ltb (length before) 3 (omega arith))

pub required_fits : (place : ℕ) (octets : List ℕ) (t : Tlv) (rest : List ℕ) → place < 3 → next_at place false octets ≡ Ok (Some (t, rest)) → (2 ≤ length t.value) × (length rest + 2 ≤ length octets)
required_fits place octets t rest h e =
    let next = next_at-some place false octets t rest e in
    (required-length place false t h next.fault, omega (arith, next_at-shorter octets next.there, ap length next.behind))

pub required_exits : {X : Type 0} (view : X → List ℕ × List ℕ) (r : Result X LldpFault) (place : ℕ) (octets : List ℕ) (fault : LldpFault)
    → IsErrAnd r (λ e. e ≡ fault) → next_at place false octets ≡ Err fault → LeadsOn (mapped view r) place octets
required_exits view (Ok x) place octets fault is e = absurd is
required_exits view (Err f) place octets fault is e = required_fails place octets f (e ∙ ap (λ g. Err g) (sym is))

-- ---- the TLVs behind the first three

has_place-late : (place : ℕ) (t : Tlv) → 3 ≤ place → has_place place t ≡ has_place 3 t
unfolding has_place
has_place-late place t h = cond-false (ltb place 3) _ _ (le-ltb place 3 h)

next_at-late : (place : ℕ) (known : Bool) (octets : List ℕ) → 3 ≤ place → next_at place known octets ≡ next_at 3 known octets
unfolding next_at fault_of
next_at-late place known octets h =
    ap (λ b. cond (eqb (length octets) 0) (Ok None) (cond (not (has_tlv octets)) (Err Short)
    (unless (cond (not b) (Some Order) (cond (not (has_length (tlv_at octets))) (Some Length) (cond (is_capabilities (tlv_at octets) && known) (Some Repeat) None)))
    (cond (eqb (number_at 0 octets / 512) 0) None (Some (tlv_at octets, behind_tlv octets))))))
    (has_place-late place (tlv_at octets) h)

-- These came so far, and reading goes on behind them.
pub record ReadSoFar (n : ℕ) (before more : List Tlv) (octets rest : List ℕ) : Type 0 where
  pub left : ℕ
  pub enough : length rest < left
  pub is : tlvs_from n before octets ≡ tlvs_from left (before ++ more) rest

pub record SoFar (octets rest : List ℕ) (caps : Option ℕ) : Type 0 where
  pub more : List Tlv
  pub caps_is : caps ≡ caps_of more
  pub known : list_any is_capabilities more ≡ is_some caps
  pub goes : (n : ℕ) (before : List Tlv) → length octets < n → 3 ≤ length before → list_any is_capabilities before ≡ false → ReadSoFar n before more octets rest

pub so_far_none : (octets : List ℕ) → SoFar octets octets None
so_far_none octets = record {
  more = [];
  caps_is = refl;
  known = refl;
  goes = λ n before h three caps. record { left = n; enough = h; is = ap (λ b. tlvs_from n b octets) (sym (append-nil before)) };
}

step_on : (left : ℕ) (before : List Tlv) (rest behind : List ℕ) (t : Tlv) (known : Bool) → 3 ≤ length before → list_any is_capabilities before ≡ known
    → next_at 3 known rest ≡ Ok (Some (t, behind)) → tlvs_from (suc left) before rest ≡ tlvs_from left (before ++ t ∷ []) behind
unfolding tlvs_from
step_on left before rest behind t known three caps e =
    ap (λ r. go_on r (at_end before) (λ u more. tlvs_from left (before ++ u ∷ []) more))
    (next_at-late (length before) (list_any is_capabilities before) rest three ∙ ap (λ k. next_at 3 k rest) caps ∙ e)

one_further : (n : ℕ) (before more : List Tlv) (octets rest behind : List ℕ) (t : Tlv) (known : Bool) → 3 ≤ length before → list_any is_capabilities before ≡ false
    → list_any is_capabilities more ≡ known → next_at 3 known rest ≡ Ok (Some (t, behind)) → ReadSoFar n before more octets rest → ReadSoFar n before (more ++ t ∷ []) octets behind
one_further n before more octets rest behind t known three none caps e so = go so.left so.enough so.is
  where
    go : (left : ℕ) → length rest < left → tlvs_from n before octets ≡ tlvs_from left (before ++ more) rest → ReadSoFar n before (more ++ t ∷ []) octets behind
    go zero h is = absurd (omega arith)
    go (suc left) h is =
        let next = next_at-some 3 known rest t behind e in
        let shorter = next_at-shorter rest next.there in
        let same = ap length next.behind in
        let size = length-append before more in
        let any : list_any is_capabilities (before ++ more) ≡ known = list_any-append is_capabilities before more ∙ ap (λ b. b || list_any is_capabilities more) none ∙ caps in record {
          left = left;
          enough = omega arith;
          is = is ∙ step_on left (before ++ more) rest behind t known (omega arith) any e ∙ ap (λ b. tlvs_from left b behind) (append_assoc before more (t ∷ []));
        }

caps_fault : (known : Bool) (t : Tlv) → is_capabilities t ≡ true → fault_of 3 known t ≡ None → known ≡ false
unfolding fault_of
caps_fault known t h e = go (has_place 3 t) (has_length t) (is_capabilities t) known h e
  where
    go : (a b c k : Bool) → c ≡ true → cond (not a) (Some Order) (cond (not b) (Some Length) (cond (c && k) (Some Repeat) None)) ≡ None → k ≡ false
    go false b c k h e = absurd cc
    go true false c k h e = absurd cc
    go true true false k h e = absurd cc
    go true true true false h e = refl
    go true true true true h e = absurd cc

caps_long : (known : Bool) (t : Tlv) → is_capabilities t ≡ true → fault_of 3 known t ≡ None → 6 ≤ length t.value
unfolding has_length is_capabilities
caps_long known t h e =
    let kind : t.kind ≡ 127 = eqb-true t.kind 127 (and_parts _ _ h).0 in
    leb-true 6 (length t.value) (sym (go t.kind (length t.value) _ kind h) ∙ (has_place-is 3 known t e).1)
  where
    go : (kind n : ℕ) (c : Bool) → kind ≡ 127 → c ≡ true → cond (eqb kind 0) (eqb n 0) (cond (leb kind 2) (leb 2 n && leb n 256) (cond (eqb kind 3) (leb 2 n) (cond c (leb 6 n) true))) ≡ leb 6 n
    go kind n c e h = ap₂ (λ k d. cond (eqb k 0) (eqb n 0) (cond (leb k 2) (leb 2 n && leb n 256) (cond (eqb k 3) (leb 2 n) (cond d (leb 6 n) true)))) e h

pub capabilities_fit : (known : Bool) (octets : List ℕ) (t : Tlv) (rest : List ℕ) → next_at 3 known octets ≡ Ok (Some (t, rest)) → is_capabilities t ≡ true → 6 ≤ length t.value
capabilities_fit known octets t rest e h = caps_long known t h (next_at-some 3 known octets t rest e).fault

pub rest_shorter : (known : Bool) (octets : List ℕ) (t : Tlv) (rest : List ℕ) → next_at 3 known octets ≡ Ok (Some (t, rest)) → length rest < length octets
rest_shorter known octets t rest e =
    let next = next_at-some 3 known octets t rest e in
    let shorter = next_at-shorter octets next.there in
    let same = ap length next.behind in
    omega arith

caps_of-other : (more : List Tlv) (t : Tlv) → is_capabilities t ≡ false → caps_of (more ++ t ∷ []) ≡ caps_of more
caps_of-other [] t h = ap (λ b. option_map (λ u. number_at 4 u.value) (cond b (Some t) None)) h
caps_of-other (u ∷ more) t h = go (is_capabilities u) (caps_of-other more t h)
  where
    go : (b : Bool) → caps_of (more ++ t ∷ []) ≡ caps_of more
        → option_map (λ v. number_at 4 v.value) (cond b (Some u) (find is_capabilities (more ++ t ∷ []))) ≡ option_map (λ v. number_at 4 v.value) (cond b (Some u) (find is_capabilities more))
    go true e = refl
    go false e = e

caps_of-found : (more : List Tlv) (t : Tlv) → list_any is_capabilities more ≡ false → is_capabilities t ≡ true → caps_of (more ++ t ∷ []) ≡ Some (number_at 4 t.value)
caps_of-found [] t none h = ap (λ b. option_map (λ u. number_at 4 u.value) (cond b (Some t) None)) h
caps_of-found (u ∷ more) t none h =
    let first = or_parts _ _ none in
    ap (λ b. option_map (λ v. number_at 4 v.value) (cond b (Some u) (find is_capabilities (more ++ t ∷ [])))) first.0 ∙ caps_of-found more t first.1 h

any-push : (more : List Tlv) (t : Tlv) (b c : Bool) → list_any is_capabilities more ≡ b → is_capabilities t ≡ c → list_any is_capabilities (more ++ t ∷ []) ≡ (b || c)
any-push more t b c e h = list_any-append is_capabilities more (t ∷ []) ∙ ap₂ (λ x y. x || y) e (ap (λ d. d || false) h ∙ or_false c)
  where
    or_false : (c : Bool) → (c || false) ≡ c
    or_false true = refl
    or_false false = refl

pub so_far_other : (octets rest behind : List ℕ) (caps : Option ℕ) (t : Tlv) → SoFar octets rest caps → next_at 3 (is_some caps) rest ≡ Ok (Some (t, behind)) → is_capabilities t ≡ false → SoFar octets behind caps
so_far_other octets rest behind caps t s e h = record {
  more = s.more ++ t ∷ [];
  caps_is = s.caps_is ∙ sym (caps_of-other s.more t h);
  known = any-push s.more t (is_some caps) false s.known h ∙ or_false (is_some caps);
  goes = λ n before enough three none. one_further n before s.more octets rest behind t (is_some caps) three none s.known e (s.goes n before enough three none);
}
  where
    or_false : (c : Bool) → (c || false) ≡ c
    or_false true = refl
    or_false false = refl

pub so_far_found : (octets rest behind : List ℕ) (caps : Option ℕ) (t : Tlv) (found : ℕ) → SoFar octets rest caps → next_at 3 (is_some caps) rest ≡ Ok (Some (t, behind)) → is_capabilities t ≡ true
    → found ≡ number_at 4 t.value → SoFar octets behind (Some found)
so_far_found octets rest behind caps t found s e h is =
    let unknown : is_some caps ≡ false = caps_fault (is_some caps) t h (next_at-some 3 (is_some caps) rest t behind e).fault in record {
      more = s.more ++ t ∷ [];
      caps_is = ap (λ n. Some n) is ∙ sym (caps_of-found s.more t (s.known ∙ unknown) h);
      known = any-push s.more t false true (s.known ∙ unknown) h;
      goes = λ n before enough three none. one_further n before s.more octets rest behind t (is_some caps) three none s.known e (s.goes n before enough three none);
    }

stops_at : (n : ℕ) (before : List Tlv) (rest : List ℕ) (known : Bool) (r : Result (Option (Tlv × List ℕ)) LldpFault) → length rest < n → 3 ≤ length before → list_any is_capabilities before ≡ known
    → next_at 3 known rest ≡ r → (m : ℕ) × (tlvs_from n before rest ≡ go_on r (at_end before) (λ u more. tlvs_from m (before ++ u ∷ []) more))
unfolding tlvs_from
stops_at zero before rest known r h three caps e = absurd (omega arith)
stops_at (suc n) before rest known r h three caps e =
    (n, ap (λ r. go_on r (at_end before) (λ u more. tlvs_from n (before ++ u ∷ []) more)) (next_at-late (length before) (list_any is_capabilities before) rest three ∙ ap (λ k. next_at 3 k rest) caps ∙ e))

pub so_far_ends : (octets rest : List ℕ) (caps : Option ℕ) → SoFar octets rest caps → next_at 3 (is_some caps) rest ≡ Ok None → GivesOptions (Ok caps) octets
so_far_ends octets rest caps s e = λ n before enough three none.
    let so = s.goes n before enough three none in
    let any : list_any is_capabilities (before ++ s.more) ≡ is_some caps = list_any-append is_capabilities before s.more ∙ ap (λ b. b || list_any is_capabilities s.more) none ∙ s.known in
    let long : 3 ≤ length (before ++ s.more) = omega (arith, length-append before s.more) in
    let stop = stops_at so.left (before ++ s.more) rest (is_some caps) (Ok None) so.enough long any e in
    (s.more, so.is ∙ stop.1 ∙ cond-false _ _ _ (le-ltb (length (before ++ s.more)) 3 long), s.caps_is)

pub so_far_exits : (octets rest : List ℕ) (caps : Option ℕ) (r : Result (Option ℕ) LldpFault) (fault : LldpFault) → SoFar octets rest caps → IsErrAnd r (λ e. e ≡ fault)
    → next_at 3 (is_some caps) rest ≡ Err fault → GivesOptions r octets
so_far_exits octets rest caps (Ok x) fault s is e = absurd is
so_far_exits octets rest caps (Err f) fault s is e = λ n before enough three none.
    let so = s.goes n before enough three none in
    let any : list_any is_capabilities (before ++ s.more) ≡ is_some caps = list_any-append is_capabilities before s.more ∙ ap (λ b. b || list_any is_capabilities s.more) none ∙ s.known in
    let long : 3 ≤ length (before ++ s.more) = omega (arith, length-append before s.more) in
    let stop = stops_at so.left (before ++ s.more) rest (is_some caps) (Err fault) so.enough long any e in
    so.is ∙ stop.1 ∙ ap (λ g. Err g) (sym is)

-- a number read from the octets from a place on
pub read-at : (octets : List ℕ) (place n : ℕ)
    → n ≡ get_or (take (length octets - place) (drop place octets)) 0 0 * 256 + (get_or (take (length octets - place) (drop place octets)) 1 0 * 1 + 0)
    → n ≡ number_at place octets
read-at octets place n e =
    let rest = take_rest octets place in
    let first : get_or (take (length octets - place) (drop place octets)) 0 0 ≡ get_or octets place 0 =
    ap (λ xs. get_or xs 0 0) rest ∙ get_or-drop place octets 0 0 ∙ ap (λ k. get_or octets k 0) (omega arith) in
    let second : get_or (take (length octets - place) (drop place octets)) 1 0 ≡ get_or octets (place + 1) 0 =
    ap (λ xs. get_or xs 1 0) rest ∙ get_or-drop place octets 1 0 in
    omega (arith, e, first, second)

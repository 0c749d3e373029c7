-- One frame at most is open, and it is what stands open before the next arrival.
use Rattle.std.proofs.Common.{ℕ, zero, suc, ◌≡◌, ◌⊎◌, ◌≤◌, ◌<◌, ◌+◌, ◌-◌, ◌%◌, List, [], ◌∷◌, ◌++◌}
use Rattle.std.proofs.Common.{length, take, drop, refl, sym, ◌∙◌, ap, inl, inr, arith, subst, Bool, Option, Some, None, true, false, filter}
use Rattle.std.proofs.Common.{length-append}
use Rattle.std.specs.Prelude.{option_and_then, ◌↔◌}
use Rattle.std.specs.List.{cons_option}
use Rattle.std.proofs.lemmas.Bool.{cases_lt, false_from_ne_true}
use Rattle.std.proofs.lemmas.List.{append-nil, take-append-drop, drop-drop}
use Rattle.pre_base.specs.declared.limits.TheConstants.{GREATEST_DATA}
use Rattle.pre_crc.specs.Checks.{Mcrc}
use Rattle.pre_mpacket.specs.Spelling.{PlainPacket, mpacket_of}
use Rattle.pre_mpacket.specs.Pieces.{joined, last_check, IsSequenceOf, IsChecked}
use Rattle.pre_mpacket.specs.Arrivals.{is_start, is_fragment, fragments_of, HasKind, Spelled, Fragments, Data, Chain, IsOpenBefore}
use Rattle.pre_mpacket.specs.Open.{IsOpen, fragments_from}
use Rattle.pre_mpacket.proofs.Chains.{fragment_of_start, first_fragment, not_within, equal_or_apart}
use Rattle.pre_mpacket.proofs.Carried.{last_fragment, last_check-append}
use Rattle.pre_mpacket.proofs.Opened.{fragments-append, first_from, spelled_within, spelled_before, spelled_last, fragments_last}

-- ---- stretches without a fragment

no_packet : (o : Option PlainPacket) → ((m : PlainPacket) → o ≡ Some m → is_fragment m.kind ≡ true → ⊥) → filter (λ m. is_fragment m.kind) (cons_option o []) ≡ []
no_packet None none = refl
no_packet (Some m) none = let other : is_fragment m.kind ≡ false = false_from_ne_true (is_fragment m.kind) (none m refl) in rw other refl

no_fragment : (a : Option (List ℕ)) → ((m : PlainPacket) → option_and_then mpacket_of a ≡ Some m → is_fragment m.kind ≡ true → ⊥) → fragments_of (a ∷ []) ≡ []
no_fragment a none = no_packet (option_and_then mpacket_of a) none

goes_on : (A : List (Option (List ℕ))) (j k : ℕ) → j ≤ k → fragments_from A j ≡ fragments_of (take (k - j) (drop j A)) ++ fragments_from A k
goes_on A j k le =
    let here : j + (k - j) ≡ k = omega (arith, le) in
    ap fragments_of (sym (take-append-drop (k - j) (drop j A)))
    ∙ (fragments-append (take (k - j) (drop j A)) (drop (k - j) (drop j A))
    ∙ ap (λ l. fragments_of (take (k - j) (drop j A)) ++ fragments_of l) (drop-drop (k - j) j A ∙ ap (λ n. drop n A) here))

not_empty : (xs ys : List PlainPacket) (x : PlainPacket) → xs ++ x ∷ ys ≡ [] → ⊥
not_empty [] ys x is = cc is
not_empty (z ∷ xs) ys x is = cc is

-- a fragment stands in each stretch that goes past it
not_none : (A : List (Option (List ℕ))) (j k : ℕ) → j ≤ k → HasKind A is_fragment k → fragments_from A j ≡ [] → ⊥
not_none A j k le (m, at, fragment) none =
    not_empty (fragments_of (take (k - j) (drop j A))) (fragments_from A (suc k)) m
    (ap (λ l. fragments_of (take (k - j) (drop j A)) ++ l) (sym (first_from A k m at fragment)) ∙ (sym (goes_on A j k le) ∙ none))

none_from : (A : List (Option (List ℕ))) (j : ℕ) → ((k : ℕ) → j ≤ k → (m : PlainPacket) → Spelled A k ≡ Some m → is_fragment m.kind ≡ true → ⊥) → fragments_from A j ≡ []
none_from [] zero none = refl
none_from [] (suc j) none = refl
none_from (a ∷ A) zero none =
    fragments-append (a ∷ []) A
    ∙ (ap (λ l. l ++ fragments_of A) (no_fragment a (none zero (omega arith)))
    ∙ none_from A zero (λ k le m at fragment. none (suc k) (omega arith) m at fragment))
none_from (a ∷ A) (suc j) none = none_from A j (λ k le m at fragment. none (suc k) (omega (arith, le)) m at fragment)

-- the last fragment, if there is one
last_place : (A : List (Option (List ℕ))) → (fragments_of A ≡ []) ⊎ ((k : ℕ) × HasKind A is_fragment k × (fragments_from A (suc k) ≡ []))
last_place [] = inl refl
last_place (a ∷ A) = from_tail (option_and_then mpacket_of a) refl (last_place A)
  where
    from_tail : (o : Option PlainPacket) → option_and_then mpacket_of a ≡ o → (fragments_of A ≡ []) ⊎ ((k : ℕ) × HasKind A is_fragment k × (fragments_from A (suc k) ≡ []))
        → (fragments_of (a ∷ A) ≡ []) ⊎ ((k : ℕ) × HasKind (a ∷ A) is_fragment k × (fragments_from (a ∷ A) (suc k) ≡ []))
    from_tail o is (inr (k, fragment, none)) = inr (suc k, fragment, none)
    from_tail None is (inl none) = inl (fragments-append (a ∷ []) A ∙ (ap (λ l. l ++ fragments_of A) (no_fragment a (λ m at fragment. cc (is, at))) ∙ none))
    from_tail (Some m) is (inl none) = by_kind (is_fragment m.kind) refl
      where
        by_kind : (b : Bool) → is_fragment m.kind ≡ b → (fragments_of (a ∷ A) ≡ []) ⊎ ((k : ℕ) × HasKind (a ∷ A) is_fragment k × (fragments_from (a ∷ A) (suc k) ≡ []))
        by_kind true fragment = inr (zero, (m, is, fragment), none)
        by_kind false other = inl (
            fragments-append (a ∷ []) A
            ∙ (ap (λ l. l ++ fragments_of A) (no_fragment a (λ n at fragment. let same : n ≡ m = cc (is, at) in cc (fragment, other, ap (λ (x : PlainPacket). is_fragment x.kind) same))) ∙ none))

-- ---- an arrival that is no fragment

open_like : (A B : List (Option (List ℕ))) (c n : ℕ) (all : List ℕ) → (o : IsOpen A c n all) → HasKind B is_start o.from → fragments_from A o.from ≡ fragments_from B o.from → IsOpen B c n all
open_like A B c n all o start same = record {
  from = o.from;
  start = start;
  sequence = subst (IsSequenceOf c) same o.sequence;
  checked = subst (IsChecked []) same o.checked;
  part = ap last_check (sym same) ∙ o.part;
  short = o.short;
  whole = o.whole ∙ ap joined same;
  counted = o.counted ∙ ap (λ (l : List PlainPacket). (length l - 1) % 4) same;
}

pub opens_other : (A : List (Option (List ℕ))) (a : Option (List ℕ)) (c n : ℕ) (all : List ℕ) → ¬ HasKind (A ++ a ∷ []) is_fragment (length A) → IsOpen (A ++ a ∷ []) c n all ↔ IsOpen A c n all
opens_other A a c n all other = (
  λ o.
      let start : HasKind A is_start o.from = before o.from o.start in
      open_like (A ++ a ∷ []) A c n all o start (same o.from (spelled_within A o.from start.0 start.1)),
  λ o.
      let lt = spelled_within A o.from o.start.0 o.start.1 in
      open_like A (A ++ a ∷ []) c n all o (o.start.0, spelled_before A (a ∷ []) o.from lt ∙ o.start.1, o.start.2) (sym (same o.from lt)),
)
  where
    nothing : fragments_of (a ∷ []) ≡ []
    nothing = no_fragment a (λ m at fragment. other (m, spelled_last A a ∙ at, fragment))

    same : (j : ℕ) → j < length A → fragments_from (A ++ a ∷ []) j ≡ fragments_from A j
    same j lt = fragments_last A a j (omega (arith, lt)) ∙ (ap (λ l. fragments_from A j ++ l) nothing ∙ append-nil (fragments_from A j))

    before : (j : ℕ) → HasKind (A ++ a ∷ []) is_start j → HasKind A is_start j
    before j (f, at, start) =
        elim (cases_lt j (length A)) [
          | inl lt ↦ (f, sym (spelled_before A (a ∷ []) j lt) ∙ at, start)
          | inr le ↦
              let within : j < length (A ++ a ∷ []) = spelled_within (A ++ a ∷ []) j f at in
              let last : j ≡ length A = omega (arith, le, within, length-append A (a ∷ [])) in
              absurd (other (f, ap (Spelled (A ++ a ∷ [])) (sym last) ∙ at, fragment_of_start f.kind start))
        ]

-- ---- one frame

count_one : (c d : ℕ) (ms : List PlainPacket) → IsSequenceOf c ms → IsSequenceOf d ms → c ≡ d
count_one c d [] p q = absurd p
count_one c d (m ∷ ms) p q = cc (p.0, q.0)

not_earlier : (A : List (Option (List ℕ))) (c d m n : ℕ) (xs ys : List ℕ) → (o : IsOpen A c m xs) → (p : IsOpen A d n ys) → o.from < p.from → ⊥
not_earlier A c d m n xs ys o p lt =
    let count : p.from - o.from ≡ suc (p.from - suc o.from) = omega (arith, lt) in
    let f = o.start in
    let whole : fragments_from A o.from ≡ f.0 ∷ fragments_of (take (p.from - suc o.from) (drop (suc o.from) A)) ++ fragments_from A p.from =
    goes_on A o.from p.from (omega (arith, lt))
    ∙ ap (λ l. l ++ fragments_from A p.from) (ap (λ k. fragments_of (take k (drop o.from A))) count ∙ first_fragment A o.from (p.from - suc o.from) f.0 f.1 (fragment_of_start f.0.kind f.2)) in
    not_within f.0 (fragments_of (take (p.from - suc o.from) (drop (suc o.from) A))) (fragments_from A p.from) (c, subst (IsSequenceOf c) whole o.sequence) (d, p.sequence)

pub open_one : (A : List (Option (List ℕ))) (c d m n : ℕ) (xs ys : List ℕ) → IsOpen A c m xs → IsOpen A d n ys → (c ≡ d) × (m ≡ n) × (xs ≡ ys)
open_one A c d m n xs ys o p =
    elim (equal_or_apart o.from p.from) [
      | inl e ↦
          let same : fragments_from A o.from ≡ fragments_from A p.from = ap (fragments_from A) e in (
            count_one c d (fragments_from A p.from) (subst (IsSequenceOf c) same o.sequence) p.sequence,
            o.counted ∙ (ap (λ (l : List PlainPacket). (length l - 1) % 4) same ∙ sym p.counted),
            o.whole ∙ (ap joined same ∙ sym p.whole),
          )
      | inr (inl lt) ↦ absurd (not_earlier A c d m n xs ys o p lt)
      | inr (inr gt) ↦ absurd (not_earlier A d c n m ys xs p o gt)
    ]

-- ---- what stands open before the next arrival

-- the fragments up to the last one are all
up_to_last : (A : List (Option (List ℕ))) (s j : ℕ) → s ≤ j → fragments_from A (suc j) ≡ [] → fragments_from A s ≡ Fragments A s j
up_to_last A s j le none = goes_on A s (suc j) (omega (arith, le)) ∙ (ap (λ l. Fragments A s j ++ l) none ∙ append-nil (Fragments A s j))

pub opened : (A : List (Option (List ℕ))) → IsOpenBefore A (length A) → (c : ℕ) × (n : ℕ) × (octets : List ℕ) × IsOpen A c n octets
opened A (j, lt, (m, at, (all, (s, (le, start, last, chain), is), check)), none) =
    let after : fragments_from A (suc j) ≡ [] = none_from A (suc j) (λ k past x here fragment. cc (fragment, none k past (spelled_within A k x here) x here)) in
    let same : fragments_from A s ≡ Fragments A s j = up_to_last A s j le after in
    let fragment : is_fragment m.kind ≡ true = let same_m : last.0 ≡ m = cc (last.1, at) in ap (λ (x : PlainPacket). is_fragment x.kind) (sym same_m) ∙ last.2 in
    let front = last_fragment A s j m le at fragment in (
      chain.0.0,
      (length (fragments_from A s) - 1) % 4,
      all,
      record {
        from = s;
        start = start;
        sequence = subst (IsSequenceOf chain.0.0) (sym same) chain.0.1;
        checked = subst (IsChecked []) (sym same) chain.2;
        part = ap last_check (same ∙ front.1) ∙ (last_check-append front.0 m ∙ check);
        short = subst (λ l. length l ≤ GREATEST_DATA) (sym is) chain.1;
        whole = is ∙ ap joined (sym same);
        counted = refl;
      },
    )

pub open_before : (A : List (Option (List ℕ))) (c n : ℕ) (octets : List ℕ) → IsOpen A c n octets → IsOpenBefore A (length A)
open_before A c n octets o =
    let first : HasKind A is_fragment o.from = (o.start.0, o.start.1, fragment_of_start o.start.0.kind o.start.2) in
    elim (last_place A) [
      | inl none ↦ absurd (not_none A 0 o.from (omega arith) first none)
      | inr (k, here, none) ↦ found first k here none
    ]
  where
    found : HasKind A is_fragment o.from → (k : ℕ) → HasKind A is_fragment k → fragments_from A (suc k) ≡ [] → IsOpenBefore A (length A)
    found first k here none =
        let le : o.from ≤ k = elim (cases_lt k o.from) [ inl lt ↦ absurd (not_none A (suc k) o.from (omega (arith, lt)) first none) | inr le ↦ le ] in
        let same : fragments_from A o.from ≡ Fragments A o.from k = up_to_last A o.from k le none in
        let front = last_fragment A o.from k here.0 le here.1 here.2 in
        let check : here.0.check ≡ Mcrc octets = sym (ap last_check (same ∙ front.1) ∙ last_check-append front.0 here.0) ∙ o.part in
        let whole : octets ≡ Data A o.from k = o.whole ∙ ap joined same in
        let chain : Chain A o.from k = (le, o.start, here, ((c, subst (IsSequenceOf c) same o.sequence), subst (λ l. length l ≤ GREATEST_DATA) whole o.short, subst (IsChecked []) same o.checked)) in (
          k,
          spelled_within A k here.0 here.1,
          (here.0, here.1, (octets, (o.from, chain, whole), check)),
          λ l past lt x at. false_from_ne_true (is_fragment x.kind) (λ fragment. not_none A (suc k) l (omega (arith, past)) (x, at, fragment) none),
        )

-- What a further arrival joins, and which frame is open after it.
use Rattle.std.proofs.Common.{ℕ, zero, suc, ◌≡◌, ◌⊎◌, ◌≤◌, ◌<◌, ◌+◌, ◌-◌, ◌%◌, List, [], ◌∷◌, ◌++◌}
use Rattle.std.proofs.Common.{length, take, drop, refl, sym, ◌∙◌, ap, inl, inr, arith, subst, Option, Some, true, append_assoc}
use Rattle.std.proofs.Common.{length-append}
use Rattle.std.specs.Prelude.{option_and_then, ◌↔◌}
use Rattle.std.proofs.Math.Seq.{take-length, drop-length}
use Rattle.std.proofs.lemmas.Bool.{cases_lt}
use Rattle.std.proofs.lemmas.List.{append-nil, drop-append-le, length-drop}
use Rattle.std.proofs.lemmas.List.Elements.{filter_map-append, filter-append}
use Rattle.pre_base.specs.declared.limits.TheConstants.{GREATEST_DATA}
use Rattle.pre_crc.specs.Checks.{Mcrc}
use Rattle.pre_mpacket.specs.declared.packets.Kind.TheVariants as kind
use Rattle.pre_mpacket.specs.Spelling.{PlainPacket, mpacket_of}
use Rattle.pre_mpacket.specs.Pieces.{joined, last_check, IsContinued, IsSequenceOf, IsChecked}
use Rattle.pre_mpacket.specs.Arrivals.{is_start, is_fragment, fragments_of, IsChain, HasKind, Spelled, Fragments, EndsChain}
use Rattle.pre_mpacket.specs.Open.{IsOpen, fragments_from}
use Rattle.pre_mpacket.proofs.Chains.{fragment_of_start, no_start_inside}
use Rattle.pre_mpacket.proofs.Carried.{joined-append, last_check-append}
use Rattle.pre_mpacket.proofs.Later.{slice_get-append}

-- ---- one more piece

continued_push : (c n : ℕ) (xs : List PlainPacket) (m : PlainPacket) → IsContinued c n xs → m.kind ≡ kind.Continue c ((n + length xs) % 4) → IsContinued c n (xs ++ m ∷ [])
continued_push c n [] m h is = (is ∙ ap (λ k. kind.Continue c (k % 4)) (omega arith), tt)
continued_push c n (x ∷ xs) m (first, more) is = (first, continued_push c (n + 1) xs m more (is ∙ ap (λ k. kind.Continue c (k % 4)) (omega arith)))

continued_pop : (c n : ℕ) (xs : List PlainPacket) (m : PlainPacket) → IsContinued c n (xs ++ m ∷ []) → IsContinued c n xs × (m.kind ≡ kind.Continue c ((n + length xs) % 4))
continued_pop c n [] m (is, more) = (tt, is ∙ ap (λ k. kind.Continue c (k % 4)) (omega arith))
continued_pop c n (x ∷ xs) m (first, more) =
    let rest = continued_pop c (n + 1) xs m more in
    ((first, rest.0), rest.1 ∙ ap (λ k. kind.Continue c (k % 4)) (omega arith))

checked_push : (before : List ℕ) (x : PlainPacket) (xs : List PlainPacket) (m : PlainPacket) → IsChecked before (x ∷ xs) → last_check (x ∷ xs) ≡ Mcrc (before ++ joined (x ∷ xs)) → IsChecked before (x ∷ xs ++ m ∷ [])
checked_push before x [] m h is = (is ∙ ap (λ l. Mcrc (before ++ l)) (append-nil x.mdata), tt)
checked_push before x (y ∷ ys) m (first, more) is = (first, checked_push (before ++ x.mdata) y ys m more (is ∙ ap Mcrc (sym (append_assoc before x.mdata (joined (y ∷ ys))))))

checked_pop : (before : List ℕ) (x : PlainPacket) (xs : List PlainPacket) (m : PlainPacket) → IsChecked before (x ∷ xs ++ m ∷ []) → IsChecked before (x ∷ xs) × (last_check (x ∷ xs) ≡ Mcrc (before ++ joined (x ∷ xs)))
checked_pop before x [] m (is, more) = (tt, is ∙ ap (λ l. Mcrc (before ++ l)) (sym (append-nil x.mdata)))
checked_pop before x (y ∷ ys) m (first, more) =
    let rest = checked_pop (before ++ x.mdata) y ys m more in
    ((first, rest.0), rest.1 ∙ ap Mcrc (append_assoc before x.mdata (joined (y ∷ ys))))

-- ---- the fragments from a place on

pub fragments-append : (xs ys : List (Option (List ℕ))) → fragments_of (xs ++ ys) ≡ fragments_of xs ++ fragments_of ys
fragments-append xs ys = rw (filter_map-append, filter-append) refl

pub first_from : (A : List (Option (List ℕ))) (j : ℕ) (m : PlainPacket) → Spelled A j ≡ Some m → is_fragment m.kind ≡ true → fragments_from A j ≡ m ∷ fragments_from A (suc j)
first_from [] j m at fragment = absurd (cc at)
first_from (o ∷ os) zero m at fragment = rw (at, fragment) refl
first_from (o ∷ os) (suc j) m at fragment = first_from os j m at fragment

pub spelled_within : (A : List (Option (List ℕ))) (k : ℕ) (m : PlainPacket) → Spelled A k ≡ Some m → k < length A
spelled_within [] k m at = absurd (cc at)
spelled_within (a ∷ A) zero m at = omega arith
spelled_within (a ∷ A) (suc k) m at = let lt : k < length A = spelled_within A k m at in omega arith

pub spelled_before : (A B : List (Option (List ℕ))) (k : ℕ) → k < length A → Spelled (A ++ B) k ≡ Spelled A k
spelled_before A B k lt = ap (λ o. option_and_then (λ a. option_and_then mpacket_of a) o) (slice_get-append A B k lt)

pub spelled_last : (A : List (Option (List ℕ))) (a : Option (List ℕ)) → Spelled (A ++ a ∷ []) (length A) ≡ option_and_then mpacket_of a
spelled_last [] a = refl
spelled_last (x ∷ A) a = spelled_last A a

pub fragments_last : (A : List (Option (List ℕ))) (a : Option (List ℕ)) (j : ℕ) → j ≤ length A → fragments_from (A ++ a ∷ []) j ≡ fragments_from A j ++ fragments_of (a ∷ [])
fragments_last A a j le = ap fragments_of (drop-append-le j A (a ∷ []) le) ∙ fragments-append (drop j A) (a ∷ [])

fragments_whole : (A : List (Option (List ℕ))) (a : Option (List ℕ)) (j : ℕ) → j ≤ length A → Fragments (A ++ a ∷ []) j (length A) ≡ fragments_from (A ++ a ∷ []) j
fragments_whole A a j le =
    let count : length (drop j (A ++ a ∷ [])) ≡ suc (length A) - j = omega (arith, length-drop j (A ++ a ∷ []), length-append A (a ∷ [])) in
    ap fragments_of (subst (λ n. take n (drop j (A ++ a ∷ [])) ≡ drop j (A ++ a ∷ [])) count (take-length (drop j (A ++ a ∷ []))))

-- ---- a fragment that comes next

module _ (A : List (Option (List ℕ))) (a : Option (List ℕ)) (m : PlainPacket) (at : option_and_then mpacket_of a ≡ Some m) (fragment : is_fragment m.kind ≡ true) where
  here : HasKind (A ++ a ∷ []) is_fragment (length A)
  here = (m, spelled_last A a ∙ at, fragment)

  within : (j : ℕ) → HasKind (A ++ a ∷ []) is_start j → j ≤ length A
  within j (f, is, start) = omega (arith, spelled_within (A ++ a ∷ []) j f is, length-append A (a ∷ []))

  pieces : (j : ℕ) → j ≤ length A → fragments_from (A ++ a ∷ []) j ≡ fragments_from A j ++ m ∷ []
  pieces j le = let alone : fragments_of (a ∷ []) ≡ m ∷ [] = rw (at, fragment) refl in fragments_last A a j le ∙ ap (λ l. fragments_from A j ++ l) alone

  -- a chain that ends with it is all from a start on
  Joins : List ℕ → Type 0
  Joins all = (j : ℕ) × HasKind (A ++ a ∷ []) is_start j × IsChain (fragments_from (A ++ a ∷ []) j) × (all ≡ joined (fragments_from (A ++ a ∷ []) j))

  joins : (all : List ℕ) → EndsChain (A ++ a ∷ []) (length A) all → Joins all
  unfolding Joins
  joins all (j, (le, start, last, chain), is) =
      (j, start, subst IsChain (fragments_whole A a j le) chain, is ∙ ap joined (fragments_whole A a j le))

  ends : (all : List ℕ) → Joins all → EndsChain (A ++ a ∷ []) (length A) all
  unfolding Joins
  ends all (j, start, chain, is) =
      let le = within j start in
      (j, (le, start, here, subst IsChain (sym (fragments_whole A a j le)) chain), is ∙ ap joined (sym (fragments_whole A a j le)))

  -- what a start so far is to it
  Follows : ℕ → ℕ → Type 0
  Follows c next = (j d : ℕ) → HasKind (A ++ a ∷ []) is_start j → IsSequenceOf d (fragments_from (A ++ a ∷ []) j) → (d ≡ c) × ((length (fragments_from (A ++ a ∷ []) j) - 1) % 4 ≡ next)

  last : (j : ℕ) → HasKind (A ++ a ∷ []) is_start j → last_check (fragments_from (A ++ a ∷ []) j) ≡ m.check
  last j start = ap last_check (pieces j (within j start)) ∙ last_check-append (fragments_from A j) m

  opens : (c next : ℕ) → Follows c next → (d n : ℕ) (all : List ℕ)
      → IsOpen (A ++ a ∷ []) d n all ↔ ((d ≡ c) × (n ≡ next) × EndsChain (A ++ a ∷ []) (length A) all × (m.check ≡ Mcrc all))
  unfolding Joins Follows
  opens c next follows d n all = (
    λ o.
        let f = follows o.from d o.start o.sequence in
        (f.0, o.counted ∙ f.1, ends all (o.from, o.start, ((d, o.sequence), subst (λ l. length l ≤ GREATEST_DATA) o.whole o.short, o.checked), o.whole), sym (last o.from o.start) ∙ o.part),
    λ h.
        let e = joins all h.2 in
        let j = e.0 in
        let f = follows j e.2.0.0 e.1 e.2.0.1 in
        record {
          from = j;
          start = e.1;
          sequence = subst (λ x. IsSequenceOf x (fragments_from (A ++ a ∷ []) j)) (f.0 ∙ sym h.0) e.2.0.1;
          checked = e.2.2;
          part = last j e.1 ∙ h.3;
          short = subst (λ l. length l ≤ GREATEST_DATA) (sym e.3) e.2.1;
          whole = e.3;
          counted = h.1 ∙ sym f.1;
        },
  )

  -- a start up to it is it, or one of those before
  starts_at : (j : ℕ) → HasKind (A ++ a ∷ []) is_start j → (j ≡ length A) ⊎ ((j < length A) × HasKind A is_start j)
  starts_at j (f, is, start) =
      elim (cases_lt j (length A)) [
        | inl lt ↦ inr (lt, (f, sym (spelled_before A (a ∷ []) j lt) ∙ is, start))
        | inr le ↦ inl (omega (arith, le, within j (f, is, start)))
      ]

  fragments_alone : fragments_from (A ++ a ∷ []) (length A) ≡ m ∷ []
  fragments_alone = pieces (length A) (omega arith) ∙ ap (λ l. fragments_of l ++ m ∷ []) (drop-length A)

  -- ---- as a start

  alone : (c : ℕ) → m.kind ≡ kind.Start c → (j d : ℕ) → HasKind (A ++ a ∷ []) is_start j → IsSequenceOf d (fragments_from (A ++ a ∷ []) j) → fragments_from (A ++ a ∷ []) j ≡ m ∷ []
  alone c is j d start sequence =
      elim (starts_at j start) [
        | inl last ↦ ap (fragments_from (A ++ a ∷ [])) last ∙ fragments_alone
        | inr (lt, (f, found, first)) ↦
            let parts : fragments_from (A ++ a ∷ []) j ≡ f ∷ fragments_from A (suc j) ++ m ∷ [] = pieces j (omega (arith, lt)) ∙ ap (λ l. l ++ m ∷ []) (first_from A j f found (fragment_of_start f.kind first)) in
            absurd (no_start_inside d 0 (fragments_from A (suc j)) [] m c (subst (IsSequenceOf d) parts sequence).1 is)
      ]

  follows_start : (c : ℕ) → m.kind ≡ kind.Start c → Follows c 0
  unfolding Follows
  follows_start c is j d start sequence =
      let only = alone c is j d start sequence in
      let same : kind.Start d ≡ kind.Start c = sym (subst (IsSequenceOf d) only sequence).0 ∙ is in
      (cc same, ap (λ l. (length l - 1) % 4) only)

  pub opens_start : (c d n : ℕ) (all : List ℕ) → m.kind ≡ kind.Start c
      → IsOpen (A ++ a ∷ []) d n all ↔ ((d ≡ c) × (n ≡ 0) × EndsChain (A ++ a ∷ []) (length A) all × (m.check ≡ Mcrc all))
  opens_start c d n all is = opens c 0 (follows_start c is) d n all

  pub joins_start : (c : ℕ) (all : List ℕ) → m.kind ≡ kind.Start c → EndsChain (A ++ a ∷ []) (length A) all ↔ ((all ≡ m.mdata) × (length all ≤ GREATEST_DATA))
  unfolding Joins
  joins_start c all is = (
    λ e.
        let h = joins all e in
        let only = alone c is h.0 h.2.0.0 h.1 h.2.0.1 in
        (h.3 ∙ (ap joined only ∙ append-nil m.mdata), subst (λ l. length l ≤ GREATEST_DATA) (sym h.3) h.2.1),
    λ h.
        let whole : all ≡ joined (fragments_from (A ++ a ∷ []) (length A)) = h.0 ∙ (sym (append-nil m.mdata) ∙ ap joined (sym fragments_alone)) in
        ends all (
          length A,
          (m, spelled_last A a ∙ at, ap is_start is),
          ((c, subst (IsSequenceOf c) (sym fragments_alone) (is, tt)), subst (λ l. length l ≤ GREATEST_DATA) whole h.1, subst (IsChecked []) (sym fragments_alone) tt),
          whole,
        ),
  )

  -- ---- as a continuation

  -- what goes before it
  record Precedes (c i j d : ℕ) : Type 0 where
    before : j < length A
    start : HasKind A is_start j
    same : d ≡ c
    first : PlainPacket
    more : List PlainPacket
    parts : fragments_from A j ≡ first ∷ more
    count : i ≡ length more % 4
    opening : first.kind ≡ kind.Start c
    continued : IsContinued c 0 more

  precedes : (c i : ℕ) → m.kind ≡ kind.Continue c i → (j d : ℕ) → HasKind (A ++ a ∷ []) is_start j → IsSequenceOf d (fragments_from (A ++ a ∷ []) j) → Precedes c i j d
  precedes c i is j d start sequence =
      elim (starts_at j start) [
        | inl last ↦
            let first = (subst (IsSequenceOf d) (ap (fragments_from (A ++ a ∷ [])) last ∙ fragments_alone) sequence).0 in
            absurd (cc (is, first))
        | inr (lt, (f, found, first)) ↦
            let front = first_from A j f found (fragment_of_start f.kind first) in
            let parts : fragments_from (A ++ a ∷ []) j ≡ f ∷ fragments_from A (suc j) ++ m ∷ [] = pieces j (omega (arith, lt)) ∙ ap (λ l. l ++ m ∷ []) front in
            let whole = subst (IsSequenceOf d) parts sequence in
            let popped = continued_pop d 0 (fragments_from A (suc j)) m whole.1 in
            let kinds : kind.Continue c i ≡ kind.Continue d ((0 + length (fragments_from A (suc j))) % 4) = sym is ∙ popped.1 in
            let d_is : d ≡ c = cc kinds in
            let i_is : i ≡ (0 + length (fragments_from A (suc j))) % 4 = cc kinds in
            record {
              before = lt;
              start = (f, found, first);
              same = d_is;
              first = f;
              more = fragments_from A (suc j);
              parts = front;
              count = i_is ∙ ap (λ k. k % 4) (omega arith);
              opening = whole.0 ∙ ap (λ x. kind.Start x) d_is;
              continued = subst (λ x. IsContinued x 0 (fragments_from A (suc j))) d_is popped.0;
            }
      ]

  follows_continuation : (c i : ℕ) → m.kind ≡ kind.Continue c i → Follows c ((i + 1) % 4)
  unfolding Follows
  follows_continuation c i is j d start sequence =
      let p = precedes c i is j d start sequence in
      let parts : fragments_from (A ++ a ∷ []) j ≡ p.first ∷ p.more ++ m ∷ [] = pieces j (omega (arith, p.before)) ∙ ap (λ l. l ++ m ∷ []) p.parts in
      let long : length (fragments_from (A ++ a ∷ []) j) ≡ length p.more + 2 = ap length parts ∙ (ap suc (length-append p.more (m ∷ [])) ∙ omega arith) in
      (p.same, omega (arith, long, p.count))

  pub opens_continuation : (c i d n : ℕ) (all : List ℕ) → m.kind ≡ kind.Continue c i
      → IsOpen (A ++ a ∷ []) d n all ↔ ((d ≡ c) × (n ≡ (i + 1) % 4) × EndsChain (A ++ a ∷ []) (length A) all × (m.check ≡ Mcrc all))
  opens_continuation c i d n all is = opens c ((i + 1) % 4) (follows_continuation c i is) d n all

  pub joins_continuation : (c i : ℕ) (all : List ℕ) → m.kind ≡ kind.Continue c i
      → EndsChain (A ++ a ∷ []) (length A) all ↔ ((before : List ℕ) × IsOpen A c i before × (all ≡ before ++ m.mdata) × (length all ≤ GREATEST_DATA))
  unfolding Joins
  joins_continuation c i all is = (
    λ e.
        let h = joins all e in
        let j = h.0 in
        let p = precedes c i is j h.2.0.0 h.1 h.2.0.1 in
        let parts : fragments_from (A ++ a ∷ []) j ≡ p.first ∷ p.more ++ m ∷ [] = pieces j (omega (arith, p.before)) ∙ ap (λ l. l ++ m ∷ []) p.parts in
        let checked = checked_pop [] p.first p.more m (subst (IsChecked []) parts h.2.2) in
        let whole : all ≡ joined (fragments_from A j) ++ m.mdata =
        h.3 ∙ (ap joined (pieces j (omega (arith, p.before))) ∙ (joined-append (fragments_from A j) (m ∷ []) ∙ ap (λ l. joined (fragments_from A j) ++ l) (append-nil m.mdata))) in
        let short : length all ≤ GREATEST_DATA = subst (λ l. length l ≤ GREATEST_DATA) (sym h.3) h.2.1 in (
          joined (fragments_from A j),
          record {
            from = j;
            start = p.start;
            sequence = subst (IsSequenceOf c) (sym p.parts) (p.opening, p.continued);
            checked = subst (IsChecked []) (sym p.parts) checked.0;
            part = ap last_check p.parts ∙ (checked.1 ∙ ap (λ l. Mcrc (joined l)) (sym p.parts));
            short = omega (arith, short, ap length whole, length-append (joined (fragments_from A j)) m.mdata);
            whole = refl;
            counted = p.count ∙ omega (arith, ap length p.parts);
          },
          whole,
          short,
        ),
    λ h.
        let o = h.1 in
        let j = o.from in
        let f = o.start in
        let lt : j < length A = spelled_within A j f.0 f.1 in
        let front = first_from A j f.0 f.1 (fragment_of_start f.0.kind f.2) in
        let parts : fragments_from (A ++ a ∷ []) j ≡ f.0 ∷ fragments_from A (suc j) ++ m ∷ [] = pieces j (omega (arith, lt)) ∙ ap (λ l. l ++ m ∷ []) front in
        let sequence = subst (IsSequenceOf c) front o.sequence in
        let next : i ≡ (0 + length (fragments_from A (suc j))) % 4 = o.counted ∙ omega (arith, ap length front) in
        let more = continued_push c 0 (fragments_from A (suc j)) m sequence.1 (is ∙ ap (λ x. kind.Continue c x) next) in
        let checked = checked_push [] f.0 (fragments_from A (suc j)) m (subst (IsChecked []) front o.checked)
        (ap last_check (sym front) ∙ (o.part ∙ ap Mcrc (o.whole ∙ ap joined front))) in
        let whole : all ≡ joined (fragments_from (A ++ a ∷ []) j) =
        h.2 ∙ (ap (λ l. l ++ m.mdata) o.whole
        ∙ sym (ap joined (pieces j (omega (arith, lt))) ∙ (joined-append (fragments_from A j) (m ∷ []) ∙ ap (λ l. joined (fragments_from A j) ++ l) (append-nil m.mdata)))) in
        ends all (
          j,
          (f.0, spelled_before A (a ∷ []) j lt ∙ f.1, f.2),
          ((c, subst (IsSequenceOf c) (sym parts) (sequence.0, more)), subst (λ l. length l ≤ GREATEST_DATA) whole h.3, subst (IsChecked []) (sym parts) checked),
          whole,
        ),
  )

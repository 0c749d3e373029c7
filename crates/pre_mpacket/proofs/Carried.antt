-- Pieces that carry a frame give it.
use Rattle.std.proofs.Common.{ℕ, suc, ◌≡◌, ◌≤◌, ◌<◌, ◌+◌, ◌-◌, List, [], ◌∷◌, ◌++◌, length, take, drop, refl}
use Rattle.std.proofs.Common.{sym, ◌∙◌, ap, inr, arith, subst, Option, Some, append_assoc, length-append}
use Rattle.std.specs.Prelude.{◌↔◌, true}
use Rattle.std.proofs.lemmas.List.{append-nil}
use Rattle.pre_base.specs.declared.limits.TheConstants.{GREATEST_DATA}
use Rattle.pre_crc.specs.Checks.{Fcs, Mcrc}
use Rattle.pre_crc.proofs.CheckFacts.{length-Fcs}
use Rattle.pre_mpacket.specs.Spelling.{PlainPacket}
use Rattle.pre_mpacket.specs.Pieces.{joined, last_check, IsContinued, IsSequence, IsChecked, Carries}
use Rattle.pre_mpacket.specs.Arrivals.{Given, is_start, is_fragment, fragments_of, HasKind, Spelled, Fragments, Data, Chain, Gives}
use Rattle.pre_mpacket.proofs.Chains.{first_fragment, fragments_split, gives_one}
use Rattle.pre_mpacket.proofs.Spelled.{take-front, drop-front}
use Rattle.pre_mpacket.proofs.FrameSizes.{spelled_whole}

-- ---- lists of pieces

pub joined-append : (xs ys : List PlainPacket) → joined (xs ++ ys) ≡ joined xs ++ joined ys
joined-append [] ys = refl
joined-append (x ∷ xs) ys = ap (λ l. x.mdata ++ l) (joined-append xs ys) ∙ sym (append_assoc x.mdata (joined xs) (joined ys))

pub last_check-append : (xs : List PlainPacket) (m : PlainPacket) → last_check (xs ++ m ∷ []) ≡ m.check
last_check-append [] m = refl
last_check-append (x ∷ []) m = refl
last_check-append (x ∷ y ∷ xs) m = last_check-append (y ∷ xs) m

continued_front : (c n : ℕ) (xs ys : List PlainPacket) → IsContinued c n (xs ++ ys) → IsContinued c n xs
continued_front c n [] ys h = tt
continued_front c n (x ∷ xs) ys (is, more) = (is, continued_front c (n + 1) xs ys more)

sequence_front : (xs ys : List PlainPacket) (m : PlainPacket) → IsSequence ((xs ++ m ∷ []) ++ ys) → IsSequence (xs ++ m ∷ [])
sequence_front [] ys m (c, (is, more)) = (c, (is, tt))
sequence_front (x ∷ xs) ys m (c, (is, more)) = (c, (is, continued_front c 0 (xs ++ m ∷ []) ys more))

-- of pieces that go on, the last one of a front has the check of that front
checked_front : (before : List ℕ) (xs ys : List PlainPacket) (m y : PlainPacket) → IsChecked before ((xs ++ m ∷ []) ++ y ∷ ys)
    → IsChecked before (xs ++ m ∷ []) × (m.check ≡ Mcrc (before ++ joined (xs ++ m ∷ [])))
checked_front before [] ys m y (is, more) = (tt, is ∙ ap (λ l. Mcrc (before ++ l)) (sym (append-nil m.mdata)))
checked_front before (x ∷ []) ys m y (is, more) =
    let rest = checked_front (before ++ x.mdata) [] ys m y more in
    ((is, rest.0), rest.1 ∙ ap Mcrc (append_assoc before x.mdata (joined (m ∷ []))))
checked_front before (x ∷ z ∷ xs) ys m y (is, more) =
    let rest = checked_front (before ++ x.mdata) (z ∷ xs) ys m y more in
    ((is, rest.0), rest.1 ∙ ap Mcrc (append_assoc before x.mdata (joined (z ∷ xs ++ m ∷ []))))

-- two lists joined the same way, with ends as long
ends_same : (xs ys us vs : List ℕ) → length us ≡ length vs → xs ++ us ≡ ys ++ vs → (xs ≡ ys) × (us ≡ vs)
ends_same xs ys us vs long same =
    let count : length xs ≡ length ys = omega (arith, ap length same, length-append xs us, length-append ys vs, long) in (
      sym (take-front xs us (length ys) count) ∙ (ap (take (length ys)) same ∙ take-front ys vs (length ys) refl),
      sym (drop-front xs us (length ys) count) ∙ (ap (drop (length ys)) same ∙ drop-front ys vs (length ys) refl),
    )

-- ---- arrivals

module _ (A : List (Option (List ℕ))) where
  -- a stretch of arrivals that ends with a fragment ends with the one that it spells
  pub last_fragment : (j i : ℕ) (m : PlainPacket) → j ≤ i → Spelled A i ≡ Some m → is_fragment m.kind ≡ true → (front : List PlainPacket) × (Fragments A j i ≡ front ++ m ∷ [])
  last_fragment j i m le at fragment =
      let count : suc i - j ≡ (i - j) + 1 = omega (arith, le) in
      let here : j + (i - j) ≡ i = omega (arith, le) in (
        fragments_of (take (i - j) (drop j A)),
        ap (λ n. fragments_of (take n (drop j A))) count
            ∙ (fragments_split A j (i - j) 1
            ∙ (ap (λ n. fragments_of (take (i - j) (drop j A)) ++ fragments_of (take 1 (drop n A))) here
            ∙ ap (λ l. fragments_of (take (i - j) (drop j A)) ++ l) (first_fragment A i 0 m at fragment))),
      )

  -- it goes on after an earlier one
  goes_on : (j k i : ℕ) → j ≤ k → k < i → Fragments A j i ≡ Fragments A j k ++ Fragments A (suc k) i
  goes_on j k i le lt =
      let count : suc i - j ≡ (suc k - j) + (suc i - suc k) = omega (arith, le, lt) in
      let here : j + (suc k - j) ≡ suc k = omega (arith, le) in
      ap (λ n. fragments_of (take n (drop j A))) count
      ∙ (fragments_split A j (suc k - j) (suc i - suc k)
      ∙ ap (λ n. fragments_of (take (suc k - j) (drop j A)) ++ fragments_of (take (suc i - suc k) (drop n A))) here)

  -- the first of a sequence is a start
  first_start : (j i : ℕ) → j ≤ i → HasKind A is_fragment j → IsSequence (Fragments A j i) → HasKind A is_start j
  first_start j i le (m, at, fragment) sequence =
      let count : suc i - j ≡ suc (i - j) = omega (arith, le) in
      let first : Fragments A j i ≡ m ∷ fragments_of (take (i - j) (drop (suc j) A)) = ap (λ n. fragments_of (take n (drop j A))) count ∙ first_fragment A j (i - j) m at fragment in
      let seq = subst IsSequence first sequence in
      (m, at, ap is_start seq.1.0)

  module _ (j i add_frag : ℕ) (user : List ℕ) (le : j ≤ i) (first : HasKind A is_fragment j) (last : HasKind A is_fragment i)
      (carries : Carries (user ++ Fcs user) add_frag (Fragments A j i)) (short : length user ≤ GREATEST_DATA) where
    start : HasKind A is_start j
    start = first_start j i le first carries.sequence

    ending : (Data A j i ≡ user) × (last.0.check ≡ Fcs user)
    ending =
        let front = last_fragment j i last.0 le last.1 last.2 in
        let check : last_check (Fragments A j i) ≡ last.0.check = ap last_check front.1 ∙ last_check-append front.0 last.0 in
        let whole : Data A j i ++ last.0.check ≡ user ++ Fcs user = ap (λ l. Data A j i ++ l) (sym check) ∙ carries.whole in
        ends_same (Data A j i) user last.0.check (Fcs user) ((spelled_whole A i last.0 last.1).check ∙ sym (length-Fcs user)) whole

    gives_frame : Gives A i (Given.frame (user ++ Fcs user))
    gives_frame =
        let chain : Chain A j i = (le, start, last, (carries.sequence, subst (λ l. length l ≤ GREATEST_DATA) (sym ending.0) short, carries.checked)) in
        (last.0, last.1, inr (user, (j, chain, sym ending.0), ending.1, ap (λ l. user ++ l) (sym ending.1)))

    pub frame_alone : (g : Given) → Gives A i g ↔ (g ≡ Given.frame (user ++ Fcs user))
    frame_alone g = (λ gives. gives_one A i g (Given.frame (user ++ Fcs user)) gives gives_frame, λ is. subst (λ x. Gives A i x) (sym is) gives_frame)

    gives_part : (k : ℕ) → j ≤ k → k < i → HasKind A is_fragment k → Gives A k Given.part
    gives_part k low below here =
        let split = goes_on j k i low below in
        let front = last_fragment j k here.0 low here.1 here.2 in
        let after = last_fragment (suc k) i last.0 (omega (arith, below)) last.1 last.2 in
        let all : Fragments A j i ≡ (front.0 ++ here.0 ∷ []) ++ Fragments A (suc k) i = split ∙ ap (λ l. l ++ Fragments A (suc k) i) front.1 in
        let checked = part_checked front.0 (Fragments A (suc k) i) here.0 after.0 last.0 after.1 (subst (IsChecked []) all carries.checked) in
        let fits : length (Data A j k) ≤ GREATEST_DATA = omega (arith, short, ap length ending.0, ap (λ l. length (joined l)) split, ap length (joined-append (Fragments A j k) (Fragments A (suc k) i)), length-append (Data A j k) (joined (Fragments A (suc k) i))) in
        let chain : Chain A j k = (
          low,
          start,
          here,
          (
            subst IsSequence (sym front.1) (sequence_front front.0 (Fragments A (suc k) i) here.0 (subst IsSequence all carries.sequence)),
            fits,
            subst (IsChecked []) (sym front.1) checked.0,
          ),
        ) in
        (here.0, here.1, (Data A j k, (j, chain, refl), checked.1 ∙ ap (λ l. Mcrc (joined l)) (sym front.1)))
      where
        part_checked : (xs rest : List PlainPacket) (m : PlainPacket) (zs : List PlainPacket) (z : PlainPacket) → rest ≡ zs ++ z ∷ [] → IsChecked [] ((xs ++ m ∷ []) ++ rest)
            → IsChecked [] (xs ++ m ∷ []) × (m.check ≡ Mcrc (joined (xs ++ m ∷ [])))
        part_checked xs [] m [] z is h = absurd (cc is)
        part_checked xs [] m (w ∷ zs) z is h = absurd (cc is)
        part_checked xs (y ∷ ys) m zs z is h = checked_front [] xs ys m y h

    pub part_alone : (k : ℕ) → j ≤ k → k < i → HasKind A is_fragment k → (g : Given) → Gives A k g ↔ (g ≡ Given.part)
    part_alone k low below here g =
        (λ gives. gives_one A k g Given.part gives (gives_part k low below here), λ is. subst (λ x. Gives A k x) (sym is) (gives_part k low below here))

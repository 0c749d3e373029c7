-- What an arrival gives is one thing.
use Rattle.std.proofs.Common.{ℕ, zero, suc, ◌≡◌, ◌⊎◌, ◌<◌, ◌+◌, ◌-◌, List, [], ◌∷◌, ◌++◌, take, drop, refl}
use Rattle.std.proofs.Common.{sym, ◌∙◌, ap, inl, inr, arith, subst, Option, Some, true, false}
use Rattle.std.specs.Prelude.{◌≢◌, slice_index}
use Rattle.std.proofs.Math.Seq.{take-add}
use Rattle.std.proofs.lemmas.List.{drop-drop}
use Rattle.std.proofs.lemmas.List.Elements.{filter_map-append, filter-append}
use Rattle.pre_crc.specs.Checks.{Fcs, Mcrc, octets_of}
use Rattle.pre_mpacket.specs.declared.packets.Kind.{Kind}
use Rattle.pre_mpacket.specs.declared.packets.Kind.TheVariants as kind
use Rattle.pre_mpacket.specs.Spelling.{PlainPacket}
use Rattle.pre_mpacket.specs.Pieces.{IsContinued, IsSequence}
use Rattle.pre_mpacket.specs.Arrivals.{Given, is_start, is_fragment, fragments_of, Spelled, Fragments, Data, Chain, EndsChain, GivesAs, Gives}

-- the two checks of the same octets differ in their third octet
pub checks_differ : (octets : List ℕ) → Fcs octets ≢ Mcrc octets
unfolding Fcs octets_of Mcrc
checks_differ octets same = let third : slice_index (Fcs octets) 2 ≡ 255 - slice_index (Fcs octets) 2 = ap (λ l. slice_index l 2) same in omega (arith, third)

pub fragment_of_start : (k : Kind) → is_start k ≡ true → is_fragment k ≡ true
fragment_of_start (kind.Start c) h = refl
fragment_of_start (kind.Continue c n) h = refl
fragment_of_start kind.Express h = absurd (cc h)
fragment_of_start kind.Verify h = absurd (cc h)
fragment_of_start kind.Respond h = absurd (cc h)

-- ---- the fragments of a stretch of arrivals

-- the first one is the one that the first arrival spells
pub first_fragment : (A : List (Option (List ℕ))) (j n : ℕ) (m : PlainPacket) → Spelled A j ≡ Some m → is_fragment m.kind ≡ true
    → fragments_of (take (suc n) (drop j A)) ≡ m ∷ fragments_of (take n (drop (suc j) A))
first_fragment [] j n m at fragment = absurd (cc at)
first_fragment (o ∷ os) zero n m at fragment = rw (at, fragment) refl
first_fragment (o ∷ os) (suc j) n m at fragment = first_fragment os j n m at fragment

pub fragments_split : (A : List (Option (List ℕ))) (j p q : ℕ) → fragments_of (take (p + q) (drop j A)) ≡ fragments_of (take p (drop j A)) ++ fragments_of (take q (drop (j + p) A))
fragments_split A j p q = rw (take-add p q (drop j A), drop-drop p j A, filter_map-append, filter-append) refl

-- ---- a chain ends at an arrival from one start alone

-- a start is no continuation
pub no_start_inside : (c n : ℕ) (xs ys : List PlainPacket) (s : PlainPacket) (d : ℕ) → IsContinued c n (xs ++ s ∷ ys) → s.kind ≡ kind.Start d → ⊥
no_start_inside c n [] ys s d (is, more) start = cc (is, start)
no_start_inside c n (x ∷ xs) ys s d (is, more) start = no_start_inside c (n + 1) xs ys s d more start

-- no sequence ends in a shorter one
pub not_within : (m : PlainPacket) (xs fs : List PlainPacket) → IsSequence (m ∷ xs ++ fs) → IsSequence fs → ⊥
not_within m xs [] p q = q.1
not_within m xs (s ∷ ys) (c, (is, more)) (d, (start, more')) = no_start_inside c 0 xs ys s d more start

not_before : (A : List (Option (List ℕ))) (i j k : ℕ) → Chain A j i → Chain A k i → j < k → ⊥
not_before A i j k (le, (m, at, start), last, chain) (le', first', last', chain') lt =
    let count : suc i - j ≡ suc (k - suc j) + (suc i - k) = omega (arith, lt, le') in
    let here : j + suc (k - suc j) ≡ k = omega (arith, lt) in
    let first = first_fragment A j (k - suc j) m at (fragment_of_start m.kind start) in
    let parted : Fragments A j i ≡ fragments_of (take (suc (k - suc j)) (drop j A)) ++ fragments_of (take (suc i - k) (drop (j + suc (k - suc j)) A)) =
    ap (λ n. fragments_of (take n (drop j A))) count ∙ fragments_split A j (suc (k - suc j)) (suc i - k) in
    let whole : Fragments A j i ≡ m ∷ fragments_of (take (k - suc j) (drop (suc j) A)) ++ Fragments A k i =
    parted ∙ (ap (λ x. x ++ fragments_of (take (suc i - k) (drop (j + suc (k - suc j)) A))) first
    ∙ ap (λ n. (m ∷ fragments_of (take (k - suc j) (drop (suc j) A))) ++ fragments_of (take (suc i - k) (drop n A))) here) in
    not_within m (fragments_of (take (k - suc j) (drop (suc j) A))) (Fragments A k i) (subst IsSequence whole chain.0) chain'.0

pub equal_or_apart : (m n : ℕ) → (m ≡ n) ⊎ ((m < n) ⊎ (n < m))
equal_or_apart m n = grind arith

pub start_is_one : (A : List (Option (List ℕ))) (i j k : ℕ) → Chain A j i → Chain A k i → j ≡ k
start_is_one A i j k p q = elim (equal_or_apart j k) [ inl e ↦ e | inr (inl lt) ↦ absurd (not_before A i j k p q lt) | inr (inr gt) ↦ absurd (not_before A i k j q p gt) ]

pub data_one : (A : List (Option (List ℕ))) (i : ℕ) (xs ys : List ℕ) → EndsChain A i xs → EndsChain A i ys → xs ≡ ys
data_one A i xs ys (j, chain, is) (k, chain', is') = is ∙ (ap (λ x. Data A x i) (start_is_one A i j k chain chain') ∙ sym is')

-- ---- what an arrival gives

-- i spells a fragment where a chain ends at it
fragment_at : (A : List (Option (List ℕ))) (i : ℕ) (m : PlainPacket) (xs : List ℕ) → Spelled A i ≡ Some m → EndsChain A i xs → is_fragment m.kind ≡ true
fragment_at A i m xs spelled (j, (le, first, (n, spelled', fragment), chain), is) =
    let same : m ≡ n = cc (spelled, spelled') in ap (λ (x : PlainPacket). is_fragment x.kind) same ∙ fragment

no_chain : (A : List (Option (List ℕ))) (i : ℕ) (m : PlainPacket) (k : Kind) (xs : List ℕ) → Spelled A i ≡ Some m → EndsChain A i xs → m.kind ≡ k → is_fragment k ≡ false → ⊥
no_chain A i m k xs spelled ends is plain = cc (fragment_at A i m xs spelled ends, ap is_fragment is, plain)

gives_as_one : (A : List (Option (List ℕ))) (i : ℕ) (m : PlainPacket) → Spelled A i ≡ Some m → (g h : Given) → GivesAs A i m g → GivesAs A i m h → g ≡ h
gives_as_one A i m at (Given.frame xs) (Given.frame ys) (inl p) (inl q) = cc (p.1, q.1)
gives_as_one A i m at (Given.frame xs) (Given.frame ys) (inl p) (inr (all, ends, check, is)) = absurd (no_chain A i m kind.Express all at ends p.0 refl)
gives_as_one A i m at (Given.frame xs) (Given.frame ys) (inr (all, ends, check, is)) (inl q) = absurd (no_chain A i m kind.Express all at ends q.0 refl)
gives_as_one A i m at (Given.frame xs) (Given.frame ys) (inr (all, ends, check, is)) (inr (all', ends', check', is')) = cc (data_one A i all all' ends ends', is, is')
gives_as_one A i m at (Given.frame xs) Given.part (inl p) (all, ends, check) = absurd (no_chain A i m kind.Express all at ends p.0 refl)
gives_as_one A i m at (Given.frame xs) Given.part (inr (all, ends, check, is)) (all', ends', check') = absurd (checks_differ all (sym check ∙ (check' ∙ ap Mcrc (data_one A i all' all ends' ends))))
gives_as_one A i m at (Given.frame xs) Given.verify (inl p) q = absurd (cc (p.0, q.0))
gives_as_one A i m at (Given.frame xs) Given.verify (inr (all, ends, check, is)) q = absurd (no_chain A i m kind.Verify all at ends q.0 refl)
gives_as_one A i m at (Given.frame xs) Given.respond (inl p) q = absurd (cc (p.0, q.0))
gives_as_one A i m at (Given.frame xs) Given.respond (inr (all, ends, check, is)) q = absurd (no_chain A i m kind.Respond all at ends q.0 refl)
gives_as_one A i m at Given.part (Given.frame ys) (all, ends, check) (inl p) = absurd (no_chain A i m kind.Express all at ends p.0 refl)
gives_as_one A i m at Given.part (Given.frame ys) (all', ends', check') (inr (all, ends, check, is)) = absurd (checks_differ all (sym check ∙ (check' ∙ ap Mcrc (data_one A i all' all ends' ends))))
gives_as_one A i m at Given.part Given.part p q = refl
gives_as_one A i m at Given.part Given.verify (all, ends, check) q = absurd (no_chain A i m kind.Verify all at ends q.0 refl)
gives_as_one A i m at Given.part Given.respond (all, ends, check) q = absurd (no_chain A i m kind.Respond all at ends q.0 refl)
gives_as_one A i m at Given.verify (Given.frame ys) q (inl p) = absurd (cc (p.0, q.0))
gives_as_one A i m at Given.verify (Given.frame ys) q (inr (all, ends, check, is)) = absurd (no_chain A i m kind.Verify all at ends q.0 refl)
gives_as_one A i m at Given.verify Given.part q (all, ends, check) = absurd (no_chain A i m kind.Verify all at ends q.0 refl)
gives_as_one A i m at Given.verify Given.verify p q = refl
gives_as_one A i m at Given.verify Given.respond p q = absurd (cc (p.0, q.0))
gives_as_one A i m at Given.respond (Given.frame ys) q (inl p) = absurd (cc (p.0, q.0))
gives_as_one A i m at Given.respond (Given.frame ys) q (inr (all, ends, check, is)) = absurd (no_chain A i m kind.Respond all at ends q.0 refl)
gives_as_one A i m at Given.respond Given.part q (all, ends, check) = absurd (no_chain A i m kind.Respond all at ends q.0 refl)
gives_as_one A i m at Given.respond Given.verify p q = absurd (cc (p.0, q.0))
gives_as_one A i m at Given.respond Given.respond p q = refl

pub gives_one : (A : List (Option (List ℕ))) (i : ℕ) (g h : Given) → Gives A i g → Gives A i h → g ≡ h
gives_one A i g h (m, at, gives) (n, at', gives') =
    let same : n ≡ m = cc (at, at') in gives_as_one A i m at g h gives (subst (λ x. GivesAs A i x h) same gives')

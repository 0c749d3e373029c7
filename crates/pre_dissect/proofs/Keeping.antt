-- A receiver that isn't told of the arrivals that were lost gives the same of the others.
use Rattle.std.proofs.Common.{ℕ, zero, suc, ◌≡◌, ◌+◌, ◌-◌, ◌≤◌, Bool, true, false, List, [], ◌∷◌, refl, sym, ◌∙◌}
use Rattle.std.proofs.Common.{ap, inl, inr, arith, subst, Option, Some, None, take, drop}
use Rattle.std.specs.Prelude.{slice_get, option_and_then}
use Rattle.std.proofs.lemmas.Bool.{cases_lt}
use Rattle.pre_mpacket.specs.Spelling.{PlainPacket, mpacket_of}
use Rattle.pre_mpacket.specs.Pieces.{joined}
use Rattle.pre_mpacket.specs.Arrivals.{Given, Gives, GivesAs, Spelled, is_fragment, fragments_of, Fragments, IsChain, EndsChain}
use Rattle.pre_dissect.specs.Results.{kept, came_before}

at_kept : (A : List (Option (List ℕ))) (i : ℕ) (o : List ℕ) → slice_get A i ≡ Some (Some o) → slice_get (kept A) (came_before A i) ≡ Some (Some o)
at_kept [] i o at = absurd (cc at)
at_kept (Some x ∷ A) zero o at = cc at
at_kept (None ∷ A) zero o at = absurd (cc at)
at_kept (Some x ∷ A) (suc i) o at = at_kept A i o at
at_kept (None ∷ A) (suc i) o at = at_kept A i o at

from_kept : (A : List (Option (List ℕ))) (k : ℕ) (x : Option (List ℕ)) → slice_get (kept A) k ≡ Some x → (i : ℕ) × (o : List ℕ) × (slice_get A i ≡ Some (Some o)) × (came_before A i ≡ k)
from_kept [] k x at = absurd (cc at)
from_kept (None ∷ A) k x at = let r = from_kept A k x at in (suc r.0, r.1, r.2, r.3)
from_kept (Some y ∷ A) zero x at = (zero, y, refl, refl)
from_kept (Some y ∷ A) (suc k) x at = let r = from_kept A k x at in (suc r.0, r.1, r.2, ap suc r.3)

fragments_kept : (A : List (Option (List ℕ))) → fragments_of (kept A) ≡ fragments_of A
fragments_kept [] = refl
fragments_kept (None ∷ A) = fragments_kept A
fragments_kept (Some o ∷ A) = go (mpacket_of o) refl (fragments_kept A)
  where
    by_kind : (m : PlainPacket) → mpacket_of o ≡ Some m → (b : Bool) → is_fragment m.kind ≡ b → fragments_of (kept A) ≡ fragments_of A → fragments_of (Some o ∷ kept A) ≡ fragments_of (Some o ∷ A)
    by_kind m is true on rest = rw (is, on) (ap (λ l. m ∷ l) rest)
    by_kind m is false off rest = rw (is, off) rest

    go : (m : Option PlainPacket) → mpacket_of o ≡ m → fragments_of (kept A) ≡ fragments_of A → fragments_of (Some o ∷ kept A) ≡ fragments_of (Some o ∷ A)
    go None is rest = rw is rest
    go (Some m) is rest = by_kind m is (is_fragment m.kind) refl rest

-- a piece that begins and ends at arrivals that came
piece_kept : (A : List (Option (List ℕ))) (j n : ℕ) → kept (take n (drop j A)) ≡ take (came_before (drop j A) n) (drop (came_before A j) (kept A))
piece_kept [] j n = none_left j n
  where
    none_left : (j n : ℕ) → kept (take n (drop j [])) ≡ take (came_before (drop j []) n) (drop (came_before [] j) (kept []))
    none_left zero zero = refl
    none_left zero (suc n) = refl
    none_left (suc j) zero = refl
    none_left (suc j) (suc n) = refl
piece_kept (x ∷ A) zero zero = refl
piece_kept (None ∷ A) zero (suc n) = piece_kept A zero n
piece_kept (Some o ∷ A) zero (suc n) = ap (λ l. Some o ∷ l) (piece_kept A zero n)
piece_kept (None ∷ A) (suc j) n = piece_kept A j n
piece_kept (Some o ∷ A) (suc j) n = piece_kept A j n

none_before : (k : ℕ) → came_before [] k ≡ 0
none_before zero = refl
none_before (suc k) = refl

count_more : (A : List (Option (List ℕ))) (j n : ℕ) → came_before A (j + n) ≡ came_before A j + came_before (drop j A) n
count_more A zero n = let same : zero + n ≡ n = omega arith in let all = ap (came_before A) same in omega (arith, all)
count_more [] (suc j) n = let all = none_before (suc j + n) in let first = none_before (suc j) in let rest = none_before n in omega (arith, all, first, rest)
count_more (None ∷ A) (suc j) n = let same : suc j + n ≡ suc (j + n) = omega arith in let all = ap (came_before (None ∷ A)) same in let more = count_more A j n in omega (arith, all, more)
count_more (Some o ∷ A) (suc j) n = let same : suc j + n ≡ suc (j + n) = omega arith in let all = ap (came_before (Some o ∷ A)) same in let more = count_more A j n in omega (arith, all, more)

count_next : (A : List (Option (List ℕ))) (i : ℕ) (o : List ℕ) → slice_get A i ≡ Some (Some o) → came_before A (suc i) ≡ suc (came_before A i)
count_next [] i o at = absurd (cc at)
count_next (Some x ∷ A) zero o at = refl
count_next (None ∷ A) zero o at = absurd (cc at)
count_next (Some x ∷ A) (suc i) o at = ap suc (count_next A i o at)
count_next (None ∷ A) (suc i) o at = count_next A i o at

count_le : (A : List (Option (List ℕ))) (j i : ℕ) → j ≤ i → came_before A j ≤ came_before A i
count_le A j i le = let d : j + (i - j) ≡ i = omega (arith, le) in let more = count_more A j (i - j) in let same = ap (came_before A) d in omega (arith, more, same)

module _ (A : List (Option (List ℕ))) where
  spelled_kept : (i : ℕ) (o : List ℕ) → slice_get A i ≡ Some (Some o) → Spelled (kept A) (came_before A i) ≡ Spelled A i
  spelled_kept i o at = ap (λ x. option_and_then (λ a. option_and_then mpacket_of a) x) (at_kept A i o at ∙ sym at)

  spelled_came : (B : List (Option (List ℕ))) (i : ℕ) (m : PlainPacket) → Spelled B i ≡ Some m → (o : List ℕ) × (slice_get B i ≡ Some (Some o))
  spelled_came B i m is = go (slice_get B i) refl
    where
      go : (x : Option (Option (List ℕ))) → slice_get B i ≡ x → (o : List ℕ) × (slice_get B i ≡ Some (Some o))
      go None at = absurd (cc (is, at))
      go (Some None) at = absurd (cc (is, at))
      go (Some (Some o)) at = (o, at)

  fragments_same : (j i : ℕ) (o : List ℕ) → j ≤ i → slice_get A i ≡ Some (Some o) → Fragments (kept A) (came_before A j) (came_before A i) ≡ Fragments A j i
  fragments_same j i o le at =
      let n : j + (suc i - j) ≡ suc i = omega (arith, le) in
      let more = count_more A j (suc i - j) in
      let whole = ap (came_before A) n in
      let next = count_next A i o at in
      let count : suc (came_before A i) - came_before A j ≡ came_before (drop j A) (suc i - j) = omega (arith, more, whole, next) in
      ap (λ k. fragments_of (take k (drop (came_before A j) (kept A)))) count
      ∙ (ap fragments_of (sym (piece_kept A j (suc i - j))) ∙ fragments_kept (take (suc i - j) (drop j A)))

  ends_to : (i : ℕ) (o all : List ℕ) → slice_get A i ≡ Some (Some o) → EndsChain A i all → EndsChain (kept A) (came_before A i) all
  ends_to i o all at (j, chain, is) =
      let same = fragments_same j i o chain.0 at in
      let start = spelled_came A j chain.1.0 chain.1.1 in (
        came_before A j,
        (count_le A j i chain.0, (chain.1.0, spelled_kept j start.0 start.1 ∙ chain.1.1, chain.1.2), (chain.2.0, spelled_kept i o at ∙ chain.2.1, chain.2.2), subst IsChain (sym same) chain.3),
        is ∙ ap joined (sym same),
      )

  ends_from : (i : ℕ) (o all : List ℕ) → slice_get A i ≡ Some (Some o) → EndsChain (kept A) (came_before A i) all → EndsChain A i all
  ends_from i o all at (k, chain, is) =
      let there = spelled_came (kept A) k chain.1.0 chain.1.1 in
      let start = from_kept A k (Some there.0) there.1 in
      let j = start.0 in
      let place : came_before A j ≡ k = start.3 in
      let le : j ≤ i = elim (cases_lt i j) [
        | inr done ↦ done
        | inl more ↦ let past = count_le A (suc i) j (omega (arith, more)) in let next = count_next A i o at in let low = chain.0 in absurd (omega (arith, past, next, low, place))
      ] in
      let same : Fragments (kept A) k (came_before A i) ≡ Fragments A j i = ap (λ x. Fragments (kept A) x (came_before A i)) (sym place) ∙ fragments_same j i o le at in (
        j,
        (le, (chain.1.0, sym (spelled_kept j start.1 start.2) ∙ (ap (Spelled (kept A)) place ∙ chain.1.1), chain.1.2), (chain.2.0, sym (spelled_kept i o at) ∙ chain.2.1, chain.2.2), subst IsChain same chain.3),
        is ∙ ap joined same,
      )

  pub gives_kept : (i : ℕ) (o : List ℕ) (g : Given) → slice_get A i ≡ Some (Some o) → Gives A i g → Gives (kept A) (came_before A i) g
  gives_kept i o g at (m, is, gives) = (m, spelled_kept i o at ∙ is, go g gives)
    where
      go : (g : Given) → GivesAs A i m g → GivesAs (kept A) (came_before A i) m g
      go (Given.frame octets) (inl whole) = inl whole
      go (Given.frame octets) (inr (all, ends, check, same)) = inr (all, ends_to i o all at ends, check, same)
      go Given.part (all, ends, check) = (all, ends_to i o all at ends, check)
      go Given.verify bare = bare
      go Given.respond bare = bare

  pub kept_gives : (i : ℕ) (o : List ℕ) (g : Given) → slice_get A i ≡ Some (Some o) → Gives (kept A) (came_before A i) g → Gives A i g
  kept_gives i o g at (m, is, gives) = (m, sym (spelled_kept i o at) ∙ is, go g gives)
    where
      go : (g : Given) → GivesAs (kept A) (came_before A i) m g → GivesAs A i m g
      go (Given.frame octets) (inl whole) = inl whole
      go (Given.frame octets) (inr (all, ends, check, same)) = inr (all, ends_from i o all at ends, check, same)
      go Given.part (all, ends, check) = (all, ends_from i o all at ends, check)
      go Given.verify bare = bare
      go Given.respond bare = bare

  pub kept_place : (i : ℕ) (o : List ℕ) → slice_get A i ≡ Some (Some o) → slice_get (kept A) (came_before A i) ≡ Some (Some o)
  kept_place i o at = at_kept A i o at

  pub gave_came : (i : ℕ) (g : Given) → Gives A i g → (o : List ℕ) × (slice_get A i ≡ Some (Some o))
  gave_came i g (m, is, gives) = spelled_came A i m is

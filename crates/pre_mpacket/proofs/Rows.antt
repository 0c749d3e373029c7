-- Pieces of a frame that come in a row give it.
use Rattle.std.proofs.Common.{ℕ, zero, suc, ◌≡◌, ◌≤◌, ◌<◌, ◌+◌, ◌-◌, List, [], ◌∷◌, ◌++◌, length, take, drop}
use Rattle.std.proofs.Common.{refl, sym, ◌∙◌, ap, arith, subst, Option, Some, true, map}
use Rattle.std.specs.Prelude.{◌↔◌}
use Rattle.std.proofs.Math.Seq.{take-length, drop-append_seam}
use Rattle.std.proofs.lemmas.List.{length-map}
use Rattle.pre_base.specs.declared.limits.TheConstants.{GREATEST_DATA}
use Rattle.pre_crc.specs.Checks.{Fcs}
use Rattle.pre_mpacket.specs.Spelling.{PlainPacket}
use Rattle.pre_mpacket.specs.Pieces.{IsContinued, IsSequence, Carries, SpellEach}
use Rattle.pre_mpacket.specs.Arrivals.{Given, is_fragment, fragments_of, HasKind, Spelled, Fragments, Gives}
use Rattle.pre_mpacket.proofs.Spelled.{spelled_given}
use Rattle.pre_mpacket.proofs.Carried.{frame_alone, part_alone}

AreFragments : List PlainPacket → Type 0
AreFragments [] = Unit {0}
AreFragments (m ∷ ms) = (is_fragment m.kind ≡ true) × AreFragments ms

continued_fragments : (c n : ℕ) (ms : List PlainPacket) → IsContinued c n ms → AreFragments ms
unfolding AreFragments
continued_fragments c n [] h = tt
continued_fragments c n (m ∷ ms) (is, more) = (ap is_fragment is, continued_fragments c (n + 1) ms more)

sequence_fragments : (ms : List PlainPacket) → IsSequence ms → AreFragments ms
unfolding AreFragments
sequence_fragments [] h = absurd h.1
sequence_fragments (m ∷ ms) (c, (is, more)) = (ap is_fragment is, continued_fragments c 0 ms more)

come : List (List ℕ) → List (Option (List ℕ))
come pieces = map (λ octets. Some octets) pieces

spelled_each : (ms : List PlainPacket) (pieces : List (List ℕ)) → SpellEach ms pieces → AreFragments ms → fragments_of (come pieces) ≡ ms
unfolding AreFragments come
spelled_each [] [] s f = refl
spelled_each [] (o ∷ os) s f = absurd s
spelled_each (m ∷ ms) [] s f = absurd s
spelled_each (m ∷ ms) (o ∷ os) (s, more) (f, rest) =
    let is = spelled_given m o s in let fragment = f in rw (is, fragment) (ap (λ l. m ∷ l) (spelled_each ms os more rest))

each_fragment : (ms : List PlainPacket) (pieces : List (List ℕ)) (k : ℕ) → SpellEach ms pieces → AreFragments ms → k < length pieces → HasKind (come pieces) is_fragment k
unfolding AreFragments come
each_fragment [] [] k s f lt = absurd (omega arith)
each_fragment [] (o ∷ os) k s f lt = absurd s
each_fragment (m ∷ ms) [] k s f lt = absurd s
each_fragment (m ∷ ms) (o ∷ os) zero (s, more) (f, rest) lt = (m, spelled_given m o s, f)
each_fragment (m ∷ ms) (o ∷ os) (suc k) (s, more) (f, rest) lt = each_fragment ms os k more rest (omega arith)

some_piece : (ms : List PlainPacket) (pieces : List (List ℕ)) → SpellEach ms pieces → IsSequence ms → 0 < length pieces
some_piece [] pieces s h = absurd h.1
some_piece (m ∷ ms) [] s h = absurd s
some_piece (m ∷ ms) (o ∷ os) s h = omega arith

spelled_after : (A B : List (Option (List ℕ))) (n k : ℕ) → n ≡ length A + k → Spelled (A ++ B) n ≡ Spelled B k
spelled_after [] B n k is = let same : n ≡ k = omega arith in ap (Spelled B) same
spelled_after (a ∷ A) B zero k is = absurd (omega arith)
spelled_after (a ∷ A) B (suc n) k is = spelled_after A B n k (omega arith)

module _ (A : List (Option (List ℕ))) (parts : List PlainPacket) (pieces : List (List ℕ)) (add_frag : ℕ) (user : List ℕ)
    (spelled : SpellEach parts pieces) (carries : Carries (user ++ Fcs user) add_frag parts) (short : length user ≤ GREATEST_DATA) where
  fragments : AreFragments parts
  fragments = sequence_fragments parts carries.sequence

  here : (k : ℕ) → k < length pieces → HasKind (A ++ come pieces) is_fragment (length A + k)
  here k lt =
      let h = each_fragment parts pieces k spelled fragments lt in
      (h.0, spelled_after A (come pieces) (length A + k) k refl ∙ h.1, h.2)

  whole : Fragments (A ++ come pieces) (length A) (length A + (length pieces - 1)) ≡ parts
  unfolding come
  whole =
      let some = some_piece parts pieces spelled carries.sequence in
      let count : suc (length A + (length pieces - 1)) - length A ≡ length (come pieces) = omega (arith, some, length-map pieces (λ octets. Some octets)) in
      ap (λ n. fragments_of (take n (drop (length A) (A ++ come pieces)))) count
      ∙ (ap (λ l. fragments_of (take (length (come pieces)) l)) (drop-append_seam A (come pieces))
      ∙ (ap fragments_of (take-length (come pieces)) ∙ spelled_each parts pieces spelled fragments))

  carried : Carries (user ++ Fcs user) add_frag (Fragments (A ++ come pieces) (length A) (length A + (length pieces - 1)))
  carried = subst (Carries (user ++ Fcs user) add_frag) (sym whole) carries

  first : HasKind (A ++ come pieces) is_fragment (length A)
  first = subst (HasKind (A ++ come pieces) is_fragment) (omega arith) (here 0 (some_piece parts pieces spelled carries.sequence))

  last : HasKind (A ++ come pieces) is_fragment (length A + (length pieces - 1))
  last = let some = some_piece parts pieces spelled carries.sequence in here (length pieces - 1) (omega (arith, some))

  pub row_last : (g : Given) → Gives (A ++ map (λ octets. Some octets) pieces) (length A + (length pieces - 1)) g ↔ (g ≡ Given.frame (user ++ Fcs user))
  unfolding come
  row_last = frame_alone (A ++ come pieces) (length A) (length A + (length pieces - 1)) add_frag user (omega arith) first last carried short

  pub row_before : (k : ℕ) → k < length pieces - 1 → (g : Given) → Gives (A ++ map (λ octets. Some octets) pieces) (length A + k) g ↔ (g ≡ Given.part)
  unfolding come
  row_before k lt = part_alone (A ++ come pieces) (length A) (length A + (length pieces - 1)) add_frag user (omega arith) first last carried short (length A + k) (omega arith) (omega (arith, lt)) (here k (omega (arith, lt)))

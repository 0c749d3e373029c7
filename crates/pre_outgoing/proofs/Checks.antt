-- The check that a sender gives an mPacket is the one that the rules give it.
use Rattle.std.proofs.Common.{ℕ, ◌≡◌, ◌≢◌, ◌⊎◌, ◌==◌, ◌+◌, ◌-◌, ◌≤◌, Bool, true, false, List, [], ◌++◌}
use Rattle.std.proofs.Common.{length, take, drop, refl, sym, ◌∙◌, ap, ap₂, inl, inr, arith, subst, Option, Some}
use Rattle.std.specs.Prelude.{if◌then◌else◌}
use Rattle.std.proofs.Math.Seq.{take-add}
use Rattle.std.proofs.lemmas.Bool.Decides.{eqb_tells}
use Rattle.pre_crc.specs.Checks.{Mcrc}
use Rattle.pre_rings.specs.declared.slots.FrameRef.{FrameRef}
use Rattle.pre_rings.specs.Stores.{HoldsAt}
use Rattle.pre_send.specs.Calls.{Chosen, express, whole, first, rest, verify, respond, lldp}
use Rattle.pre_send.specs.Sendings.{Sending, Part, held, slot_octets, part_at, interrupted, IsCut, Follows}
use Rattle.pre_send.specs.Frames.{frame_of_part, frame_by}
use Rattle.pre_send.specs.Packets.{check_at, fragment_of, rest_packet, packet_by, packet_after}
use Rattle.pre_history.specs.declared.events.What.TheVariants as what
use Rattle.pre_history.specs.Scenario.{Scenario, FrameOf}
use Rattle.pre_history.specs.History.{History, Begin}
use Rattle.pre_history.specs.Octets.{BareOctets, WholeOf, whole_of}
use Rattle.pre_history.specs.Rules.{CheckOf, last_four}
use Rattle.pre_outgoing.specs.Matching.{IsSized, IsStored, Fits, what_of, what_of_frame}
use Rattle.pre_outgoing.proofs.Readings.{OtherIs}
use Rattle.pre_outgoing.proofs.Sizes.{bare_length}

same_test : (m n : ℕ) → m ≡ n → (m == n) ≡ true
same_test m n is = elim (eqb_tells m n) [ inl same ↦ same.0 | inr other ↦ absurd (other.1 is) ]

module _ (w : Scenario) (h : History) (p : Sending) (older : List Sending) (b : Begin) (fits : Fits w p older b) (cost add_frag : ℕ) where
  -- the check of what goes in one piece
  in_one : (X : List ℕ) → WholeOf w h b ≡ X → p.from ≡ 0 → p.size ≡ length X → CheckOf w h b p.size ≡ drop (length X - 4) X
  in_one X is from size =
      ap (λ (xs : List ℕ). if b.from + p.size == length xs then last_four xs else Mcrc (take (b.from + p.size - 4) xs)) is
      ∙ ap (λ (x : Bool). if x then last_four X else Mcrc (take (b.from + p.size - 4) X)) (same_test (b.from + p.size) (length X) (omega (arith, from, fits.from, size)))

  -- the check of a fragment
  module _ (f : FrameRef) (before : List ℕ) (unsent : ℕ) (store : List (Option (List ℕ))) (carries : b.what ≡ what.Frame f.frame) (sized : f.size ≡ length (FrameOf w f.frame.0))
      (stored : HoldsAt store f.slot (FrameOf w f.frame.0)) (same : before ≡ take p.from (FrameOf w f.frame.0)) (total : p.from + unsent ≡ f.size) (cut : IsCut cost add_frag p.told unsent p.size)
      (few : (p.from ≡ 0) ⊎ (p.from + 64 ≤ f.size)) where
    F : List ℕ
    F = FrameOf w f.frame.0

    check_form : CheckOf w h b p.size ≡ (if p.from + p.size == f.size then last_four F else Mcrc (take (p.from + p.size - 4) F))
    unfolding F
    check_form =
        ap (λ (xs : List ℕ). if b.from + p.size == length xs then last_four xs else Mcrc (take (b.from + p.size - 4) xs)) (ap (whole_of w h b) carries)
        ∙ (ap (λ n. if n + p.size == length F then last_four F else Mcrc (take (n + p.size - 4) F)) (sym fits.from)
        ∙ ap (λ n. if p.from + p.size == n then last_four F else Mcrc (take (p.from + p.size - 4) F)) (sym sized))

    by_test : (test : Bool) → (p.from + p.size == f.size) ≡ test
        → check_at test F (p.from + (p.size - 4)) (before ++ part_at F p.from p.size) ≡ (if test then last_four F else Mcrc (take (p.from + p.size - 4) F))
    unfolding F
    by_test true is =
        let size : p.from + p.size ≡ f.size = elim (eqb_tells (p.from + p.size) f.size) [ inl same' ↦ same'.1 | inr other ↦ absurd (cc (is, other.0)) ] in
        let place : p.from + (p.size - 4) ≡ length F - 4 = elim few [ inl zero' ↦ omega (arith, size, sized, zero') | inr left' ↦ omega (arith, size, sized, left') ] in
        ap (λ n. drop n F) place
    by_test false is =
        let size : p.from + p.size ≢ f.size = elim (eqb_tells (p.from + p.size) f.size) [ inl same' ↦ absurd (cc (is, same'.0)) | inr other ↦ other.1 ] in
        let place : p.from + (p.size - 4) ≡ p.from + p.size - 4 = elim cut [
          | inl (d, cuts, least, is') ↦ omega (arith, is')
          | inr (none, is') ↦ absurd (size (omega (arith, is', total)))
        ] in
        ap Mcrc (ap (λ x. x ++ part_at F p.from p.size) same ∙ (sym (take-add p.from (p.size - 4) F) ∙ ap (λ n. take n F) place))

    pub of_fragment : (fragment_of f (slot_octets store f.slot) before p).check ≡ CheckOf w h b p.size
    unfolding F
    of_fragment =
        ap (λ o. check_at (p.from + p.size == f.size) o (p.from + (p.size - 4)) (before ++ part_at o p.from p.size)) (ap held stored)
        ∙ (by_test (p.from + p.size == f.size) refl ∙ sym check_form)

  module _ (store : List (Option (List ℕ))) (other : List ℕ) (stored : IsStored w (frame_by p.told.chosen (interrupted older)) store)
      (others : OtherIs p.told.chosen other (WholeOf w h b)) (lldp_length : b.what ≡ what.Lldp → length (WholeOf w h b) ≡ 64)
      (kept : (y : Part) → interrupted older ≡ Some y → (y.so_far ≡ take y.place (FrameOf w y.frame.frame.0)) × (y.place + 64 ≤ y.frame.size)) where
    abbrev Right : Chosen → Type 0
    Right ch = (packet_by ch (interrupted older) p store other).check ≡ CheckOf w h b p.size

    by_choice : (ch : Chosen) → p.told.chosen ≡ ch → Follows cost add_frag ch older p → Right ch
    by_choice (express f) is (kind_is, from, size) =
        let sized : f.size ≡ length (FrameOf w f.frame.0) = subst (λ c. IsSized w (frame_by c (interrupted older))) is fits.sized in
        let here : HoldsAt store f.slot (FrameOf w f.frame.0) = subst (λ c. IsStored w (frame_by c (interrupted older)) store) is stored in
        ap₂ (λ n o. drop (n - 4) o) (size ∙ sized) (ap held here)
        ∙ sym (in_one (FrameOf w f.frame.0) (ap (whole_of w h b) (fits.carries ∙ ap (λ c. what_of c (interrupted older)) is)) from (size ∙ sized))
    by_choice (whole f) is (kind_is, from, size) =
        let sized : f.size ≡ length (FrameOf w f.frame.0) = subst (λ c. IsSized w (frame_by c (interrupted older))) is fits.sized in
        let here : HoldsAt store f.slot (FrameOf w f.frame.0) = subst (λ c. IsStored w (frame_by c (interrupted older)) store) is stored in
        ap₂ (λ n o. drop (n - 4) o) (size ∙ sized) (ap held here)
        ∙ sym (in_one (FrameOf w f.frame.0) (ap (whole_of w h b) (fits.carries ∙ ap (λ c. what_of c (interrupted older)) is)) from (size ∙ sized))
    by_choice verify is (kind_is, from, size) = sym (in_one BareOctets (ap (whole_of w h b) (fits.carries ∙ ap (λ c. what_of c (interrupted older)) is)) from (size ∙ sym bare_length)
        ∙ ap (λ n. drop (n - 4) BareOctets) bare_length)
    by_choice respond is (kind_is, from, size) = sym (in_one BareOctets (ap (whole_of w h b) (fits.carries ∙ ap (λ c. what_of c (interrupted older)) is)) from (size ∙ sym bare_length)
        ∙ ap (λ n. drop (n - 4) BareOctets) bare_length)
    by_choice lldp is (kind_is, from, size) =
        let there : other ≡ WholeOf w h b = subst (λ c. OtherIs c other (WholeOf w h b)) is others in
        let long : length (WholeOf w h b) ≡ 64 = lldp_length (fits.carries ∙ ap (λ c. what_of c (interrupted older)) is) in
        ap₂ (λ n o. drop (n - 4) o) (size ∙ sym long) there ∙ sym (in_one (WholeOf w h b) refl from (size ∙ sym long))
    by_choice (first f) is (kind_is, from, cut) =
        of_fragment f [] f.size store (fits.carries ∙ ap (λ c. what_of c (interrupted older)) is) (subst (λ c. IsSized w (frame_by c (interrupted older))) is fits.sized)
        (subst (λ c. IsStored w (frame_by c (interrupted older)) store) is stored) (sym (ap (λ n. take n (FrameOf w f.frame.0)) from)) (omega (arith, from)) cut (inl from)
    by_choice rest is (y, interrupts, kind_is, from, cut) =
        let k = kept y interrupts in
        ap (λ o. (rest_packet o p store).check) interrupts
        ∙ of_fragment y.frame y.so_far (y.frame.size - y.place) store (fits.carries ∙ (ap (λ c. what_of c (interrupted older)) is ∙ ap (λ o. what_of_frame (frame_of_part o)) interrupts))
        (subst (λ o. IsSized w (frame_of_part o)) interrupts (subst (λ c. IsSized w (frame_by c (interrupted older))) is fits.sized))
        (subst (λ o. IsStored w (frame_of_part o) store) interrupts (subst (λ c. IsStored w (frame_by c (interrupted older)) store) is stored))
        (k.0 ∙ ap (λ n. take n (FrameOf w y.frame.frame.0)) (sym from)) (omega (arith, from, k.1)) cut (inr (omega (arith, from, k.1)))

    pub right_check : Follows cost add_frag p.told.chosen older p → (packet_after older p store other).check ≡ CheckOf w h b p.size
    right_check follows = by_choice p.told.chosen refl follows

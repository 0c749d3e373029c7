-- What octets that spell no mPacket give, and which frame is open after them.
use Rattle.std.proofs.Common.{ℕ, ◌≡◌, ◌<◌, List, [], ◌∷◌, ◌++◌, length, refl, ◌∙◌, arith, subst, inl, inr, Option, Some, None}
use Rattle.pre_mpacket.specs.declared.reading.MFault.{MFault}
use Rattle.pre_mpacket.specs.declared.reading.MFault.TheVariants as fault
use Rattle.pre_mpacket.specs.Spelling.{PlainPacket, Spells, mpacket_of, IsFirstFault}
use Rattle.pre_mpacket.specs.Arrivals.{is_fragment, HasKind, Spelled}
use Rattle.pre_receive.specs.declared.opened.Opened.{Opened}
use Rattle.pre_receive.specs.Causes.{Reason, no_delimiter, no_fragment_count, short, no_open_frame, other_frame_count, other_fragment_count, long, other_check, place_of, Breaks, HasReason, IsCause}
use Rattle.pre_receive.specs.Faults.{fault_cause}
use Rattle.pre_receive.specs.Takings.{IsTaken, gave_nothing}
use Rattle.pre_receive.specs.Held.{HoldsOpened}
use Rattle.pre_receive.proofs.PacketLaws.{PacketLaws}
use Rattle.pre_receive.proofs.Places.{last_get, last_spelled}

module _ (laws : PacketLaws) (A : List (Option (List ℕ))) (a : List ℕ) (e : MFault) (first : IsFirstFault e a)
    (only : (d : MFault) → IsFirstFault d a → d ≡ e) (none : (m : PlainPacket) → ¬ Spells m a) where
  no_packet : (o : Option PlainPacket) → mpacket_of a ≡ o → mpacket_of a ≡ None
  no_packet None is = is
  no_packet (Some m) is = absurd (none m ((laws.spelled m a).0 is))

  pub unspelled : Spelled (A ++ Some a ∷ []) (length A) ≡ None
  unspelled = last_spelled A (Some a) ∙ no_packet (mpacket_of a) refl

  breaks_only : (d : MFault) → Breaks (A ++ Some a ∷ []) (length A) d → d ≡ e
  breaks_only d (octets, at, it) = let here = last_get A (Some a) in let same : octets ≡ a = cc (here, at) in only d (subst (IsFirstFault d) same it)

  breaks : Breaks (A ++ Some a ∷ []) (length A) e
  breaks = (a, last_get A (Some a), first)

  before_first : (r : Reason) → place_of r < 0 → ¬ HasReason (A ++ Some a ∷ []) (length A) r
  before_first r lt h = omega arith

  before_fragment : (e ≡ fault.Fragment) → (r : Reason) → place_of r < 1 → ¬ HasReason (A ++ Some a ∷ []) (length A) r
  before_fragment is no_delimiter lt h = elim h [ inl x ↦ cc (breaks_only fault.Smd x, is) | inr x ↦ cc (breaks_only fault.Preamble x, is) ]
  before_fragment is no_fragment_count lt h = omega arith
  before_fragment is short lt h = omega arith
  before_fragment is no_open_frame lt h = omega arith
  before_fragment is other_frame_count lt h = omega arith
  before_fragment is other_fragment_count lt h = omega arith
  before_fragment is long lt h = omega arith
  before_fragment is other_check lt h = omega arith

  before_short : (e ≡ fault.Short) → (r : Reason) → place_of r < 2 → ¬ HasReason (A ++ Some a ∷ []) (length A) r
  before_short is no_delimiter lt h = elim h [ inl x ↦ cc (breaks_only fault.Smd x, is) | inr x ↦ cc (breaks_only fault.Preamble x, is) ]
  before_short is no_fragment_count lt h = cc (breaks_only fault.Fragment h, is)
  before_short is short lt h = omega arith
  before_short is no_open_frame lt h = omega arith
  before_short is other_frame_count lt h = omega arith
  before_short is other_fragment_count lt h = omega arith
  before_short is long lt h = omega arith
  before_short is other_check lt h = omega arith

  cause : (d : MFault) → e ≡ d → IsCause (A ++ Some a ∷ []) (length A) (fault_cause d)
  cause fault.Smd is = record { reason = no_delimiter; named = refl; here = inl (subst (Breaks (A ++ Some a ∷ []) (length A)) is breaks); none_before = before_first }
  cause fault.Preamble is = record { reason = no_delimiter; named = refl; here = inr (subst (Breaks (A ++ Some a ∷ []) (length A)) is breaks); none_before = before_first }
  cause fault.Fragment is = record { reason = no_fragment_count; named = refl; here = subst (Breaks (A ++ Some a ∷ []) (length A)) is breaks; none_before = before_fragment is }
  cause fault.Short is = record { reason = short; named = refl; here = subst (Breaks (A ++ Some a ∷ []) (length A)) is breaks; none_before = before_short is }

  pub fault_taken : IsTaken (A ++ Some a ∷ []) (length A) (gave_nothing (fault_cause e))
  fault_taken = (λ g (m, at, gives). let gone = unspelled in cc (gone, at), cause e refl)

  no_fragment : ¬ HasKind (A ++ Some a ∷ []) is_fragment (length A)
  no_fragment (m, at, is) = let gone = unspelled in cc (gone, at)

  pub fault_holds : (w : Option Opened) (octets : List ℕ) → HoldsOpened w octets A → HoldsOpened w octets (A ++ Some a ∷ [])
  fault_holds None octets shut = λ d n xs o. shut d n xs ((laws.other_opens A (Some a) d n xs no_fragment).0 o)
  fault_holds (Some w) octets h = ((laws.other_opens A (Some a) w.frame_count w.next octets no_fragment).1 h.0, h.1)

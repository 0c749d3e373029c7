-- The octets that a sender gives an mPacket are those of the history, and when they are its frame's last.
use Rattle.std.proofs.Common.{ℕ, ◌≡◌, ◌≢◌, ◌⊎◌, ◌==◌, ◌+◌, ◌-◌, Bool, true, false, List, length, take, drop, refl}
use Rattle.std.proofs.Common.{sym, ◌∙◌, ap, ap₂, inl, inr, arith, subst, Option, Some, None}
use Rattle.std.specs.Prelude.{if◌then◌else◌, is_some, ◌↔◌, IsTrue}
use Rattle.std.proofs.lemmas.Bool.Decides.{eqb_tells}
use Rattle.pre_rings.specs.declared.slots.FrameRef.{FrameRef}
use Rattle.pre_send.specs.Calls.{Chosen, express, whole, first, rest, verify, respond, lldp}
use Rattle.pre_send.specs.Sendings.{Sending, Part, held, slot_octets, interrupted, Follows}
use Rattle.pre_send.specs.Endings.{done_of, done_by, done_rest}
use Rattle.pre_send.specs.Frames.{frame_of_part, frame_by}
use Rattle.pre_send.specs.Packets.{rest_packet, packet_by, packet_after}
use Rattle.pre_history.specs.declared.events.What.{What}
use Rattle.pre_history.specs.declared.events.What.TheVariants as what
use Rattle.pre_history.specs.Scenario.{Scenario, FrameOf}
use Rattle.pre_history.specs.History.{History, Begin}
use Rattle.pre_history.specs.Octets.{BareOctets, WholeOf, whole_of}
use Rattle.pre_outgoing.specs.Matching.{IsSized, IsStored, Fits, what_of, what_of_frame}
use Rattle.pre_outgoing.proofs.Readings.{OtherIs}
use Rattle.pre_outgoing.specs.Sends.{HandsBack, ends_frame}
use Rattle.pre_outgoing.proofs.Sizes.{bare_length}

module _ (w : Scenario) (h : History) (p : Sending) (older : List Sending) (b : Begin) (fits : Fits w p older b) (cost add_frag : ℕ) where
  -- what it carries, by its choice
  carries : (ch : Chosen) → p.told.chosen ≡ ch → b.what ≡ what_of ch (interrupted older)
  carries ch is = fits.carries ∙ ap (λ c. what_of c (interrupted older)) is

  of_rest : (x : Part) → p.told.chosen ≡ rest → interrupted older ≡ Some x → b.what ≡ what.Frame x.frame.frame
  of_rest x is interrupts = carries rest is ∙ ap (λ o. what_of_frame (frame_of_part o)) interrupts

  sized_by : (ch : Chosen) → p.told.chosen ≡ ch → IsSized w (frame_by ch (interrupted older))
  sized_by ch is = subst (λ c. IsSized w (frame_by c (interrupted older))) is fits.sized

  sized_rest : (x : Part) → p.told.chosen ≡ rest → interrupted older ≡ Some x → x.frame.size ≡ length (FrameOf w x.frame.frame.0)
  sized_rest x is interrupts = subst (λ o. IsSized w (frame_of_part o)) interrupts (sized_by rest is)

  module _ (store : List (Option (List ℕ))) (other : List ℕ) (stored : IsStored w (frame_by p.told.chosen (interrupted older)) store)
      (others : OtherIs p.told.chosen other (WholeOf w h b)) where
    abbrev Data : List ℕ
    Data = take (p.size - 4) (drop b.from (WholeOf w h b))

    stored_by : (ch : Chosen) → p.told.chosen ≡ ch → IsStored w (frame_by ch (interrupted older)) store
    stored_by ch is = subst (λ c. IsStored w (frame_by c (interrupted older)) store) is stored

    -- a part of what the slot holds
    in_part : (n : ℕ) (X octets : List ℕ) → n ≡ b.from → octets ≡ X → WholeOf w h b ≡ X → take (p.size - 4) (drop n octets) ≡ Data
    in_part n X octets from is carried = ap₂ (λ m xs. take (p.size - 4) (drop m xs)) from (is ∙ sym carried)

    by_choice : (ch : Chosen) → p.told.chosen ≡ ch → Follows cost add_frag ch older p → (packet_by ch (interrupted older) p store other).mdata ≡ Data
    by_choice (express f) is (kind_is, from, size) =
        in_part 0 (FrameOf w f.frame.0) (slot_octets store f.slot) (sym from ∙ fits.from) (ap held (stored_by (express f) is)) (ap (whole_of w h b) (carries (express f) is))
    by_choice (whole f) is (kind_is, from, size) =
        in_part 0 (FrameOf w f.frame.0) (slot_octets store f.slot) (sym from ∙ fits.from) (ap held (stored_by (whole f) is)) (ap (whole_of w h b) (carries (whole f) is))
    by_choice (first f) is (kind_is, from, cut) =
        in_part p.from (FrameOf w f.frame.0) (slot_octets store f.slot) fits.from (ap held (stored_by (first f) is)) (ap (whole_of w h b) (carries (first f) is))
    by_choice rest is (x, interrupts, kind_is, from, cut) =
        ap (λ o. (rest_packet o p store).mdata) interrupts
        ∙ in_part p.from (FrameOf w x.frame.frame.0) (slot_octets store x.frame.slot) fits.from (ap held (subst (λ o. IsStored w (frame_of_part o) store) interrupts (stored_by rest is)))
        (ap (whole_of w h b) (of_rest x is interrupts))
    by_choice verify is (kind_is, from, size) =
        ap (λ n. take (n - 4) BareOctets) (sym size) ∙ in_part 0 BareOctets BareOctets (sym from ∙ fits.from) refl (ap (whole_of w h b) (carries verify is))
    by_choice respond is (kind_is, from, size) =
        ap (λ n. take (n - 4) BareOctets) (sym size) ∙ in_part 0 BareOctets BareOctets (sym from ∙ fits.from) refl (ap (whole_of w h b) (carries respond is))
    by_choice lldp is (kind_is, from, size) =
        in_part 0 (WholeOf w h b) other (sym from ∙ fits.from) (subst (λ c. OtherIs c other (WholeOf w h b)) is others) refl

    pub right_data : Follows cost add_frag p.told.chosen older p → (packet_after older p store other).mdata ≡ Data
    right_data follows = by_choice p.told.chosen refl follows

    pub same_kind : (packet_after older p store other).kind ≡ p.kind
    same_kind = go p.told.chosen refl
      where
        go : (ch : Chosen) → p.told.chosen ≡ ch → (packet_by ch (interrupted older) p store other).kind ≡ p.kind
        go (express f) is = refl
        go (whole f) is = refl
        go (first f) is = refl
        go rest is = of_part (interrupted older)
          where
            of_part : (o : Option Part) → (rest_packet o p store).kind ≡ p.kind
            of_part None = refl
            of_part (Some x) = refl
        go verify is = refl
        go respond is = refl
        go lldp is = refl

  -- ---- what is handed back

  abbrev pub LastOf : What → Option FrameRef → Type 0
  LastOf x done = (IsTrue (ends_frame x done) ↔ (b.from + p.size ≡ length (WholeOf w h b))) × HandsBack x (ends_frame x done) done

  abbrev pub IsLast : Option FrameRef → Type 0
  IsLast done = LastOf b.what done

  -- what has its whole frame at the size
  module _ (lldp_length : b.what ≡ what.Lldp → length (WholeOf w h b) ≡ 64) where
    -- a frame that its mPacket ends
    done_whole : (f : FrameRef) → b.what ≡ what.Frame f.frame → f.size ≡ length (FrameOf w f.frame.0) → p.from ≡ 0 → p.size ≡ f.size → IsLast (Some f)
    done_whole f is sized from size =
        let long : length (WholeOf w h b) ≡ f.size = ap (λ x. length (whole_of w h b x)) is ∙ sym sized in
        subst (λ x. LastOf x (Some f)) (sym is)
        ((λ x. omega (arith, long, from, fits.from, size), λ x. refl), (refl, refl))

    -- a fragment
    done_part : (f : FrameRef) → b.what ≡ what.Frame f.frame → f.size ≡ length (FrameOf w f.frame.0) → IsLast (done_of f p)
    done_part f is sized =
        let long : length (WholeOf w h b) ≡ f.size = ap (λ x. length (whole_of w h b x)) is ∙ sym sized in
        subst (λ x. LastOf x (done_of f p)) (sym is) (by_test long (eqb_tells (p.from + p.size) f.size))
      where
        Says : Option FrameRef → Type 0
        Says done = (IsTrue (is_some done) ↔ (b.from + p.size ≡ length (WholeOf w h b))) × HandsBack (what.Frame f.frame) (is_some done) done

        by_test : length (WholeOf w h b) ≡ f.size
            → (((p.from + p.size == f.size) ≡ true) × (p.from + p.size ≡ f.size)) ⊎ (((p.from + p.size == f.size) ≡ false) × (p.from + p.size ≢ f.size))
            → Says (done_of f p)
        by_test long (inl (test, same)) =
            subst (λ (x : Bool). Says (if x then Some f else None)) (sym test) ((λ x. omega (arith, long, fits.from, same), λ x. refl), (refl, refl))
        by_test long (inr (test, other)) =
            subst (λ (x : Bool). Says (if x then Some f else None)) (sym test) ((λ x. absurd (cc x), λ x. absurd (other (omega (arith, long, fits.from, x)))), refl)

    done_none : (x : What) → b.what ≡ x → ((f : ℕ) → ¬ (x ≡ what.Frame (record { 0 = f }))) → length (WholeOf w h b) ≡ 64 → p.from ≡ 0 → p.size ≡ 64 → IsLast None
    done_none (what.Frame f) is no_frame long from size = absurd (no_frame f.0 refl)
    done_none what.Lldp is no_frame long from size =
        subst (λ x. LastOf x None) (sym is)
        ((λ x. omega (arith, long, from, fits.from, size), λ x. refl), (refl, refl))
    done_none what.Nothing is no_frame long from size =
        subst (λ x. LastOf x None) (sym is)
        ((λ x. omega (arith, long, from, fits.from, size), λ x. refl), (refl, refl))

    last_by : (ch : Chosen) → p.told.chosen ≡ ch → Follows cost add_frag ch older p → IsLast (done_by ch (interrupted older) p)
    last_by (express f) is (kind_is, from, size) = done_whole f (carries (express f) is) (sized_by (express f) is) from size
    last_by (whole f) is (kind_is, from, size) = done_whole f (carries (whole f) is) (sized_by (whole f) is) from size
    last_by (first f) is follows = done_part f (carries (first f) is) (sized_by (first f) is)
    last_by rest is (x, interrupts, kind_is, from, cut) =
        subst (λ o. IsLast (done_rest o p)) (sym interrupts) (done_part x.frame (of_rest x is interrupts) (sized_rest x is interrupts))
    last_by verify is (kind_is, from, size) =
        done_none what.Nothing (carries verify is) (λ f e. absurd (cc e)) (ap (λ x. length (whole_of w h b x)) (carries verify is) ∙ bare_length) from size
    last_by respond is (kind_is, from, size) =
        done_none what.Nothing (carries respond is) (λ f e. absurd (cc e)) (ap (λ x. length (whole_of w h b x)) (carries respond is) ∙ bare_length) from size
    last_by lldp is (kind_is, from, size) = done_none what.Lldp (carries lldp is) (λ f e. absurd (cc e)) (lldp_length (carries lldp is)) from size

    pub is_last : Follows cost add_frag p.told.chosen older p → IsLast (done_by p.told.chosen (interrupted older) p)
    is_last follows = last_by p.told.chosen refl follows

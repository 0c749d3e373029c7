-- The size that a sender plans is the one that the rules give, where what waits was told up to the end.
use Rattle.std.proofs.Common.{ℕ, ◌≡◌, ◌+◌, ◌-◌, ◌*◌, ◌<◌, ◌≤◌, true, List, length, replicate, refl, sym, ◌∙◌, ap, ap₂, arith, subst}
use Rattle.std.specs.Prelude.{◌↔◌}
use Rattle.std.proofs.lemmas.List.{length-append}
use Rattle.pre_crc.specs.Checks.{Mcrc}
use Rattle.pre_crc.proofs.CheckFacts.{length-Mcrc}
use Rattle.pre_mpacket.specs.declared.packets.Kind.{Kind}
use Rattle.pre_mpacket.specs.declared.packets.Kind.TheVariants as kind
use Rattle.pre_mpacket.specs.Pieces.{Begun, CutRule}
use Rattle.pre_mpacket.proofs.CutSizes.{cut_one}
use Rattle.pre_rings.specs.declared.slots.FrameRef.{FrameRef}
use Rattle.pre_send.specs.Calls.{Chosen, express, whole, first, rest, verify, respond, lldp}
use Rattle.pre_send.specs.Sendings.{Sending, Waits, interrupted, IsCut, Follows}
use Rattle.pre_send.specs.Answers.{is_part}
use Rattle.pre_send.specs.Frames.{frame_of_part, frame_by}
use Rattle.pre_history.specs.declared.events.What.TheVariants as what
use Rattle.pre_history.specs.Scenario.{Scenario, arc, FrameOf}
use Rattle.pre_history.specs.History.{History, Begin}
use Rattle.pre_history.specs.Selected.{frame_number}
use Rattle.pre_history.specs.Octets.{BareOctets, WholeOf, whole_of}
use Rattle.pre_history.specs.Starts.{ExpressWaits, begun, SizeOf}
use Rattle.pre_outgoing.specs.Matching.{IsSized, Fits, what_of, what_of_frame}
use Rattle.pre_outgoing.proofs.Readings.{IsPlanned}
use Rattle.pre_outgoing.proofs.Waitings.{cut_between}

pub bare_length : length BareOctets ≡ 64
bare_length = length-append (replicate 60 0) (Mcrc (replicate 60 0)) ∙ ap (λ n. 60 + n) (length-Mcrc (replicate 60 0))

module _ (w : Scenario) (h : History) (a t : ℕ) (p : Sending) (older : List Sending) (b : Begin) (fits : Fits w p older b) (on : b.arc ≡ a) (some : 1 ≤ (arc w a).cost)
    (follows : Follows (arc w a).cost (arc w a).add_frag p.told.chosen older p) (lldp_length : b.what ≡ what.Lldp → length (WholeOf w h b) ≡ 64)
    (known : is_part p.told.chosen ≡ true → (u : ℕ) → p.told.began < u → u < t → ExpressWaits w h a u ↔ Waits p.told.waits u) where
  abbrev Due : ℕ → Type 0
  Due size = SizeOf w h b.kind b size × (b.tick + (arc w b.arc).cost * (size + 8) ≡ t)

  abbrev Fragment : ℕ → Begun
  Fragment unsent = record { tick = p.told.began; octet_ticks = (arc w a).cost; add_frag = (arc w a).add_frag; unsent = unsent }

  -- the ends are one tick
  end_to : (size : ℕ) → b.tick + (arc w b.arc).cost * (size + 8) ≡ t → p.told.began + (arc w a).cost * (size + 8) ≡ t
  end_to size is = ap₂ (λ x y. x + (arc w y).cost * (size + 8)) fits.began (sym on) ∙ is

  end_from : (size : ℕ) → p.told.began + (arc w a).cost * (size + 8) ≡ t → b.tick + (arc w b.arc).cost * (size + 8) ≡ t
  end_from size is = sym (ap₂ (λ x y. x + (arc w y).cost * (size + 8)) fits.began (sym on)) ∙ is

  turned : (cost size : ℕ) → cost * (size + 8) ≡ cost * (8 + size)
  turned cost size = ap (λ n. cost * n) (omega arith)

  -- ---- in one piece
  one_piece : (length (WholeOf w h b) ≡ p.size) → ((size : ℕ) → SizeOf w h b.kind b size ↔ (size ≡ length (WholeOf w h b))) → (size : ℕ) → Due size ↔ IsPlanned (arc w a).cost p t size
  one_piece is rule size = (
    λ due. let same : size ≡ p.size = (rule size).0 due.0 ∙ is in (
      same,
      ap (λ n. p.told.began + n) (sym (turned (arc w a).cost p.size))
          ∙ (ap (λ n. p.told.began + (arc w a).cost * (n + 8)) (sym same) ∙ end_to size due.1),
    ),
    λ plan. (
      (rule size).1 (plan.0 ∙ sym is),
      end_from size (ap (λ n. p.told.began + (arc w a).cost * (n + 8)) plan.0 ∙ (ap (λ n. p.told.began + n) (turned (arc w a).cost p.size) ∙ plan.1)),
    ),
  )

  whole_kind : (k : Kind) → p.kind ≡ k → ((size : ℕ) → SizeOf w h k b size ≡ (size ≡ length (WholeOf w h b))) → (size : ℕ) → SizeOf w h b.kind b size ↔ (size ≡ length (WholeOf w h b))
  whole_kind k is rule size =
      let same : SizeOf w h b.kind b size ≡ (size ≡ length (WholeOf w h b)) = ap (λ x. SizeOf w h x b size) (sym fits.kind ∙ is) ∙ rule size in
      (λ x. subst (λ (A : Type 0). A) same x, λ x. subst (λ (A : Type 0). A) (sym same) x)

  -- ---- a fragment
  fragment : (f : FrameRef) (unsent : ℕ) → b.what ≡ what.Frame f.frame → length (FrameOf w f.frame.0) - p.from ≡ unsent → IsCut (arc w a).cost (arc w a).add_frag p.told unsent p.size
      → ((size : ℕ) → SizeOf w h b.kind b size ≡ CutRule (ExpressWaits w h b.arc) (begun w h b) size) → is_part p.told.chosen ≡ true
      → (size : ℕ) → Due size ↔ IsPlanned (arc w a).cost p t size
  fragment f unsent carries left cut rule part size = (
    λ due.
        let end_is = end_to size due.1 in
        let theirs : CutRule (ExpressWaits w h a) (Fragment unsent) size = subst (λ x. x) (rule size ∙ same_rule size) due.0 in
        let ours : CutRule (Waits p.told.waits) (Fragment unsent) size = cut_between (ExpressWaits w h a) (Waits p.told.waits) (Fragment unsent) size some
        (λ u lt lt'. known part u lt (omega (arith, lt', end_is))) theirs in
        let same : size ≡ p.size = cut_one (Waits p.told.waits) (Fragment unsent) size p.size ours cut in
        (same, ap (λ n. p.told.began + n) (sym (turned (arc w a).cost p.size)) ∙ (ap (λ n. p.told.began + (arc w a).cost * (n + 8)) (sym same) ∙ end_is)),
    λ plan.
        let end_is : p.told.began + (arc w a).cost * (size + 8) ≡ t = ap (λ n. p.told.began + (arc w a).cost * (n + 8)) plan.0 ∙ (ap (λ n. p.told.began + n) (turned (arc w a).cost p.size) ∙ plan.1) in
        let ours : CutRule (Waits p.told.waits) (Fragment unsent) size = subst (λ n. CutRule (Waits p.told.waits) (Fragment unsent) n) (sym plan.0) cut in
        let theirs : CutRule (ExpressWaits w h a) (Fragment unsent) size
        = cut_between (Waits p.told.waits) (ExpressWaits w h a) (Fragment unsent) size some (λ u lt lt'. let k = known part u lt (omega (arith, lt', end_is)) in (k.1, k.0)) ours in
        (subst (λ x. x) (sym (rule size ∙ same_rule size)) theirs, end_from size end_is),
  )
    where
      same_begun : begun w h b ≡ Fragment unsent
      same_begun =
          let there : length (FrameOf w (frame_number b.what)) - b.from ≡ unsent = ap₂ (λ x n. length (FrameOf w (frame_number x)) - n) carries (sym fits.from) ∙ left in
          ap (λ n. record { tick = b.tick; octet_ticks = (arc w b.arc).cost; add_frag = (arc w b.arc).add_frag; unsent = n }) there
          ∙ ap₂ (λ x y. record { tick = x; octet_ticks = (arc w y).cost; add_frag = (arc w y).add_frag; unsent = unsent }) (sym fits.began) on

      same_rule : (size : ℕ) → CutRule (ExpressWaits w h b.arc) (begun w h b) size ≡ CutRule (ExpressWaits w h a) (Fragment unsent) size
      same_rule size = ap₂ (λ x y. CutRule (ExpressWaits w h x) y size) on same_begun

  by_choice : (ch : Chosen) → p.told.chosen ≡ ch → Follows (arc w a).cost (arc w a).add_frag ch older p → (size : ℕ) → Due size ↔ IsPlanned (arc w a).cost p t size
  by_choice (express f) is (kind_is, from, size_is) =
      one_piece (ap (λ x. length (whole_of w h b x)) (fits.carries ∙ ap (λ c. what_of c (interrupted older)) is)
      ∙ (sym (subst (λ c. IsSized w (frame_by c (interrupted older))) is fits.sized) ∙ sym size_is))
      (whole_kind kind.Express kind_is (λ n. refl))
  by_choice (whole f) is (kind_is, from, size_is) =
      one_piece (ap (λ x. length (whole_of w h b x)) (fits.carries ∙ ap (λ c. what_of c (interrupted older)) is)
      ∙ (sym (subst (λ c. IsSized w (frame_by c (interrupted older))) is fits.sized) ∙ sym size_is))
      (whole_kind kind.Express kind_is (λ n. refl))
  by_choice verify is (kind_is, from, size_is) =
      one_piece (ap (λ x. length (whole_of w h b x)) (fits.carries ∙ ap (λ c. what_of c (interrupted older)) is) ∙ (bare_length ∙ sym size_is)) (whole_kind kind.Verify kind_is (λ n. refl))
  by_choice respond is (kind_is, from, size_is) =
      one_piece (ap (λ x. length (whole_of w h b x)) (fits.carries ∙ ap (λ c. what_of c (interrupted older)) is) ∙ (bare_length ∙ sym size_is)) (whole_kind kind.Respond kind_is (λ n. refl))
  by_choice lldp is (kind_is, from, size_is) = one_piece (lldp_length (fits.carries ∙ ap (λ c. what_of c (interrupted older)) is) ∙ sym size_is) (whole_kind kind.Express kind_is (λ n. refl))
  by_choice (first f) is (kind_is, from, cut) =
      let sized : f.size ≡ length (FrameOf w f.frame.0) = subst (λ c. IsSized w (frame_by c (interrupted older))) is fits.sized in
      fragment f f.size (fits.carries ∙ ap (λ c. what_of c (interrupted older)) is) (omega (arith, sized, from)) cut
      (λ n. ap (λ x. SizeOf w h x b n) (sym fits.kind ∙ kind_is)) (ap is_part is)
  by_choice rest is (y, interrupts, kind_is, from, cut) =
      let sized : y.frame.size ≡ length (FrameOf w y.frame.frame.0)
      = subst (λ o. IsSized w (frame_of_part o)) interrupts (subst (λ c. IsSized w (frame_by c (interrupted older))) is fits.sized) in
      fragment y.frame (y.frame.size - y.place) (fits.carries ∙ (ap (λ c. what_of c (interrupted older)) is ∙ ap (λ o. what_of_frame (frame_of_part o)) interrupts))
      (omega (arith, sized, from)) cut (λ n. ap (λ x. SizeOf w h x b n) (sym fits.kind ∙ kind_is)) (ap is_part is)

  pub planned : (size : ℕ) → Due size ↔ IsPlanned (arc w a).cost p t size
  planned = by_choice p.told.chosen refl follows

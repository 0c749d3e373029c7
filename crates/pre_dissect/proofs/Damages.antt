-- The octets that arrive, as the program damages them.
use Rattle.std.proofs.Common.{ℕ, ◌≡◌, ◌+◌, Bool, true, false, List, Some, None, refl, sym, ◌∙◌, ap}
use Rattle.std.specs.Prelude.{if◌then◌else◌, option_map}
use Rattle.pre_mpacket.specs.declared.packets.Kind.{Kind}
use Rattle.pre_history.specs.Scenario.{Scenario, arc}
use Rattle.pre_history.specs.History.{Begin, Ended, History}
use Rattle.pre_history.specs.Octets.{Damaged, SentOctets, is_lost, smd_place}
use Rattle.pre_incoming.specs.Changes.{loses, damaged_by}
use Rattle.pre_dissect.specs.Captured.{recorded_of}

-- the lines that name an mPacket by its begin are those that name it by its arc and its number
damaged_is : (w : Scenario) (b : Begin) (octets : List ℕ) → damaged_by b.arc b.ord (smd_place b.kind) w.script.damages octets ≡ Damaged w b octets
unfolding damaged_by
damaged_is w b octets = refl

module _ (w : Scenario) (h : History) (a : ℕ) (b : Begin) (e : Ended) (on : b.arc ≡ a) (ord : ℕ) (its : ord ≡ b.ord) where
  lost_is : is_lost w b ≡ loses w.script a ord
  lost_is = ap (λ x. loses w.script x b.ord) on ∙ ap (loses w.script a) (sym its)

  pub none_recorded : loses w.script a ord ≡ true → recorded_of w h a (Some b) e ≡ None
  none_recorded lost = ap (λ (x : Bool). option_map (λ octets. record { tick = e.tick + (arc w a).delay; octets = octets }) (if x then None else Some (Damaged w b (SentOctets w h b e)))) (lost_is ∙ lost)

  pub one_recorded : (k : Kind) (octets : List ℕ) (due : ℕ) → loses w.script a ord ≡ false → k ≡ b.kind → octets ≡ SentOctets w h b e → due ≡ e.tick + (arc w a).delay
      → recorded_of w h a (Some b) e ≡ Some (record { tick = due; octets = damaged_by a ord (smd_place k) w.script.damages octets })
  one_recorded k octets due kept kind_is octets_are due_is =
      let same : Damaged w b (SentOctets w h b e) ≡ damaged_by a ord (smd_place k) w.script.damages octets
      = sym (damaged_is w b (SentOctets w h b e))
      ∙ (ap (λ x. damaged_by x b.ord (smd_place b.kind) w.script.damages (SentOctets w h b e)) on
      ∙ (ap (λ x. damaged_by a x (smd_place b.kind) w.script.damages (SentOctets w h b e)) (sym its)
      ∙ (ap (λ (x : Kind). damaged_by a ord (smd_place x) w.script.damages (SentOctets w h b e)) (sym kind_is)
      ∙ ap (damaged_by a ord (smd_place k) w.script.damages) (sym octets_are)))) in
      ap (λ (x : Bool). option_map (λ octets. record { tick = e.tick + (arc w a).delay; octets = octets }) (if x then None else Some (Damaged w b (SentOctets w h b e)))) (lost_is ∙ kept)
      ∙ (ap (λ xs. Some (record { tick = e.tick + (arc w a).delay; octets = xs })) same
      ∙ ap (λ t. Some (record { tick = t; octets = damaged_by a ord (smd_place k) w.script.damages octets })) (sym due_is))

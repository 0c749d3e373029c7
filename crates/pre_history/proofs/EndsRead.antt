-- An mPacket has ended exactly with the size that the rules give it by the whole history.
use Rattle.std.proofs.Common.{ℕ, suc, ◌≡◌, ◌==◌, ◌+◌, ◌*◌, ◌<◌, ◌≤◌, true, List, [], ◌∷◌, ◌++◌, length}
use Rattle.std.proofs.Common.{length-append, refl, sym, ◌∙◌, ap, inl, inr, arith, subst, Some}
use Rattle.std.specs.Prelude.{◌↔◌, slice_get}
use Rattle.std.proofs.Math.Nat.{mul-le-mul_left}
use Rattle.std.proofs.lemmas.Bool.{cases_lt}
use Rattle.std.proofs.lemmas.List.Elements.{filter_map-append}
use Rattle.pre_history.specs.Scenario.{Scenario, arc}
use Rattle.pre_history.specs.Moments.{Phase, moments}
use Rattle.pre_history.specs.History.{PlainEvent, History, Begin, Ended}
use Rattle.pre_history.specs.Selected.{begin_on, ended_on}
use Rattle.pre_history.specs.Queries.{Begins, Ends}
use Rattle.pre_history.specs.Starts.{SizeOf}
use Rattle.pre_history.specs.Rules.{OneOrNone, EndDue, CheckOf, HappensIn}
use Rattle.pre_history.specs.Placed.{number}
use Rattle.pre_history.specs.Legal.{LegalUpTo}
use Rattle.pre_history.proofs.Lists.{there, within}
use Rattle.pre_history.proofs.LaterEnds.{split_at}
use Rattle.pre_history.proofs.Moments.{ends_place}
use Rattle.pre_history.proofs.Placing.{placed, begins_arc}
use Rattle.pre_history.proofs.Turns.{tick_le, each_only}
use Rattle.pre_history.proofs.Sizes.{size_one}
use Rattle.pre_history.proofs.Steady.{costs}
use Rattle.pre_history.proofs.EndTurns.{not_again}
use Rattle.pre_history.proofs.InOrder.{steady}
use Rattle.pre_history.proofs.Lists.{every_at}
use Rattle.pre_history.specs.Read.{HasEnded}
use Rattle.pre_history.proofs.Places.{all_later_from}
use Rattle.pre_history.proofs.SizesStay.{size_stays}
use Rattle.pre_history.proofs.Around.{Around, around, begins_within}
use Rattle.pre_history.proofs.NatTests.{is_eq}

pub more_places : (size s t j k : ℕ) → j < size → s < t → s * size + j ≤ t * size + k
more_places size s t j k lt less = elim (cases_lt (t * size + k) (s * size + j)) [
  | inr done ↦ done
  | inl over ↦ absurd (let back : t ≤ s = tick_le size t s k j lt (omega (arith, over)) in omega (arith, back, less))
]

module _ (w : Scenario) (n : ℕ) (h : History) (a : ℕ) (a_lt : a < length w.net.arcs) (legal : LegalUpTo w n h) (i : ℕ) (b : Begin) (at : slice_get (Begins h a) i ≡ Some b) (size : ℕ) where
  on : b.arc ≡ a
  on = every_at (λ (b : Begin). b.arc ≡ a) (Begins h a) i b (begins_arc h a) at

  sized_end : HasEnded w h a i size → SizeOf w h b.kind b size
  sized_end (e, here, is) = subst (SizeOf w h b.kind b) is ((steady w n h a a_lt legal).sizes i b e at here)

  -- the tick at which it ends
  over : ℕ
  over = b.tick + (arc w a).cost * (size + 8)

  module _ (lt : number (length w.net.arcs) (b.tick + (arc w a).cost * (size + 8)) (1 + a) < n) (sized : SizeOf w h b.kind b size) where
    ends_now : Around w n h (b.tick + (arc w a).cost * (size + 8)) (1 + a) (Phase.ends a) → length (Ends h a) ≤ i → ⊥
    unfolding HappensIn
    ends_now o ge = elim (split_at (Begins o.front a) (Begins (o.events ++ o.rest) a) i b (ap (λ l. slice_get l i) (sym (ap (λ x. Begins x a) o.joined ∙ filter_map-append (begin_on a) o.front (o.events ++ o.rest))) ∙ at)) [
      | inr new ↦
          let y = begins_within (length w.net.arcs) (number (length w.net.arcs) t (1 + a)) n a (o.events ++ o.rest) o.follows new.0 b new.1 in
          absurd (let back : t ≤ b.tick = tick_le (moments (length w.net.arcs)) t b.tick (1 + a) (2 + 3 * length w.net.arcs + a) (omega (arith, a_lt)) y in omega (arith, back, early))
      | inl old ↦
          let s = steady w (number (length w.net.arcs) t (1 + a)) o.front a a_lt o.legal in
          let few : length (Ends o.front a) ≤ length (Ends h a) = omega (arith, ap length whole, length-append (Ends o.front a) (Ends (o.events ++ o.rest) a)) in
          let turn : i ≡ length (Ends o.front a) = omega (arith, few, ge, within (Begins o.front a) i b old, s.ordered.few_open) in
          let here : slice_get (Begins o.front a) (length (Ends o.front a)) ≡ Some b = ap (slice_get (Begins o.front a)) (sym turn) ∙ old in
          due (each_only (λ b fs. OneOrNone (EndDue w o.front t b) fs) (Begins o.front a) o.events (length (Ends o.front a)) b here
          (λ j c fs other at_c one. not_again w o.front o.events t a a_lt (omega (arith, a_lt)) (placed w (number (length w.net.arcs) t (1 + a)) o.front o.legal) o.at s j c fs
          (omega (arith, within (Begins o.front a) j c at_c, s.ordered.few_open, other)) at_c one) o.happens) turn
    ]
      where
        t : ℕ
        t = b.tick + (arc w a).cost * (size + 8)

        early : b.tick < b.tick + (arc w a).cost * (size + 8)
        early = let reach : (arc w a).cost * 8 ≤ (arc w a).cost * (size + 8) = mul-le-mul_left (arc w a).cost (omega arith) in omega (arith, reach, costs w a a_lt)

        whole : Ends h a ≡ Ends o.front a ++ Ends (o.events ++ o.rest) a
        whole = ap (λ x. Ends x a) o.joined ∙ filter_map-append (ended_on a) o.front (o.events ++ o.rest)

        front_sized : SizeOf w o.front b.kind b size
        front_sized =
            (size_stays w o.front (o.events ++ o.rest) b.kind b size (subst (λ x. 1 ≤ (arc w x).cost) (sym on) (costs w a a_lt))
            (λ u less. all_later_from (length w.net.arcs) u (number (length w.net.arcs) (b.tick + (arc w a).cost * (size + 8)) (1 + a)) n (o.events ++ o.rest)
            (more_places (moments (length w.net.arcs)) u (b.tick + (arc w a).cost * (size + 8)) (2 + 3 * length w.net.arcs) (1 + a) (omega (arith, a_lt)) (subst (λ x. u < b.tick + (arc w x).cost * (size + 8)) on less)) o.follows)).0
            (subst (λ (x : History). SizeOf w x b.kind b size) o.joined sized)

        due : OneOrNone (EndDue w o.front (b.tick + (arc w a).cost * (size + 8)) b) o.events → i ≡ length (Ends o.front a) → ⊥
        due (inr (none, is)) turn = none _ (size, front_sized, ap (λ x. b.tick + (arc w x).cost * (size + 8)) on, refl)
        due (inl (e, (size', sized', due', is_end), is)) turn =
            let r : Ended = record { tick = b.tick + (arc w a).cost * (size + 8); arc = b.arc; ord = b.ord; size = size'; check = CheckOf w o.front b size' } in
            let test : (b.arc == a) ≡ true = is_eq b.arc a on in
            let one_end : Ends (PlainEvent.ended r ∷ []) a ≡ r ∷ [] = rw test refl in
            let some : Ends o.events a ≡ r ∷ [] = ap (λ x. Ends x a) (is ∙ ap (λ x. x ∷ []) is_end) ∙ one_end in
            let parts : Ends (o.events ++ o.rest) a ≡ Ends o.events a ++ Ends o.rest a = filter_map-append (ended_on a) o.events o.rest in
            let count : length (Ends (o.events ++ o.rest) a) ≡ suc (length (Ends o.rest a)) = ap length parts ∙ ap (λ (x : List Ended). length (x ++ Ends o.rest a)) some in
            omega (arith, ap length whole, length-append (Ends o.front a) (Ends (o.events ++ o.rest) a), count, turn, ge)

    end_sized : HasEnded w h a i size
    end_sized = elim (cases_lt i (length (Ends h a))) [
      | inl done ↦
          let e = there (Ends h a) i done in
          (e.0, e.1, size_one w h b.kind b e.0.size size ((steady w n h a a_lt legal).sizes i b e.0 at e.1) sized)
      | inr ge ↦ absurd (ends_now (around w n h (b.tick + (arc w a).cost * (size + 8)) (1 + a) (Phase.ends a) (omega (arith, a_lt)) (ends_place (length w.net.arcs) a a_lt) lt legal) ge)
    ]

  pub ends_read : number (length w.net.arcs) (b.tick + (arc w a).cost * (size + 8)) (1 + a) < n → HasEnded w h a i size ↔ SizeOf w h b.kind b size
  ends_read lt = (sized_end, end_sized lt)

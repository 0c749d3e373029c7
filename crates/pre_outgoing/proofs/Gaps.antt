-- Where the sender says that the arc is free, and where the history says that it isn't occupied.
use Rattle.std.proofs.Common.{ℕ, suc, ◌≡◌, ◌+◌, ◌*◌, ◌<◌, ◌≤◌, List, [], ◌∷◌, ◌++◌, length, refl, sym}
use Rattle.std.proofs.Common.{◌∙◌, ap, inl, inr, arith, subst, Option, Some, None, map}
use Rattle.std.specs.Prelude.{slice_get}
use Rattle.std.specs.List.{AllByRecursion as Every}
use Rattle.std.proofs.lemmas.Bool.{cases_lt}
use Rattle.std.proofs.lemmas.List.{length-append}
use Rattle.pre_send.specs.Calls.{End}
use Rattle.pre_send.specs.Sendings.{Sending, HasGap, IsFree}
use Rattle.pre_history.specs.Scenario.{Scenario, arc}
use Rattle.pre_history.specs.History.{History, Begin, Ended}
use Rattle.pre_history.specs.Queries.{Packet, packet, end_of, Packets, Begins, Ends, IsUnderWay, Occupied}
use Rattle.pre_history.specs.Ordered.{IsOrdered}
use Rattle.pre_history.proofs.Lists.{at_front, at_last, there, within, one_at, every-append, every_at, every_placed, found_at}
use Rattle.pre_history.proofs.Chosen.{from_map}
use Rattle.pre_history.proofs.Free.{first_numbered, free_end}
use Rattle.pre_outgoing.specs.Matching.{EndsFit, Agree}
use Rattle.pre_outgoing.proofs.Pairs.{packet_of}

length_push : {X : Type 0} (xs : List X) (x : X) → length (xs ++ x ∷ []) ≡ suc (length xs)
length_push xs x = omega (arith, length-append xs (x ∷ []))

-- each that ended has an end
pub all_ended : (w : Scenario) (cost t : ℕ) (packets : List Sending) (bs : List Begin) (es : List Ended) → Agree w packets bs es → IsFree cost (map (λ p. p.told) packets) t → length es ≡ length bs
all_ended w cost t [] bs es (none, none_ended) free = ap length none_ended ∙ sym (ap length none)
all_ended w cost t (p ∷ older) bs es (front, b, before, bs_is, ends, same_length, fits, others) (gap, free) = go p.told.end ends gap
  where
    go : (o : Option End) → EndsFit w p older o before es → HasGap cost o t → length es ≡ length bs
    go None fit gap = absurd gap
    go (Some end) (e, es_is, tick, size, stored) gap = ap length es_is ∙ (length_push before e ∙ (ap suc same_length ∙ (sym (length_push front b) ∙ sym (ap length bs_is))))

-- and the gap after it is over
pub all_over : (w : Scenario) (cost t : ℕ) (packets : List Sending) (bs : List Begin) (es : List Ended) → Agree w packets bs es → IsFree cost (map (λ p. p.told) packets) t
    → Every (λ (e : Ended). e.tick + 12 * cost ≤ t) es
all_over w cost t [] bs es (none, none_ended) free = subst (Every (λ (e : Ended). e.tick + 12 * cost ≤ t)) (sym none_ended) tt
all_over w cost t (p ∷ older) bs es (front, b, before, bs_is, ends, same_length, fits, others) (gap, free) = go p.told.end ends gap (all_over w cost t older front before others free)
  where
    go : (o : Option End) → EndsFit w p older o before es → HasGap cost o t → Every (λ (e : Ended). e.tick + 12 * cost ≤ t) before → Every (λ (e : Ended). e.tick + 12 * cost ≤ t) es
    go None fit gap more = absurd gap
    go (Some end) (e, es_is, tick, size, stored) gap more =
        subst (Every (λ (e : Ended). e.tick + 12 * cost ≤ t)) (sym es_is)
        (every-append (λ (e : Ended). e.tick + 12 * cost ≤ t) before (e ∷ []) more (omega (arith, tick, gap), tt))

module _ (w : Scenario) (h : History) (a t : ℕ) (ordered : IsOrdered w h a) where
  -- what a history says of an mPacket that ended
  pub made : (i : ℕ) (b : Begin) (e : Ended) → slice_get (Begins h a) i ≡ Some b → slice_get (Ends h a) i ≡ Some e → packet h a b ≡ packet_of b e
  made i b e at_b at_e =
      let ord : b.ord ≡ i = ordered.begin_places i b at_b in
      let same : end_of h a b.ord ≡ slice_get (Ends h a) i = first_numbered (Ends h a) 0 i b.ord (omega (arith, ord)) (λ j d here. let is : d.ord ≡ j = ordered.end_places j d here in
      omega (arith, is)) in
      ap (λ o. record { begin = b; ended = o }) (same ∙ at_e)

  -- where each has ended, each packet has its end
  pub each_packet : (P : Packet → Type 0) → length (Ends h a) ≡ length (Begins h a)
      → ((i : ℕ) (b : Begin) (e : Ended) → slice_get (Begins h a) i ≡ Some b → slice_get (Ends h a) i ≡ Some e → P (packet_of b e)) → Every P (map (packet h a) (Begins h a))
  each_packet P all says = every_placed P (map (packet h a) (Begins h a)) (λ i x at.
      let b = from_map (packet h a) (Begins h a) i x at in
      let e = there (Ends h a) i (omega (arith, within (Begins h a) i b.0 b.1, all)) in
      subst P (sym (made i b.0 e.0 b.1 e.1) ∙ b.2) (says i b.0 e.0 b.1 e.1))

  module _ (packets : List Sending) (agree : Agree w packets (Begins h a) (Ends h a)) where
    pub not_occupied : IsFree (arc w a).cost (map (λ p. p.told) packets) t → ¬ Occupied w h a t
    unfolding Packets
    not_occupied free busy =
        let over = all_over w (arc w a).cost t packets (Begins h a) (Ends h a) agree free in
        let each = each_packet (λ x. ¬ IsUnderWay w h a t x) (all_ended w (arc w a).cost t packets (Begins h a) (Ends h a) agree free) (λ i b e at_b at_e under.
        let gone : e.tick + 12 * (arc w a).cost ≤ t = every_at (λ (e : Ended). e.tick + 12 * (arc w a).cost ≤ t) (Ends h a) i e over at_e in
        omega (arith, gone, under.1)) in
        every_at (λ x. ¬ IsUnderWay w h a t x) (Packets h a) busy.0 busy.1 each (found_at (Packets h a) busy.0 busy.1 busy.2 busy.3) busy.4

    module _ (early : (i : ℕ) (b : Begin) → slice_get (Begins h a) i ≡ Some b → b.tick < t) (free : ¬ Occupied w h a t) where
      free_at : (i : ℕ) (b : Begin) → slice_get (Begins h a) i ≡ Some b → (e : Ended) × (slice_get (Ends h a) i ≡ Some e) × (e.tick + 12 * (arc w a).cost ≤ t)
      free_at i b at = free_end w h a t i b ordered.end_places (ordered.begin_places i b at) at (early i b at) free

      all : length (Ends h a) ≡ length (Begins h a)
      all = elim (cases_lt (length (Ends h a)) (length (Begins h a))) [
        | inr done ↦ omega (arith, done, ordered.ends_begun)
        | inl open_one ↦
            let b = there (Begins h a) (length (Ends h a)) open_one in
            let e = free_at (length (Ends h a)) b.0 b.1 in
            absurd (omega (arith, within (Ends h a) (length (Ends h a)) e.0 e.1))
      ]

      each_free : (xs : List Sending) (bs : List Begin) (es : List Ended) → Agree w xs bs es → length es ≡ length bs
          → ((i : ℕ) (b : Begin) → slice_get bs i ≡ Some b → slice_get (Begins h a) i ≡ Some b) → ((i : ℕ) (e : Ended) → slice_get es i ≡ Some e → slice_get (Ends h a) i ≡ Some e)
          → IsFree (arc w a).cost (map (λ p. p.told) xs) t
      each_free [] bs es none same in_b in_e = tt
      each_free (p ∷ older) bs es (front, b, before, bs_is, ends, same_length, fits, others) same in_b in_e =
          go p.told.end refl ends (λ in_b' in_e'. each_free older front before others same_length in_b' in_e')
        where
          at_b : slice_get (Begins h a) (length front) ≡ Some b
          at_b = in_b (length front) b (ap (λ xs. slice_get xs (length front)) bs_is ∙ at_last front b)

          go : (o : Option End) → p.told.end ≡ o → EndsFit w p older o before es
              → (((i : ℕ) (b : Begin) → slice_get front i ≡ Some b → slice_get (Begins h a) i ≡ Some b)
              → ((i : ℕ) (e : Ended) → slice_get before i ≡ Some e → slice_get (Ends h a) i ≡ Some e) → IsFree (arc w a).cost (map (λ p. p.told) older) t)
              → IsFree (arc w a).cost (map (λ p. p.told) (p ∷ older)) t
          go None is fit others = absurd (omega (arith, same, ap length fit, same_length, ap length bs_is, length_push front b))
          go (Some end) is (e, es_is, tick, size, stored) others =
              let here : slice_get (Ends h a) (length before) ≡ Some e = in_e (length before) e (ap (λ xs. slice_get xs (length before)) es_is ∙ at_last before e) in
              let d = free_at (length front) b at_b in
              let one : d.0 ≡ e = one_at (Ends h a) (length front) d.0 e d.1 (ap (slice_get (Ends h a)) (sym same_length) ∙ here) in
              let gap : e.tick + 12 * (arc w a).cost ≤ t = subst (λ (x : Ended). x.tick + 12 * (arc w a).cost ≤ t) one d.2 in (
                subst (λ o. HasGap (arc w a).cost o t) (sym is) (omega (arith, tick, gap)),
                others (λ i c at. in_b i c (ap (λ xs. slice_get xs i) bs_is ∙ at_front front (b ∷ []) i c at))
                    (λ i c at. in_e i c (ap (λ xs. slice_get xs i) es_is ∙ at_front before (e ∷ []) i c at)),
              )

      pub is_free : IsFree (arc w a).cost (map (λ p. p.told) packets) t
      is_free = each_free packets (Begins h a) (Ends h a) agree all (λ i b at. at) (λ i e at. at)

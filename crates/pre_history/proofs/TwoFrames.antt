-- The history of two frames back to back is legal up to the end.
use Rattle.std.proofs.Common.{ℕ, zero, suc, ◌≡◌, ◌≢◌, ◌⊎◌, ◌==◌, ◌&&◌, not, ◌+◌, ◌-◌, ◌*◌, ◌<◌, nat_lt, nat_le}
use Rattle.std.proofs.Common.{Bool, true, false, List, [], ◌∷◌, ◌++◌, length, refl, sym, ◌∙◌, ap, inl, inr, arith, subst, Some, None, take}
use Rattle.std.proofs.Common.{map, filter}
use Rattle.std.specs.Prelude.{if◌then◌else◌, slice_get, slice_index, slice_index_or}
use Rattle.std.specs.List.{cons_option, list_any, AllByRecursion as Every}
use Rattle.std.proofs.lemmas.Bool.Decides.{nat_tests}
use Rattle.pre_crc.specs.Checks.{Mcrc}
use Rattle.pre_lldp.specs.LldpLayout.{is_lldp_frame}
use Rattle.pre_topo.specs.declared.arcs.Arc.{Arc}
use Rattle.pre_script.specs.declared.scripts.SendLine.{SendLine}
use Rattle.pre_mpacket.specs.declared.packets.Kind.TheVariants as kind
use Rattle.pre_mpacket.specs.Arrivals.{Given, Gives, is_fragment}
use Rattle.pre_history.specs.declared.events.Outcome.TheVariants as outcome
use Rattle.pre_history.specs.Scenario.{Scenario, arc, row, capacity, no_arc, no_send, FrameOf}
use Rattle.pre_history.specs.Moments.{Phase}
use Rattle.pre_history.specs.History.{PlainEvent, History, Begin, Ended}
use Rattle.pre_history.specs.Selected.{RingEntry, what_is}
use Rattle.pre_history.specs.Queries.{Packets, Packet, packet, Waiting, IsUnderWay, Occupied}
use Rattle.pre_history.specs.Octets.{Air}
use Rattle.pre_history.specs.Starts.{Item, Choice, There, StartRule, whole_frame, IsFront, place}
use Rattle.pre_history.specs.Comings.{Comings, frame_at, EntriesOf, sends_from, first_arc}
use Rattle.pre_history.specs.Rules.{OneOrNone, EndDue, last_four, Arriving, WithDelivery, HappensIn, delivered}
use Rattle.pre_history.specs.ArrivalResults.{Result}
use Rattle.pre_history.specs.Examples.{first_send, second_send, SendsTwoFrames, enters_ring, frame_begin, frame_end, frame_arrives, frame_delivery, two_frames_body}
use Rattle.pre_history.proofs.Lists.{any_at, found_at}
use Rattle.pre_history.proofs.Free.{packet_at}
use Rattle.pre_history.proofs.WholeFrames.{NoFragments}
use Rattle.pre_history.proofs.Undamaged.{user_frame}
use Rattle.pre_history.proofs.PairFacts.{express_four, SendsAtStart, cost_one, far_end, first_ab, no_next, prio_six, no_delay, frame_size}
use Rattle.pre_history.proofs.Quiet.{selected, comings_are, not_due}
use Rattle.pre_history.proofs.NatTests.{cases_eq}

pub from_two : (w : Scenario) → SendsTwoFrames w → SendsAtStart w
from_two w s = record {
  net = s.net;
  streams = s.streams;
  sets = s.sets;
  stream_x = λ f. ap (λ (xs : List SendLine). (slice_index_or xs f no_send).send.stream.0) s.sends ∙ stream f;
  size = λ f lt. ap (λ (xs : List SendLine). (slice_index_or xs f no_send).send.size) s.sends ∙ size f (subst (λ n. f < n) (ap length s.sends) lt);
  none_later = λ t lt. ap (sends_from w t 0) s.sends ∙ later t lt;
}
  where
    stream : (f : ℕ) → (slice_index_or (first_send ∷ second_send ∷ []) f no_send).send.stream.0 ≡ 0
    stream zero = refl
    stream (suc zero) = refl
    stream (suc (suc f)) = refl

    size : (f : ℕ) → f < 2 → (slice_index_or (first_send ∷ second_send ∷ []) f no_send).send.size ≡ 64
    size zero lt = refl
    size (suc zero) lt = refl
    size (suc (suc f)) lt = absurd (omega (arith, lt))

    later : (t : ℕ) → 0 < t → sends_from w t 0 (first_send ∷ second_send ∷ []) ≡ []
    later t lt = let other : (0 == t) ≡ false = grind (arith, nat_tests) in rw other refl

selected_two : {X : Type 0} (Q : X → Type 0) (x y : X) (b : Bool) → Q x → Q y → Every Q (cons_option (if b then Some x else None) (cons_option (if b then Some y else None) []))
selected_two Q x y true p q = (p, (q, tt))
selected_two Q x y false p q = tt

-- neither frame waits after both first octets began
both_gone : (t : ℕ) (b c : Bool) → 84 < t
    → map (λ (e : RingEntry). e.frame) (filter (λ (e : RingEntry). e.entered && nat_le e.tick t && not (list_any (λ (x : Begin). nat_lt x.tick t && what_is x.what e.frame && (x.from == 0))
    (cons_option (if b then Some (frame_begin 0 0 0) else None) (cons_option (if b then Some (frame_begin 84 1 1) else None) []))))
    (cons_option (if b && c then Some (record { tick = 0; frame = 0; entered = true }) else None) (cons_option (if b && c then Some (record { tick = 0; frame = 1; entered = true }) else None) []))) ≡ []
both_gone t true true lt =
    let early : nat_lt 0 t ≡ true = grind (arith, nat_tests) in
    let early' : nat_lt 84 t ≡ true = grind (arith, nat_tests) in
    let by : nat_le 0 t ≡ true = grind (arith, nat_tests) in
    rw (early, early', by) refl
both_gone t true false lt = refl
both_gone t false c lt = refl

no_eq : (m n : ℕ) → m ≢ n → (m == n) ≡ false
no_eq m n e = grind (arith, nat_tests)

nothing_before : (w : Scenario) (h : History) (a t : ℕ) (i : Item) (c : Choice) → place i < 1 → There w h a t i c → ⊥
nothing_before w h a t Item.express c lt there' = omega (arith, lt)
nothing_before w h a t Item.respond c lt there' = omega (arith, lt)
nothing_before w h a t Item.verify c lt there' = omega (arith, lt)
nothing_before w h a t Item.lldp c lt there' = omega (arith, lt)
nothing_before w h a t Item.rest c lt there' = omega (arith, lt)
nothing_before w h a t Item.preemptable c lt there' = omega (arith, lt)

abbrev pub both : History
both = enters_ring 0 ∷ enters_ring 1 ∷ []

abbrev pub begun : History
begun = both ++ PlainEvent.begin (frame_begin 0 0 0) ∷ []

module _ (w : Scenario) (s : SendsTwoFrames w) where
  abbrev pub ended : History
  ended = begun ++ PlainEvent.ended (frame_end w 72 0 0) ∷ []

  abbrev pub between : History
  between = ended ++ frame_arrives 72 0 ∷ frame_delivery w 72 0 ∷ []

  abbrev pub second : History
  second = between ++ PlainEvent.begin (frame_begin 84 1 1) ∷ []

  abbrev pub second_ended : History
  second_ended = second ++ PlainEvent.ended (frame_end w 156 1 1) ∷ []

  pub at : SendsAtStart w
  at = from_two w s

  pub sends_two : length w.script.sends ≡ 2
  sends_two = ap length s.sends

  pub known : (f : ℕ) → f < 2 → f < length w.script.sends
  known f lt = omega (arith, lt, sends_two)

  pub size_of : (f : ℕ) → f < 2 → length (FrameOf w f) ≡ 64
  size_of f lt = frame_size w at f (known f lt)

  -- ---- they go whole

  pub begun_whole : NoFragments begun
  begun_whole a = selected (λ (b : Begin). is_fragment b.kind ≡ false) (frame_begin 0 0 0) (0 == a) refl

  pub between_whole : NoFragments between
  between_whole a = selected (λ (b : Begin). is_fragment b.kind ≡ false) (frame_begin 0 0 0) (0 == a) refl

  pub second_whole : NoFragments second
  second_whole a = selected_two (λ (b : Begin). is_fragment b.kind ≡ false) (frame_begin 0 0 0) (frame_begin 84 1 1) (0 == a) refl refl

  pub body_whole : NoFragments (two_frames_body w)
  body_whole a = selected_two (λ (b : Begin). is_fragment b.kind ≡ false) (frame_begin 0 0 0) (frame_begin 84 1 1) (0 == a) refl refl

  -- ---- what waits and what is occupied

  begun_other : (a p t : ℕ) → (0 == a) ≡ false → Waiting begun a p t ≡ []
  unfolding Waiting
  begun_other a p t other = rw other refl

  between_other : (a p t : ℕ) → (0 == a) ≡ false → Waiting between a p t ≡ []
  unfolding Waiting
  between_other a p t other = rw other refl

  pub second_waits : (t a p : ℕ) → 84 < t → Waiting second a p t ≡ []
  unfolding Waiting
  second_waits t a p lt = both_gone t (0 == a) (6 == p) lt

  pub body_waits : (t a p : ℕ) → 84 < t → Waiting (two_frames_body w) a p t ≡ []
  unfolding Waiting
  body_waits t a p lt = both_gone t (0 == a) (6 == p) lt

  begun_busy : (t : ℕ) → 0 < t → Occupied w begun 0 t
  begun_busy t lt = any_at (IsUnderWay w begun 0 t) (Packets begun 0) 0 (packet begun 0 (frame_begin 0 0 0)) (packet_at begun 0 0 (frame_begin 0 0 0) refl) (lt, tt)

  between_busy : (t : ℕ) → 0 < t → t < 84 → Occupied w between 0 t
  between_busy t lt lt' =
      let cost = cost_one w at in
      any_at (IsUnderWay w between 0 t) (Packets between 0) 0 (packet between 0 (frame_begin 0 0 0)) (packet_at between 0 0 (frame_begin 0 0 0) refl) (lt, omega (arith, lt', cost))

  pub begun_start : (t a : ℕ) → 0 < t → Occupied w begun a t ⊎ ((p : ℕ) → Waiting begun a p t ≡ [])
  begun_start t a lt = elim (cases_eq 0 a) [ inl same ↦ inl (subst (λ x. Occupied w begun x t) same (begun_busy t lt)) | inr other ↦ inr (λ p. begun_other a p t (no_eq 0 a other)) ]

  pub between_start : (t a : ℕ) → 0 < t → t < 84 → Occupied w between a t ⊎ ((p : ℕ) → Waiting between a p t ≡ [])
  between_start t a lt lt' = elim (cases_eq 0 a) [ inl same ↦ inl (subst (λ x. Occupied w between x t) same (between_busy t lt lt')) | inr other ↦ inr (λ p. between_other a p t (no_eq 0 a other)) ]

  free_packet : (k : ℕ) (p : Packet) → slice_get (Packets between 0) k ≡ Some p → IsUnderWay w between 0 84 p → ⊥
  unfolding Packets
  free_packet zero p here busy =
      let same : packet between 0 (frame_begin 0 0 0) ≡ p = cc here in
      let busy' : IsUnderWay w between 0 84 (packet between 0 (frame_begin 0 0 0)) = subst (IsUnderWay w between 0 84) (sym same) busy in
      let cost = cost_one w at in
      omega (arith, busy'.1, cost)
  free_packet (suc k) p here busy = cc here

  free : ¬ Occupied w between 0 84
  free busy = free_packet busy.0 busy.1 (found_at (Packets between 0) busy.0 busy.1 busy.2 busy.3) busy.4

  -- ---- what isn't due

  pub one_begin : (h : History) (t a : ℕ) → t ≢ 72 → Every (λ (b : Begin). (e : PlainEvent) → ¬ EndDue w h t b e) (cons_option (if 0 == a then Some (frame_begin 0 0 0) else None) [])
  one_begin h t a other = selected (λ (b : Begin). (e : PlainEvent) → ¬ EndDue w h t b e) (frame_begin 0 0 0) (0 == a) (not_due w at h t 0 0 0 (known 0 (omega arith)) other)

  pub two_begins : (h : History) (t a : ℕ) → t ≢ 72 → t ≢ 156 → Every (λ (b : Begin). (e : PlainEvent) → ¬ EndDue w h t b e) (cons_option (if 0 == a then Some (frame_begin 0 0 0) else None) (cons_option (if 0 == a then Some (frame_begin 84 1 1) else None) []))
  two_begins h t a other other' =
      selected_two (λ (b : Begin). (e : PlainEvent) → ¬ EndDue w h t b e) (frame_begin 0 0 0) (frame_begin 84 1 1) (0 == a)
      (not_due w at h t 0 0 0 (known 0 (omega arith)) other) (not_due w at h t 84 1 1 (known 1 (omega arith)) other')

  pub one_end : (t a : ℕ) → t ≢ 72 → Every (λ (e : Ended). e.tick ≢ t) (cons_option (if 0 == a then Some (frame_end w 72 0 0) else None) [])
  one_end t a other = selected (λ (e : Ended). e.tick ≢ t) (frame_end w 72 0 0) (0 == a) (λ e. other (sym e))

  pub two_ends : (t a : ℕ) → t ≢ 72 → t ≢ 156 → Every (λ (e : Ended). e.tick ≢ t) (cons_option (if 0 == a then Some (frame_end w 72 0 0) else None) (cons_option (if 0 == a then Some (frame_end w 156 1 1) else None) []))
  two_ends t a other other' = selected_two (λ (e : Ended). e.tick ≢ t) (frame_end w 72 0 0) (frame_end w 156 1 1) (0 == a) (λ e. other (sym e)) (λ e. other' (sym e))

  -- ---- the moments at which something happens

  pub enters_now : HappensIn w [] 0 Phase.entries both
  unfolding HappensIn Waiting
  enters_now =
      let coming : Comings w [] 0 ≡ record { arc = first_arc w 0; frame = 0 } ∷ record { arc = first_arc w 1; frame = 1 } ∷ [] = comings_are w at [] 0 ∙ ap (sends_from w 0 0) s.sends in
      let room : capacity w 0 6 ≡ 64 = ap (λ (xs : List Arc). slice_index (slice_index_or xs 0 no_arc).rings 6) s.net.arcs in
      let arcs : Comings w [] 0 ≡ record { arc = 0; frame = 0 } ∷ record { arc = 0; frame = 1 } ∷ []
      = coming ∙ (ap (λ a. record { arc = a; frame = 0 } ∷ record { arc = first_arc w 1; frame = 1 } ∷ []) (first_ab w at 0) ∙ ap (λ a. record { arc = 0; frame = 0 } ∷ record { arc = a; frame = 1 } ∷ []) (first_ab w at 1)) in
      sym (ap (EntriesOf w 0 []) arcs ∙ entries_are room (prio_six w at 0) (prio_six w at 1))
    where
      entries_are : capacity w 0 6 ≡ 64 → (row w 0).prio ≡ 6 → (row w 1).prio ≡ 6 → EntriesOf w 0 [] (record { arc = 0; frame = 0 } ∷ record { arc = 0; frame = 1 } ∷ []) ≡ both
      entries_are room first second' = rw (first, second', room) refl

  other_ring : (q : ℕ) → 6 < q → Waiting both 0 q 0 ≡ []
  unfolding Waiting
  other_ring q lt = let other : (6 == q) ≡ false = grind (arith, nat_tests) in rw other refl

  first_front : IsFront w both 0 0 (arc w 0).express_from 8 0
  unfolding Waiting
  first_front = (6, omega (arith, express_four w at 0), omega arith, (1 ∷ [], refl), λ q lt lt'. other_ring q lt)

  pub first_starts : HappensIn w both 0 (Phase.starts 0) (PlainEvent.begin (frame_begin 0 0 0) ∷ [])
  unfolding HappensIn StartRule Packets
  first_starts =
      inl (PlainEvent.begin (frame_begin 0 0 0), (whole_frame 0 kind.Express, ((λ busy. omega (arith, busy.2)), (Item.express, (0, first_front, refl), λ j d lt. nothing_before w both 0 0 j d lt)), refl), refl)

  second_ring : (q : ℕ) → 6 < q → Waiting between 0 q 84 ≡ []
  unfolding Waiting
  second_ring q lt = let other : (6 == q) ≡ false = grind (arith, nat_tests) in rw other refl

  second_front : IsFront w between 0 84 (arc w 0).express_from 8 1
  unfolding Waiting
  second_front = (6, omega (arith, express_four w at 0), omega arith, ([], refl), λ q lt lt'. second_ring q lt)

  pub second_starts : HappensIn w between 84 (Phase.starts 0) (PlainEvent.begin (frame_begin 84 1 1) ∷ [])
  unfolding HappensIn StartRule
  second_starts =
      inl (PlainEvent.begin (frame_begin 84 1 1), (whole_frame 1 kind.Express, (free, (Item.express, (1, second_front, refl), λ j d lt. nothing_before w between 0 84 j d lt)), refl), refl)

  pub check_is : (f : ℕ) → f < 2 → last_four (FrameOf w f) ≡ (if 0 + 64 == length (FrameOf w f) then last_four (FrameOf w f) else Mcrc (take (0 + 64 - 4) (FrameOf w f)))
  check_is f lt = sym (ap (λ (n : ℕ). if 0 + 64 == n then last_four (FrameOf w f) else Mcrc (take (0 + 64 - 4) (FrameOf w f))) (size_of f lt))

  end_due : (h : History) (t ord f : ℕ) → f < 2 → OneOrNone (EndDue w h (t + 72) (frame_begin t ord f)) (PlainEvent.ended (frame_end w (t + 72) ord f) ∷ [])
  end_due h t ord f lt =
      inl (PlainEvent.ended (frame_end w (t + 72) ord f), (64, sym (size_of f lt), ap (λ k. t + k * (64 + 8)) (cost_one w at), ap (λ x. PlainEvent.ended (record { tick = t + 72; arc = 0; ord = ord; size = 64; check = x })) (check_is f lt)), refl)

  pub first_ends : HappensIn w begun 72 (Phase.ends 0) (PlainEvent.ended (frame_end w 72 0 0) ∷ [])
  unfolding HappensIn
  first_ends = (PlainEvent.ended (frame_end w 72 0 0) ∷ [], [], end_due begun 0 0 0 (omega arith), refl, refl)

  pub second_ends : HappensIn w second 156 (Phase.ends 0) (PlainEvent.ended (frame_end w 156 1 1) ∷ [])
  unfolding HappensIn
  second_ends = (
    [],
    PlainEvent.ended (frame_end w 156 1 1) ∷ [],
    inr (not_due w at second 156 0 0 0 (known 0 (omega arith)) (λ e. absurd (omega (arith, e))), refl),
    (PlainEvent.ended (frame_end w 156 1 1) ∷ [], [], end_due second 84 1 1 (omega arith), refl, refl),
    refl,
  )

  -- the events of an arrival
  pub arrives : (h : History) (t ord f : ℕ) → frame_at h 0 ord ≡ Some f → Gives (Air w h 0) ord (Given.frame (FrameOf w f)) → (e : Ended) → e.tick ≡ t → e.ord ≡ ord
      → Arriving w h t 0 e (frame_arrives t ord ∷ frame_delivery w t f ∷ [])
  arrives h t ord f carries gives e tick ord_is =
      let now : e.tick + (arc w 0).delay ≡ t = omega (arith, tick, no_delay w at 0) in
      let result : outcome.Frame ≡ (if is_lldp_frame (FrameOf w f) then outcome.Lldp else outcome.Frame) = ap (λ (b : Bool). if b then outcome.Lldp else outcome.Frame) (sym (user_frame w f)) in
      let events : frame_arrives t ord ∷ frame_delivery w t f ∷ [] ≡ frame_arrives t ord ∷ delivered t (arc w 0).to.0 f (FrameOf w f) None = ap (λ n. frame_arrives t ord ∷ PlainEvent.deliver (record { tick = t; node = n; frame = f; octets = FrameOf w f }) ∷ []) (sym (far_end w at)) in
      let here = ap (λ o. frame_arrives t ord ∷ delivered t (arc w 0).to.0 f (FrameOf w f) o) (sym (no_next w at 0 f)) in
      inl (now, (outcome.Frame, subst (λ i. Result (Air w h 0) i outcome.Frame) (sym ord_is) (inr (inl (Given.frame (FrameOf w f), gives, result))), subst (λ i. WithDelivery w h t 0 i outcome.Frame (frame_arrives t ord ∷ frame_delivery w t f ∷ [])) (sym ord_is) (f, FrameOf w f, carries, gives, events ∙ here)))

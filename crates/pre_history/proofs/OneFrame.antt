-- The history of one express frame is legal up to the end.
use Rattle.std.proofs.Common.{ℕ, zero, suc, ◌≡◌, ◌≢◌, ◌==◌, ◌+◌, ◌-◌, ◌*◌, ◌<◌, Bool, false, List, [], ◌∷◌}
use Rattle.std.proofs.Common.{length, refl, sym, ◌∙◌, ap, inl, inr, arith, subst, Some, None, take}
use Rattle.std.specs.Prelude.{if◌then◌else◌, slice_get, slice_index, slice_index_or}
use Rattle.std.specs.List.{AllByRecursion as Every}
use Rattle.std.proofs.lemmas.Bool.Decides.{nat_tests}
use Rattle.pre_crc.specs.Checks.{Mcrc}
use Rattle.pre_topo.specs.declared.arcs.Arc.{Arc}
use Rattle.pre_mpacket.specs.declared.packets.Kind.TheVariants as kind
use Rattle.pre_mpacket.specs.Arrivals.{Given, Gives, is_fragment}
use Rattle.pre_history.specs.declared.events.Outcome.TheVariants as outcome
use Rattle.pre_history.specs.Scenario.{Scenario, arc, capacity, no_arc, FrameOf}
use Rattle.pre_lldp.specs.LldpLayout.{is_lldp_frame}
use Rattle.pre_history.specs.Moments.{Phase}
use Rattle.pre_history.specs.History.{PlainEvent, History, Begin, Ended}
use Rattle.pre_history.specs.Queries.{Begins, Ends, Packets, Waiting}
use Rattle.pre_history.specs.Octets.{Air}
use Rattle.pre_history.specs.Starts.{Item, Choice, There, StartRule, whole_frame, IsFront, place}
use Rattle.pre_history.specs.Comings.{sends_from, Comings, EntriesOf, first_arc}
use Rattle.pre_history.specs.Rules.{EndDue, CheckOf, last_four, HappensIn, delivered}
use Rattle.pre_history.specs.Legal.{LegalUpTo}
use Rattle.pre_history.specs.Examples.{first_send, SendsFirst, entered, first_begin, first_end, arrived, delivery, one_frame_body}
use Rattle.pre_history.proofs.Spelled.{OneSpelled}
use Rattle.pre_history.proofs.Undamaged.{user_frame}
use Rattle.pre_history.proofs.WholeFrames.{IsFrameAt, NoFragments, whole_arrives}
use Rattle.pre_history.proofs.PairFacts.{express_four, SendsAtStart, cost_one, far_end, first_ab, no_next, prio_six, no_delay, next, idle}
use Rattle.pre_history.proofs.PairFacts as facts
use Rattle.pre_script.specs.declared.scripts.SendLine.{SendLine}
use Rattle.pre_history.specs.Scenario.{send, no_send}
use Rattle.pre_history.proofs.Quiet.{selected, gone, quiet_sets, quiet_expiries, quiet_ends, quiet_arrivals, comings_are, quiet_entries, quiet_starts, not_due, quiet_phase}

abbrev pub begun : History
begun = entered ∷ PlainEvent.begin first_begin ∷ []

pub from_one : (w : Scenario) → SendsFirst w → SendsAtStart w
from_one w s = record {
  net = s.net;
  streams = s.streams;
  sets = s.sets;
  stream_x = λ f. ap (λ (xs : List SendLine). (slice_index_or xs f no_send).send.stream.0) s.sends ∙ stream f;
  size = λ f lt. ap (λ (xs : List SendLine). (slice_index_or xs f no_send).send.size) s.sends ∙ size f (subst (λ n. f < n) (ap length s.sends) lt);
  none_later = λ t lt. ap (sends_from w t 0) s.sends ∙ later t lt;
}
  where
    stream : (f : ℕ) → (slice_index_or (first_send ∷ []) f no_send).send.stream.0 ≡ 0
    stream zero = refl
    stream (suc f) = refl

    size : (f : ℕ) → f < 1 → (slice_index_or (first_send ∷ []) f no_send).send.size ≡ 64
    size zero lt = refl
    size (suc f) lt = absurd (omega (arith, lt))

    later : (t : ℕ) → 0 < t → sends_from w t 0 (first_send ∷ []) ≡ []
    later t lt = let other : (0 == t) ≡ false = grind (arith, nat_tests) in rw other refl

module _ (w : Scenario) (s : SendsFirst w) where
  pub one_send : length w.script.sends ≡ 1
  one_send = ap length s.sends

  size_is : (send w 0).send.size ≡ 64
  size_is = ap (λ (xs : List SendLine). (slice_index_or xs 0 no_send).send.size) s.sends

  frame_size : length (FrameOf w 0) ≡ 64
  frame_size = facts.frame_size w (from_one w s) 0 (omega (arith, one_send))

  pub first_not_due : (h : History) (t : ℕ) → t ≢ 72 → (e : PlainEvent) → ¬ EndDue w h t first_begin e
  first_not_due h t other e = not_due w (from_one w s) h t 0 0 0 (omega (arith, one_send)) other e

  abbrev pub ended : History
  ended = entered ∷ PlainEvent.begin first_begin ∷ PlainEvent.ended (first_end w) ∷ []

  -- ---- it goes whole

  pub begun_whole : NoFragments begun
  begun_whole a = selected (λ (b : Begin). is_fragment b.kind ≡ false) first_begin (0 == a) refl

  pub body_whole : NoFragments (one_frame_body w)
  body_whole a = selected (λ (b : Begin). is_fragment b.kind ≡ false) first_begin (0 == a) refl

  -- ---- nothing waits behind the start

  pub begun_waits : (t a p : ℕ) → 0 < t → Waiting begun a p t ≡ []
  unfolding Waiting
  begun_waits t a p lt = gone t a p (0 == a) (6 == p) lt

  body_waits : (t a p : ℕ) → 0 < t → Waiting (one_frame_body w) a p t ≡ []
  unfolding Waiting
  body_waits t a p lt = gone t a p (0 == a) (6 == p) lt

  pub begun_begins : (t a : ℕ) → t ≢ 72 → Every (λ (b : Begin). (e : PlainEvent) → ¬ EndDue w begun t b e) (Begins begun a)
  begun_begins t a other = selected (λ (b : Begin). (e : PlainEvent) → ¬ EndDue w begun t b e) first_begin (0 == a) (first_not_due begun t other)

  body_begins : (t a : ℕ) → t ≢ 72 → Every (λ (b : Begin). (e : PlainEvent) → ¬ EndDue w (one_frame_body w) t b e) (Begins (one_frame_body w) a)
  body_begins t a other = selected (λ (b : Begin). (e : PlainEvent) → ¬ EndDue w (one_frame_body w) t b e) first_begin (0 == a) (first_not_due (one_frame_body w) t other)

  body_ends : (t a : ℕ) → t ≢ 72 → Every (λ (e : Ended). e.tick ≢ t) (Ends (one_frame_body w) a)
  body_ends t a other = selected (λ (e : Ended). e.tick ≢ t) (first_end w) (0 == a) (λ e. other (sym e))

  -- ---- tick 0

  enters_now : HappensIn w [] 0 Phase.entries (entered ∷ [])
  unfolding HappensIn Waiting
  enters_now =
      let coming : Comings w [] 0 ≡ record { arc = first_arc w 0; frame = 0 } ∷ [] = comings_are w (from_one w s) [] 0 ∙ ap (sends_from w 0 0) s.sends in
      let room : capacity w 0 6 ≡ 64 = ap (λ (xs : List Arc). slice_index (slice_index_or xs 0 no_arc).rings 6) s.net.arcs in
      let first : Comings w [] 0 ≡ record { arc = 0; frame = 0 } ∷ [] = coming ∙ ap (λ a. record { arc = a; frame = 0 } ∷ []) (first_ab w (from_one w s) 0) in
      sym (ap (EntriesOf w 0 []) first ∙ (ap (λ p. (if 0 == capacity w 0 p then PlainEvent.dropped (record { tick = 0; arc = 0; prio = p; frame = 0 }) else PlainEvent.enter (record { tick = 0; arc = 0; prio = p; frame = 0 })) ∷ []) (prio_six w (from_one w s) 0)
      ∙ ap (λ n. (if 0 == n then PlainEvent.dropped (record { tick = 0; arc = 0; prio = 6; frame = 0 }) else entered) ∷ []) room))

  nothing_before : (h : History) (a t : ℕ) (i : Item) (c : Choice) → place i < 1 → There w h a t i c → ⊥
  nothing_before h a t Item.express c lt there' = omega (arith, lt)
  nothing_before h a t Item.respond c lt there' = omega (arith, lt)
  nothing_before h a t Item.verify c lt there' = omega (arith, lt)
  nothing_before h a t Item.lldp c lt there' = omega (arith, lt)
  nothing_before h a t Item.rest c lt there' = omega (arith, lt)
  nothing_before h a t Item.preemptable c lt there' = omega (arith, lt)

  other_ring : (q : ℕ) → 6 < q → Waiting (entered ∷ []) 0 q 0 ≡ []
  unfolding Waiting
  other_ring q lt = let other : (6 == q) ≡ false = grind (arith, nat_tests) in rw other refl

  front : IsFront w (entered ∷ []) 0 0 (arc w 0).express_from 8 0
  unfolding Waiting
  front = (6, omega (arith, express_four w (from_one w s) 0), omega arith, ([], refl), λ q lt lt'. other_ring q lt)

  starts_now : HappensIn w (entered ∷ []) 0 (Phase.starts 0) (PlainEvent.begin first_begin ∷ [])
  unfolding HappensIn StartRule Packets
  starts_now =
      inl (PlainEvent.begin first_begin, (whole_frame 0 kind.Express, ((λ busy. omega (arith, busy.2)), (Item.express, (0, front, refl), λ j d lt. nothing_before (entered ∷ []) 0 0 j d lt)), refl), refl)

  idle_start : (p : ℕ) → Waiting begun 1 p 0 ≡ []
  unfolding Waiting
  idle_start p = refl

  pub first_tick : LegalUpTo w 10 begun
  first_tick =
      let l0 : LegalUpTo w 0 [] = refl in
      let l1 : LegalUpTo w 1 [] = next w (from_one w s) 0 [] [] 0 Phase.sets refl (quiet_sets w (from_one w s) [] 0) l0 in
      let l2 : LegalUpTo w 2 [] = next w (from_one w s) 1 [] [] 0 (Phase.ends 0) refl (quiet_ends w (from_one w s) [] 0 0 tt) l1 in
      let l3 : LegalUpTo w 3 [] = next w (from_one w s) 2 [] [] 0 (Phase.ends 1) refl (quiet_ends w (from_one w s) [] 0 1 tt) l2 in
      let l4 : LegalUpTo w 4 [] = next w (from_one w s) 3 [] [] 0 (Phase.arrivals 0) refl (quiet_arrivals w (from_one w s) [] 0 0 tt) l3 in
      let l5 : LegalUpTo w 5 [] = next w (from_one w s) 4 [] [] 0 (Phase.arrivals 1) refl (quiet_arrivals w (from_one w s) [] 0 1 tt) l4 in
      let l6 : LegalUpTo w 6 [] = next w (from_one w s) 5 [] [] 0 (Phase.expiries 0) refl (quiet_expiries w (from_one w s) [] 0 0) l5 in
      let l7 : LegalUpTo w 7 [] = next w (from_one w s) 6 [] [] 0 (Phase.expiries 1) refl (quiet_expiries w (from_one w s) [] 0 1) l6 in
      let l8 : LegalUpTo w 8 (entered ∷ []) = next w (from_one w s) 7 [] (entered ∷ []) 0 Phase.entries refl enters_now l7 in
      let l9 : LegalUpTo w 9 begun = next w (from_one w s) 8 (entered ∷ []) (PlainEvent.begin first_begin ∷ []) 0 (Phase.starts 0) refl starts_now l8 in
      next w (from_one w s) 9 begun [] 0 (Phase.starts 1) refl (quiet_starts w (from_one w s) begun 0 1 begun_whole (inr idle_start)) l9

  -- ---- tick 72

  pub ends_now : HappensIn w begun 72 (Phase.ends 0) (PlainEvent.ended (first_end w) ∷ [])
  unfolding HappensIn
  ends_now =
      let size : 64 ≡ length (FrameOf w 0) = sym (frame_size) in
      let due : 0 + (arc w 0).cost * (64 + 8) ≡ 72 = ap (λ k. 0 + k * (64 + 8)) (cost_one w (from_one w s)) in
      let check : CheckOf w begun first_begin 64 ≡ last_four (FrameOf w 0)
      = ap (λ (n : ℕ). if 0 + 64 == n then last_four (FrameOf w 0) else Mcrc (take (0 + 64 - 4) (FrameOf w 0))) (frame_size) in
      (PlainEvent.ended (first_end w) ∷ [], [], inl (PlainEvent.ended (first_end w), (64, size, due, ap (λ x. PlainEvent.ended (record { tick = 72; arc = 0; ord = 0; size = 64; check = x })) (sym check)), refl), refl, refl)

  pub one_place : (j : ℕ) (d : Ended) → slice_get (first_end w ∷ []) j ≡ Some d → d.ord ≡ j
  one_place zero d at = let same : first_end w ≡ d = cc at in ap (λ (x : Ended). x.ord) (sym same)
  one_place (suc j) d at = absurd (cc at)

  module _ (spelled : OneSpelled) (none_lost : w.script.losses ≡ []) where
    -- and gives the frame once its mPacket has ended
    pub gives_frame : (h : History) → slice_get (Begins h 0) 0 ≡ Some first_begin → slice_get (Ends h 0) 0 ≡ Some (first_end w)
        → ((j : ℕ) (d : Ended) → slice_get (Ends h 0) j ≡ Some d → d.ord ≡ j) → IsFrameAt w h 0 0 0
    gives_frame h begins ends places =
        whole_arrives spelled w h 0 0 0 first_begin (first_end w) none_lost s.damages begins ends refl places refl refl refl (sym frame_size)
        (sym (ap (λ (n : ℕ). if 0 + 64 == n then last_four (FrameOf w 0) else Mcrc (take (0 + 64 - 4) (FrameOf w 0))) frame_size)) (omega (arith, size_is)) (omega (arith, size_is))

    gives_ended : Gives (Air w ended 0) 0 (Given.frame (FrameOf w 0))
    gives_ended = let is = gives_frame ended refl refl one_place in is.gives

    arrives_now : HappensIn w ended 72 (Phase.arrivals 0) (arrived ∷ delivery w ∷ [])
    unfolding HappensIn
    arrives_now =
        let now : 72 + (arc w 0).delay ≡ 72 = omega (arith, no_delay w (from_one w s) 0) in
        let result : outcome.Frame ≡ (if is_lldp_frame (FrameOf w 0) then outcome.Lldp else outcome.Frame) = ap (λ (b : Bool). if b then outcome.Lldp else outcome.Frame) (sym (user_frame w 0)) in
        let events : arrived ∷ delivery w ∷ [] ≡ arrived ∷ delivered 72 (arc w 0).to.0 0 (FrameOf w 0) None = ap (λ n. arrived ∷ PlainEvent.deliver (record { tick = 72; node = n; frame = 0; octets = FrameOf w 0 }) ∷ []) (sym (far_end w (from_one w s))) in
        let here = ap (λ o. arrived ∷ delivered 72 (arc w 0).to.0 0 (FrameOf w 0) o) (sym (no_next w (from_one w s) 0 0)) in
        (arrived ∷ delivery w ∷ [], [], inl (now, (outcome.Frame, inr (inl (Given.frame (FrameOf w 0), gives_ended, result)), (0, FrameOf w 0, refl, gives_ended, events ∙ here))), refl, refl)

    pub body_legal : LegalUpTo w 50010 (one_frame_body w)
    body_legal =
        let l720 : LegalUpTo w 720 begun
        = idle w (from_one w s) begun 1 72 (omega arith) (λ r from to. quiet_phase w (from_one w s) begun r (omega (arith, from)) begun_whole (λ a. inr (λ p. begun_waits r a p (omega (arith, from)))) (λ a. begun_begins r a (λ e. absurd (omega (arith, e, to)))) (λ a. tt)) first_tick in
        let l721 : LegalUpTo w 721 begun = next w (from_one w s) 720 begun [] 72 Phase.sets refl (quiet_sets w (from_one w s) begun 72) l720 in
        let l722 : LegalUpTo w 722 ended = next w (from_one w s) 721 begun (PlainEvent.ended (first_end w) ∷ []) 72 (Phase.ends 0) refl ends_now l721 in
        let l723 : LegalUpTo w 723 ended = next w (from_one w s) 722 ended [] 72 (Phase.ends 1) refl (quiet_ends w (from_one w s) ended 72 1 tt) l722 in
        let l724 : LegalUpTo w 724 (one_frame_body w) = next w (from_one w s) 723 ended (arrived ∷ delivery w ∷ []) 72 (Phase.arrivals 0) refl arrives_now l723 in
        let l725 : LegalUpTo w 725 (one_frame_body w) = next w (from_one w s) 724 (one_frame_body w) [] 72 (Phase.arrivals 1) refl (quiet_arrivals w (from_one w s) (one_frame_body w) 72 1 tt) l724 in
        let l726 : LegalUpTo w 726 (one_frame_body w) = next w (from_one w s) 725 (one_frame_body w) [] 72 (Phase.expiries 0) refl (quiet_expiries w (from_one w s) (one_frame_body w) 72 0) l725 in
        let l727 : LegalUpTo w 727 (one_frame_body w) = next w (from_one w s) 726 (one_frame_body w) [] 72 (Phase.expiries 1) refl (quiet_expiries w (from_one w s) (one_frame_body w) 72 1) l726 in
        let l728 : LegalUpTo w 728 (one_frame_body w) = next w (from_one w s) 727 (one_frame_body w) [] 72 Phase.entries refl (quiet_entries w (from_one w s) (one_frame_body w) 72 (omega arith)) l727 in
        let l729 : LegalUpTo w 729 (one_frame_body w) = next w (from_one w s) 728 (one_frame_body w) [] 72 (Phase.starts 0) refl (quiet_starts w (from_one w s) (one_frame_body w) 72 0 body_whole (inr (λ p. body_waits 72 0 p (omega arith)))) l728 in
        let l730 : LegalUpTo w 730 (one_frame_body w) = next w (from_one w s) 729 (one_frame_body w) [] 72 (Phase.starts 1) refl (quiet_starts w (from_one w s) (one_frame_body w) 72 1 body_whole (inr (λ p. body_waits 72 1 p (omega arith)))) l729 in
        idle w (from_one w s) (one_frame_body w) 73 5001 (omega arith)
        (λ r from to. quiet_phase w (from_one w s) (one_frame_body w) r (omega (arith, from)) body_whole (λ a. inr (λ p. body_waits r a p (omega (arith, from)))) (λ a. body_begins r a (λ e. absurd (omega (arith, e, from)))) (λ a. body_ends r a (λ e. absurd (omega (arith, e, from))))) l730

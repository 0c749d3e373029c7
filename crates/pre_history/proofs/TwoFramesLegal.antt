-- The history of two frames back to back is legal.
use Rattle.std.proofs.Common.{ℕ, zero, suc, ◌≡◌, ◌+◌, ◌*◌, ◌<◌, nat_le, [], ◌∷◌, ◌++◌, length, refl, sym, ◌∙◌, ap, inr, arith, subst, Some}
use Rattle.std.specs.Prelude.{count_by, slice_get}
use Rattle.pre_script.specs.declared.scripts.SendLine.{SendLine}
use Rattle.pre_mpacket.specs.Arrivals.{Given, Gives}
use Rattle.pre_history.specs.Scenario.{Scenario, FrameOf}
use Rattle.pre_history.specs.Moments.{Phase, moments}
use Rattle.pre_history.specs.History.{PlainEvent, History, Ended}
use Rattle.pre_history.specs.Queries.{Begins, Ends, Arrivals, Waiting}
use Rattle.pre_history.specs.Octets.{Air}
use Rattle.pre_history.specs.Rules.{HappensIn}
use Rattle.pre_history.specs.Legal.{LegalUpTo, last_moment, Legal}
use Rattle.pre_history.specs.Examples.{SendsTwoFrames, frame_begin, frame_end, frame_arrives, frame_delivery, two_frames_body, two_frames}
use Rattle.pre_history.proofs.Arrived.{OneGiven}
use Rattle.pre_history.proofs.Spelled.{OneSpelled}
use Rattle.pre_history.proofs.PairFacts.{two_arcs, no_delay, next, idle}
use Rattle.pre_history.proofs.WholeFrames.{IsFrameAt, OnlyFrames, whole_arrives, no_alias, no_counts_told}
use Rattle.pre_history.proofs.Quiet.{other_arc, quiet_sets, quiet_expiries, quiet_ends, quiet_arrivals, quiet_entries, quiet_starts, quiet_phase}
use Rattle.pre_history.proofs.TwoFrames.{both, begun, ended, between, second, second_ended, at, known, size_of, enters_now, first_starts, second_starts, first_ends, second_ends}
use Rattle.pre_history.proofs.TwoFrames.{check_is, arrives, begun_whole, between_whole, second_whole, body_whole, begun_start, between_start, second_waits, body_waits, one_begin}
use Rattle.pre_history.proofs.TwoFrames.{two_begins, one_end, two_ends}

module _ (spelled : OneSpelled) (w : Scenario) (s : SendsTwoFrames w) where
  -- the mPacket with this ordinal gives its frame
  frame_at : (h : History) (t e i : ℕ) → i < 2 → slice_get (Begins h 0) i ≡ Some (frame_begin t i i) → slice_get (Ends h 0) i ≡ Some (frame_end w e i i)
      → ((j : ℕ) (d : Ended) → slice_get (Ends h 0) j ≡ Some d → d.ord ≡ j) → IsFrameAt w h 0 i i
  frame_at h t e i lt begins ends places =
      let size = (at w s).size i (known w s i lt) in
      whole_arrives spelled w h 0 i i (frame_begin t i i) (frame_end w e i i) s.losses s.damages begins ends refl places refl refl refl (sym (size_of w s i lt)) (check_is w s i lt)
      (omega (arith, size)) (omega (arith, size))

  gives_at : (h : History) (t e i : ℕ) → i < 2 → slice_get (Begins h 0) i ≡ Some (frame_begin t i i) → slice_get (Ends h 0) i ≡ Some (frame_end w e i i)
      → ((j : ℕ) (d : Ended) → slice_get (Ends h 0) j ≡ Some d → d.ord ≡ j) → Gives (Air w h 0) i (Given.frame (FrameOf w i))
  gives_at h t e i lt begins ends places = let is = frame_at h t e i lt begins ends places in is.gives

  one_place : (j : ℕ) (d : Ended) → slice_get (Ends (ended w s) 0) j ≡ Some d → d.ord ≡ j
  one_place zero d here = let same : frame_end w 72 0 0 ≡ d = cc here in ap (λ (x : Ended). x.ord) (sym same)
  one_place (suc j) d here = absurd (cc here)

  two_places : (j : ℕ) (d : Ended) → slice_get (Ends (second_ended w s) 0) j ≡ Some d → d.ord ≡ j
  two_places zero d here = let same : frame_end w 72 0 0 ≡ d = cc here in ap (λ (x : Ended). x.ord) (sym same)
  two_places (suc zero) d here = let same : frame_end w 156 1 1 ≡ d = cc here in ap (λ (x : Ended). x.ord) (sym same)
  two_places (suc (suc j)) d here = absurd (cc here)

  first_arrives : HappensIn w (ended w s) 72 (Phase.arrivals 0) (frame_arrives 72 0 ∷ frame_delivery w 72 0 ∷ [])
  unfolding HappensIn
  first_arrives = (frame_arrives 72 0 ∷ frame_delivery w 72 0 ∷ [], [], arrives w s (ended w s) 72 0 0 refl (gives_at (ended w s) 0 72 0 (omega arith) refl refl one_place) (frame_end w 72 0 0) refl refl, refl, refl)

  second_arrives : HappensIn w (second_ended w s) 156 (Phase.arrivals 0) (frame_arrives 156 1 ∷ frame_delivery w 156 1 ∷ [])
  unfolding HappensIn
  second_arrives = (
    [],
    frame_arrives 156 1 ∷ frame_delivery w 156 1 ∷ [],
    inr ((λ due. omega (arith, due, no_delay w (at w s) 0)), refl),
    (frame_arrives 156 1 ∷ frame_delivery w 156 1 ∷ [], [], arrives w s (second_ended w s) 156 1 1 refl (gives_at (second_ended w s) 84 156 1 (omega arith) refl refl two_places) (frame_end w 156 1 1) refl refl, refl, refl),
    refl,
  )

  begun_elsewhere : (p : ℕ) → Waiting begun 1 p 0 ≡ []
  unfolding Waiting
  begun_elsewhere p = refl

  second_elsewhere : (p : ℕ) → Waiting (second w s) 1 p 84 ≡ []
  unfolding Waiting
  second_elsewhere p = refl

  first_tick : LegalUpTo w 10 begun
  first_tick =
      let l0 : LegalUpTo w 0 [] = refl in
      let l1 : LegalUpTo w 1 [] = next w (at w s) 0 [] [] 0 Phase.sets refl (quiet_sets w (at w s) [] 0) l0 in
      let l2 : LegalUpTo w 2 [] = next w (at w s) 1 [] [] 0 (Phase.ends 0) refl (quiet_ends w (at w s) [] 0 0 tt) l1 in
      let l3 : LegalUpTo w 3 [] = next w (at w s) 2 [] [] 0 (Phase.ends 1) refl (quiet_ends w (at w s) [] 0 1 tt) l2 in
      let l4 : LegalUpTo w 4 [] = next w (at w s) 3 [] [] 0 (Phase.arrivals 0) refl (quiet_arrivals w (at w s) [] 0 0 tt) l3 in
      let l5 : LegalUpTo w 5 [] = next w (at w s) 4 [] [] 0 (Phase.arrivals 1) refl (quiet_arrivals w (at w s) [] 0 1 tt) l4 in
      let l6 : LegalUpTo w 6 [] = next w (at w s) 5 [] [] 0 (Phase.expiries 0) refl (quiet_expiries w (at w s) [] 0 0) l5 in
      let l7 : LegalUpTo w 7 [] = next w (at w s) 6 [] [] 0 (Phase.expiries 1) refl (quiet_expiries w (at w s) [] 0 1) l6 in
      let l8 : LegalUpTo w 8 both = next w (at w s) 7 [] both 0 Phase.entries refl (enters_now w s) l7 in
      let l9 : LegalUpTo w 9 begun = next w (at w s) 8 both (PlainEvent.begin (frame_begin 0 0 0) ∷ []) 0 (Phase.starts 0) refl (first_starts w s) l8 in
      next w (at w s) 9 begun [] 0 (Phase.starts 1) refl (quiet_starts w (at w s) begun 0 1 (begun_whole w s) (inr begun_elsewhere)) l9

  -- up to the end of tick 72
  until_first : LegalUpTo w 730 (between w s)
  until_first =
      let l720 : LegalUpTo w 720 begun
      = idle w (at w s) begun 1 72 (omega arith) (λ r from to. quiet_phase w (at w s) begun r (omega (arith, from)) (begun_whole w s) (λ a. begun_start w s r a (omega (arith, from))) (λ a. one_begin w s begun r a (λ e. absurd (omega (arith, e, to)))) (λ a. tt)) first_tick in
      let l721 : LegalUpTo w 721 begun = next w (at w s) 720 begun [] 72 Phase.sets refl (quiet_sets w (at w s) begun 72) l720 in
      let l722 : LegalUpTo w 722 (ended w s) = next w (at w s) 721 begun (PlainEvent.ended (frame_end w 72 0 0) ∷ []) 72 (Phase.ends 0) refl (first_ends w s) l721 in
      let l723 : LegalUpTo w 723 (ended w s) = next w (at w s) 722 (ended w s) [] 72 (Phase.ends 1) refl (quiet_ends w (at w s) (ended w s) 72 1 tt) l722 in
      let l724 : LegalUpTo w 724 (between w s) = next w (at w s) 723 (ended w s) (frame_arrives 72 0 ∷ frame_delivery w 72 0 ∷ []) 72 (Phase.arrivals 0) refl first_arrives l723 in
      let l725 : LegalUpTo w 725 (between w s) = next w (at w s) 724 (between w s) [] 72 (Phase.arrivals 1) refl (quiet_arrivals w (at w s) (between w s) 72 1 tt) l724 in
      let l726 : LegalUpTo w 726 (between w s) = next w (at w s) 725 (between w s) [] 72 (Phase.expiries 0) refl (quiet_expiries w (at w s) (between w s) 72 0) l725 in
      let l727 : LegalUpTo w 727 (between w s) = next w (at w s) 726 (between w s) [] 72 (Phase.expiries 1) refl (quiet_expiries w (at w s) (between w s) 72 1) l726 in
      let l728 : LegalUpTo w 728 (between w s) = next w (at w s) 727 (between w s) [] 72 Phase.entries refl (quiet_entries w (at w s) (between w s) 72 (omega arith)) l727 in
      let l729 : LegalUpTo w 729 (between w s) = next w (at w s) 728 (between w s) [] 72 (Phase.starts 0) refl (quiet_starts w (at w s) (between w s) 72 0 (between_whole w s) (between_start w s 72 0 (omega arith) (omega arith))) l728 in
      next w (at w s) 729 (between w s) [] 72 (Phase.starts 1) refl (quiet_starts w (at w s) (between w s) 72 1 (between_whole w s) (between_start w s 72 1 (omega arith) (omega arith))) l729

  -- up to the end of tick 84
  until_second : LegalUpTo w 850 (second w s)
  until_second =
      let l840 : LegalUpTo w 840 (between w s)
      = idle w (at w s) (between w s) 73 84 (omega arith) (λ r from to. quiet_phase w (at w s) (between w s) r (omega (arith, from)) (between_whole w s) (λ a. between_start w s r a (omega (arith, from)) (omega (arith, to)))
      (λ a. one_begin w s (between w s) r a (λ e. absurd (omega (arith, e, from)))) (λ a. one_end w s r a (λ e. absurd (omega (arith, e, from))))) until_first in
      let l841 : LegalUpTo w 841 (between w s) = next w (at w s) 840 (between w s) [] 84 Phase.sets refl (quiet_sets w (at w s) (between w s) 84) l840 in
      let l842 : LegalUpTo w 842 (between w s) = next w (at w s) 841 (between w s) [] 84 (Phase.ends 0) refl (quiet_ends w (at w s) (between w s) 84 0 (one_begin w s (between w s) 84 0 (λ e. absurd (omega (arith, e))))) l841 in
      let l843 : LegalUpTo w 843 (between w s) = next w (at w s) 842 (between w s) [] 84 (Phase.ends 1) refl (quiet_ends w (at w s) (between w s) 84 1 tt) l842 in
      let l844 : LegalUpTo w 844 (between w s) = next w (at w s) 843 (between w s) [] 84 (Phase.arrivals 0) refl (quiet_arrivals w (at w s) (between w s) 84 0 (one_end w s 84 0 (λ e. absurd (omega (arith, e))))) l843 in
      let l845 : LegalUpTo w 845 (between w s) = next w (at w s) 844 (between w s) [] 84 (Phase.arrivals 1) refl (quiet_arrivals w (at w s) (between w s) 84 1 tt) l844 in
      let l846 : LegalUpTo w 846 (between w s) = next w (at w s) 845 (between w s) [] 84 (Phase.expiries 0) refl (quiet_expiries w (at w s) (between w s) 84 0) l845 in
      let l847 : LegalUpTo w 847 (between w s) = next w (at w s) 846 (between w s) [] 84 (Phase.expiries 1) refl (quiet_expiries w (at w s) (between w s) 84 1) l846 in
      let l848 : LegalUpTo w 848 (between w s) = next w (at w s) 847 (between w s) [] 84 Phase.entries refl (quiet_entries w (at w s) (between w s) 84 (omega arith)) l847 in
      let l849 : LegalUpTo w 849 (second w s) = next w (at w s) 848 (between w s) (PlainEvent.begin (frame_begin 84 1 1) ∷ []) 84 (Phase.starts 0) refl (second_starts w s) l848 in
      next w (at w s) 849 (second w s) [] 84 (Phase.starts 1) refl (quiet_starts w (at w s) (second w s) 84 1 (second_whole w s) (inr second_elsewhere)) l849

  -- up to the end
  body_legal : LegalUpTo w 10010 (two_frames_body w)
  body_legal =
      let l1560 : LegalUpTo w 1560 (second w s)
      = idle w (at w s) (second w s) 85 156 (omega arith) (λ r from to. quiet_phase w (at w s) (second w s) r (omega (arith, from)) (second_whole w s) (λ a. inr (λ p. second_waits w s r a p (omega (arith, from))))
      (λ a. two_begins w s (second w s) r a (λ e. absurd (omega (arith, e, from))) (λ e. absurd (omega (arith, e, to)))) (λ a. one_end w s r a (λ e. absurd (omega (arith, e, from))))) until_second in
      let l1561 : LegalUpTo w 1561 (second w s) = next w (at w s) 1560 (second w s) [] 156 Phase.sets refl (quiet_sets w (at w s) (second w s) 156) l1560 in
      let l1562 : LegalUpTo w 1562 (second_ended w s) = next w (at w s) 1561 (second w s) (PlainEvent.ended (frame_end w 156 1 1) ∷ []) 156 (Phase.ends 0) refl (second_ends w s) l1561 in
      let l1563 : LegalUpTo w 1563 (second_ended w s) = next w (at w s) 1562 (second_ended w s) [] 156 (Phase.ends 1) refl (quiet_ends w (at w s) (second_ended w s) 156 1 tt) l1562 in
      let l1564 : LegalUpTo w 1564 (two_frames_body w) = next w (at w s) 1563 (second_ended w s) (frame_arrives 156 1 ∷ frame_delivery w 156 1 ∷ []) 156 (Phase.arrivals 0) refl second_arrives l1563 in
      let l1565 : LegalUpTo w 1565 (two_frames_body w) = next w (at w s) 1564 (two_frames_body w) [] 156 (Phase.arrivals 1) refl (quiet_arrivals w (at w s) (two_frames_body w) 156 1 tt) l1564 in
      let l1566 : LegalUpTo w 1566 (two_frames_body w) = next w (at w s) 1565 (two_frames_body w) [] 156 (Phase.expiries 0) refl (quiet_expiries w (at w s) (two_frames_body w) 156 0) l1565 in
      let l1567 : LegalUpTo w 1567 (two_frames_body w) = next w (at w s) 1566 (two_frames_body w) [] 156 (Phase.expiries 1) refl (quiet_expiries w (at w s) (two_frames_body w) 156 1) l1566 in
      let l1568 : LegalUpTo w 1568 (two_frames_body w) = next w (at w s) 1567 (two_frames_body w) [] 156 Phase.entries refl (quiet_entries w (at w s) (two_frames_body w) 156 (omega arith)) l1567 in
      let l1569 : LegalUpTo w 1569 (two_frames_body w) = next w (at w s) 1568 (two_frames_body w) [] 156 (Phase.starts 0) refl (quiet_starts w (at w s) (two_frames_body w) 156 0 (body_whole w s) (inr (λ p. body_waits w s 156 0 p (omega arith)))) l1568 in
      let l1570 : LegalUpTo w 1570 (two_frames_body w) = next w (at w s) 1569 (two_frames_body w) [] 156 (Phase.starts 1) refl (quiet_starts w (at w s) (two_frames_body w) 156 1 (body_whole w s) (inr (λ p. body_waits w s 156 1 p (omega arith)))) l1569 in
      idle w (at w s) (two_frames_body w) 157 1001 (omega arith) (λ r from to. quiet_phase w (at w s) (two_frames_body w) r (omega (arith, from)) (body_whole w s) (λ a. inr (λ p. body_waits w s r a p (omega (arith, from))))
      (λ a. two_begins w s (two_frames_body w) r a (λ e. absurd (omega (arith, e, from))) (λ e. absurd (omega (arith, e, from)))) (λ a. two_ends w s r a (λ e. absurd (omega (arith, e, from))) (λ e. absurd (omega (arith, e, from))))) l1570

  no_arrivals : (a : ℕ) → Arrivals (two_frames_body w) (suc a) ≡ []
  no_arrivals a = rw (other_arc a) refl

  only : OnlyFrames w (two_frames_body w)
  only zero zero lt = (0, frame_at (two_frames_body w) 0 72 0 (omega arith) refl refl two_places)
  only zero (suc zero) lt = (1, frame_at (two_frames_body w) 84 156 1 (omega arith) refl refl two_places)
  only zero (suc (suc i)) lt = absurd (omega (arith, lt))
  only (suc a) i lt = let none = ap length (no_arrivals a) in absurd (omega (arith, lt, none))

  module _ (one : OneGiven) where
    pub two_frames_legal : Legal w (two_frames w)
    two_frames_legal =
        let until = s.until in
        let sent : count_by (λ (x : SendLine). nat_le x.send.tick.0 w.script.until.0) w.script.sends ≡ 2
        = ap (λ (n : ℕ). count_by (λ (x : SendLine). nat_le x.send.tick.0 n) w.script.sends) until ∙ ap (count_by (λ (x : SendLine). nat_le x.send.tick.0 1000)) s.sends in
        let end_at : last_moment w ≡ 10010 = ap (λ (n : ℕ). (n + 1) * moments (length w.net.arcs)) until ∙ ap (λ (n : ℕ). 1001 * moments n) (two_arcs w (at w s)) in (
          two_frames_body w,
          [],
          (subst (λ n. LegalUpTo w n (two_frames_body w)) (sym end_at) body_legal, no_alias w (two_frames_body w) only one),
          no_counts_told w (two_frames_body w) only (body_whole w s) (length w.net.arcs),
          λ i. two_frames_body w ++ PlainEvent.end (record { until = sym until i; sent = sym sent i; delivered = 2; dropped = 0 }) ∷ [],
        )

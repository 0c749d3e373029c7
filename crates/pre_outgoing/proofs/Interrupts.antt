-- What a sender keeps, and how many frames it began in fragments, are what a history says.
use Rattle.std.proofs.Common.{ℕ, ◌≡◌, ◌≢◌, ◌&&◌, ◌+◌, ◌*◌, ◌%◌, ◌<◌, ◌≤◌, nat_lt, Bool, true, List, []}
use Rattle.std.proofs.Common.{◌∷◌, ◌++◌, length, sym, ◌∙◌, ap, inl, inr, arith, subst, Option, Some, None, map, filter}
use Rattle.std.specs.Prelude.{if◌then◌else◌, slice_get, MatchOption, count_by}
use Rattle.std.specs.List.{AllByRecursion as Every}
use Rattle.std.proofs.lemmas.List.{length-append, length-take-le}
use Rattle.std.proofs.lemmas.List.Sums.{sum_by-append}
use Rattle.std.proofs.lemmas.Bool.Decides.{nat_tests}
use Rattle.pre_mpacket.specs.declared.packets.Kind.{Kind}
use Rattle.pre_mpacket.specs.declared.packets.Kind.TheVariants as kind
use Rattle.pre_mpacket.specs.Arrivals.{is_start}
use Rattle.pre_send.specs.Calls.{Chosen, express, whole, first, rest, verify, respond, lldp}
use Rattle.pre_send.specs.Sendings.{Sending, Part, interrupted, is_first, firsts, Follows, AreSent, IsFree}
use Rattle.pre_history.specs.Scenario.{Scenario, arc, FrameOf}
use Rattle.pre_history.specs.History.{History, Begin, Ended}
use Rattle.pre_history.specs.Selected.{frame_number, frame_count}
use Rattle.pre_history.specs.Queries.{Packet, Rest, packet, Packets, Begins, Ends, LastRun, joined_data, last_check, rest_of, Interrupted}
use Rattle.pre_history.specs.Ordered.{IsOrdered, HaveChecks}
use Rattle.pre_history.proofs.Lists.{at_front, at_last, every_at, every_filter}
use Rattle.pre_outgoing.specs.Matching.{Agree}
use Rattle.pre_outgoing.proofs.Readings.{rest_as, LeavesOver}
use Rattle.pre_outgoing.proofs.Pairs.{pairs, every_passes, every_last}
use Rattle.pre_outgoing.proofs.Runs.{starts, fragments, run_of, RunAfter, run_after}
use Rattle.pre_outgoing.proofs.Gaps.{all_ended, all_over, made, each_packet}

same_rest : (r s : Rest) → r.frame ≡ s.frame → r.from ≡ s.from → r.frame_count ≡ s.frame_count → r.fragment_count ≡ s.fragment_count → r ≡ s
same_rest r s a b c d =
    ap (λ (x : ℕ). record r { frame = x }) a
    ∙ (ap (λ (x : ℕ). record r { frame = s.frame; from = x }) b
    ∙ (ap (λ (x : ℕ). record r { frame = s.frame; from = s.from; frame_count = x }) c
    ∙ ap (λ (x : ℕ). record r { frame = s.frame; from = s.from; frame_count = s.frame_count; fragment_count = x }) d))

module _ (w : Scenario) (h : History) (a t : ℕ) where
  abbrev EndedBy : Packet → Type 0
  EndedBy x = MatchOption x.ended ⊥ (λ e. e.tick ≤ t)

  -- by the run
  by_run : (o : Option Part) (began : ℕ) (run : List Packet) → LastRun h a t ≡ run → Every EndedBy run → RunAfter w h o began run → LeavesOver w h a t o began
  by_run None began run is all (inl none) = λ r i. absurd (cc (i.2, is, none))
  by_run None began run is all (inr frame) = λ r i.
      let same : i.0 ∷ i.1 ≡ run = sym i.2 ∙ is in
      let one : frame.start ≡ i.0 = cc (same, frame.run_is) in
      i.4 (ap (λ xs. joined_data w h xs ++ last_check w h xs) same ∙ (frame.all ∙ ap (λ (x : Packet). FrameOf w (frame_number x.begin.what)) one))
  by_run (Some x) began run is all run_is = λ r. (to r, back r)
    where
      within : x.place ≤ length (FrameOf w x.frame.frame.0)
      within = omega (arith, run_is.left, run_is.sized)

      placed : length (joined_data w h (run_is.start ∷ run_is.more)) ≡ x.place
      placed = ap (λ xs. length (joined_data w h xs)) (sym run_is.run_is) ∙ (ap length run_is.joins ∙ (ap length run_is.same ∙ length-take-le x.place (FrameOf w x.frame.frame.0) within))

      rest_is : rest_of w h run_is.start run_is.more ≡ rest_as began x
      rest_is = same_rest (rest_of w h run_is.start run_is.more) (rest_as began x) (ap frame_number run_is.carries) placed (ap frame_count run_is.kind) (ap (λ n. n % 4) run_is.count)

      to : (r : Rest) → Interrupted w h a t r → r ≡ rest_as began x
      to r (start, more, here, ended, other, left) =
          let same : start ∷ more ≡ run_is.start ∷ run_is.more = sym here ∙ (is ∙ run_is.run_is) in
          let one : start ≡ run_is.start = cc same in
          let others : more ≡ run_is.more = cc same in
          left ∙ (ap (λ s. rest_of w h s more) one ∙ (ap (λ m. rest_of w h run_is.start m) others ∙ rest_is))

      unlike : joined_data w h (run_is.start ∷ run_is.more) ++ last_check w h (run_is.start ∷ run_is.more) ≢ FrameOf w (frame_number run_is.start.begin.what)
      unlike same =
          let check : length (last_check w h (run_is.start ∷ run_is.more)) ≡ 4 = ap (λ xs. length (last_check w h xs)) (sym run_is.run_is) ∙ run_is.check in
          let size : length (FrameOf w (frame_number run_is.start.begin.what)) ≡ x.frame.size = ap (λ c. length (FrameOf w (frame_number c))) run_is.carries ∙ sym run_is.sized in
          omega (arith, ap length same, length-append (joined_data w h (run_is.start ∷ run_is.more)) (last_check w h (run_is.start ∷ run_is.more)), placed, check, size, run_is.left)

      back : (r : Rest) → r ≡ rest_as began x → Interrupted w h a t r
      back r same = (
        run_is.start,
        run_is.more,
        is ∙ run_is.run_is,
        subst (Every EndedBy) run_is.run_is all,
        unlike,
        same ∙ sym rest_is,
      )

  module _ (cost add_frag : ℕ) (ordered : IsOrdered w h a) (checks : HaveChecks w h a) (early : (i : ℕ) (b : Begin) → slice_get (Begins h a) i ≡ Some b → b.tick < t)
      (packets : List Sending) (sent : AreSent cost add_frag packets) (agree : Agree w packets (Begins h a) (Ends h a)) (free : IsFree (arc w a).cost (map (λ p. p.told) packets) t) where
    ps : List Packet
    ps = map (packet h a) (Begins h a)

    all : length (Ends h a) ≡ length (Begins h a)
    all = all_ended w (arc w a).cost t packets (Begins h a) (Ends h a) agree free

    begun_before : filter (λ (x : Packet). nat_lt x.begin.tick t) ps ≡ ps
    unfolding ps
    begun_before = every_passes (λ (x : Packet). nat_lt x.begin.tick t) ps
        (each_packet w h a t ordered (λ (x : Packet). nat_lt x.begin.tick t ≡ true) all (λ i b e at_b at_e. yes b.tick (early i b at_b)))
      where
        yes : (m : ℕ) → m < t → nat_lt m t ≡ true
        yes m lt = grind (arith, nat_tests)

    last_run : LastRun h a t ≡ run_of ps
    unfolding ps Packets
    last_run = ap run_of begun_before

    over : Every EndedBy (run_of ps)
    unfolding ps
    over =
        every_last EndedBy starts (filter fragments ps) (every_filter EndedBy fragments ps (each_packet w h a t ordered EndedBy all (λ i b e at_b at_e.
        let gone : e.tick + 12 * (arc w a).cost ≤ t = every_at (λ (e : Ended). e.tick + 12 * (arc w a).cost ≤ t) (Ends h a) i e
        (all_over w (arc w a).cost t packets (Begins h a) (Ends h a) agree free) at_e in
        omega (arith, gone))))

    pub leaves_over : LeavesOver w h a t (interrupted packets) (firsts packets)
    unfolding ps
    leaves_over =
        by_run (interrupted packets) (firsts packets) (run_of ps) last_run over
        (run_after w h cost add_frag packets ps sent (pairs w h a (packet h a) (made w h a t ordered) checks packets (Begins h a) (Ends h a) agree all (λ i b at. at) (λ i e at. at)))

-- ---- first fragments

abbrev early_start : ℕ → Begin → Bool
early_start t b = is_start b.kind && nat_lt b.tick t

abbrev as_one : Bool → ℕ
as_one b = if b then 1 else 0

pub counts : (w : Scenario) (cost add_frag t : ℕ) (packets : List Sending) (bs : List Begin) (es : List Ended) → Agree w packets bs es → AreSent cost add_frag packets
    → ((i : ℕ) (b : Begin) → slice_get bs i ≡ Some b → b.tick < t) → count_by (early_start t) bs ≡ firsts packets
counts w cost add_frag t [] bs es (none, none_ended) sent early = ap (count_by (early_start t)) none
counts w cost add_frag t (p ∷ older) bs es (front, b, before, bs_is, ends, same_length, fits, others) (follows, sent) early =
    let those : count_by (early_start t) front ≡ firsts older =
    counts w cost add_frag t older front before others sent (λ i c at. early i c (ap (λ xs. slice_get xs i) bs_is ∙ at_front front (b ∷ []) i c at)) in
    let this = one p.told.chosen follows in
    ap (count_by (early_start t)) bs_is ∙ (sum_by-append (λ (b : Begin). as_one (early_start t b)) front (b ∷ []) ∙ omega (arith, those, this))
  where
    now : nat_lt b.tick t ≡ true
    now = let lt : b.tick < t = early (length front) b (ap (λ xs. slice_get xs (length front)) bs_is ∙ at_last front b) in grind (arith, nat_tests)

    by_kind : (k : Kind) → p.kind ≡ k → as_one (early_start t b) ≡ as_one (is_start k && nat_lt b.tick t)
    by_kind k is = ap (λ x. as_one (is_start x && nat_lt b.tick t)) (sym fits.kind ∙ is)

    one : (ch : Chosen) → Follows cost add_frag ch older p → as_one (early_start t b) ≡ is_first ch
    one (express f) h = by_kind kind.Express h.0
    one (whole f) h = by_kind kind.Express h.0
    one verify h = by_kind kind.Verify h.0
    one respond h = by_kind kind.Respond h.0
    one lldp h = by_kind kind.Express h.0
    one (first f) h = by_kind (kind.Start (firsts older % 4)) h.0 ∙ ap as_one now
    one rest (x, is_x, kind_is, from, cut) = by_kind (kind.Continue ((firsts older + 3) % 4) (x.continuations % 4)) kind_is

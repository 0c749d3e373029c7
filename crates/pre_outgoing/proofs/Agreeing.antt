-- The laws, for the calls of a sender that match a legal history.
use Rattle.std.proofs.Common.{arith, ℕ, ◌≡◌, ◌+◌, ◌*◌, ◌<◌, Bool, true, false, List, [], ◌∷◌, ◌++◌, length, sym, ◌∙◌, ap, subst, Option, Some, None, map}
use Rattle.std.specs.Prelude.{slice_get, ◌↔◌}
use Rattle.pre_lldp.proofs.ReadBack.{sent-length}
use Rattle.pre_send.specs.Calls.{Call, told_by}
use Rattle.pre_send.specs.Sendings.{Sending, interrupted, firsts, IsSending, IsFree}
use Rattle.pre_send.specs.Frames.{frame_by}
use Rattle.pre_send.specs.Packets.{packet_after}
use Rattle.pre_send.proofs.OneSending.{one_list}
use Rattle.pre_history.specs.declared.events.What.TheVariants as what
use Rattle.pre_history.specs.Scenario.{Scenario, arc}
use Rattle.pre_history.specs.Moments.{moments}
use Rattle.pre_history.specs.History.{History, Begin}
use Rattle.pre_history.specs.Queries.{packet, Begins, Ends, Occupied}
use Rattle.pre_history.specs.Octets.{WholeOf, whole_of, AdvertAt}
use Rattle.pre_history.specs.Starts.{SizeOf, starts_before}
use Rattle.pre_history.specs.Rules.{CheckOf}
use Rattle.pre_history.specs.Legal.{LegalUpTo}
use Rattle.pre_history.specs.Placed.{number}
use Rattle.pre_history.proofs.Lists.{at_front, at_last, one_at, every_at}
use Rattle.pre_history.proofs.Placing.{placed, begins_arc}
use Rattle.pre_history.proofs.Turns.{tick_lt}
use Rattle.pre_history.proofs.Free.{begins_before}
use Rattle.pre_history.proofs.Steady.{costs}
use Rattle.pre_history.proofs.InOrder.{steady}
use Rattle.pre_outgoing.specs.Matching.{IsStored, Fits, EndsFit, Agree, IsKnown, WaitsAgree, Matches}
use Rattle.pre_outgoing.proofs.Readings.{LeavesOver, IsPlanned, OtherIs}
use Rattle.pre_outgoing.proofs.Pairs.{pairs}
use Rattle.pre_outgoing.proofs.Runs.{IsRun, RunAfter, run_of, run_after}
use Rattle.pre_outgoing.proofs.Gaps.{made, not_occupied, is_free}
use Rattle.pre_outgoing.proofs.Interrupts.{leaves_over, counts}
use Rattle.pre_outgoing.proofs.Sizes.{planned}
use Rattle.pre_outgoing.proofs.Checks.{right_check}

-- the packets of the relation are those of the calls
pub same_packets : (w : Scenario) (h : History) (a now : ℕ) (settled : Bool) (calls : List Call) (packets : List Sending) (m : Matches w h a now settled calls)
    → IsSending (arc w a).cost (arc w a).add_frag calls packets → m.packets ≡ packets
same_packets w h a now settled calls packets m sending =
    one_list (arc w a).cost (arc w a).add_frag m.packets packets (sym m.sending.told ∙ sending.told) m.sending.sent sending.sent

-- when an arc's starts come, each mPacket began earlier
pub begun_early : (w : Scenario) (past : History) (t a : ℕ) → LegalUpTo w (number (length w.net.arcs) t (2 + 3 * length w.net.arcs + a)) past
    → (i : ℕ) (b : Begin) → slice_get (Begins past a) i ≡ Some b → b.tick < t
begun_early w past t a legal i b here =
    let n = number (length w.net.arcs) t (2 + 3 * length w.net.arcs + a) in
    let y = every_at (λ (b : Begin). (b.arc ≡ a) × (number (length w.net.arcs) b.tick (2 + 3 * length w.net.arcs + a) < n)) (Begins past a) i b
    (begins_before (length w.net.arcs) n a past (placed w n past legal)) here in
    tick_lt (moments (length w.net.arcs)) b.tick t (2 + 3 * length w.net.arcs + a) y.1

module _ (w : Scenario) (past : History) (t a now : ℕ) (settled : Bool) (calls : List Call) (a_lt : a < length w.net.arcs)
    (legal : LegalUpTo w (number (length w.net.arcs) t (2 + 3 * length w.net.arcs + a)) past) (m : Matches w past a now settled calls) where
  pub gaps : IsFree (arc w a).cost (told_by calls) t ↔ (¬ Occupied w past a t)
  gaps =
      let s = steady w (number (length w.net.arcs) t (2 + 3 * length w.net.arcs + a)) past a a_lt legal in (
        λ free. not_occupied w past a t s.ordered m.packets m.agree (subst (λ l. IsFree (arc w a).cost l t) m.sending.told free),
        λ free. subst (λ l. IsFree (arc w a).cost l t) (sym m.sending.told) (is_free w past a t s.ordered m.packets m.agree (begun_early w past t a legal) free),
      )

  module _ (packets : List Sending) (sending : IsSending (arc w a).cost (arc w a).add_frag calls packets) where
    agree : Agree w packets (Begins past a) (Ends past a)
    agree = subst (λ ps. Agree w ps (Begins past a) (Ends past a)) (same_packets w past a now settled calls packets m sending) m.agree

    pub interrupts : IsFree (arc w a).cost (told_by calls) t → LeavesOver w past a t (interrupted packets) (firsts packets)
    interrupts free =
        let s = steady w (number (length w.net.arcs) t (2 + 3 * length w.net.arcs + a)) past a a_lt legal in
        leaves_over w past a t (arc w a).cost (arc w a).add_frag s.ordered s.checks (begun_early w past t a legal) packets sending.sent agree (subst (λ l. IsFree (arc w a).cost l t) sending.told free)

    pub started : starts_before w past a t ≡ firsts packets
    started = counts w (arc w a).cost (arc w a).add_frag t packets (Begins past a) (Ends past a) agree sending.sent (begun_early w past t a legal)

-- ---- the mPacket under way

module _ (w : Scenario) (past : History) (n a now : ℕ) (settled : Bool) (calls : List Call) (p : Sending) (older : List Sending) (b : Begin) (a_lt : a < length w.net.arcs)
    (legal : LegalUpTo w n past) (m : Matches w past a now settled calls) (sending : IsSending (arc w a).cost (arc w a).add_frag calls (p ∷ older)) (under_way : p.told.end ≡ None)
    (here : slice_get (Begins past a) (length (Ends past a)) ≡ Some b) where
  same : m.packets ≡ p ∷ older
  same = same_packets w past a now settled calls (p ∷ older) m sending

  -- its events, and those before
  pub newest : (front : List Begin) × (Begins past a ≡ front ++ b ∷ []) × (length (Ends past a) ≡ length front) × Fits w p older b × Agree w older front (Ends past a)
  newest = go (subst (λ ps. Agree w ps (Begins past a) (Ends past a)) same m.agree)
    where
      go : Agree w (p ∷ older) (Begins past a) (Ends past a)
          → (front : List Begin) × (Begins past a ≡ front ++ b ∷ []) × (length (Ends past a) ≡ length front) × Fits w p older b × Agree w older front (Ends past a)
      go (front, c, before, bs_is, ends, same_length, fits, others) =
          let ends_are : Ends past a ≡ before = subst (λ o. EndsFit w p older o before (Ends past a)) under_way ends in
          let count : length (Ends past a) ≡ length front = ap length ends_are ∙ same_length in
          let at : slice_get (Begins past a) (length (Ends past a)) ≡ Some c = ap (slice_get (Begins past a)) count ∙ (ap (λ xs. slice_get xs (length front)) bs_is ∙ at_last front c) in
          let one : c ≡ b = one_at (Begins past a) (length (Ends past a)) c b at here in
          (front, bs_is ∙ ap (λ x. front ++ x ∷ []) one, count, subst (Fits w p older) one fits, subst (Agree w older front) (sym ends_are) others)

  on : b.arc ≡ a
  on = every_at (λ (b : Begin). b.arc ≡ a) (Begins past a) (length (Ends past a)) b (begins_arc past a) here

  pub lldp_length : b.what ≡ what.Lldp → length (WholeOf w past b) ≡ 64
  lldp_length is = ap (λ x. length (whole_of w past b x)) is ∙ sent-length (arc w b.arc).from.0 b.arc (AdvertAt w past b.arc b.tick) (subst (λ n. n < 65536) (sym on) few)
    where
      few : a < 65536
      few = omega (arith, a_lt, w.net.rules.arc_count.1)

  pub sizes : (size : ℕ) → (SizeOf w past b.kind b size × (b.tick + (arc w b.arc).cost * (size + 8) ≡ now)) ↔ IsPlanned (arc w a).cost p now size
  sizes size =
      let f = newest in
      let waits = subst (λ ps. WaitsAgree w past a now settled ps) same m.waits in
      planned w past a now p older b f.3 on (costs w a a_lt) sending.sent.0 lldp_length (λ part u lt lt'. (waits under_way part).1 u lt (known settled u lt')) size
    where
      known : (b : Bool) (u : ℕ) → u < now → IsKnown b now u
      known true u lt = tt
      known false u lt = lt

  pub checks : (store : List (Option (List ℕ))) (other : List ℕ) → IsStored w (frame_by p.told.chosen (interrupted older)) store → OtherIs p.told.chosen other (WholeOf w past b)
      → (packet_after older p store other).check ≡ CheckOf w past b p.size
  checks store other stored others =
      let f = newest in
      let s = steady w n past a a_lt legal in
      let run = run_after w past (arc w a).cost (arc w a).add_frag older (map (packet past a) f.0) sending.sent.1
      (pairs w past a (packet past a) (made w past a now s.ordered) s.checks older f.0 (Ends past a) f.4 f.2 (λ i c at. ap (λ xs. slice_get xs i) f.1 ∙ at_front f.0 (b ∷ []) i c at) (λ i e at. at)) in
      right_check w past p older b f.3 (arc w a).cost (arc w a).add_frag store other stored others lldp_length
      (λ y is. let r : IsRun w past y (firsts older) (run_of (map (packet past a) f.0)) = subst (λ o. RunAfter w past o (firsts older) (run_of (map (packet past a) f.0))) is run in
      (r.same, r.left)) sending.sent.0

-- What happens when an arc's ends come is what its sender plans; and it keeps a frame exactly where one is interrupted.
use Rattle.std.proofs.Common.{ℕ, ◌≡◌, ◌≢◌, ◌+◌, ◌*◌, ◌<◌, Bool, true, List, [], ◌∷◌, length, refl, sym, ◌∙◌, ap, inl, inr, arith, subst, Option, Some, None}
use Rattle.std.specs.Prelude.{slice_get, ◌↔◌, is_some}
use Rattle.std.proofs.lemmas.List.{length-append}
use Rattle.pre_base.specs.declared.numbers.Tick.{Tick}
use Rattle.pre_send.specs.Calls.{Call}
use Rattle.pre_send.specs.Sendings.{Sending, Part, interrupted, firsts, IsSending, IsFree}
use Rattle.pre_send.specs.Answers.{EndsAt, PlannedEnd}
use Rattle.pre_send.specs.Frames.{frame_by}
use Rattle.pre_send.specs.Packets.{packet_after}
use Rattle.pre_send.specs.declared.pieces.Piece.{Piece}
use Rattle.pre_send.specs.declared.going.Going.{Going}
use Rattle.pre_send.specs.declared.senders.Sender.{Sender}
use Rattle.pre_send.specs.Senders.{Keeps, IsAt, Stands, is_free_with, is_free, is_interrupted}
use Rattle.pre_send.proofs.Standing.{free_is}
use Rattle.pre_history.specs.Scenario.{Scenario, arc}
use Rattle.pre_history.specs.Moments.{Phase}
use Rattle.pre_history.specs.History.{PlainEvent, History, Begin}
use Rattle.pre_history.specs.Queries.{Rest, Begins, Ends, Interrupted}
use Rattle.pre_history.specs.Octets.{WholeOf}
use Rattle.pre_history.specs.Rules.{CheckOf, HappensIn}
use Rattle.pre_history.specs.Legal.{LegalUpTo}
use Rattle.pre_history.specs.Placed.{number}
use Rattle.pre_history.proofs.Lists.{at_last, every_at}
use Rattle.pre_history.proofs.Placing.{begins_arc}
use Rattle.pre_history.proofs.InOrder.{steady}
use Rattle.pre_history.proofs.Making.{ends_one, ends_none}
use Rattle.pre_outgoing.specs.Matching.{IsStored, EndsFit, Agree, Matches}
use Rattle.pre_outgoing.proofs.Readings.{LeavesOver, rest_as, OtherIs}
use Rattle.pre_outgoing.proofs.Agreeing.{same_packets, sizes, checks, interrupts}

module _ (w : Scenario) (past : History) (t a : ℕ) (settled : Bool) (calls : List Call) (a_lt : a < length w.net.arcs)
    (legal : LegalUpTo w (number (length w.net.arcs) t (1 + a)) past) (m : Matches w past a t settled calls) where
  pub ends_due : (p : Sending) (older : List Sending) (b : Begin) (store : List (Option (List ℕ))) (other : List ℕ) → IsSending (arc w a).cost (arc w a).add_frag calls (p ∷ older)
      → PlannedEnd (arc w a).cost (p ∷ older) (Some (record { 0 = t })) → slice_get (Begins past a) (length (Ends past a)) ≡ Some b
      → IsStored w (frame_by p.told.chosen (interrupted older)) store → OtherIs p.told.chosen other (WholeOf w past b)
      → HappensIn w past t (Phase.ends a) (PlainEvent.ended (record { tick = t; arc = a; ord = length (Ends past a); size = p.size; check = (packet_after older p store other).check }) ∷ [])
  ends_due p older b store other sending (under_way, tick) here stored others =
      let n = number (length w.net.arcs) t (1 + a) in
      let due = (sizes w past n a t settled calls p older b a_lt legal m sending under_way here p.size).1 (refl, sym tick) in
      let check = checks w past n a t settled calls p older b a_lt legal m sending under_way here store other stored others in
      let on : b.arc ≡ a = every_at (λ (b : Begin). b.arc ≡ a) (Begins past a) (length (Ends past a)) b (begins_arc past a) here in
      let ord : b.ord ≡ length (Ends past a) = (steady w n past a a_lt legal).ordered.begin_places (length (Ends past a)) b here in
      let e : PlainEvent = PlainEvent.ended (record { tick = t; arc = a; ord = length (Ends past a); size = p.size; check = (packet_after older p store other).check }) in
      let is : e ≡ PlainEvent.ended (record { tick = t; arc = b.arc; ord = b.ord; size = p.size; check = CheckOf w past b p.size })
      = ap (λ x. PlainEvent.ended (record { tick = t; arc = x; ord = length (Ends past a); size = p.size; check = (packet_after older p store other).check })) (sym on)
      ∙ (ap (λ x. PlainEvent.ended (record { tick = t; arc = b.arc; ord = x; size = p.size; check = (packet_after older p store other).check })) (sym ord)
      ∙ ap (λ x. PlainEvent.ended (record { tick = t; arc = b.arc; ord = b.ord; size = p.size; check = x })) check) in
      ends_one w past t a a_lt legal (e ∷ []) b here (inl (e, (p.size, due.0, due.1, is), refl))

  pub nothing_ends : (planned : Option Tick) → EndsAt (arc w a).cost (arc w a).add_frag calls planned → planned ≢ Some (record { 0 = t }) → HappensIn w past t (Phase.ends a) []
  nothing_ends planned (packets, sending, plan) other =
      go packets sending (subst (λ ps. Agree w ps (Begins past a) (Ends past a)) (same_packets w past a t settled calls packets m sending) m.agree) planned plan other
    where
      go : (packets : List Sending) → IsSending (arc w a).cost (arc w a).add_frag calls packets → Agree w packets (Begins past a) (Ends past a) → (planned : Option Tick)
          → PlannedEnd (arc w a).cost packets planned → planned ≢ Some (record { 0 = t }) → HappensIn w past t (Phase.ends a) []
      go [] sending agree None plan other = ends_none w past t a a_lt legal (omega (arith, ap length agree.0))
      go [] sending agree (Some u) plan other = absurd plan
      go (p ∷ older) sending (front, b, before, bs_is, ends, same_length, fits, others) None (end, is) other =
          let fit : EndsFit w p older (Some end) before (Ends past a) = subst (λ o. EndsFit w p older o before (Ends past a)) is ends in
          ends_none w past t a a_lt legal (omega (arith, ap length bs_is, length-append front (b ∷ []), ap length fit.1, length-append before (fit.0 ∷ []), same_length))
      go (p ∷ older) sending (front, b, before, bs_is, ends, same_length, fits, others) (Some u) (under_way, tick) other =
          let ends_are : Ends past a ≡ before = subst (λ o. EndsFit w p older o before (Ends past a)) under_way ends in
          let here : slice_get (Begins past a) (length (Ends past a)) ≡ Some b
          = ap (slice_get (Begins past a)) (ap length ends_are ∙ same_length) ∙ (ap (λ xs. slice_get xs (length front)) bs_is ∙ at_last front b) in
          ends_one w past t a a_lt legal [] b here (inr (
            (λ e due.
                let plan = (sizes w past (number (length w.net.arcs) t (1 + a)) a t settled calls p older b a_lt legal m sending under_way here due.0).0 (due.1, due.2) in
                other (ap (λ n. Some (record { 0 = n })) (tick ∙ plan.1))),
            refl,
          ))

-- ---- what a free sender keeps

is_some_is : (o : Option Piece) (x : Option Part) (n : ℕ) → Keeps o x n → is_some o ≡ is_some x
is_some_is None None n keeps = refl
is_some_is None (Some x) n keeps = absurd keeps
is_some_is (Some p) None n keeps = absurd keeps
is_some_is (Some p) (Some x) n keeps = refl

kept_is : (cost t : ℕ) (going : Option Going) (kept : Option Piece) (last : Option ℕ) (packets : List Sending) → IsAt cost going kept last packets
    → is_free_with going cost last t ≡ true → is_some kept ≡ is_some (interrupted packets)
kept_is cost t None kept last [] at free = ap is_some at.0
kept_is cost t None kept last (p ∷ older) (end, is, last_is, keeps, more, before) free = is_some_is kept (interrupted (p ∷ older)) _ keeps
kept_is cost t (Some g) kept last packets at free = absurd (cc free)

module _ (w : Scenario) (past : History) (t a now : ℕ) (settled : Bool) (calls : List Call) (s : Sender) (a_lt : a < length w.net.arcs) where
  by_part : (o : Option Part) (n : ℕ) → LeavesOver w past a t o n → (is_some o ≡ true) ↔ ((r : Rest) × Interrupted w past a t r)
  by_part None n none = (λ e. absurd (cc e), λ i. absurd (none i.0 i.1))
  by_part (Some x) n some = (λ e. (rest_as n x, (some (rest_as n x)).1 refl), λ i. refl)

  pub rests : LegalUpTo w (number (length w.net.arcs) t (2 + 3 * length w.net.arcs + a)) past → Matches w past a now settled calls → Stands s (arc w a).cost (arc w a).add_frag calls
      → is_free s t ≡ true → (is_interrupted s ≡ true) ↔ ((r : Rest) × Interrupted w past a t r)
  unfolding is_free is_interrupted
  rests legal m stands free =
      let cost = (arc w a).cost in
      let free' : is_free_with s.going cost s.last t ≡ true = ap (λ c. is_free_with s.going c s.last t) (sym stands.cost_is) ∙ free in
      let told = (free_is cost s.going s.kept s.last stands.packets t stands.place).0 free' in
      let leaves = interrupts w past t a now settled calls a_lt legal m stands.packets stands.sending (subst (λ l. IsFree cost l t) (sym stands.sending.told) told) in
      let k = by_part (interrupted stands.packets) (firsts stands.packets) leaves in
      let same = kept_is cost t s.going s.kept s.last stands.packets stands.place free' in
      (λ e. k.0 (sym same ∙ e), λ i. same ∙ k.1 i)

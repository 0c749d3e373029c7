-- What a sender's fields tell, where it stands for calls.
use Rattle.std.proofs.Common.{ℕ, ◌≡◌, ◌+◌, ◌*◌, true, List, [], ◌∷◌, ◌++◌, length, refl, sym, ◌∙◌, ap, inl, inr, subst, Option, Some, None, map}
use Rattle.std.specs.Prelude.{◌↔◌, option_map, replicate, IsSome}
use Rattle.pre_base.specs.declared.numbers.Tick.{Tick}
use Rattle.pre_base.specs.declared.numbers.FrameNo.{FrameNo}
use Rattle.pre_rings.specs.declared.slots.FrameRef.{FrameRef}
use Rattle.pre_send.specs.declared.pieces.Piece.{Piece}
use Rattle.pre_send.specs.declared.going.Task.{Task}
use Rattle.pre_send.specs.declared.going.Task.TheVariants as task
use Rattle.pre_send.specs.declared.going.Going.{Going}
use Rattle.pre_send.specs.declared.senders.Sender.{Sender}
use Rattle.pre_send.specs.Calls.{Call, Chosen, express, whole, first, rest, verify, respond, lldp, End, told_by}
use Rattle.pre_send.specs.Sendings.{Sending, Part, interrupted, Follows, HasGap, AreSent, IsSending, IsFree}
use Rattle.pre_send.specs.Answers.{EndsAt, PlannedEnd, IsInterrupted, kept_part}
use Rattle.pre_send.specs.Endings.{HoldsTask, HoldsGoing, HoldsUnderWay, plans_end}
use Rattle.pre_send.specs.Frames.{frame_of_part, frame_by}
use Rattle.pre_send.specs.Lendings.{LendsTask, LendsGoing, Lends}
use Rattle.pre_send.specs.Owned.{frames_of_task, frames_going, frames_kept, frames_of}
use Rattle.pre_send.specs.Senders.{Does, IsAt, Stands, is_free_with, is_free, kind_under_way}
use Rattle.pre_send.specs.Tasks.{task_kind, task_size}
use Rattle.pre_send.proofs.OneSending.{one_list}
use Rattle.pre_send.proofs.Standing.{free_is}
use Rattle.pre_history.specs.declared.events.What.{What}
use Rattle.pre_history.specs.declared.events.What.TheVariants as what
use Rattle.pre_history.specs.Scenario.{Scenario}
use Rattle.pre_outgoing.specs.Matching.{IsStored, what_of_frame}
use Rattle.pre_outgoing.specs.Sends.{AreStored, AreHeld, lent_as, lent_by}

pub free_of : (s : Sender) (cost add_frag t : ℕ) (calls : List Call) → Stands s cost add_frag calls → (is_free s t ≡ true) ↔ IsFree cost (told_by calls) t
unfolding is_free
free_of s cost add_frag t calls stands =
    let k = free_is cost s.going s.kept s.last stands.packets t stands.place in
    let same : is_free_with s.going s.cost s.last t ≡ is_free_with s.going cost s.last t = ap (λ c. is_free_with s.going c s.last t) stands.cost_is in (
      λ free. subst (λ l. IsFree cost l t) (sym stands.sending.told) (k.0 (sym same ∙ free)),
      λ free. same ∙ k.1 (subst (λ l. IsFree cost l t) stands.sending.told free),
    )

-- with each mPacket ended, what is kept is what is interrupted
pub kept_free : (cost t : ℕ) (packets : List Sending) → IsFree cost (map (λ p. p.told) packets) t → kept_part packets ≡ interrupted packets
kept_free cost t [] free = refl
kept_free cost t (p ∷ older) (gap, free) = go p.told.end refl gap
  where
    go : (o : Option End) → p.told.end ≡ o → HasGap cost o t → kept_part (p ∷ older) ≡ interrupted (p ∷ older)
    go None is gap = absurd gap
    go (Some end) is gap = rw is refl

-- ---- when it ends

size_is : (cost add_frag : ℕ) (x : Task) (kept : Option Piece) (p : Sending) (older : List Sending) → Does x kept p older → Follows cost add_frag p.told.chosen older p → task_size x ≡ p.size
size_is cost add_frag (task.Frame f) kept p older (inl is, keeps) follows = let k : Follows cost add_frag (express f) older p = subst (λ c. Follows cost add_frag c older p) is follows in sym k.2
size_is cost add_frag (task.Frame f) kept p older (inr is, keeps) follows = let k : Follows cost add_frag (whole f) older p = subst (λ c. Follows cost add_frag c older p) is follows in sym k.2
size_is cost add_frag task.Verify kept p older (is, keeps) follows = let k : Follows cost add_frag verify older p = subst (λ c. Follows cost add_frag c older p) is follows in sym k.2
size_is cost add_frag task.Respond kept p older (is, keeps) follows = let k : Follows cost add_frag respond older p = subst (λ c. Follows cost add_frag c older p) is follows in sym k.2
size_is cost add_frag task.Lldp kept p older (is, keeps) follows = let k : Follows cost add_frag lldp older p = subst (λ c. Follows cost add_frag c older p) is follows in sym k.2
size_is cost add_frag (task.Fragment x) kept p older (none, from, kind_is, size, how) follows = sym size

abbrev pub tick_of : ℕ → Tick
tick_of n = record { 0 = n }

plan_of : (cost add_frag own : ℕ) → own ≡ cost → (going : Option Going) (kept : Option Piece) (last : Option ℕ) (packets : List Sending) → AreSent cost add_frag packets
    → IsAt cost going kept last packets → PlannedEnd cost packets (option_map tick_of (option_map (λ (g : Going). g.began + own * (8 + task_size g.task)) going))
plan_of cost add_frag own same None kept last [] sent at = tt
plan_of cost add_frag own same None kept last (p ∷ older) sent at = (at.0, at.1)
plan_of cost add_frag own same (Some g) kept last [] sent at = absurd at
plan_of cost add_frag own same (Some g) kept last (p ∷ older) sent (none, began, waits, does, free) =
    let size = size_is cost add_frag g.task kept p older does sent.0 in
    (none, ap (λ n. n + own * (8 + task_size g.task)) began ∙ (ap (λ n. p.told.began + n * (8 + task_size g.task)) same ∙ ap (λ n. p.told.began + cost * (8 + n)) size))

pub planned_of : (s : Sender) (cost add_frag : ℕ) (calls : List Call) → Stands s cost add_frag calls → EndsAt cost add_frag calls (option_map tick_of (plans_end s))
unfolding plans_end
planned_of s cost add_frag calls stands =
    (stands.packets, stands.sending, plan_of cost add_frag s.cost stands.cost_is s.going s.kept s.last stands.packets stands.sending.sent stands.place)

-- as it is planned for these mPackets
pub planned_at : (s : Sender) (cost add_frag : ℕ) (calls : List Call) (packets : List Sending) (due : ℕ) → Stands s cost add_frag calls → IsSending cost add_frag calls packets
    → plans_end s ≡ Some due → PlannedEnd cost packets (Some (tick_of due))
planned_at s cost add_frag calls packets due stands sending is =
    let plan = planned_of s cost add_frag calls stands in
    let one : plan.0 ≡ packets = one_list cost add_frag plan.0 packets (sym plan.1.told ∙ sending.told) plan.1.sent sending.sent in
    subst (λ o. PlannedEnd cost packets (option_map tick_of o)) is (subst (λ ps. PlannedEnd cost ps (option_map tick_of (plans_end s))) one plan.2)

-- ---- what it is lent

pub holds_of : (s : Sender) (store : List (Option (List ℕ))) → AreHeld store (frames_of s) → HoldsUnderWay s store
unfolding frames_of HoldsUnderWay
holds_of s store held = go s.going held
  where
    by_task : (x : Task) → AreHeld store (frames_of_task x ++ frames_kept s.kept) → HoldsTask x store
    by_task (task.Frame f) held = held.0
    by_task (task.Fragment x) held = held.0
    by_task task.Verify held = tt
    by_task task.Respond held = tt
    by_task task.Lldp held = tt

    go : (g : Option Going) → AreHeld store (frames_going g ++ frames_kept s.kept) → HoldsGoing g store
    go None held = tt
    go (Some g) held = by_task g.task held

pub lends_of : (s : Sender) (zeros advert : List ℕ) → zeros ≡ replicate 60 0 → length advert ≡ 64 → Lends s (lent_by (kind_under_way s) zeros advert)
unfolding kind_under_way Lends
lends_of s zeros advert none long = go s.going
  where
    by_task : (x : Task) → LendsTask x (lent_as (task_kind x).0 zeros advert)
    by_task (task.Frame f) = tt
    by_task (task.Fragment x) = tt
    by_task task.Verify = none
    by_task task.Respond = none
    by_task task.Lldp = long

    go : (g : Option Going) → LendsGoing g (lent_by (option_map (λ (g : Going). task_kind g.task) g) zeros advert)
    go None = tt
    go (Some g) = by_task g.task

-- what is under way has a kind
pub some_kind : (s : Sender) → IsSome (plans_end s) → ¬ (kind_under_way s ≡ None)
unfolding kind_under_way plans_end
some_kind s some none = go s.going some none
  where
    go : (g : Option Going) → IsSome (option_map (λ (g : Going). g.began + s.cost * (8 + task_size g.task)) g) → ¬ (option_map (λ (g : Going). task_kind g.task) g ≡ None)
    go None some none = absurd (cc some)
    go (Some g) some none = absurd (cc none)

module _ (s : Sender) (cost add_frag : ℕ) (calls : List Call) (p : Sending) (older : List Sending) (stands : Stands s cost add_frag calls) (sending : IsSending cost add_frag calls (p ∷ older))
    (open_yet : p.told.end ≡ None) where
  place : IsAt cost s.going s.kept s.last (p ∷ older)
  place =
      let one : stands.packets ≡ p ∷ older = one_list cost add_frag stands.packets (p ∷ older) (sym stands.sending.told ∙ sending.told) stands.sending.sent sending.sent in
      subst (λ ps. IsAt cost s.going s.kept s.last ps) one stands.place

  -- the LLDP frame is lent where one is under way
  pub lends_advert : (zeros advert : List ℕ) → p.told.chosen ≡ lldp → lent_by (kind_under_way s) zeros advert ≡ advert
  unfolding kind_under_way
  lends_advert zeros advert is = go s.going place
    where
      by_task : (x : Task) → Does x s.kept p older → lent_as (task_kind x).0 zeros advert ≡ advert
      by_task (task.Frame f) does = refl
      by_task (task.Fragment x) (none, from, kind_is, size, inl (chosen, count, check)) = absurd (cc (chosen, is))
      by_task (task.Fragment x) (none, from, kind_is, size, inr (chosen, more)) = absurd (cc (chosen, is))
      by_task task.Verify does = absurd (cc (does.0, is))
      by_task task.Respond does = absurd (cc (does.0, is))
      by_task task.Lldp does = refl

      go : (g : Option Going) → IsAt cost g s.kept s.last (p ∷ older) → lent_by (option_map (λ (g : Going). task_kind g.task) g) zeros advert ≡ advert
      go None at = refl
      go (Some g) at = by_task g.task at.3

  -- the frame under way is stored where each of its frames is
  pub stored_going : (w : Scenario) (store : List (Option (List ℕ))) → AreStored w store (frames_of s) → IsStored w (frame_by p.told.chosen (interrupted older)) store
  unfolding frames_of
  stored_going w store stored = go s.going place stored
    where
      chosen_stored : (ch : Chosen) → p.told.chosen ≡ ch → IsStored w (frame_by ch (interrupted older)) store → IsStored w (frame_by p.told.chosen (interrupted older)) store
      chosen_stored ch is stored = subst (λ c. IsStored w (frame_by c (interrupted older)) store) (sym is) stored

      by_task : (x : Task) → Does x s.kept p older → AreStored w store (frames_of_task x ++ frames_kept s.kept) → IsStored w (frame_by p.told.chosen (interrupted older)) store
      by_task (task.Frame f) (inl is, keeps) stored = chosen_stored (express f) is stored.0
      by_task (task.Frame f) (inr is, keeps) stored = chosen_stored (whole f) is stored.0
      by_task task.Verify (is, keeps) stored = chosen_stored verify is tt
      by_task task.Respond (is, keeps) stored = chosen_stored respond is tt
      by_task task.Lldp (is, keeps) stored = chosen_stored lldp is tt
      by_task (task.Fragment x) (none, from, kind_is, size, inl (is, count, check)) stored = chosen_stored (first x.frame) is stored.0
      by_task (task.Fragment x) (none, from, kind_is, size, inr (is, (part, interrupts, left))) stored =
          chosen_stored rest is (subst (λ o. IsStored w (frame_of_part o) store) (sym interrupts) (subst (λ (f : FrameRef). IsStored w (Some f) store) left.frame stored.0))

      go : (g : Option Going) → IsAt cost g s.kept s.last (p ∷ older) → AreStored w store (frames_going g ++ frames_kept s.kept) → IsStored w (frame_by p.told.chosen (interrupted older)) store
      go None at stored = absurd (cc (open_yet, at.1))
      go (Some g) at stored = by_task g.task at.3 stored

-- what goes on is the frame that is named as interrupted
abbrev pub what_named : Option (FrameNo × ℕ) → What
what_named None = what.Nothing
what_named (Some named) = what.Frame named.0

pub rest_named : (cost add_frag : ℕ) (calls : List Call) (packets : List Sending) (named : Option (FrameNo × ℕ)) → IsInterrupted cost add_frag calls named → IsSending cost add_frag calls packets
    → what_named named ≡ what_of_frame (frame_of_part (kept_part packets))
rest_named cost add_frag calls packets named (others, sending', is) sending =
    let one : others ≡ packets = one_list cost add_frag others packets (sym sending'.told ∙ sending.told) sending'.sent sending.sent in
    ap what_named (is ∙ ap (λ ps. option_map (λ (x : Part). (x.frame.frame, x.place)) (kept_part ps)) one) ∙ by_part (kept_part packets)
  where
    by_part : (o : Option Part) → what_named (option_map (λ (x : Part). (x.frame.frame, x.place)) o) ≡ what_of_frame (frame_of_part o)
    by_part None = refl
    by_part (Some x) = refl

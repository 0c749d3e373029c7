-- What a store has to hold for what is under way.
use Rattle.std.proofs.Common.{ℕ, ◌≡◌, List, [], ◌∷◌, sym, ◌∙◌, ap, ap₂, subst, inl, inr, Option, Some, None}
use Rattle.pre_rings.specs.declared.slots.FrameRef.{FrameRef}
use Rattle.pre_rings.specs.Stores.{HoldsFrame}
use Rattle.pre_send.specs.declared.pieces.Piece.{Piece}
use Rattle.pre_send.specs.declared.going.Task.{Task}
use Rattle.pre_send.specs.declared.going.Task.TheVariants as task
use Rattle.pre_send.specs.declared.going.Going.{Going}
use Rattle.pre_send.specs.declared.senders.Sender.{Sender}
use Rattle.pre_send.specs.Calls.{Chosen, verify, respond, lldp, Call}
use Rattle.pre_send.specs.Sendings.{Sending, Part, interrupted, IsSending}
use Rattle.pre_send.specs.Frames.{frame_by, HoldsSome, HoldsNewest}
use Rattle.pre_send.specs.Endings.{HoldsTask, HoldsGoing, HoldsUnderWay}
use Rattle.pre_send.specs.Lendings.{HasOctets, HasOther, LendsTask, LendsGoing, Lends}
use Rattle.pre_send.specs.Senders.{Does, IsAt, Stands}

by_frame : (o : Option FrameRef) (f : FrameRef) (store : List (Option (List ℕ))) → o ≡ Some f → HoldsSome o store → HoldsFrame store f
by_frame o f store is h = let g : HoldsSome (Some f) store = subst (λ (x : Option FrameRef). HoldsSome x store) is h in g

task_held : (k : Task) (kept : Option Piece) (p : Sending) (older : List Sending) (store : List (Option (List ℕ))) → Does k kept p older → HoldsNewest (p ∷ older) store → HoldsTask k store
task_held (task.Frame f) kept p older store (inl ch, keeps) h = by_frame (frame_by p.told.chosen (interrupted older)) f store (ap (λ (c : Chosen). frame_by c (interrupted older)) ch) h
task_held (task.Frame f) kept p older store (inr ch, keeps) h = by_frame (frame_by p.told.chosen (interrupted older)) f store (ap (λ (c : Chosen). frame_by c (interrupted older)) ch) h
task_held (task.Fragment x) kept p older store (none, from, k, size, inl (ch, count, stands)) h =
    by_frame (frame_by p.told.chosen (interrupted older)) x.frame store (ap (λ (c : Chosen). frame_by c (interrupted older)) ch) h
task_held (task.Fragment x) kept p older store (none, from, k, size, inr (ch, (part, interrupts, left))) h =
    by_frame (frame_by p.told.chosen (interrupted older)) x.frame store (ap₂ (λ (c : Chosen) (q : Option Part). frame_by c q) ch interrupts ∙ ap (λ (g : FrameRef). Some g) (sym left.frame)) h
task_held task.Verify kept p older store does h = tt
task_held task.Respond kept p older store does h = tt
task_held task.Lldp kept p older store does h = tt

going_held : (cost : ℕ) (o : Option Going) (kept : Option Piece) (last : Option ℕ) (packets : List Sending) (store : List (Option (List ℕ))) → IsAt cost o kept last packets
    → HoldsNewest packets store → HoldsGoing o store
going_held cost None kept last packets store at h = tt
going_held cost (Some g) kept last [] store at h = absurd at
going_held cost (Some g) kept last (p ∷ older) store at h = task_held g.task kept p older store at.3 h

pub framed : (s : Sender) (cost add_frag : ℕ) (calls : List Call) (store : List (Option (List ℕ))) → Stands s cost add_frag calls
    → ((packets : List Sending) → IsSending cost add_frag calls packets → HoldsNewest packets store) → HoldsUnderWay s store
unfolding HoldsUnderWay
framed s cost add_frag calls store st held = going_held cost s.going s.kept s.last st.packets store st.place (held st.packets st.sending)

-- ---- what is no frame

by_octets : (ch : Chosen) (c : Chosen) (other : List ℕ) → ch ≡ c → HasOctets ch other → HasOctets c other
by_octets ch c other is h = subst (λ (x : Chosen). HasOctets x other) is h

task_lent : (k : Task) (kept : Option Piece) (p : Sending) (older : List Sending) (other : List ℕ) → Does k kept p older → HasOctets p.told.chosen other → LendsTask k other
task_lent (task.Frame f) kept p older other does h = tt
task_lent (task.Fragment x) kept p older other does h = tt
task_lent task.Verify kept p older other does h = by_octets p.told.chosen verify other does.0 h
task_lent task.Respond kept p older other does h = by_octets p.told.chosen respond other does.0 h
task_lent task.Lldp kept p older other does h = by_octets p.told.chosen lldp other does.0 h

going_lent : (cost : ℕ) (o : Option Going) (kept : Option Piece) (last : Option ℕ) (packets : List Sending) (other : List ℕ) → IsAt cost o kept last packets → HasOther packets other
    → LendsGoing o other
going_lent cost None kept last packets other at h = tt
going_lent cost (Some g) kept last [] other at h = absurd at
going_lent cost (Some g) kept last (p ∷ older) other at h = task_lent g.task kept p older other at.3 h

pub lent : (s : Sender) (cost add_frag : ℕ) (calls : List Call) (other : List ℕ) → Stands s cost add_frag calls
    → ((packets : List Sending) → IsSending cost add_frag calls packets → HasOther packets other) → Lends s other
unfolding Lends
lent s cost add_frag calls other st has = going_lent cost s.going s.kept s.last st.packets other st.place (has st.packets st.sending)

-- What the end of an mPacket leaves, and what is answered to it.
use Rattle.std.specs.Prelude.{◌≡◌, ℕ, ◌+◌, ◌*◌, ◌<◌, ◌≤◌, ◌==◌, if◌then◌else◌, List, ◌∷◌, ◌++◌, take, drop, Option, Some, None, option_map}
use Rattle.pre_crc.specs.Register as register
use Rattle.pre_mpacket.specs.declared.packets.Kind.{Kind}
use Rattle.pre_mpacket.specs.declared.packets.Kind.TheVariants as kind
use Rattle.pre_rings.specs.declared.slots.FrameRef.{FrameRef}
use Rattle.pre_rings.specs.Stores.{HoldsFrame}
use Rattle.pre_send.specs.declared.choices.Choice.{Choice}
use Rattle.pre_send.specs.declared.choices.Choice.TheVariants as choice
use Rattle.pre_send.specs.declared.choices.Sent.{Sent}
use Rattle.pre_send.specs.declared.pieces.Piece.{Piece}
use Rattle.pre_send.specs.declared.going.Task.{Task}
use Rattle.pre_send.specs.declared.going.Task.TheVariants as task
use Rattle.pre_send.specs.declared.going.Going.{Going}
use Rattle.pre_send.specs.declared.senders.Sender.{Sender}
use Rattle.pre_send.specs.Calls.{Chosen, express, whole, first, rest, Call}
use Rattle.pre_send.specs.Plans.{piece_kind, piece_size}
use Rattle.pre_send.specs.Tasks.{task_size}
use Rattle.pre_send.specs.Fragments.{next_fragment}
use Rattle.pre_send.specs.Sendings.{Sending, Part, slot_octets, interrupted, IsSending}

-- ---- what is answered

-- the frame that ends with this mPacket, where one does
abbrev pub done_of : FrameRef → Sending → Option FrameRef
done_of f p = if p.from + p.size == f.size then Some f else None

abbrev pub done_rest : Option Part → Sending → Option FrameRef
done_rest None p = None
done_rest (Some x) p = done_of x.frame p

abbrev pub done_by : Chosen → Option Part → Sending → Option FrameRef
done_by (express f) before p = Some f
done_by (whole f) before p = Some f
done_by (first f) before p = done_of f p
done_by rest before p = done_rest before p
done_by _ before p = None

-- the newest mPacket of these calls, and the frame that it ends
abbrev pub Ends : ℕ → ℕ → List Call → Sent → Type 0
Ends cost add_frag calls sent =
    (p : Sending) × (older : List Sending) × IsSending cost add_frag calls (p ∷ older) × (sent.kind ≡ p.kind) × (sent.from ≡ p.from) × (sent.size ≡ p.size)
    × (sent.done ≡ done_by p.told.chosen (interrupted older) p)

-- ---- what may end

unfoldable pub plans_end : Sender → Option ℕ
plans_end s = option_map (λ g. g.began + s.cost * (8 + task_size g.task)) s.going

-- the store holds the frame of a fragment
abbrev pub HoldsTask : Task → List (Option (List ℕ)) → Type 0
HoldsTask (task.Frame f) store = HoldsFrame store f
HoldsTask (task.Fragment x) store = HoldsFrame store x.frame
HoldsTask _ store = Unit {0}

abbrev pub HoldsGoing : Option Going → List (Option (List ℕ)) → Type 0
HoldsGoing None store = Unit {0}
HoldsGoing (Some g) store = HoldsTask g.task store

unfoldable pub HoldsUnderWay : Sender → List (Option (List ℕ)) → Type 0
HoldsUnderWay s store = HoldsGoing s.going store

-- the store holds the frame that is interrupted
abbrev pub HoldsPiece : Option Piece → List (Option (List ℕ)) → Type 0
HoldsPiece None store = Unit {0}
HoldsPiece (Some x) store = HoldsFrame store x.frame

unfoldable pub HoldsKept : Sender → List (Option (List ℕ)) → Type 0
HoldsKept s store = HoldsPiece s.kept store

-- each frame that it has
pub record HoldsAll (s : Sender) (store : List (Option (List ℕ))) : Type 0 where
  pub going : HoldsUnderWay s store
  pub kept : HoldsKept s store

abbrev pub HoldsChoice : Choice → List (Option (List ℕ)) → Type 0
HoldsChoice (choice.Express f) store = HoldsFrame store f
HoldsChoice (choice.Whole f) store = HoldsFrame store f
HoldsChoice (choice.First f) store = HoldsFrame store f
HoldsChoice _ store = Unit {0}

-- ---- what the fields become

-- what is kept of a frame after d octets of mData
abbrev pub GoesOn : Piece → Option Piece → ℕ → List ℕ → Type 0
GoesOn x None d octets = ⊥
GoesOn x (Some y) d octets =
    (y.frame ≡ x.frame) × (y.from ≡ x.from + d) × (y.frame_count ≡ x.frame_count) × (y.fragment ≡ next_fragment x.from x.fragment) × (y.cut ≡ None)
    × ((so_far : List ℕ) → register.Stands x.check so_far → register.Stands y.check (so_far ++ take d (drop x.from octets)))

abbrev pub PieceEnds : Option ℕ → Piece → Option Piece → Option Piece → List (Option (List ℕ)) → Sent → Type 0
PieceEnds None x before after store sent = (after ≡ before) × (sent.done ≡ Some x.frame)
PieceEnds (Some d) x before after store sent =
    (sent.done ≡ None) × (0 < d) × (x.from + d + 64 ≤ x.frame.size) × GoesOn x after d (slot_octets store x.frame.slot)

abbrev pub SameBut : Sender → Sender → Type 0
SameBut old new = (new.cost ≡ old.cost) × (new.add_frag ≡ old.add_frag) × (new.going ≡ old.going) × (new.last ≡ old.last) × (new.frame_count ≡ old.frame_count)

abbrev pub EndsPiece : Sender → Sender → Piece → List (Option (List ℕ)) → Sent → Type 0
EndsPiece old new x store sent =
    SameBut old new × (sent.kind ≡ piece_kind x) × (sent.from ≡ x.from) × (sent.size ≡ piece_size x) × PieceEnds x.cut x old.kept new.kept store sent

abbrev pub IsSent : Sent → Kind → ℕ → Option FrameRef → Type 0
IsSent sent k size done = (sent.kind ≡ k) × (sent.from ≡ 0) × (sent.size ≡ size) × (sent.done ≡ done)

abbrev pub EndsTask : Task → Sender → Sender → List (Option (List ℕ)) → Sent → Type 0
EndsTask (task.Fragment x) old new store sent = EndsPiece old new x store sent
EndsTask (task.Frame f) old new store sent = SameBut old new × (new.kept ≡ old.kept) × IsSent sent kind.Express f.size (Some f)
EndsTask task.Verify old new store sent = SameBut old new × (new.kept ≡ old.kept) × IsSent sent kind.Verify 64 None
EndsTask task.Respond old new store sent = SameBut old new × (new.kept ≡ old.kept) × IsSent sent kind.Respond 64 None
EndsTask task.Lldp old new store sent = SameBut old new × (new.kept ≡ old.kept) × IsSent sent kind.Express 64 None

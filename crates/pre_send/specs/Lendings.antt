-- What is lent of an mPacket that is under way.
use Rattle.std.specs.Prelude.{◌≡◌, ℕ, ◌-◌, List, [], ◌∷◌, ◌++◌, length, take, drop, replicate, Option, Some, None}
use Rattle.pre_crc.specs.Checks.{Mcrc}
use Rattle.pre_crc.specs.Register as register
use Rattle.pre_mpacket.specs.declared.packets.Kind.TheVariants as kind
use Rattle.pre_mpacket.specs.Spelling.{PlainPacket}
use Rattle.pre_send.specs.declared.choices.Choice.{Choice}
use Rattle.pre_send.specs.declared.choices.Choice.TheVariants as choice
use Rattle.pre_send.specs.declared.pieces.Piece.{Piece}
use Rattle.pre_send.specs.declared.going.Task.{Task}
use Rattle.pre_send.specs.declared.going.Task.TheVariants as task
use Rattle.pre_send.specs.declared.going.Going.{Going}
use Rattle.pre_send.specs.declared.senders.Sender.{Sender}
use Rattle.pre_send.specs.Calls.{Chosen, verify, respond, lldp, Call}
use Rattle.pre_send.specs.Plans.{piece_kind}
use Rattle.pre_send.specs.Sendings.{Sending, slot_octets, IsSending}
use Rattle.pre_send.specs.Packets.{in_one_piece, bare, packet_after}

-- ---- what is given

-- the newest mPacket of these calls, which is under way, with the frames of this time
abbrev pub IsNewestPacket : ℕ → ℕ → List Call → List (Option (List ℕ)) → List ℕ → PlainPacket → Type 0
IsNewestPacket cost add_frag calls store other m =
    (p : Sending) × (older : List Sending) × IsSending cost add_frag calls (p ∷ older) × (p.told.end ≡ None) × (m ≡ packet_after older p store other)

-- ---- what it is lent out of

-- an LLDP frame, and 60 octets 0 for a verify or respond
abbrev pub HasOctets : Chosen → List ℕ → Type 0
HasOctets verify other = other ≡ replicate 60 0
HasOctets respond other = other ≡ replicate 60 0
HasOctets lldp other = length other ≡ 64
HasOctets _ other = Unit {0}

-- so it is for the newest mPacket
abbrev pub HasOther : List Sending → List ℕ → Type 0
HasOther [] other = Unit {0}
HasOther (p ∷ older) other = HasOctets p.told.chosen other

abbrev pub LendsTask : Task → List ℕ → Type 0
LendsTask task.Verify other = other ≡ replicate 60 0
LendsTask task.Respond other = other ≡ replicate 60 0
LendsTask task.Lldp other = length other ≡ 64
LendsTask _ other = Unit {0}

abbrev pub LendsGoing : Option Going → List ℕ → Type 0
LendsGoing None other = Unit {0}
LendsGoing (Some g) other = LendsTask g.task other

unfoldable pub Lends : Sender → List ℕ → Type 0
Lends s other = LendsGoing s.going other

abbrev pub LendsChoice : Choice → List ℕ → Type 0
LendsChoice choice.Verify other = other ≡ replicate 60 0
LendsChoice choice.Respond other = other ≡ replicate 60 0
LendsChoice choice.Lldp other = length other ≡ 64
LendsChoice _ other = Unit {0}

-- ---- what the fields give

-- the running check takes in the octets of this fragment alone
abbrev pub PieceGives : Option ℕ → Piece → List ℕ → PlainPacket → Type 0
PieceGives None x octets m = (m.mdata ≡ take (x.frame.size - x.from - 4) (drop x.from octets)) × (m.check ≡ drop (x.frame.size - x.from - 4) (drop x.from octets))
PieceGives (Some d) x octets m =
    (m.mdata ≡ take d (drop x.from octets))
    × ((so_far : List ℕ) → register.Stands x.check so_far → m.check ≡ Mcrc (so_far ++ take d (drop x.from octets)))

abbrev pub GivesPiece : Piece → List (Option (List ℕ)) → PlainPacket → Type 0
GivesPiece x store m = (m.kind ≡ piece_kind x) × PieceGives x.cut x (slot_octets store x.frame.slot) m

abbrev pub GivesTask : Task → List (Option (List ℕ)) → List ℕ → PlainPacket → Type 0
GivesTask (task.Frame f) store other m = m ≡ in_one_piece kind.Express f.size (slot_octets store f.slot)
GivesTask (task.Fragment x) store other m = GivesPiece x store m
GivesTask task.Verify store other m = m ≡ bare kind.Verify
GivesTask task.Respond store other m = m ≡ bare kind.Respond
GivesTask task.Lldp store other m = m ≡ in_one_piece kind.Express 64 other

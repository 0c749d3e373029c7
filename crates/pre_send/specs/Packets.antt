-- The mPackets that are sent, with their octets (IEEE 802.3, 99.3).
use Rattle.std.specs.Prelude.{ℕ, ◌+◌, ◌-◌, ◌==◌, Bool, true, false, List, [], ◌∷◌, ◌++◌, take, drop, replicate, Option, Some, None}
use Rattle.pre_crc.specs.Checks.{Mcrc}
use Rattle.pre_mpacket.specs.declared.packets.Kind.{Kind}
use Rattle.pre_mpacket.specs.Spelling.{PlainPacket}
use Rattle.pre_rings.specs.declared.slots.FrameRef.{FrameRef}
use Rattle.pre_send.specs.Calls.{Chosen, express, whole, first, rest, verify, respond, lldp, End}
use Rattle.pre_send.specs.Sendings.{Sending, Part, slot_octets, part_at, interrupted}

-- a frame of so many octets in one piece, whose check is its last four octets
abbrev pub in_one_piece : Kind → ℕ → List ℕ → PlainPacket
in_one_piece k size octets = record { kind = k; mdata = take (size - 4) octets; check = drop (size - 4) octets }

-- The check of a fragment whose mData ends at this place of its frame: what is left of the frame, where the fragment ends
-- it, and else the Mcrc of all octets of the frame up to that place.
abbrev pub check_at : Bool → List ℕ → ℕ → List ℕ → List ℕ
check_at true octets place so_far = drop place octets
check_at false octets place so_far = Mcrc so_far

-- a fragment of a frame with these octets, of which `before` were sent before
abbrev pub fragment_of : FrameRef → List ℕ → List ℕ → Sending → PlainPacket
fragment_of f octets before p = record {
  kind = p.kind;
  mdata = part_at octets p.from p.size;
  check = check_at (p.from + p.size == f.size) octets (p.from + (p.size - 4)) (before ++ part_at octets p.from p.size);
}

-- the fragment that goes on with the interrupted frame
abbrev pub rest_packet : Option Part → Sending → List (Option (List ℕ)) → PlainPacket
rest_packet None p store = record { kind = p.kind; mdata = []; check = [] }
rest_packet (Some x) p store = fragment_of x.frame (slot_octets store x.frame.slot) x.so_far p

-- a verify or a respond
abbrev pub bare : Kind → PlainPacket
bare k = record { kind = k; mdata = replicate 60 0; check = Mcrc (replicate 60 0) }

-- an mPacket by its choice, with the frames of that time; `other` is an LLDP frame
abbrev pub packet_by : Chosen → Option Part → Sending → List (Option (List ℕ)) → List ℕ → PlainPacket
packet_by (express f) before p store other = in_one_piece p.kind p.size (slot_octets store f.slot)
packet_by (whole f) before p store other = in_one_piece p.kind p.size (slot_octets store f.slot)
packet_by (first f) before p store other = fragment_of f (slot_octets store f.slot) [] p
packet_by rest before p store other = rest_packet before p store
packet_by verify before p store other = bare p.kind
packet_by respond before p store other = bare p.kind
packet_by lldp before p store other = in_one_piece p.kind p.size other

-- an mPacket after these
abbrev pub packet_after : List Sending → Sending → List (Option (List ℕ)) → List ℕ → PlainPacket
packet_after older p store other = packet_by p.told.chosen (interrupted older) p store other

-- the frames at the end of an mPacket
abbrev pub frames_at : Option End → List (Option (List ℕ))
frames_at None = []
frames_at (Some end) = end.store

-- ---- the fragments of a frame

abbrev pub fragments_by : Chosen → List PlainPacket → PlainPacket → List PlainPacket
fragments_by (first f) before m = m ∷ []
fragments_by rest before m = before ++ m ∷ []
fragments_by _ before m = before

-- the fragments of the last frame that began as a first fragment, in their order, each with the frames at its end
abbrev pub fragments : List Sending → List PlainPacket
fragments [] = []
fragments (p ∷ older) = fragments_by p.told.chosen (fragments older) (packet_after older p (frames_at p.told.end) [])

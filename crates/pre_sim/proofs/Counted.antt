-- What frames that come and go change of the counts of slots.
use Rattle.std.proofs.Common.{ℕ, ◌≡◌, ◌+◌, ◌<◌, ◌≤◌, List, [], ◌∷◌, ◌++◌, length, replicate, refl, ◌∙◌, ap, arith, Option, Some, None, length-append}
use Rattle.std.specs.Prelude.{slice_get, slice_index_or, set}
use Rattle.std.specs.List.{sum_by}
use Rattle.std.proofs.lemmas.List.Sums.{sum_by-set}
use Rattle.std.proofs.lemmas.List.Folds.{sum_by-replicate}
use Rattle.pre_rings.specs.declared.slots.FrameRef.{FrameRef}
use Rattle.pre_rings.specs.Ports.{Port, IsPort, frames_at, with_frames}
use Rattle.pre_rings.specs.Stores.{HoldsAt}
use Rattle.pre_topo.specs.declared.network.Network.{Network}
use Rattle.pre_send.specs.Owned.{frames_of as sent_by}
use Rattle.pre_history.specs.Scenario.{no_arc}
use Rattle.pre_bridge.specs.Inside.{Entry}
use Rattle.pre_memory.specs.Slots.{frames_held, slots_out, one_if}
use Rattle.pre_memory.proofs.Stores.{out_with}
use Rattle.pre_outgoing.specs.declared.outgoing.Outgoing.{Outgoing}
use Rattle.pre_sim.specs.declared.lanes.Lane.{Lane}
use Rattle.pre_sim.specs.Lanes.{IsIdle, AreIdle}
use Rattle.pre_sim.specs.Choices.{LeavesFirst}
use Rattle.pre_sim.specs.Arriving.{IsStored}
use Rattle.pre_sim.specs.Keeps.{Store, held_of, IsCounted}
use Rattle.pre_sim.proofs.Lists.{sum-set, sum-none}

-- with another lane at the arc, and more inside
abbrev pub CountsOn : (a : ℕ) → (store store' : Store) → (old new : Lane) → (more : List Entry) → Type 0
CountsOn a store store' old new more =
    (lanes : List Lane) (entries : List Entry) → slice_get lanes a ≡ Some old → IsCounted store lanes entries [] → IsCounted store' (set lanes a new) (entries ++ more) []

abbrev frames_at_lane : Lane → ℕ
frames_at_lane lane = frames_held (held_of lane)

lane_has : (lane : Lane) (rings : Port) (sending : List FrameRef) → lane.rings ≡ rings → sent_by lane.outgoing.sender ≡ sending → frames_at_lane lane ≡ sum_by length rings.frames + length sending
lane_has lane rings sending has sends =
    ap (λ (r : Port). sum_by (length {A = FrameRef}) r.frames + length (sent_by lane.outgoing.sender)) has ∙ ap (λ fs. sum_by (length {A = FrameRef}) rings.frames + length {A = FrameRef} fs) sends

ring_with : (rings : List (List FrameRef)) (p : ℕ) (fs : List FrameRef) → p < length rings → sum_by length (set rings p fs) + length (slice_index_or rings p []) ≡ sum_by length rings + length fs
ring_with rings p fs lt = sum_by-set (length {A = FrameRef}) rings p fs [] lt

-- with another lane
lanes_with : (lanes : List Lane) (a : ℕ) (old new : Lane) → slice_get lanes a ≡ Some old
    → sum_by (λ l. frames_at_lane l) (set lanes a new) + frames_at_lane old ≡ sum_by (λ l. frames_at_lane l) lanes + frames_at_lane new
lanes_with lanes a old new at = sum-set (λ (l : Lane). frames_at_lane l) lanes a old new at

-- the frames of rings and sender stay
pub counted_lane : (a : ℕ) (store : Store) (old new : Lane) → new.rings ≡ old.rings → sent_by new.outgoing.sender ≡ sent_by old.outgoing.sender → CountsOn a store store old new []
counted_lane a store old new rings sends =
    λ lanes entries at is. omega (arith, is, lanes_with lanes a old new at, lane_has new old.rings (sent_by old.outgoing.sender) rings sends, length-append entries [])

-- an mPacket ended a frame
pub counted_ended : (a : ℕ) (store : Store) (old new : Lane) (f : FrameRef) (octets : List ℕ) → new.rings ≡ old.rings → sent_by old.outgoing.sender ≡ f ∷ sent_by new.outgoing.sender
    → HoldsAt store f.slot octets → CountsOn a store (set store f.slot None) old new []
counted_ended a store old new f octets rings sends holds =
    λ lanes entries at is. omega (
      arith,
      is,
      lanes_with lanes a old new at,
      lane_has new old.rings (sent_by new.outgoing.sender) rings refl,
      lane_has old old.rings (f ∷ sent_by new.outgoing.sender) refl sends,
      out_with store f.slot (Some octets) None holds,
      length-append entries [],
    )

-- a frame that waited begins
pub counted_started : (a least greatest : ℕ) (store : Store) (old new : Lane) (f : FrameRef) → IsPort old.rings → greatest ≤ 7 → LeavesFirst least greatest old.rings new.rings f
    → sent_by new.outgoing.sender ≡ f ∷ sent_by old.outgoing.sender → CountsOn a store store old new []
counted_started a least greatest store old new f eight few leaves sends =
    λ lanes entries at is. omega (
      arith,
      is,
      lanes_with lanes a old new at,
      lane_has new (with_frames old.rings leaves.prio leaves.behind) (f ∷ sent_by old.outgoing.sender) leaves.left sends,
      lane_has old old.rings (sent_by old.outgoing.sender) refl refl,
      ring_with old.rings.frames leaves.prio leaves.behind (omega (arith, leaves.most, few, eight.0)),
      ap (length {A = FrameRef}) leaves.front,
      length-append entries [],
    )

-- octets came into a slot that was in
one_out : (store store' : Store) (slot : ℕ) (octets : List ℕ) → IsStored store octets slot store' → slots_out store' ≡ slots_out store + 1
one_out store store' slot octets stored =
    let out = out_with store slot None (Some octets) stored.0 in
    omega (arith, ap (λ k. slots_out k) stored.1, out)

-- a frame arrived and goes on
pub counted_arrived : (a : ℕ) (store store' : Store) (old new : Lane) (slot : ℕ) (octets : List ℕ) (e : Entry) → new.rings ≡ old.rings → sent_by new.outgoing.sender ≡ sent_by old.outgoing.sender
    → IsStored store octets slot store' → CountsOn a store store' old new (e ∷ [])
counted_arrived a store store' old new slot octets e rings sends stored =
    λ lanes entries at is. omega (
      arith,
      is,
      lanes_with lanes a old new at,
      lane_has new old.rings (sent_by old.outgoing.sender) rings sends,
      one_out store store' slot octets stored,
      length-append entries (e ∷ []),
    )

-- a frame enters its ring
pub counted_entered : (a : ℕ) (f : FrameRef) (store : Store) (lanes : List Lane) (entries : List Entry) (old new : Lane) → slice_get lanes a ≡ Some old → IsPort old.rings → f.prio < 8
    → new.rings ≡ with_frames old.rings f.prio (frames_at old.rings f.prio ++ f ∷ []) → new.outgoing ≡ old.outgoing → IsCounted store lanes entries (f ∷ [])
    → IsCounted store (set lanes a new) entries []
counted_entered a f store lanes entries old new at eight below rings sending is =
    let more = frames_at old.rings f.prio ++ f ∷ [] in
    omega (
      arith,
      is,
      lanes_with lanes a old new at,
      lane_has new (with_frames old.rings f.prio more) (sent_by old.outgoing.sender) rings (ap (λ (o : Outgoing). sent_by o.sender) sending),
      lane_has old old.rings (sent_by old.outgoing.sender) refl refl,
      ring_with old.rings.frames f.prio more (omega (arith, below, eight.0)),
      length-append (frames_at old.rings f.prio) (f ∷ []),
    )

-- a frame is dropped
pub counted_dropped : (a : ℕ) (f : FrameRef) (store : Store) (lanes : List Lane) (entries : List Entry) (old new : Lane) (octets : List ℕ) → slice_get lanes a ≡ Some old → new.rings ≡ old.rings
    → new.outgoing ≡ old.outgoing → HoldsAt store f.slot octets → IsCounted store lanes entries (f ∷ []) → IsCounted (set store f.slot None) (set lanes a new) entries []
counted_dropped a f store lanes entries old new octets at rings sending holds is =
    omega (
      arith,
      is,
      lanes_with lanes a old new at,
      lane_has new old.rings (sent_by old.outgoing.sender) rings (ap (λ (o : Outgoing). sent_by o.sender) sending),
      out_with store f.slot (Some octets) None holds,
    )

-- a frame is sent
pub counted_sent : (f : FrameRef) (octets : List ℕ) (store store' : Store) (lanes : List Lane) (entries : List Entry) → IsStored store octets f.slot store' → IsCounted store lanes entries []
    → IsCounted store' lanes entries (f ∷ [])
counted_sent f octets store store' lanes entries stored is = omega (arith, is, one_out store store' f.slot octets stored)

-- a frame leaves a bridge
pub counted_taken : (store : Store) (lanes : List Lane) (before behind : List Entry) (e : Entry) → IsCounted store lanes (before ++ e ∷ behind) []
    → IsCounted store lanes (before ++ behind) (e.frame ∷ [])
counted_taken store lanes before behind e is = omega (arith, is, length-append before (e ∷ behind), length-append before behind)

-- at first no slot is out
pub counted_none : (n : ℕ) (net : Network) (lanes : List Lane) → AreIdle net lanes → IsCounted (replicate n None) lanes [] []
counted_none n net lanes idle =
    omega (
      arith,
      sum_by-replicate (λ (o : Option (List ℕ)). one_if o) n None,
      sum-none (λ (l : Lane). frames_at_lane l) lanes (λ a lane at. none a lane (idle.each a lane at)),
    )
  where
    none : (a : ℕ) (lane : Lane) → IsIdle net.timing (slice_index_or net.arcs a no_arc) lane → frames_at_lane lane ≡ 0
    none a lane is = omega (arith, lane_has lane _ [] is.rings is.sending, sum_by-replicate (length {A = FrameRef}) 8 [])

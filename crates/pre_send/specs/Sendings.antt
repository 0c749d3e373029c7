-- The mPackets that a sender sends: their kinds, their places in their frames and their sizes.
use Rattle.std.specs.Prelude.{◌≡◌, ℕ, suc, ◌+◌, ◌-◌, ◌*◌, ◌%◌, ◌≤◌, ◌==◌, Bool, true, false, List, [], ◌∷◌}
use Rattle.std.specs.Prelude.{◌++◌, map, take, drop, slice_get, Option, Some, None}
use Rattle.pre_base.specs.declared.limits.TheConstants.{GAP}
use Rattle.pre_mpacket.specs.declared.packets.Kind.{Kind}
use Rattle.pre_mpacket.specs.declared.packets.Kind.TheVariants as kind
use Rattle.pre_mpacket.specs.Pieces.{CutRule}
use Rattle.pre_rings.specs.declared.slots.FrameRef.{FrameRef}
use Rattle.pre_send.specs.Calls.{Chosen, express, whole, first, rest, verify, respond, lldp, End, Told, Call, told_by}

-- an mPacket: what the calls tell of it; its kind; the place of its mData in its frame; and its size, check included
pub record Sending : Type 0 where
  pub told : Told
  pub kind : Kind
  pub from : ℕ
  pub size : ℕ

-- how many frames began as first fragments
abbrev pub is_first : Chosen → ℕ
is_first (first f) = 1
is_first _ = 0

abbrev pub firsts : List Sending → ℕ
firsts [] = 0
firsts (p ∷ older) = is_first p.told.chosen + firsts older

-- the octets that a slot of a store holds
abbrev pub held : Option (Option (List ℕ)) → List ℕ
held (Some (Some octets)) = octets
held _ = []

abbrev pub slot_octets : List (Option (List ℕ)) → ℕ → List ℕ
slot_octets store slot = held (slice_get store slot)

-- a part of a frame of so many octets
abbrev pub part_at : List ℕ → ℕ → ℕ → List ℕ
part_at octets from size = take (size - 4) (drop from octets)

-- the mData that a fragment of the frame had, by the store at its end
abbrev pub mdata_at : FrameRef → ℕ → ℕ → Option End → List ℕ
mdata_at f from size None = []
mdata_at f from size (Some end) = part_at (slot_octets end.store f.slot) from size

-- a frame that goes on: how many octets of it were sent, which, and in how many continuations
pub record Part : Type 0 where
  pub frame : FrameRef
  pub place : ℕ
  pub so_far : List ℕ
  pub continuations : ℕ

-- what a fragment leaves of its frame: nothing where it ended it
abbrev pub left_by : Bool → Part → Option Part
left_by true x = None
left_by false x = Some x

abbrev pub after_fragment : FrameRef → List ℕ → ℕ → Sending → Option Part
after_fragment f before continuations p =
    left_by (p.from + p.size == f.size) (record { frame = f; place = p.from + (p.size - 4); so_far = before ++ mdata_at f p.from p.size p.told.end; continuations = continuations })

abbrev pub after_rest : Option Part → Sending → Option Part
after_rest None p = None
after_rest (Some x) p = after_fragment x.frame x.so_far (suc x.continuations) p

abbrev pub part_after : Chosen → Option Part → Sending → Option Part
part_after (first f) before p = after_fragment f [] 0 p
part_after rest before p = after_rest before p
part_after _ before p = before

-- the frame that is interrupted after these mPackets, the newest first
abbrev pub interrupted : List Sending → Option Part
interrupted [] = None
interrupted (p ∷ older) = part_after p.told.chosen (interrupted older) p

-- an express frame waits at these ticks
abbrev pub Waits : Option ℕ → ℕ → Type 0
Waits None t = ⊥
Waits (Some w) t = w ≤ t

module _ (cost add_frag : ℕ) where
  -- the size of a fragment of a frame of which so many octets are unsent
  abbrev pub IsCut : Told → ℕ → ℕ → Type 0
  IsCut told unsent size = CutRule (Waits told.waits) (record { tick = told.began; octet_ticks = cost; add_frag = add_frag; unsent = unsent }) size

  -- an mPacket after these
  abbrev pub Follows : Chosen → List Sending → Sending → Type 0
  Follows (express f) older p = (p.kind ≡ kind.Express) × (p.from ≡ 0) × (p.size ≡ f.size)
  Follows (whole f) older p = (p.kind ≡ kind.Express) × (p.from ≡ 0) × (p.size ≡ f.size)
  Follows (first f) older p = (p.kind ≡ kind.Start (firsts older % 4)) × (p.from ≡ 0) × IsCut p.told f.size p.size
  Follows rest older p =
      (x : Part) × (interrupted older ≡ Some x) × (p.kind ≡ kind.Continue ((firsts older + 3) % 4) (x.continuations % 4)) × (p.from ≡ x.place)
      × IsCut p.told (x.frame.size - x.place) p.size
  Follows verify older p = (p.kind ≡ kind.Verify) × (p.from ≡ 0) × (p.size ≡ 64)
  Follows respond older p = (p.kind ≡ kind.Respond) × (p.from ≡ 0) × (p.size ≡ 64)
  Follows lldp older p = (p.kind ≡ kind.Express) × (p.from ≡ 0) × (p.size ≡ 64)

  -- each mPacket follows those before it, the newest first
  abbrev pub AreSent : List Sending → Type 0
  AreSent [] = Unit {0}
  AreSent (p ∷ older) = Follows p.told.chosen older p × AreSent older

  -- the mPackets of these calls
  pub record IsSending (calls : List Call) (packets : List Sending) : Type 0 where
    pub told : told_by calls ≡ map (λ p. p.told) packets
    pub sent : AreSent packets

module _ (cost : ℕ) where
  -- no mPacket is under way, and the gap has passed since the end of each
  abbrev pub HasGap : Option End → ℕ → Type 0
  HasGap None t = ⊥
  HasGap (Some end) t = end.tick + GAP * cost ≤ t

  abbrev pub IsFree : List Told → ℕ → Type 0
  IsFree [] t = Unit {0}
  IsFree (p ∷ older) t = HasGap p.end t × IsFree older t

-- The calls of a sender, and the mPackets that they tell of.
use Rattle.std.specs.Prelude.{ℕ, List, [], ◌∷◌, fold, Option, Some, None}
use Rattle.pre_rings.specs.declared.slots.FrameRef.{FrameRef}

-- what is sent
pub data Chosen : Type 0 where
  express whole first : FrameRef → Chosen
  rest verify respond lldp : Chosen

-- a call: an mPacket begins at a tick; an express frame waits from a tick on; the mPacket ends, and the store holds its frame
pub data Call : Type 0 where
  begun : ℕ → Chosen → Call
  waited : ℕ → Call
  ended : ℕ → List (Option (List ℕ)) → Call

-- the end of an mPacket, with the frames of that time
pub record End : Type 0 where
  pub tick : ℕ
  pub store : List (Option (List ℕ))

-- an mPacket as the calls tell of it; `waits` is the first tick, while it was under way, from which on an express frame waits
pub record Told : Type 0 where
  pub began : ℕ
  pub chosen : Chosen
  pub waits : Option ℕ
  pub end : Option End

-- where it is under way and no such tick was told yet
abbrev pub waits_from : ℕ → Option End → Option ℕ → Option ℕ
waits_from t None None = Some t
waits_from t None (Some s) = Some s
waits_from t (Some end) waits = waits

-- each call with the mPackets before it, the newest first
abbrev pub tells : List Told → Call → List Told
tells older (begun t chosen) = record { began = t; chosen = chosen; waits = None; end = None } ∷ older
tells [] (waited t) = []
tells (p ∷ older) (waited t) = record p { waits = waits_from t p.end p.waits } ∷ older
tells [] (ended t store) = []
tells (p ∷ older) (ended t store) = record p { end = Some (record { tick = t; store = store }) } ∷ older

abbrev pub told_by : List Call → List Told
told_by calls = fold tells [] calls

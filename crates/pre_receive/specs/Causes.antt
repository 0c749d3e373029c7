-- Why an arrival gives nothing (IEEE 802.3, 99.4).
use Rattle.std.specs.Prelude.{◌≡◌, ◌≢◌, ◌⊎◌, ℕ, ◌+◌, ◌<◌, List, ◌++◌, length, take, Option, Some, slice_get}
use Rattle.pre_base.specs.declared.limits.TheConstants.{GREATEST_FRAME, LEAST_DATA, GREATEST_DATA}
use Rattle.pre_mpacket.specs.declared.packets.Kind.{Kind}
use Rattle.pre_mpacket.specs.declared.packets.Kind.TheVariants as kind
use Rattle.pre_mpacket.specs.declared.reading.MFault.{MFault}
use Rattle.pre_mpacket.specs.declared.reading.MFault.TheVariants as fault
use Rattle.pre_mpacket.specs.Spelling.{PlainPacket, IsFirstFault}
use Rattle.pre_mpacket.specs.Arrivals.{is_continue, HasKind, Spelled, IsOpenBefore}
use Rattle.pre_mpacket.specs.Open.{IsOpen}
use Rattle.pre_receive.specs.declared.taken.Cause.{Cause}
use Rattle.pre_receive.specs.declared.taken.Cause.TheVariants as cause

-- the reasons, of which an arrival may have several
pub data Reason : Type 0 where
  no_delimiter no_fragment_count short no_open_frame other_frame_count other_fragment_count long other_check : Reason

-- the order in which they are looked for
abbrev pub place_of : Reason → ℕ
place_of no_delimiter = 0
place_of no_fragment_count = 1
place_of short = 2
place_of no_open_frame = 3
place_of other_frame_count = 4
place_of other_fragment_count = 5
place_of long = 6
place_of other_check = 7

-- and what is answered to each
abbrev pub cause_of : Reason → Cause
cause_of no_delimiter = cause.Smd
cause_of no_fragment_count = cause.Fragment
cause_of short = cause.Size
cause_of no_open_frame = cause.NoFrame
cause_of other_frame_count = cause.Count
cause_of other_fragment_count = cause.Fragment
cause_of long = cause.Size
cause_of other_check = cause.Check

module _ (A : List (Option (List ℕ))) (i : ℕ) where
  -- what comes at place i is no mPacket, and this is its first fault
  abbrev pub Breaks : MFault → Type 0
  Breaks e = (octets : List ℕ) × (slice_get A i ≡ Some (Some octets)) × IsFirstFault e octets

  -- a continuation with the frame count c and the fragment count n comes at place i, while a frame of frame count d
  -- is open whose next fragment count is e
  abbrev pub MeetsOpen : ℕ → ℕ → ℕ → ℕ → Type 0
  MeetsOpen c n d e = (m : PlainPacket) × (before : List ℕ) × (Spelled A i ≡ Some m) × (m.kind ≡ kind.Continue c n) × IsOpen (take i A) d e before

  -- An express frame is longer than any frame; a start, or the data that a continuation joins, is longer than that of any
  -- frame; a verify or respond is not just as long as the least.
  abbrev pub IsLong : PlainPacket → Kind → Type 0
  IsLong m kind.Express = GREATEST_FRAME < length m.mdata + length m.check
  IsLong m (kind.Start c) = GREATEST_DATA < length m.mdata
  IsLong m (kind.Continue c n) = (d e : ℕ) × (before : List ℕ) × IsOpen (take i A) d e before × (GREATEST_DATA < length (before ++ m.mdata))
  IsLong m kind.Verify = length m.mdata ≢ LEAST_DATA
  IsLong m kind.Respond = length m.mdata ≢ LEAST_DATA

  -- Arrival i has this reason to give nothing.
  abbrev pub HasReason : Reason → Type 0
  HasReason no_delimiter = Breaks fault.Smd ⊎ Breaks fault.Preamble
  HasReason no_fragment_count = Breaks fault.Fragment
  HasReason short = Breaks fault.Short
  HasReason no_open_frame = HasKind A is_continue i × ¬ IsOpenBefore A i
  HasReason other_frame_count = (c n d e : ℕ) × MeetsOpen c n d e × (c ≢ d)
  HasReason other_fragment_count = (c n d e : ℕ) × MeetsOpen c n d e × (n ≢ e)
  HasReason long = (m : PlainPacket) × (Spelled A i ≡ Some m) × IsLong m m.kind
  HasReason other_check = Unit {0}

  -- This cause is that of the first reason.
  pub record IsCause (c : Cause) : Type 0 where
    pub reason : Reason
    pub named : c ≡ cause_of reason
    pub here : HasReason reason
    pub none_before : (r : Reason) → place_of r < place_of reason → ¬ HasReason r

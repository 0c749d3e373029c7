-- What each of a list of arrivals gives. Place i of the list has the octets of arrival i, and None where it was lost.
use Rattle.std.specs.Prelude.{ℕ, suc, ◌-◌, ◌<◌, ◌≤◌, ◌≡◌, ◌⊎◌, Bool, true, false, List, [], ◌++◌, length, filter}
use Rattle.std.specs.Prelude.{filter_map, take, drop, replicate, Option, Some, None, slice_get, option_and_then, IsTrue, IsFalse}
use Rattle.pre_base.specs.declared.limits.TheConstants.{LEAST_FRAME, GREATEST_FRAME, LEAST_DATA, GREATEST_DATA}
use Rattle.pre_crc.specs.Checks.{Fcs, Mcrc}
use Rattle.pre_mpacket.specs.declared.packets.Kind.{Kind}
use Rattle.pre_mpacket.specs.declared.packets.Kind.TheVariants as kind
use Rattle.pre_mpacket.specs.Spelling.{PlainPacket, mpacket_of}
use Rattle.pre_mpacket.specs.Pieces.{joined, IsSequence, IsChecked}

-- what an arrival may give
pub data Given : Type 0 where
  frame : (octets : List ℕ) → Given
  part verify respond : Given

abbrev pub is_start : Kind → Bool
is_start (kind.Start c) = true
is_start other = false

abbrev pub is_continue : Kind → Bool
is_continue (kind.Continue c n) = true
is_continue other = false

abbrev pub is_fragment : Kind → Bool
is_fragment (kind.Start c) = true
is_fragment (kind.Continue c n) = true
is_fragment other = false

-- the starts and continuations that arrivals spell, in their order
abbrev pub fragments_of : List (Option (List ℕ)) → List PlainPacket
fragments_of arrivals = filter (λ m. is_fragment m.kind) (filter_map (λ a. option_and_then mpacket_of a) arrivals)

-- A start and its continuations with no more mData in all than a frame may have, each of which is accepted but perhaps for
-- the check of the last one.
abbrev pub IsChain : List PlainPacket → Type 0
IsChain ms = IsSequence ms × (length (joined ms) ≤ GREATEST_DATA) × IsChecked [] ms

-- an express mPacket with its frame
abbrev pub IsExpress : PlainPacket → List ℕ → Type 0
IsExpress m octets = (m.kind ≡ kind.Express) × (octets ≡ m.mdata ++ m.check) × (LEAST_FRAME ≤ length octets) × (length octets ≤ GREATEST_FRAME) × (m.check ≡ Fcs m.mdata)

-- a verify or respond as it is sent
abbrev pub IsBare : PlainPacket → Kind → Type 0
IsBare m k = (m.kind ≡ k) × (m.mdata ≡ replicate LEAST_DATA 0) × (m.check ≡ Mcrc m.mdata)

module _ (A : List (Option (List ℕ))) where
  -- arrival i was lost
  abbrev pub IsLost : ℕ → Type 0
  IsLost i = slice_get A i ≡ Some None

  -- arrival i came
  abbrev pub HasCome : ℕ → Type 0
  HasCome i = (octets : List ℕ) × (slice_get A i ≡ Some (Some octets))

  -- the mPacket that arrival i spells
  abbrev pub Spelled : ℕ → Option PlainPacket
  Spelled i = option_and_then (λ a. option_and_then mpacket_of a) (slice_get A i)

  -- arrival i spells an mPacket whose kind passes the test
  abbrev pub HasKind : (Kind → Bool) → ℕ → Type 0
  HasKind test i = (m : PlainPacket) × (Spelled i ≡ Some m) × IsTrue (test m.kind)

  -- the starts and continuations that arrivals j to i spell
  abbrev pub Fragments : ℕ → ℕ → List PlainPacket
  Fragments j i = fragments_of (take (suc i - j) (drop j A))

  abbrev pub Data : ℕ → ℕ → List ℕ
  Data j i = joined (Fragments j i)

  -- j is a start and i a fragment, and those from j to i are accepted but perhaps for the check of i
  abbrev pub Chain : ℕ → ℕ → Type 0
  Chain j i = (j ≤ i) × HasKind is_start j × HasKind is_fragment i × IsChain (Fragments j i)

  -- a chain with this data ends at i
  abbrev pub EndsChain : ℕ → List ℕ → Type 0
  EndsChain i all = (j : ℕ) × Chain j i × (all ≡ Data j i)

  -- what arrival i gives by the mPacket m that it spells
  abbrev pub GivesAs : ℕ → PlainPacket → Given → Type 0
  GivesAs i m (Given.frame octets) = IsExpress m octets ⊎ ((all : List ℕ) × EndsChain i all × (m.check ≡ Fcs all) × (octets ≡ all ++ m.check))
  GivesAs i m Given.part = (all : List ℕ) × EndsChain i all × (m.check ≡ Mcrc all)
  GivesAs i m Given.verify = IsBare m kind.Verify
  GivesAs i m Given.respond = IsBare m kind.Respond

  -- Arrival i gives this.
  abbrev pub Gives : ℕ → Given → Type 0
  Gives i g = (m : PlainPacket) × (Spelled i ≡ Some m) × GivesAs i m g

  abbrev pub GivesNothing : ℕ → Type 0
  GivesNothing i = (g : Given) → ¬ Gives i g

  -- A frame is open before i: the last fragment before i is a part.
  abbrev pub IsOpenBefore : ℕ → Type 0
  IsOpenBefore i = (j : ℕ) × (j < i) × Gives j Given.part × ((k : ℕ) → j < k → k < i → (m : PlainPacket) → Spelled k ≡ Some m → IsFalse (is_fragment m.kind))

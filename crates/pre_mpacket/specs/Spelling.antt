-- How an mPacket is spelled in octets (IEEE 802.3, 99.3).
use Rattle.std.specs.Prelude.{◌≡◌, ◌≢◌, ◌⊎◌, ℕ, ◌-◌, ◌<◌, ◌≤◌, nat_lt, nat_eq, if◌then◌else◌, List, []}
use Rattle.std.specs.Prelude.{◌∷◌, ◌++◌, length, take, drop, replicate, map, flat_map, find, slice_index, Contains, Option, None, option_map}
use Rattle.std.specs.Prelude.{Result, Ok, Err}
use Rattle.std.specs.List.{starts_with}
use Rattle.pre_base.specs.declared.limits.TheConstants.{LEAST_DATA}
use Rattle.pre_mpacket.specs.declared.packets.Kind.{Kind}
use Rattle.pre_mpacket.specs.declared.packets.Kind.TheVariants as kind
use Rattle.pre_mpacket.specs.declared.packets.MPacket.{MPacket}
use Rattle.pre_mpacket.specs.declared.reading.MFault.{MFault}
use Rattle.pre_mpacket.specs.declared.reading.MFault.TheVariants as fault

-- an mPacket as a plain value
pub record PlainPacket : Type 0 where
  pub kind : Kind
  pub mdata : List ℕ
  pub check : List ℕ

abbrev pub plain : MPacket → PlainPacket
plain m = record { kind = m.kind; mdata = m.mdata.now; check = m.check.now }

-- the SMDs of starts and of continuations by their frame count, and the octet of each fragment count
abbrev pub start_smds : List ℕ
start_smds = 0xe6 ∷ 0x4c ∷ 0x7f ∷ 0xb3 ∷ []

abbrev pub continue_smds : List ℕ
continue_smds = 0x61 ∷ 0x52 ∷ 0x9e ∷ 0x2a ∷ []

abbrev pub fragment_counts : List ℕ
fragment_counts = 0xe6 ∷ 0x4c ∷ 0x7f ∷ 0xb3 ∷ []

-- the eight octets before the mData: preamble, SMD, and the fragment count of a continuation
abbrev pub head_of : Kind → List ℕ
head_of kind.Express = replicate 7 0x55 ++ 0xd5 ∷ []
head_of kind.Verify = replicate 7 0x55 ++ 0x07 ∷ []
head_of kind.Respond = replicate 7 0x55 ++ 0x19 ∷ []
head_of (kind.Start c) = replicate 7 0x55 ++ slice_index start_smds c ∷ []
head_of (kind.Continue c n) = replicate 6 0x55 ++ slice_index continue_smds c ∷ slice_index fragment_counts n ∷ []

-- frame and fragment counts are 0 to 3
abbrev pub HasCounts : Kind → Type 0
HasCounts (kind.Start c) = c < 4
HasCounts (kind.Continue c n) = (c < 4) × (n < 4)
HasCounts other = Unit {0}

-- an mPacket that can be sent
pub record IsWhole (m : PlainPacket) : Type 0 where
  pub counts : HasCounts m.kind
  pub mdata : LEAST_DATA ≤ length m.mdata
  pub check : length m.check ≡ 4

-- The octets are the mPacket's.
pub record Spells (m : PlainPacket) (octets : List ℕ) : Type 0 where
  pub whole : IsWhole m
  pub joined : octets ≡ head_of m.kind ++ m.mdata ++ m.check

-- the SMDs that stand at octet 7
abbrev pub whole_smds : List ℕ
whole_smds = 0xd5 ∷ 0x07 ∷ 0x19 ∷ start_smds

-- The octets have this fault.
abbrev pub HasFault : MFault → List ℕ → Type 0
HasFault fault.Short octets = length octets < 72
HasFault fault.Preamble octets = take 6 octets ≢ replicate 6 0x55
HasFault fault.Smd octets =
    ((slice_index octets 6 ≡ 0x55) × ¬ Contains whole_smds (slice_index octets 7))
    ⊎ ((slice_index octets 6 ≢ 0x55) × ¬ Contains continue_smds (slice_index octets 6))
HasFault fault.Fragment octets = (slice_index octets 6 ≢ 0x55) × ¬ Contains fragment_counts (slice_index octets 7)

-- the order in which faults are looked for
abbrev pub place_of : MFault → ℕ
place_of fault.Short = 0
place_of fault.Preamble = 1
place_of fault.Smd = 2
place_of fault.Fragment = 3

-- The first of the faults that these octets have is this one.
pub record IsFirstFault (e : MFault) (octets : List ℕ) : Type 0 where
  pub here : HasFault e octets
  pub none_before : (d : MFault) → place_of d < place_of e → ¬ HasFault d octets

-- what octets 6 and 7 tell: a kind by its head, or which of the two has no place there
abbrev pub IsKindAt : Result Kind MFault → ℕ → ℕ → Type 0
IsKindAt (Ok k) a b = HasCounts k × (head_of k ≡ replicate 6 0x55 ++ a ∷ b ∷ [])
IsKindAt (Err e) a b = ((e ≡ fault.Smd) × ((a ≡ 0x55) × ¬ Contains whole_smds b ⊎ (a ≢ 0x55) × ¬ Contains continue_smds a))
    ⊎ ((e ≡ fault.Fragment) × (a ≢ 0x55) × Contains continue_smds a × ¬ Contains fragment_counts b)

-- ---- the mPacket that octets spell, as a value

-- each kind
abbrev pub kinds : List Kind
kinds =
    let counts = 0 ∷ 1 ∷ 2 ∷ 3 ∷ [] in
    (kind.Express ∷ kind.Verify ∷ kind.Respond ∷ [])
    ++ map (λ c. kind.Start c) counts
    ++ flat_map (λ c. map (λ n. kind.Continue c n) counts) counts

-- the kind with this head
abbrev pub kind_with : List ℕ → Option Kind
kind_with head = find (λ k. starts_with nat_eq head (head_of k)) kinds

-- the octets cut as those of an mPacket of this kind
abbrev pub packet_at : List ℕ → Kind → PlainPacket
packet_at octets k = record { kind = k; mdata = take (length octets - 12) (drop 8 octets); check = drop (length octets - 4) octets }

-- the mPacket that octets spell, if there is one
unfoldable pub mpacket_of : List ℕ → Option PlainPacket
mpacket_of octets = if nat_lt (length octets) 72 then None else option_map (packet_at octets) (kind_with (take 8 octets))

-- The fields of a user frame, and which octets are a frame with these fields.
use Rattle.std.specs.Prelude.{◌≡◌, ℕ, ◌+◌, ◌-◌, ◌*◌, ◌/◌, ◌%◌, ◌^◌, ◌<◌, ◌==◌, Bool, List, [], ◌∷◌, ◌++◌, length, take, drop, slice_index}
use Rattle.pre_crc.specs.Checks.{Fcs}
use Rattle.pre_frame.specs.Layout.{IsFrameSize, tag_control, header_of}

-- both addresses, the tag control information's parts, the type, the payload and the frame check sequence
pub record Fields : Type 0 where
  pub destination : List ℕ
  pub source : List ℕ
  pub prio : ℕ
  pub dei : Bool
  pub vid : ℕ
  pub ether : ℕ
  pub payload : List ℕ
  pub fcs : List ℕ

-- the octets of these fields before the frame check sequence
abbrev pub checked_of : Fields → List ℕ
checked_of fields =
    header_of fields.destination fields.source (tag_control fields.prio fields.dei fields.vid) fields.ether ++ fields.payload

-- neither too short nor too long
abbrev pub HasFrameSize : List ℕ → Type 0
HasFrameSize octets = IsFrameSize (length octets)

-- the last four octets are the frame check sequence of those before them
abbrev pub EndsWithFcs : List ℕ → Type 0
EndsWithFcs octets = drop (length octets - 4) octets ≡ Fcs (take (length octets - 4) octets)

-- a VLAN tag follows the addresses
abbrev pub IsTagged : List ℕ → Type 0
IsTagged octets = take 2 (drop 12 octets) ≡ 0x81 ∷ 0x00 ∷ []

-- the octets are the fields in order, each within its width, and the last four are the check of the rest
pub record IsFrame (fields : Fields) (octets : List ℕ) : Type 0 where
  pub size : HasFrameSize octets
  pub in_order : octets ≡ checked_of fields ++ fields.fcs
  pub destination : length fields.destination ≡ 6
  pub source : length fields.source ≡ 6
  pub prio : fields.prio < 2 ^ 3
  pub vid : fields.vid < 2 ^ 12
  pub ether : fields.ether < 2 ^ 16
  pub check : fields.fcs ≡ Fcs (checked_of fields)

-- the number in two octets from this place on, the highest first
abbrev pub number_at : ℕ → List ℕ → ℕ
number_at place octets = slice_index octets place * 2 ^ 8 + slice_index octets (place + 1)

-- the fields by their places
unfoldable pub fields_at : List ℕ → Fields
fields_at octets = record {
  destination = take 6 octets;
  source = take 6 (drop 6 octets);
  prio = number_at 14 octets / 2 ^ 13;
  dei = number_at 14 octets / 2 ^ 12 % 2 == 1;
  vid = number_at 14 octets % 2 ^ 12;
  ether = number_at 16 octets;
  payload = take (length octets - 22) (drop 18 octets);
  fcs = drop (length octets - 4) octets;
}

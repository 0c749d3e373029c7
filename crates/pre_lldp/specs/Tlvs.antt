-- The parts of an LLDPDU (IEEE 802.1AB clause 8.4): a type, a length, and a value of so many octets.
use Rattle.std.specs.Prelude.{ℕ, ◌+◌, ◌*◌, ◌^◌, ◌<◌, ◌==◌, ◌&&◌, ◌||◌, nat_eq, nat_le, nat_lt, not, Bool, true}
use Rattle.std.specs.Prelude.{if◌then◌else◌, List, [], ◌∷◌, ◌++◌, length, flat_map, Option, Some, None}
use Rattle.std.specs.List.{starts_with}
use Rattle.std.specs.Int.{bytes_high_first}
use Rattle.pre_lldp.specs.declared.reading.LldpFault.{LldpFault}
use Rattle.pre_lldp.specs.declared.reading.LldpFault.TheVariants.{Order, Length, Repeat}

pub record Tlv : Type 0 where
  pub kind : ℕ
  pub value : List ℕ

-- the header, which is the type in seven bits and the length in nine, and the value
abbrev pub tlv_octets : Tlv → List ℕ
tlv_octets t = bytes_high_first 2 (t.kind * 2 ^ 9 + length t.value) ++ t.value

-- TLVs one after the other
abbrev pub octets_of : List Tlv → List ℕ
octets_of tlvs = flat_map tlv_octets tlvs

-- its type and length fit the header
pub record HasHeader (t : Tlv) : Type 0 where
  pub kind : t.kind < 2 ^ 7
  pub size : length t.value < 2 ^ 9

-- Additional Ethernet Capabilities (IEEE 802.3 clause 79.3.7): the organization's identifier 00-12-0F and its subtype 7
unfoldable pub is_capabilities : Tlv → Bool
is_capabilities t = (t.kind == 127) && starts_with nat_eq t.value (0x00 ∷ 0x12 ∷ 0x0F ∷ 0x07 ∷ [])

-- the types that may stand behind so many others: the first three are Chassis ID, Port ID and Time To Live, and these come once
unfoldable pub has_place : ℕ → Tlv → Bool
has_place place t = if nat_lt place 3 then t.kind == place + 1 else (t.kind == 0) || nat_lt 3 t.kind

-- the lengths that a value may have: both identifiers consist of a subtype and 1 to 255 octets
unfoldable pub has_length : Tlv → Bool
has_length t =
    if t.kind == 0 then length t.value == 0
    else if nat_le t.kind 2 then nat_le 2 (length t.value) && nat_le (length t.value) 256
    else if t.kind == 3 then nat_le 2 (length t.value)
    else if is_capabilities t then nat_le 6 (length t.value)
    else true

-- the first fault of a TLV behind so many others, where a capabilities TLV is known among these or not
unfoldable pub fault_of : ℕ → Bool → Tlv → Option LldpFault
fault_of place known t =
    if not (has_place place t) then Some Order
    else if not (has_length t) then Some Length
    else if is_capabilities t && known then Some Repeat
    else None

-- LLDP frames (IEEE 802.1AB clauses 7 and 8) as lists of octets, and what they say.
use Rattle.std.specs.Prelude.{ℕ, ◌+◌, ◌-◌, ◌*◌, ◌/◌, ◌%◌, ◌==◌, ◌&&◌, nat_eq, Bool, cond, List, [], ◌∷◌}
use Rattle.std.specs.Prelude.{◌++◌, length, take, drop, replicate, Option, Some, None, unwrap_or, Result, Ok, Err, decimal}
use Rattle.std.specs.List.{starts_with}
use Rattle.std.specs.Int.{bytes_high_first}
use Rattle.pre_frame.specs.Layout.{address_of, with_check}
use Rattle.pre_lldp.specs.declared.adverts.Advert.{Advert}
use Rattle.pre_lldp.specs.declared.reading.LldpFault.{LldpFault}
use Rattle.pre_lldp.specs.Tlvs.{Tlv, octets_of}
use Rattle.pre_lldp.specs.Pdus.{Fields, tlvs_of}
use Rattle.pre_lldp.specs.PduReading.{pdu_of}

-- the address of the nearest bridge, to which LLDP frames go, and their type
abbrev pub nearest_bridge : List ℕ
nearest_bridge = 0x01 ∷ 0x80 ∷ 0xC2 ∷ 0x00 ∷ 0x00 ∷ 0x0E ∷ []

abbrev pub lldp_type : List ℕ
lldp_type = 0x88 ∷ 0xCC ∷ []

-- Chassis ID of the subtype MAC address, and Port ID of the subtype locally assigned: the arc's number in decimal digits
abbrev pub chassis_of : ℕ → List ℕ
chassis_of node = 4 ∷ address_of node

abbrev pub port_of : ℕ → List ℕ
port_of arc = 7 ∷ decimal arc

-- Additional Ethernet Capabilities: preemption supported, enabled and active, and the least size of a fragment in two bits
abbrev pub capabilities_of : Advert → ℕ
capabilities_of says = 1 + cond says.enabled 2 0 + cond says.active 4 0 + says.add_frag * 8

abbrev pub capabilities_tlv : Advert → Tlv
capabilities_tlv says = record { kind = 127; value = 0x00 ∷ 0x12 ∷ 0x0F ∷ 0x07 ∷ bytes_high_first 2 (capabilities_of says) }

-- the LLDPDU of an arc of a node, with an End TLV
abbrev pub lldpdu_of : ℕ → ℕ → Advert → List ℕ
lldpdu_of node arc says =
    octets_of (tlvs_of (chassis_of node) (port_of arc) (bytes_high_first 2 says.ttl) (capabilities_tlv says ∷ [])) ++ 0x00 ∷ 0x00 ∷ []

-- zeros behind the octets, up to 60 of all
abbrev pub padded : List ℕ → List ℕ
padded octets = octets ++ replicate (60 - length octets) 0

-- the frame with its check
unfoldable pub lldp_frame : ℕ → ℕ → Advert → List ℕ
lldp_frame node arc says = with_check (padded (nearest_bridge ++ address_of node ++ lldp_type ++ lldpdu_of node arc says))

-- whether a frame goes to that address and is of that type
abbrev pub is_lldp_frame : List ℕ → Bool
is_lldp_frame frame = starts_with nat_eq frame nearest_bridge && starts_with nat_eq (drop 12 frame) lldp_type

-- what stands between the type and the check of a frame, padding included
abbrev pub lldpdu_in : List ℕ → List ℕ
lldpdu_in frame = take (length frame - 18) (drop 14 frame)

-- the advert of an LLDPDU; without capabilities nothing is supported
abbrev pub advert_from : ℕ → ℕ → Advert
advert_from caps ttl = record {
  enabled = (caps % 2 == 1) && (caps / 2 % 2 == 1);
  active = caps / 4 % 2 == 1;
  add_frag = caps / 8 % 4;
  ttl = ttl;
}

abbrev pub advert_in : Fields → Advert
advert_in fields = advert_from (unwrap_or fields.caps 0) fields.ttl

abbrev pub if_read : Result Fields LldpFault → Option Advert
if_read (Ok fields) = Some (advert_in fields)
if_read (Err fault) = None

-- the advert of a frame, where its LLDPDU has no fault
unfoldable pub advert_of : List ℕ → Option Advert
advert_of frame = if_read (pdu_of (lldpdu_in frame))

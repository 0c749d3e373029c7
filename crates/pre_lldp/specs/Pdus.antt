-- Which octets are an LLDPDU, and which fault is the first of others.
use Rattle.std.specs.Prelude.{◌≡◌, ◌≢◌, ℕ, ◌+◌, ◌%◌, ◌^◌, ◌<◌, ◌≤◌, ◌⊎◌, ⊤, List, [], ◌∷◌, ◌++◌, length, find, Option, Some, None, option_map}
use Rattle.std.specs.List.{list_any}
use Rattle.pre_frame.specs.FrameFields.{number_at}
use Rattle.pre_lldp.specs.declared.reading.LldpFault.{LldpFault}
use Rattle.pre_lldp.specs.declared.reading.LldpFault.TheVariants.{Short, Order}
use Rattle.pre_lldp.specs.Tlvs.{Tlv, tlv_octets, octets_of, HasHeader, is_capabilities, fault_of}

-- The TLV has no fault behind these, and doesn't end the LLDPDU.
pub record IsFaultless (before : List Tlv) (t : Tlv) : Type 0 where
  pub header : HasHeader t
  pub goes_on : t.kind ≢ 0
  pub fault : fault_of (length before) (list_any is_capabilities before) t ≡ None

-- None of the TLVs has a fault behind those before it, and none ends the LLDPDU.
abbrev pub Faultless : List Tlv → List Tlv → Type 0
Faultless before [] = ⊤
Faultless before (t ∷ tlvs) = IsFaultless before t × Faultless (before ++ t ∷ []) tlvs

-- The octets are over, or begin with an End TLV, whatever follows it.
abbrev pub IsEnd : List ℕ → Type 0
IsEnd octets = (octets ≡ []) ⊎ ((rest : List ℕ) × (octets ≡ 0x00 ∷ 0x00 ∷ rest))

-- the values of Chassis ID and Port ID, the time to live, and the capabilities where there are any
pub record Fields : Type 0 where
  pub chassis : List ℕ
  pub port : List ℕ
  pub ttl : ℕ
  pub caps : Option ℕ

-- what the first capabilities TLV of these says
abbrev pub caps_of : List Tlv → Option ℕ
caps_of tlvs = option_map (λ t. number_at 4 t.value) (find is_capabilities tlvs)

-- Chassis ID, Port ID and Time To Live, and the others
abbrev pub tlvs_of : List ℕ → List ℕ → List ℕ → List Tlv → List Tlv
tlvs_of chassis port time others =
    record { kind = 1; value = chassis } ∷ record { kind = 2; value = port } ∷ record { kind = 3; value = time } ∷ others

-- The octets are TLVs without a fault up to an End TLV or to the last octet, and these are their fields.
pub record IsPdu (pdu : Fields) (octets : List ℕ) : Type 0 where
  pub time : List ℕ
  pub others : List Tlv
  pub last : List ℕ
  pub in_order : octets ≡ octets_of (tlvs_of pdu.chassis pdu.port time others) ++ last
  pub faultless : Faultless [] (tlvs_of pdu.chassis pdu.port time others)
  pub ends : IsEnd last
  pub ttl : pdu.ttl ≡ number_at 0 time
  pub caps : pdu.caps ≡ caps_of others

-- the length that a header of two octets gives
abbrev pub length_at : List ℕ → ℕ
length_at octets = number_at 0 octets % 2 ^ 9

-- One octet is left where a header is due, or the value passes the last octet.
abbrev pub IsCutOff : List ℕ → Type 0
IsCutOff octets = (length octets ≡ 1) ⊎ ((2 ≤ length octets) × (length octets < 2 + length_at octets))

-- The octets behind these TLVs begin with this fault.
abbrev pub BeginsWithFault : LldpFault → List Tlv → List ℕ → Type 0
BeginsWithFault fault before octets =
    ((fault ≡ Short) × IsCutOff octets)
    ⊎ ((fault ≡ Order) × (octets ≡ []) × (length before < 3))
    ⊎ ((t : Tlv) × (rest : List ℕ) × HasHeader t × (octets ≡ tlv_octets t ++ rest) × (fault_of (length before) (list_any is_capabilities before) t ≡ Some fault))

-- Behind some TLVs without a fault the octets go on with this one.
pub record IsFirstFault (fault : LldpFault) (octets : List ℕ) : Type 0 where
  pub before : List Tlv
  pub rest : List ℕ
  pub in_order : octets ≡ octets_of before ++ rest
  pub faultless : Faultless [] before
  pub here : BeginsWithFault fault before rest

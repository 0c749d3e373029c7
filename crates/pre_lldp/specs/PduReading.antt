-- The reading of an LLDPDU as a function, from the first octet on.
use Rattle.std.specs.Prelude.{ℕ, zero, suc, ◌+◌, ◌/◌, ◌^◌, ◌==◌, ◌&&◌, nat_le, nat_lt, not, Bool, if◌then◌else◌, List}
use Rattle.std.specs.Prelude.{[], ◌∷◌, ◌++◌, length, take, drop, Option, Some, None, Result, Ok, Err}
use Rattle.std.specs.List.{list_any}
use Rattle.pre_frame.specs.FrameFields.{number_at}
use Rattle.pre_lldp.specs.declared.reading.LldpFault.{LldpFault}
use Rattle.pre_lldp.specs.declared.reading.LldpFault.TheVariants.{Short, Order}
use Rattle.pre_lldp.specs.Tlvs.{Tlv, is_capabilities, fault_of}
use Rattle.pre_lldp.specs.Pdus.{Fields, caps_of, length_at}

-- whether the octets begin with a header and a value as long as it says
abbrev pub has_tlv : List ℕ → Bool
has_tlv octets = nat_le 2 (length octets) && nat_le (2 + length_at octets) (length octets)

-- the TLV at their front, and the octets behind it
abbrev pub tlv_at : List ℕ → Tlv
tlv_at octets = record { kind = number_at 0 octets / 2 ^ 9; value = take (length_at octets) (drop 2 octets) }

abbrev pub behind_tlv : List ℕ → List ℕ
behind_tlv octets = drop (length_at octets) (drop 2 octets)

abbrev pub unless : {A : Type 0} → Option LldpFault → A → Result A LldpFault
unless None x = Ok x
unless (Some fault) x = Err fault

-- the next TLV with what stands behind it, none at the end, or the fault there
unfoldable pub next_at : ℕ → Bool → List ℕ → Result (Option (Tlv × List ℕ)) LldpFault
next_at place known octets =
    if length octets == 0 then Ok None
    else if not (has_tlv octets) then Err Short
    else unless (fault_of place known (tlv_at octets)) (if number_at 0 octets / 2 ^ 9 == 0 then None else Some (tlv_at octets, behind_tlv octets))

-- what follows a next TLV, or the end
abbrev pub go_on : Result (Option (Tlv × List ℕ)) LldpFault → Result (List Tlv) LldpFault → (Tlv → List ℕ → Result (List Tlv) LldpFault) → Result (List Tlv) LldpFault
go_on (Err fault) ended further = Err fault
go_on (Ok None) ended further = ended
go_on (Ok (Some x)) ended further = further x.0 x.1

-- at the end the three TLVs that each LLDPDU has must be there
abbrev pub at_end : List Tlv → Result (List Tlv) LldpFault
at_end before = if nat_lt (length before) 3 then Err Order else Ok before

-- these TLVs and those of the octets, at most so many of them
unfoldable pub tlvs_from : ℕ → List Tlv → List ℕ → Result (List Tlv) LldpFault
tlvs_from zero before octets = Ok before
tlvs_from (suc n) before octets =
    go_on (next_at (length before) (list_any is_capabilities before) octets) (at_end before) (λ t rest. tlvs_from n (before ++ t ∷ []) rest)

abbrev pub fields_of : List Tlv → Fields
fields_of (chassis ∷ port ∷ time ∷ others) = record { chassis = chassis.value; port = port.value; ttl = number_at 0 time.value; caps = caps_of others }
fields_of _ = record { chassis = []; port = []; ttl = 0; caps = None }

abbrev pub read_as_fields : Result (List Tlv) LldpFault → Result Fields LldpFault
read_as_fields (Ok tlvs) = Ok (fields_of tlvs)
read_as_fields (Err fault) = Err fault

-- the fields of an LLDPDU, or its first fault; octets hold fewer TLVs than octets
unfoldable pub pdu_of : List ℕ → Result Fields LldpFault
pdu_of octets = read_as_fields (tlvs_from (suc (length octets)) [] octets)

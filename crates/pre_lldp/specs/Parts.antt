-- What the parts of the reader answer, in terms of the function that reads a whole LLDPDU.
use Rattle.std.specs.Prelude.{◌≡◌, ℕ, suc, ◌+◌, ◌<◌, ◌≤◌, false, List, [], ◌∷◌, ◌++◌, length, Option, Some, None, Result, Ok, Err}
use Rattle.std.specs.List.{list_any}
use Rattle.pre_lldp.specs.declared.reading.LldpFault.{LldpFault}
use Rattle.pre_lldp.specs.declared.reading.Tlv as declared
use Rattle.pre_lldp.specs.Tlvs.{Tlv, is_capabilities}
use Rattle.pre_lldp.specs.Pdus.{caps_of}
use Rattle.pre_lldp.specs.PduReading.{tlvs_from}

abbrev pub part : declared.Tlv → Tlv
part t = record { kind = t.kind; value = t.value.now }

abbrev pub faulty : {A : Type 0} → Result A LldpFault → Option LldpFault
faulty (Ok x) = None
faulty (Err fault) = Some fault

abbrev pub mapped : {A B : Type 0} → (A → B) → Result A LldpFault → Result B LldpFault
mapped f (Ok x) = Ok (f x)
mapped f (Err fault) = Err fault

-- The value of the required TLV and what stands behind it are those with which reading goes on, or it ends with the fault.
abbrev pub LeadsOn : Result (List ℕ × List ℕ) LldpFault → ℕ → List ℕ → Type 0
LeadsOn (Ok x) place octets =
    (n : ℕ) (before : List Tlv) → length before ≡ place → list_any is_capabilities before ≡ false
    → tlvs_from (suc n) before octets ≡ tlvs_from n (before ++ record { kind = place + 1; value = x.0 } ∷ []) x.1
LeadsOn (Err fault) place octets =
    (n : ℕ) (before : List Tlv) → length before ≡ place → list_any is_capabilities before ≡ false
    → tlvs_from (suc n) before octets ≡ Err fault

-- The capabilities are those of the TLVs that reading adds to the required ones, or it ends with the fault.
abbrev pub GivesOptions : Result (Option ℕ) LldpFault → List ℕ → Type 0
GivesOptions (Ok caps) octets =
    (n : ℕ) (before : List Tlv) → length octets < n → 3 ≤ length before → list_any is_capabilities before ≡ false
    → (more : List Tlv) × (tlvs_from n before octets ≡ Ok (before ++ more)) × (caps ≡ caps_of more)
GivesOptions (Err fault) octets =
    (n : ℕ) (before : List Tlv) → length octets < n → 3 ≤ length before → list_any is_capabilities before ≡ false
    → tlvs_from n before octets ≡ Err fault

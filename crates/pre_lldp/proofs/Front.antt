-- The first three TLVs and the others, as the reader takes them.
use Rattle.std.proofs.Common.{◌≡◌, ℕ, zero, suc, ◌+◌, ◌<◌, ◌≤◌, false, List, [], ◌∷◌, ◌++◌, length, Option, Result, Ok, Err, refl, sym, ap, ◌∙◌, arith}
use Rattle.std.specs.Prelude.{IsErrAnd}
use Rattle.std.specs.List.{list_any}
use Rattle.pre_frame.specs.FrameFields.{number_at}
use Rattle.pre_lldp.specs.declared.reading.LldpFault.{LldpFault}
use Rattle.pre_lldp.specs.declared.reading.Pdu.{Pdu}
use Rattle.pre_lldp.specs.Tlvs.{Tlv, is_capabilities}
use Rattle.pre_lldp.specs.Pdus.{Fields, tlvs_of}
use Rattle.pre_lldp.specs.PduReading.{tlvs_from, fields_of, read_as_fields, pdu_of}
use Rattle.pre_lldp.specs.Parts.{LeadsOn, GivesOptions}
use Rattle.pre_lldp.specs.Views.{read_fields}
use Rattle.pre_lldp.proofs.Whole.{ReadSoFar}

-- what was read of octets from their first one on
abbrev pub FrontRead : List ℕ → List Tlv → List ℕ → Type 0
FrontRead octets more rest = ReadSoFar (suc (length octets)) [] more octets rest

start : (octets : List ℕ) → FrontRead octets [] octets
start octets = record { left = suc (length octets); enough = omega arith; is = refl }

push_read : (octets rest value behind : List ℕ) (more : List Tlv) (place : ℕ) → FrontRead octets more rest → LeadsOn (Ok (value, behind)) place rest → length behind + 2 ≤ length rest
    → length more ≡ place → list_any is_capabilities more ≡ false → FrontRead octets (more ++ record { kind = place + 1; value = value } ∷ []) behind
push_read octets rest value behind more place so leads shorter len caps = go so.left so.enough so.is
  where
    go : (left : ℕ) → length rest < left → tlvs_from (suc (length octets)) [] octets ≡ tlvs_from left more rest → FrontRead octets (more ++ record { kind = place + 1; value = value } ∷ []) behind
    go zero h is = absurd (omega arith)
    go (suc left) h is = record { left = left; enough = omega arith; is = is ∙ leads left more len caps }

fail_read : (octets rest : List ℕ) (more : List Tlv) (place : ℕ) (fault : LldpFault) → FrontRead octets more rest → LeadsOn (Err fault) place rest → length more ≡ place → list_any is_capabilities more ≡ false
    → pdu_of octets ≡ Err fault
unfolding pdu_of
fail_read octets rest more place fault so leads len caps = ap read_as_fields (go so.left so.enough so.is)
  where
    go : (left : ℕ) → length rest < left → tlvs_from (suc (length octets)) [] octets ≡ tlvs_from left more rest → tlvs_from (suc (length octets)) [] octets ≡ Err fault
    go zero h is = absurd (omega arith)
    go (suc left) h is = is ∙ leads left more len caps

one_read : (octets chassis rest : List ℕ) → LeadsOn (Ok (chassis, rest)) 0 octets → length rest + 2 ≤ length octets → FrontRead octets (record { kind = 1; value = chassis } ∷ []) rest
one_read octets chassis rest leads shorter = push_read octets octets chassis rest [] 0 (start octets) leads shorter refl refl

two_read : (octets chassis port rest behind : List ℕ) → FrontRead octets (record { kind = 1; value = chassis } ∷ []) rest → LeadsOn (Ok (port, behind)) 1 rest → length behind + 2 ≤ length rest
    → FrontRead octets (record { kind = 1; value = chassis } ∷ record { kind = 2; value = port } ∷ []) behind
unfolding is_capabilities
two_read octets chassis port rest behind so leads shorter = push_read octets rest port behind (record { kind = 1; value = chassis } ∷ []) 1 so leads shorter refl refl

three_read : (octets chassis port time rest behind : List ℕ) → FrontRead octets (record { kind = 1; value = chassis } ∷ record { kind = 2; value = port } ∷ []) rest
    → LeadsOn (Ok (time, behind)) 2 rest → length behind + 2 ≤ length rest → FrontRead octets (tlvs_of chassis port time []) behind
unfolding is_capabilities
three_read octets chassis port time rest behind so leads shorter =
    push_read octets rest time behind (record { kind = 1; value = chassis } ∷ record { kind = 2; value = port } ∷ []) 2 so leads shorter refl refl

pub no_chassis : (octets : List ℕ) (fault : LldpFault) → LeadsOn (Err fault) 0 octets → pdu_of octets ≡ Err fault
no_chassis octets fault leads = fail_read octets octets [] 0 fault (start octets) leads refl refl

pub no_port : (octets chassis rest : List ℕ) (fault : LldpFault) → LeadsOn (Ok (chassis, rest)) 0 octets → length rest + 2 ≤ length octets → LeadsOn (Err fault) 1 rest → pdu_of octets ≡ Err fault
unfolding is_capabilities
no_port octets chassis rest fault l1 s1 leads =
    fail_read octets rest (record { kind = 1; value = chassis } ∷ []) 1 fault (one_read octets chassis rest l1 s1) leads refl refl

pub no_time : (octets chassis port rest behind : List ℕ) (fault : LldpFault) → LeadsOn (Ok (chassis, rest)) 0 octets → length rest + 2 ≤ length octets
    → LeadsOn (Ok (port, behind)) 1 rest → length behind + 2 ≤ length rest → LeadsOn (Err fault) 2 behind → pdu_of octets ≡ Err fault
unfolding is_capabilities
no_time octets chassis port rest behind fault l1 s1 l2 s2 leads =
    fail_read octets behind (record { kind = 1; value = chassis } ∷ record { kind = 2; value = port } ∷ []) 2 fault
    (two_read octets chassis port rest behind (one_read octets chassis rest l1 s1) l2 s2) leads refl refl

-- the first three TLVs, one behind the other
pub record Required (octets chassis port time rest : List ℕ) : Type 0 where
  pub rest1 : List ℕ
  pub rest2 : List ℕ
  pub leads1 : LeadsOn (Ok (chassis, rest1)) 0 octets
  pub shorter1 : length rest1 + 2 ≤ length octets
  pub leads2 : LeadsOn (Ok (port, rest2)) 1 rest1
  pub shorter2 : length rest2 + 2 ≤ length rest1
  pub leads3 : LeadsOn (Ok (time, rest)) 2 rest2
  pub shorter3 : length rest + 2 ≤ length rest2

all_three : (octets chassis port time rest : List ℕ) → Required octets chassis port time rest → FrontRead octets (tlvs_of chassis port time []) rest
all_three octets chassis port time rest r =
    three_read octets chassis port time r.rest2 rest (two_read octets chassis port r.rest1 r.rest2 (one_read octets chassis r.rest1 r.leads1 r.shorter1) r.leads2 r.shorter2) r.leads3 r.shorter3

pub no_options : (octets chassis port time rest : List ℕ) (fault : LldpFault) → Required octets chassis port time rest → GivesOptions (Err fault) rest → pdu_of octets ≡ Err fault
unfolding pdu_of is_capabilities
no_options octets chassis port time rest fault r gives =
    let so = all_three octets chassis port time rest r in
    ap read_as_fields (so.is ∙ gives so.left (tlvs_of chassis port time []) so.enough (omega arith) refl)

pub read_whole : (octets chassis port time rest : List ℕ) (caps : Option ℕ) (ttl : ℕ) → Required octets chassis port time rest → GivesOptions (Ok caps) rest → ttl ≡ number_at 0 time
    → (let x : Fields = record { chassis = chassis; port = port; ttl = ttl; caps = caps } in Ok x) ≡ pdu_of octets
unfolding pdu_of is_capabilities
read_whole octets chassis port time rest caps ttl r gives is =
    let so = all_three octets chassis port time rest r in
    let found = gives so.left (tlvs_of chassis port time []) so.enough (omega arith) refl in
    let e : read_as_fields (tlvs_from (suc (length octets)) [] octets) ≡ Ok (fields_of (tlvs_of chassis port time [] ++ found.0)) = ap read_as_fields (so.is ∙ found.1) in
    same_fields chassis port ttl _ caps _ is found.2 ∙ sym e
  where
    same_fields : (chassis port : List ℕ) (ttl ttl' : ℕ) (caps caps' : Option ℕ) → ttl ≡ ttl' → caps ≡ caps'
        → (let x : Result Fields LldpFault = Ok (record { chassis = chassis; port = port; ttl = ttl; caps = caps }) in x) ≡ (let x : Result Fields LldpFault = Ok (record { chassis = chassis; port = port; ttl = ttl'; caps = caps' }) in x)
    same_fields chassis port ttl ttl' caps caps' e f = cc

pub read_exits : (r : Result Pdu LldpFault) (octets : List ℕ) (fault : LldpFault) → IsErrAnd r (λ e. e ≡ fault) → pdu_of octets ≡ Err fault → read_fields r ≡ pdu_of octets
read_exits (Ok x) octets fault is e = absurd is
read_exits (Err f) octets fault is e = ap (λ g. Err g) is ∙ sym e

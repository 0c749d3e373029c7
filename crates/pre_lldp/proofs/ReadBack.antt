-- What is sent is read back.
use Rattle.std.proofs.Common.{◌≡◌, ℕ, zero, suc, ◌+◌, ◌-◌, ◌*◌, ◌/◌, ◌%◌, ◌<◌, ◌≤◌, ◌&&◌, not, nat_le, Bool, true, false, cond}
use Rattle.std.proofs.Common.{List, [], ◌∷◌, ◌++◌, length, take, replicate, Some, None, refl, sym, ap, ap₂, ◌∙◌, arith, append_assoc, length-append}
use Rattle.std.proofs.Common.{decimal, inr, lit<}
use Rattle.std.proofs.lemmas.Bool.{le-leb, and_from}
use Rattle.std.proofs.lemmas.List.{take_at, length-replicate}
use Rattle.std.proofs.lemmas.Fmt.{length-decimal-le, decimal_nonempty}
use Rattle.std.specs.Int.{bytes_high_first}
use Rattle.pre_crc.specs.Checks.{Fcs}
use Rattle.pre_crc.proofs.CheckFacts.{length-Fcs}
use Rattle.pre_frame.specs.Layout.{address_of}
use Rattle.pre_lldp.specs.declared.adverts.Advert.{Advert}
use Rattle.pre_lldp.specs.Tlvs.{octets_of, is_capabilities, has_place, has_length, fault_of}
use Rattle.pre_lldp.specs.Pdus.{Faultless, Fields, caps_of, IsPdu, tlvs_of}
use Rattle.pre_lldp.specs.PduReading.{pdu_of}
use Rattle.pre_lldp.specs.LldpLayout.{nearest_bridge, lldp_type, chassis_of, port_of, capabilities_of, capabilities_tlv, lldpdu_of, padded}
use Rattle.pre_lldp.specs.LldpLayout.{lldp_frame, lldpdu_in, is_lldp_frame, advert_from, if_read, advert_of}
use Rattle.pre_lldp.specs.declared.reading.LldpFault.TheVariants.{Length}
use Rattle.pre_lldp.proofs.PduLaws.{pdu_of-pdu}
use Rattle.pre_lldp.proofs.Written.{in_order, front_of, back_of}

caps-lt : (says : Advert) → says.add_frag < 4 → capabilities_of says < 32
caps-lt says h = go says.enabled says.active
  where
    go : (e a : Bool) → 1 + cond e 2 0 + cond a 4 0 + says.add_frag * 8 < 32
    go true true = omega arith
    go true false = omega arith
    go false true = omega arith
    go false false = omega arith

-- the bits of the capabilities
caps-bits : (says : Advert) → says.add_frag < 4 → advert_from (capabilities_of says) says.ttl ≡ says
caps-bits says h = go says.enabled says.active says.add_frag says.ttl h
  where
    go : (e a : Bool) (f t : ℕ) → f < 4 → advert_from (1 + cond e 2 0 + cond a 4 0 + f * 8) t ≡ record { enabled = e; active = a; add_frag = f; ttl = t }
    go true true zero t h = refl
    go true true (suc zero) t h = refl
    go true true (suc (suc zero)) t h = refl
    go true true (suc (suc (suc zero))) t h = refl
    go true true (suc (suc (suc (suc f)))) t h = absurd (omega arith)
    go true false zero t h = refl
    go true false (suc zero) t h = refl
    go true false (suc (suc zero)) t h = refl
    go true false (suc (suc (suc zero))) t h = refl
    go true false (suc (suc (suc (suc f)))) t h = absurd (omega arith)
    go false true zero t h = refl
    go false true (suc zero) t h = refl
    go false true (suc (suc zero)) t h = refl
    go false true (suc (suc (suc zero))) t h = refl
    go false true (suc (suc (suc (suc f)))) t h = absurd (omega arith)
    go false false zero t h = refl
    go false false (suc zero) t h = refl
    go false false (suc (suc zero)) t h = refl
    go false false (suc (suc (suc zero))) t h = refl
    go false false (suc (suc (suc (suc f)))) t h = absurd (omega arith)

two_octets : (n : ℕ) → n < 65536 → n / 256 % 256 * 256 + n % 256 ≡ n
two_octets n h = omega arith

sent_caps : (says : Advert) → capabilities_of says < 65536 → Some (capabilities_of says) ≡ caps_of (capabilities_tlv says ∷ [])
unfolding is_capabilities
sent_caps says h = ap (λ n. Some n) (sym (two_octets (capabilities_of says) h))

-- the TLVs of an arc have no fault
sent_faultless : (node arc : ℕ) (says : Advert) → arc < 65536 → Faultless [] (tlvs_of (chassis_of node) (port_of arc) (bytes_high_first 2 says.ttl) (capabilities_tlv says ∷ []))
unfolding fault_of has_place has_length is_capabilities
sent_faultless node arc says ha =
    let short : length (decimal arc) ≤ 5 = length-decimal-le 5 arc (omega arith) (omega arith) (omega arith) in
    let some : 0 < length (decimal arc) = decimal_nonempty arc (omega arith) in
    let size : (nat_le 2 (length (port_of arc)) && nat_le (length (port_of arc)) 256) ≡ true =
    and_from _ _ (le-leb 2 (length (port_of arc)) (omega arith)) (le-leb (length (port_of arc)) 256 (omega arith)) in (
      record { header = record { kind = lit< tt; size = lit< tt }; goes_on = λ e. absurd cc; fault = refl },
      (
        record { header = record { kind = lit< tt; size = omega arith }; goes_on = λ e. absurd cc; fault = ap (λ b. cond (not b) (Some Length) None) size },
        (
          record { header = record { kind = lit< tt; size = lit< tt }; goes_on = λ e. absurd cc; fault = refl },
          (record { header = record { kind = lit< tt; size = lit< tt }; goes_on = λ e. absurd cc; fault = refl }, tt),
        ),
      ),
    )

abbrev unpadded : ℕ → ℕ → Advert → List ℕ
unpadded node arc says = nearest_bridge ++ address_of node ++ lldp_type ++ lldpdu_of node arc says

unpadded-short : (node arc : ℕ) (says : Advert) → arc < 65536 → length (unpadded node arc says) ≤ 45
unpadded-short node arc says ha =
    let short : length (decimal arc) ≤ 5 = length-decimal-le 5 arc (omega arith) (omega arith) (omega arith) in
    let row = in_order node arc says (length (decimal arc)) refl (omega arith) in
    let e : length ((front_of node (length (decimal arc)) ++ decimal arc) ++ back_of says) ≡ 26 + length (decimal arc) + 14 =
    length-append (front_of node (length (decimal arc)) ++ decimal arc) (back_of says) ∙ ap (λ n. n + 14) (length-append (front_of node (length (decimal arc))) (decimal arc)) in
    omega (arith, ap length row)

padded-length : (octets : List ℕ) → length octets ≤ 60 → length (padded octets) ≡ 60
padded-length octets h = omega (arith, length-append octets (replicate (60 - length octets) 0), length-replicate {A = ℕ} (60 - length octets) 0)

pub sent-length : (node arc : ℕ) (says : Advert) → arc < 65536 → length (lldp_frame node arc says) ≡ 64
unfolding lldp_frame
sent-length node arc says ha =
    let octets : List ℕ = padded (unpadded node arc says) in
    let short = unpadded-short node arc says ha in
    let long : length octets ≡ 60 = padded-length (unpadded node arc says) (omega arith) in
    length-append octets (Fcs octets) ∙ ap₂ (λ m n. m + n) long (length-Fcs octets)

pub sent-lldp : (node arc : ℕ) (says : Advert) → is_lldp_frame (lldp_frame node arc says) ≡ true
unfolding lldp_frame
sent-lldp node arc says = refl

sent-lldpdu : (node arc : ℕ) (says : Advert) → arc < 65536
    → lldpdu_in (lldp_frame node arc says) ≡ lldpdu_of node arc says ++ replicate (60 - length (unpadded node arc says)) 0
unfolding lldp_frame
sent-lldpdu node arc says ha =
    let zeros : List ℕ = replicate (60 - length (unpadded node arc says)) 0 in
    let body : List ℕ = lldpdu_of node arc says ++ zeros in
    let check : List ℕ = Fcs (padded (unpadded node arc says)) in
    let size = sent-length node arc says ha in
    let short = unpadded-short node arc says ha in
    let all : length (padded (unpadded node arc says)) ≡ 60 = padded-length (unpadded node arc says) (omega arith) in
    let long : length body ≡ 46 = omega arith in
    ap (λ n. take (n - 18) (body ++ check)) size ∙ take_at body check 46 long

pub sent-advert : (node arc : ℕ) (says : Advert) → arc < 65536 → says.add_frag < 4 → says.ttl < 65536 → advert_of (lldp_frame node arc says) ≡ Some says
unfolding advert_of
sent-advert node arc says ha hf ht =
    let caps = caps-lt says hf in
    let fields : Fields = record { chassis = chassis_of node; port = port_of arc; ttl = says.ttl; caps = Some (capabilities_of says) } in
    let zeros : List ℕ = replicate (60 - length (unpadded node arc says)) 0 in
    let is : IsPdu fields (lldpdu_of node arc says ++ zeros) = record {
      time = bytes_high_first 2 says.ttl;
      others = capabilities_tlv says ∷ [];
      last = 0 ∷ 0 ∷ zeros;
      in_order = append_assoc (octets_of (tlvs_of (chassis_of node) (port_of arc) (bytes_high_first 2 says.ttl) (capabilities_tlv says ∷ []))) (0 ∷ 0 ∷ []) zeros;
      faultless = sent_faultless node arc says ha;
      ends = inr (zeros, refl);
      ttl = sym (two_octets says.ttl ht);
      caps = sent_caps says (omega arith);
    } in
    ap (λ xs. if_read (pdu_of xs)) (sent-lldpdu node arc says ha) ∙ ap if_read (pdu_of-pdu fields (lldpdu_of node arc says ++ zeros) is) ∙ ap (λ x. Some x) (caps-bits says hf)

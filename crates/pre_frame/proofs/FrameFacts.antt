-- How long frames and payloads are.
use Rattle.std.proofs.Common.{◌≡◌, ℕ, ◌+◌, ◌-◌, ◌%◌, ◌≤◌, false, List, ◌++◌, length, arith, length-append}
use Rattle.std.proofs.lemmas.List.FromFn.{length-map-range_with_len}
use Rattle.pre_crc.proofs.CheckFacts.{length-Fcs}
use Rattle.pre_crc.specs.Checks.{Fcs}
use Rattle.pre_frame.specs.Layout.{header_of, address_of, tag_control, script_type, payload_of, frame_of}

pub length-payload_of : (number size : ℕ) → 4 ≤ size → length (payload_of number size) ≡ size
length-payload_of number size h = let rest = length-map-range_with_len (λ j. (number + j) % 256) 4 (size - 4) in omega arith

pub length-frame_of : (destination source prio vid number size : ℕ) → 26 ≤ size → length (frame_of destination source prio vid number size) ≡ size
unfolding frame_of
length-frame_of destination source prio vid number size h =
    let payload : List ℕ = payload_of number (size - 22) in
    let checked : List ℕ = header_of (address_of destination) (address_of source) (tag_control prio false vid) script_type ++ payload in
    let long : length checked ≡ 18 + length payload = omega arith in
    let part : length payload ≡ size - 22 = length-payload_of number (size - 22) (omega arith) in
    omega (arith, length-append checked (Fcs checked), length-Fcs checked, long, part)

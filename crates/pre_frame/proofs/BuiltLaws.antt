-- Frames as they are built are frames, and their numbers stand in them.
use Rattle.std.proofs.Common.{◌≡◌, ◌≢◌, ℕ, zero, suc, ◌+◌, ◌-◌, ◌*◌, ◌/◌, ◌%◌, ◌^◌, ◌<◌, ◌≤◌}
use Rattle.std.proofs.Common.{false, List, [], ◌∷◌, ◌++◌, All, refl, sym, ap, ◌∙◌, arith, lit<, mod-lt}
use Rattle.std.specs.List.{range_with_len}
use Rattle.std.specs.Int.{byte_at, bytes_high_first}
use Rattle.std.proofs.lemmas.List.Elements.{All-cons, All-nil, All-append, All-map}
use Rattle.pre_base.specs.declared.limits.TheConstants.{GREATEST_FRAME}
use Rattle.pre_crc.specs.Checks.{Fcs}
use Rattle.pre_frame.specs.Layout.{tag_type, script_type, address_of, tag_control, payload_of, frame_of}
use Rattle.pre_frame.specs.FrameFields.{IsFrame}
use Rattle.pre_frame.specs.Built.{fields_built, frame_number}
use Rattle.pre_frame.proofs.FrameFacts.{length-frame_of}

pub IsFrame-built : (destination source prio vid number size : ℕ) → prio < 8 → vid < 4096 → 64 ≤ size → size ≤ GREATEST_FRAME
    → IsFrame (fields_built destination source prio vid number size) (frame_of destination source prio vid number size)
unfolding frame_of
IsFrame-built destination source prio vid number size hp hv least most =
    let long = length-frame_of destination source prio vid number size (omega arith) in record {
      size = (omega arith, omega arith);
      in_order = refl;
      destination = refl;
      source = refl;
      prio = hp;
      vid = hv;
      ether = lit< tt;
      check = refl;
    }

-- four octets make their number again
four_octets : (n : ℕ) → n < 2 ^ 32 → (n / 16777216 % 256 * 256 + n / 65536 % 256) * 65536 + (n / 256 % 256 * 256 + n % 256) ≡ n
four_octets n h = omega arith

pub frame_number-frame_of : (destination source prio vid number size : ℕ) → number < 2 ^ 32 → frame_number (frame_of destination source prio vid number size) ≡ number
unfolding frame_of
frame_number-frame_of destination source prio vid number size h = four_octets number h

pub frame_of-differs : (destination source prio vid size destination' source' prio' vid' size' number number' : ℕ) → number < 2 ^ 32 → number' < 2 ^ 32 → number ≢ number'
    → frame_of destination source prio vid number size ≢ frame_of destination' source' prio' vid' number' size'
frame_of-differs destination source prio vid size destination' source' prio' vid' size' number number' h h' other same =
    other (sym (frame_number-frame_of destination source prio vid number size h) ∙ ap frame_number same ∙ frame_number-frame_of destination' source' prio' vid' number' size' h')

-- ---- each is an octet

byte_at-lt : (k n : ℕ) → byte_at k n < 256
byte_at-lt zero n = mod-lt n (lit< tt)
byte_at-lt (suc k) n = mod-lt _ (lit< tt)

bytes-octets : (k n : ℕ) → All (λ octet. octet < 256) (bytes_high_first k n)
bytes-octets zero n = All-nil (λ octet. octet < 256)
bytes-octets (suc k) n = All-cons (λ octet. octet < 256) (byte_at k n) (bytes_high_first k n) (byte_at-lt k n) (bytes-octets k n)

address-octets : (node : ℕ) → All (λ octet. octet < 256) (address_of node)
address-octets node =
    let P : ℕ → Type 0 = λ octet. octet < 256 in
    All-append P (2 ∷ 0 ∷ 0 ∷ 0 ∷ []) (bytes_high_first 2 node)
    (All-cons P 2 (0 ∷ 0 ∷ 0 ∷ []) (lit< tt) (All-cons P 0 (0 ∷ 0 ∷ []) (lit< tt) (All-cons P 0 (0 ∷ []) (lit< tt) (All-cons P 0 [] (lit< tt) (All-nil P)))))
    (bytes-octets 2 node)

payload-octets : (number size : ℕ) → All (λ octet. octet < 256) (payload_of number size)
payload-octets number size =
    let P : ℕ → Type 0 = λ octet. octet < 256 in
    All-append P (bytes_high_first 4 number) _ (bytes-octets 4 number)
    (All-map P (λ j. (number + j) % 256) (range_with_len 4 (size - 4)) (λ k d h. mod-lt _ (lit< tt)))

pub frame_of-octets : ((octets : List ℕ) → All (λ octet. octet < 256) (Fcs octets)) → (destination source prio vid number size : ℕ)
    → All (λ octet. octet < 256) (frame_of destination source prio vid number size)
unfolding frame_of
frame_of-octets fcs destination source prio vid number size =
    let P : ℕ → Type 0 = λ octet. octet < 256 in
    let control : ℕ = tag_control prio false vid in
    let to : List ℕ = address_of destination in
    let from : List ℕ = address_of source in
    let tag : List ℕ = bytes_high_first 2 tag_type in
    let numbers : List ℕ = bytes_high_first 2 control in
    let ether : List ℕ = bytes_high_first 2 script_type in
    let payload : List ℕ = payload_of number (size - 22) in
    let addresses = All-append P to from (address-octets destination) (address-octets source) in
    let tagged = All-append P (to ++ from ++ tag) numbers (All-append P (to ++ from) tag addresses (bytes-octets 2 tag_type)) (bytes-octets 2 control) in
    let header = All-append P (to ++ from ++ tag ++ numbers) ether tagged (bytes-octets 2 script_type) in
    let checked = All-append P (to ++ from ++ tag ++ numbers ++ ether) payload header (payload-octets number (size - 22)) in
    All-append P (to ++ from ++ tag ++ numbers ++ ether ++ payload) (Fcs (to ++ from ++ tag ++ numbers ++ ether ++ payload)) checked (fcs _)

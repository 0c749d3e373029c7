-- User frames as lists of octets: MAC frames (IEEE 802.3 clause 3) with a VLAN tag (IEEE 802.1Q clause 9).
use Rattle.std.specs.Prelude.{ℕ, ◌+◌, ◌-◌, ◌*◌, ◌%◌, ◌^◌, ◌≤◌, Bool, false, cond, List, ◌∷◌, ◌++◌, map}
use Rattle.std.specs.List.{range_with_len}
use Rattle.std.specs.Int.{bytes_high_first}
use Rattle.pre_base.specs.declared.limits.TheConstants.{LEAST_FRAME, GREATEST_FRAME}
use Rattle.pre_crc.specs.Checks.{Fcs}

-- octets of a frame with its check
abbrev pub IsFrameSize : ℕ → Type 0
IsFrameSize size = (LEAST_FRAME ≤ size) × (size ≤ GREATEST_FRAME)

-- the type that says that a VLAN tag follows
abbrev pub tag_type : ℕ
tag_type = 0x8100

-- the type of frames of a script, which IEEE 802 keeps for local experiments
abbrev pub script_type : ℕ
script_type = 0x88B5

-- the address of a node
abbrev pub address_of : ℕ → List ℕ
address_of node = 2 ∷ 0 ∷ 0 ∷ 0 ∷ bytes_high_first 2 node

-- tag control information: the priority in the top three bits, whether it may be dropped, and the VID in twelve bits
abbrev pub tag_control : ℕ → Bool → ℕ → ℕ
tag_control prio dei vid = prio * 2 ^ 13 + cond dei 1 0 * 2 ^ 12 + vid

-- the octets before the payload: both addresses, the tag, and the type
abbrev pub header_of : List ℕ → List ℕ → ℕ → ℕ → List ℕ
header_of destination source control ether =
    destination ++ source ++ bytes_high_first 2 tag_type ++ bytes_high_first 2 control ++ bytes_high_first 2 ether

-- a payload of so many octets: the frame's number, and from octet 4 on octet j is the number plus j, mod 256
abbrev pub payload_of : ℕ → ℕ → List ℕ
payload_of number size = bytes_high_first 4 number ++ map (λ j. (number + j) % 256) (range_with_len 4 (size - 4))

-- a list of octets with its frame check sequence after it
abbrev pub with_check : List ℕ → List ℕ
with_check octets = octets ++ Fcs octets

-- the frame of this number and size, from its source to its destination
unfoldable pub frame_of : ℕ → ℕ → ℕ → ℕ → ℕ → ℕ → List ℕ
frame_of destination source prio vid number size =
    with_check (header_of (address_of destination) (address_of source) (tag_control prio false vid) script_type ++ payload_of number (size - 22))

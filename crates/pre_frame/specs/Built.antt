-- What stands in the frames that are built.
use Rattle.std.specs.Prelude.{ℕ, ◌+◌, ◌-◌, ◌*◌, ◌^◌, ◌++◌, false, List}
use Rattle.pre_crc.specs.Checks.{Fcs}
use Rattle.pre_frame.specs.Layout.{script_type, address_of, tag_control, header_of, payload_of}
use Rattle.pre_frame.specs.FrameFields.{Fields, number_at}

-- the fields of the frame of this number and size
abbrev pub fields_built : ℕ → ℕ → ℕ → ℕ → ℕ → ℕ → Fields
fields_built destination source prio vid number size = record {
  destination = address_of destination;
  source = address_of source;
  prio = prio;
  dei = false;
  vid = vid;
  ether = script_type;
  payload = payload_of number (size - 22);
  fcs = Fcs (header_of (address_of destination) (address_of source) (tag_control prio false vid) script_type ++ payload_of number (size - 22));
}

-- the number at the front of a frame's payload
abbrev pub frame_number : List ℕ → ℕ
frame_number octets = number_at 18 octets * 2 ^ 16 + number_at 20 octets

-- The frame that is open after a list of arrivals.
use Rattle.std.specs.Prelude.{ℕ, ◌-◌, ◌%◌, ◌≤◌, ◌≡◌, List, [], length, drop, Option}
use Rattle.pre_base.specs.declared.limits.TheConstants.{GREATEST_DATA}
use Rattle.pre_crc.specs.Checks.{Mcrc}
use Rattle.pre_mpacket.specs.Spelling.{PlainPacket}
use Rattle.pre_mpacket.specs.Pieces.{joined, last_check, IsSequenceOf, IsChecked}
use Rattle.pre_mpacket.specs.Arrivals.{is_start, fragments_of, HasKind}

-- the starts and continuations from arrival j on
abbrev pub fragments_from : List (Option (List ℕ)) → ℕ → List PlainPacket
fragments_from A j = fragments_of (drop j A)

-- After these arrivals a frame is open, with this frame count, this next fragment count and these octets so far:
-- from a start on, each start or continuation is accepted and is a part.
pub record IsOpen (A : List (Option (List ℕ))) (frame_count next : ℕ) (octets : List ℕ) : Type 0 where
  pub from : ℕ
  pub start : HasKind A is_start from
  pub sequence : IsSequenceOf frame_count (fragments_from A from)
  pub checked : IsChecked [] (fragments_from A from)
  pub part : last_check (fragments_from A from) ≡ Mcrc octets
  pub short : length octets ≤ GREATEST_DATA
  pub whole : octets ≡ joined (fragments_from A from)
  pub counted : next ≡ (length (fragments_from A from) - 1) % 4

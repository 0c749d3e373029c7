-- The due answer where a file of mPackets is to be listed: what told contents ask for.
use Rattle.std.specs.Prelude.{◌≡◌, ◌⊎◌, ℕ, List, Option, Some, None}
use Rattle.std.specs.FinMap.{get}
use Rattle.pre_base.specs.Faults.{Rose}
use Rattle.pre_base.specs.Shelves.{Told}
use Rattle.pre_cli.specs.declared.statuses.FileWord.TheVariants as file
use Rattle.pre_cli.specs.declared.statuses.Status.{Status}
use Rattle.pre_cli.specs.declared.statuses.Status.TheVariants as status
use Rattle.pre_cli.specs.PacketFiles.{IsPacketDue}
use Rattle.pre_cli.specs.Answers.{Outside}
use Rattle.pre_cli.specs.Due.{TellsFiles, GivesUp}

-- the file of this name is told, with this first fault, or none
abbrev pub TellsPackets : Outside → List ℕ → Option (ℕ × ℕ) → Type 0
TellsPackets o name fault = (told : Told) × (octets : List ℕ) × TellsFiles o told × (get told.files name ≡ Some octets) × IsPacketDue octets fault

-- what is answered to a file with this first fault, or none
abbrev pub IsListingDue : Outside → Option (ℕ × ℕ) → Status → Type 0
IsListingDue o (Some place) s = (s ≡ status.Form file.Mpackets place.0 place.1) ⊎ GivesUp o s
IsListingDue o None s = (s ≡ status.Done) ⊎ ((s ≡ status.WriteFault) × Rose o.sink_before o.sink_after) ⊎ GivesUp o s

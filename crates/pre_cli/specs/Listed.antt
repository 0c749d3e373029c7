-- What the command that lists mPackets answers and leaves.
use Rattle.std.specs.Prelude.{◌≡◌, ◌⊎◌, ℕ, ◌<◌, ◌≤◌, List, [], ◌∷◌, ◌++◌, length, Option, Some, None, Result, true}
use Rattle.std.specs.FinMap.{get}
use Rattle.pre_base.specs.Faults.{Rose}
use Rattle.pre_base.specs.Told.{WhereTold}
use Rattle.pre_base.specs.Shelves.{Told, IsMissing}
use Rattle.pre_base.specs.Sinks.{Taken, TakesAll}
use Rattle.pre_receive.specs.declared.receivers.Receiver.{Receiver}
use Rattle.pre_receive.specs.Takings.{Taking, IsTaken}
use Rattle.pre_receive.specs.Receivers.{Stands}
use Rattle.pre_cli.specs.declared.statuses.FileWord.TheVariants as file
use Rattle.pre_cli.specs.declared.statuses.Status.{Status}
use Rattle.pre_cli.specs.declared.statuses.Status.TheVariants as status
use Rattle.pre_cli.specs.Scripts.{max_file}
use Rattle.pre_cli.specs.PacketFiles.{arrivals_of, fault_in, IsPacketDue}
use Rattle.pre_cli.specs.Listing.{packet_line, TakesListing, TakesListingFront}
use Rattle.pre_cli.specs.Answers.{Outside}

-- ---- one arrival: the receiver goes on, and the sink took its line

abbrev pub GivesLine : {T E : Type 0} → Result T E → Receiver → Receiver → ℕ → List ℕ → Option Taken → Option Taken → Type 0
GivesLine result old new place octets before after =
    ((A : List (Option (List ℕ))) → Stands old A → Stands new (A ++ Some octets ∷ []))
    × ((taking : Taking) × ((A : List (Option (List ℕ))) → Stands old A → IsTaken (A ++ Some octets ∷ []) (length A) taking)
    × WhereTold before after (TakesAll result (packet_line place octets taking)))

-- ---- the octets of a file

-- why the octets of a file that isn't too long came to this
abbrev pub ListedCause : Status → List ℕ → ℕ → ℕ → Type 0
ListedCause status.Done octets before now = fault_in (arrivals_of octets) ≡ None
ListedCause status.WriteFault octets before now = Rose before now × (fault_in (arrivals_of octets) ≡ None)
ListedCause (status.Form kind line rule) octets before now = (kind ≡ file.Mpackets) × (fault_in (arrivals_of octets) ≡ Some (line, rule))
ListedCause status.Memory octets before now = Unit {0}
ListedCause _ octets before now = ⊥

abbrev pub ListedLeaves : Status → List ℕ → Option Taken → Option Taken → Type 0
ListedLeaves status.Done octets old new = WhereTold old new (λ a b. TakesListing octets a b × (b.flushed ≡ true))
ListedLeaves status.WriteFault octets old new = WhereTold old new (TakesListingFront octets)
ListedLeaves _ octets old new = new ≡ old

-- ---- a file

-- the whole file of this name, which isn't too long
abbrev pub IsPacketFile : List ℕ → List ℕ → Told → Told → Type 0
IsPacketFile name octets old new = (get old.files name ≡ Some octets) × (length octets ≤ max_file)

-- the file of this name is there, and this is its first fault, or it has none
abbrev pub HasPackets : List ℕ → Option (ℕ × ℕ) → Told → Told → Type 0
HasPackets name fault old new = (octets : List ℕ) × (get old.files name ≡ Some octets) × IsPacketDue octets fault

-- why the octets of a file weren't read
abbrev pub IsFileCause : Status → List ℕ → ℕ → ℕ → Option Told → Option Told → Type 0
IsFileCause status.ReadFault name before now old new = IsMissing old name ⊎ Rose before now
IsFileCause (status.Form kind line rule) name before now old new =
    (kind ≡ file.Mpackets) × (line ≡ 0) × (rule ≡ 0) × WhereTold old new (λ a b. (octets : List ℕ) × (get a.files name ≡ Some octets) × (max_file < length octets))
IsFileCause status.Memory name before now old new = Unit {0}
IsFileCause _ name before now old new = ⊥

-- the cause of each answer; want of memory is free
abbrev pub ListingCause : Status → List ℕ → Outside → Type 0
ListingCause status.ReadFault name o = IsMissing o.told_before name ⊎ Rose o.shelf_before o.shelf_after
ListingCause (status.Form kind line rule) name o = (kind ≡ file.Mpackets) × WhereTold o.told_before o.told_after (HasPackets name (Some (line, rule)))
ListingCause status.WriteFault name o = Rose o.sink_before o.sink_after × WhereTold o.told_before o.told_after (HasPackets name None)
ListingCause status.Done name o = WhereTold o.told_before o.told_after (HasPackets name None)
ListingCause status.Memory name o = Unit {0}
ListingCause _ name o = ⊥

-- What the sink took, by the answer: all of the listing, flushed; a front of it; or nothing.
abbrev pub ListingLeaves : Status → List ℕ → Outside → Option Taken → Option Taken → Type 0
ListingLeaves status.Done name o old new =
    (octets : List ℕ) × WhereTold o.told_before o.told_after (IsPacketFile name octets) × WhereTold old new (λ a b. TakesListing octets a b × (b.flushed ≡ true))
ListingLeaves status.WriteFault name o old new =
    (octets : List ℕ) × WhereTold o.told_before o.told_after (IsPacketFile name octets) × WhereTold old new (TakesListingFront octets)
ListingLeaves _ name o old new = new ≡ old

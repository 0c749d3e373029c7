-- What the answers due to told contents share.
use Rattle.std.specs.Prelude.{◌≡◌, ◌⊎◌, Some}
use Rattle.pre_base.specs.Faults.{Rose}
use Rattle.pre_base.specs.Shelves.{Told}
use Rattle.pre_cli.specs.declared.statuses.Status.{Status}
use Rattle.pre_cli.specs.declared.statuses.Status.TheVariants as status
use Rattle.pre_cli.specs.Answers.{Outside}

-- the shelf tells its files, and goes on to
abbrev pub TellsFiles : Outside → Told → Type 0
TellsFiles o told = (o.told_before ≡ Some told) × ((after : Told) × (o.told_after ≡ Some after))

-- no memory was found, or the shelf failed
abbrev pub GivesUp : Outside → Status → Type 0
GivesUp o s = (s ≡ status.Memory) ⊎ ((s ≡ status.ReadFault) × Rose o.shelf_before o.shelf_after)

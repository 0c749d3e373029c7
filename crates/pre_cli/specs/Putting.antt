-- What became of a text that was to be written whole and passed on.
use Rattle.std.specs.Prelude.{◌≡◌, ◌⊎◌, ℕ, ◌≤◌, List, Option}
use Rattle.pre_base.specs.Told.{WhereTold}
use Rattle.pre_base.specs.Sinks.{Taken}
use Rattle.pre_base.specs.Sinks.{TakesFront}
use Rattle.pre_cli.specs.declared.statuses.Status.{Status}
use Rattle.pre_cli.specs.declared.statuses.Status.TheVariants as status
use Rattle.pre_cli.specs.Certifying.{TakesFlushed}
use Rattle.pre_cli.specs.Readings.{IsWritten}

-- all of it was taken and flushed, or a front of it where the sink failed
abbrev pub PutEnds : Status → List ℕ → Option Taken → Option Taken → Type 0
PutEnds s text old new = ((s ≡ status.Done) × WhereTold old new (TakesFlushed text)) ⊎ ((s ≡ status.WriteFault) × WhereTold old new (TakesFront text))

abbrev pub PutCause : Status → ℕ → ℕ → Type 0
PutCause s before now = (before ≤ now) × IsWritten s before now

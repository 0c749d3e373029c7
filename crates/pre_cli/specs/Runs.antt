-- What a run left in the sink that its trace goes to, by how it ended.
use Rattle.std.specs.Prelude.{◌≡◌, ◌⊎◌, ℕ, ◌≤◌, Option, true}
use Rattle.pre_base.specs.Faults.{Rose}
use Rattle.pre_base.specs.Told.{WhereTold}
use Rattle.pre_base.specs.Sinks.{Taken}
use Rattle.pre_history.specs.Scenario.{Scenario}
use Rattle.pre_sim.specs.declared.runs.Step.{Step}
use Rattle.pre_sim.specs.declared.runs.Step.TheVariants.{More, Ended, Alias, Stopped}
use Rattle.pre_cli.specs.declared.statuses.Status.{Status}
use Rattle.pre_cli.specs.declared.statuses.Status.TheVariants as status
use Rattle.pre_cli.specs.Written.{HasHistory, IsFirstAlias, TakesText, TakesTrace, TakesTextBefore, TakesTraceBefore, TakesTextFront}

abbrev pub RunLeaves : Scenario → Step → Option Taken → Option Taken → Type 0
RunLeaves w More old new = ⊥
RunLeaves w Ended old new = WhereTold old new (TakesText w)
RunLeaves w (Alias arc ordinal) old new = WhereTold old new (TakesTextBefore w arc.0 ordinal)
RunLeaves w Stopped old new = WhereTold old new (TakesTextFront w)

-- a run ends where there is a legal history, and stops before an arrival where that is the first alias
abbrev pub RunComesTo : Scenario → Step → Type 0
RunComesTo w More = ⊥
RunComesTo w Ended = HasHistory w
RunComesTo w (Alias arc ordinal) = IsFirstAlias w arc.0 ordinal
RunComesTo w Stopped = Unit {0}

-- What it left by the status that it gives, flushed where all was done, or all before the first alias. Where memory ran out
-- nothing was run.
abbrev pub RunEnds : Scenario → Status → Option Taken → Option Taken → Type 0
RunEnds w status.Done old new = WhereTold old new (TakesTrace w)
RunEnds w (status.Alias arc ordinal) old new = WhereTold old new (TakesTraceBefore w arc.0 ordinal)
RunEnds w status.WriteFault old new = WhereTold old new (TakesTextFront w)
RunEnds w status.Memory old new = new ≡ old
RunEnds w _ old new = ⊥

-- The cause of the status, and the sink's count of faults before and after, which rose where writing failed.
abbrev pub RunCause : Scenario → Status → ℕ → ℕ → Type 0
RunCause w status.WriteFault before now = (before ≤ now) × Rose before now
RunCause w status.Done before now = (before ≤ now) × HasHistory w
RunCause w (status.Alias arc ordinal) before now = (before ≤ now) × IsFirstAlias w arc.0 ordinal
RunCause w status.Memory before now = before ≤ now
RunCause w _ before now = ⊥

-- Nothing more is taken. The status given is the answer where all is flushed; else the sink failed.
abbrev pub FlushEnds : Status → Status → Option Taken → Option Taken → ℕ → ℕ → Type 0
FlushEnds given s old new before now =
    ((s ≡ given) × WhereTold old new (λ a b. (b.octets ≡ a.octets) × (b.flushed ≡ true)) × (before ≤ now))
    ⊎ ((s ≡ status.WriteFault) × WhereTold old new (λ a b. b.octets ≡ a.octets) × (before ≤ now) × Rose before now)

-- What becomes of a picture that was to be written, and what a command that draws one answers and leaves.
use Rattle.std.specs.Prelude.{◌≡◌, ◌⊎◌, ℕ, ◌≤◌, List, Option}
use Rattle.pre_base.specs.Sinks.{Taken}
use Rattle.pre_base.specs.Sinks.{TakesFront}
use Rattle.pre_cli.specs.declared.statuses.Status.{Status}
use Rattle.pre_cli.specs.declared.statuses.Status.TheVariants as status
use Rattle.pre_cli.specs.Answers.{Outside}
use Rattle.pre_cli.specs.Certifying.{TakesFlushed}
use Rattle.pre_cli.specs.Readings.{Reading, AnswerCause, AnswerLeaves}
use Rattle.pre_cli.specs.Putting.{PutEnds, PutCause}

-- all of it was taken and flushed; a front of it where the sink failed; or nothing where memory wasn't found
abbrev pub DrawnEnds : Status → List ℕ → Option Taken → Option Taken → Type 0
DrawnEnds s picture old new = PutEnds s picture old new ⊎ ((s ≡ status.Memory) × (new ≡ old))

abbrev pub DrawnCause : Status → ℕ → ℕ → Type 0
DrawnCause s before now = PutCause s before now ⊎ ((s ≡ status.Memory) × (before ≤ now))

-- the cause of each answer of a command that reads so, and then draws
abbrev pub DrawingCause : {X : Type 0} → Reading X → Status → Outside → Type 0
DrawingCause R s o = AnswerCause R s o

-- What the sink took: the picture of what the files gave, flushed; a front of it where the sink failed; and else nothing.
abbrev pub DrawingLeaves : {X : Type 0} → Reading X → (X → List ℕ) → Status → Outside → Type 0
DrawingLeaves R picture s o = AnswerLeaves R (λ x. TakesFlushed (picture x)) (λ x. TakesFront (picture x)) s o

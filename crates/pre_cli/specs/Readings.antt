-- What a command reads of the files that a shelf tells, in the order of its words, and what it answers and leaves.
use Rattle.std.specs.Prelude.{◌≡◌, ◌≢◌, ◌⊎◌, ℕ, Option}
use Rattle.pre_base.specs.Faults.{Rose}
use Rattle.pre_base.specs.Told.{WhereTold}
use Rattle.pre_base.specs.Shelves.{Told, Files}
use Rattle.pre_base.specs.Sinks.{Taken}
use Rattle.pre_cli.specs.declared.statuses.Status.{Status}
use Rattle.pre_cli.specs.declared.statuses.Status.TheVariants as status
use Rattle.pre_cli.specs.Answers.{Outside}
use Rattle.pre_cli.specs.Files.{OfFiles, GoneFrom}
use Rattle.pre_cli.specs.Due.{TellsFiles, GivesUp}

-- ---- readings

-- What files come to: a text isn't there when it is due, or one is refused with this answer, or they give this value.
pub record Reading (X : Type 0) : Type 1 where
  pub gone : Files → Type 0
  pub refused : Status → Files → Type 0
  pub gives : X → Files → Type 0
  -- the answers that there may be in place of a value, whatever the files are
  pub may : Status → Type 0

-- one reading, and then another one that depends on what the first gave
abbrev pub then_read : {X Y : Type 0} → Reading X → (X → Reading Y) → Reading (X × Y)
then_read {X} A B = record {
  gone = λ files. A.gone files ⊎ ((x : X) × A.gives x files × (B x).gone files);
  refused = λ s files. A.refused s files ⊎ ((x : X) × A.gives x files × (B x).refused s files);
  gives = λ both files. A.gives both.0 files × (B both.0).gives both.1 files;
  may = λ s. A.may s ⊎ ((x : X) × (B x).may s);
}

-- the same reading, whose value has to pass a test, or fails it with an answer
abbrev pub tested : {X : Type 0} → Reading X → (X → Type 0) → (X → Status → Type 0) → Reading X
tested {X} A Passes Fails = record {
  gone = A.gone;
  refused = λ s files. A.refused s files ⊎ ((x : X) × A.gives x files × Fails x s);
  gives = λ x files. A.gives x files × Passes x;
  may = λ s. A.may s ⊎ ((x : X) × Fails x s);
}

-- a fault of one text
abbrev pub IsTextAnswer : Status → Type 0
IsTextAnswer (status.Form kind line rule) = Unit {0}
IsTextAnswer (status.Rules kind row rule) = Unit {0}
IsTextAnswer _ = ⊥

-- ---- answers

-- what is answered in place of a value, and why; want of memory is free
abbrev pub Instead : {X : Type 0} → Reading X → Status → ℕ → ℕ → Option Told → Option Told → Type 0
Instead R s before now old new =
    ((s ≡ status.ReadFault) × (GoneFrom R.gone old ⊎ Rose before now))
    ⊎ (R.may s × WhereTold old new (OfFiles (R.refused s)))
    ⊎ (s ≡ status.Memory)

-- the files gave this value
abbrev pub Gave : {X : Type 0} → Reading X → Outside → X → Type 0
Gave R o x = WhereTold o.told_before o.told_after (OfFiles (R.gives x))

-- all was written and passed on, or the sink failed
abbrev pub IsWritten : Status → ℕ → ℕ → Type 0
IsWritten s before now = (s ≡ status.Done) ⊎ ((s ≡ status.WriteFault) × Rose before now)

-- The cause of each answer of a command that reads so, and then writes: where the files gave a value, one of the answers to
-- which it leads, or a failure of the sink.
abbrev pub EndsCause : {X : Type 0} → Reading X → (X → Status → Type 0) → Status → Outside → Type 0
EndsCause {X} R Ends s o =
    ((x : X) × Gave R o x × (Ends x s ⊎ ((s ≡ status.WriteFault) × Rose o.sink_before o.sink_after)))
    ⊎ Instead R s o.shelf_before o.shelf_after o.told_before o.told_after

-- that of one that leads to no other answer than Done
abbrev pub AnswerCause : {X : Type 0} → Reading X → Status → Outside → Type 0
AnswerCause R s o = EndsCause R (λ x t. t ≡ status.Done) s o

-- the sink took this of the value that the files gave
abbrev pub Took : {X : Type 0} → Reading X → Outside → (X → Taken → Taken → Type 0) → Type 0
Took {X} R o Takes = (x : X) × Gave R o x × WhereTold o.taken_before o.taken_after (Takes x)

-- What the sink took, by the answer: the whole on Done; a front where the sink failed; and else nothing.
pub record AnswerLeaves {X : Type 0} (R : Reading X) (Whole Front : X → Taken → Taken → Type 0) (s : Status) (o : Outside) : Type 0 where
  pub done : s ≡ status.Done → Took R o Whole
  pub torn : s ≡ status.WriteFault → Took R o Front
  pub nothing : s ≢ status.Done → s ≢ status.WriteFault → o.taken_after ≡ o.taken_before

-- ---- what is due

-- what files come to
pub data Outcome (X : Type 0) : Type 0 where
  missing : Outcome X
  refuses : Status → Outcome X
  reads : X → Outcome X

abbrev pub ComeTo : {X : Type 0} → Reading X → Outcome X → Files → Type 0
ComeTo R missing files = R.gone files
ComeTo R (refuses s) files = R.refused s files
ComeTo R (reads x) files = R.gives x files

-- what is answered to it
abbrev pub EndIsDue : {X : Type 0} → (X → Status → Type 0) → Outside → Outcome X → Status → Type 0
EndIsDue Ends o missing s = (s ≡ status.ReadFault) ⊎ (s ≡ status.Memory)
EndIsDue Ends o (refuses t) s = (s ≡ t) ⊎ GivesUp o s
EndIsDue Ends o (reads x) s = Ends x s ⊎ ((s ≡ status.WriteFault) × Rose o.sink_before o.sink_after) ⊎ GivesUp o s

-- files come to one outcome at most
abbrev pub OneOutcome : {X : Type 0} → Reading X → Type 0
OneOutcome {X} R = (files : Files) (a b : Outcome X) → ComeTo R a files → ComeTo R b files → a ≡ b

-- and it is answered, but where memory isn't found or the shelf or sink fails
abbrev pub EndsAreDue : {X : Type 0} → Reading X → (X → Status → Type 0) → Type 0
EndsAreDue {X} R Ends = (s : Status) (outcome : Outcome X) (o : Outside) (told : Told) → TellsFiles o told → ComeTo R outcome told.files → EndsCause R Ends s o → EndIsDue Ends o outcome s

abbrev pub DueIsAnswered : {X : Type 0} → Reading X → Type 0
DueIsAnswered R = EndsAreDue R (λ x s. s ≡ status.Done)

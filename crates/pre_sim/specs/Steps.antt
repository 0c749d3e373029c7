-- What a step of a run does, by its answer.
use Rattle.std.specs.Prelude.{◌≡◌, ℕ, ◌<◌, ◌≤◌, Bool, true, false, List, [], ◌∷◌, ◌++◌}
use Rattle.pre_base.specs.Faults.{Rose}
use Rattle.pre_history.specs.History.{PlainEvent, History}
use Rattle.pre_history.specs.Written.{IsWritten, AreWritten}
use Rattle.pre_history.specs.Legal.{Legal, FirstAliasAt}
use Rattle.pre_sim.specs.declared.runs.Step.{Step}
use Rattle.pre_sim.specs.declared.runs.Step.TheVariants.{More, Ended, Alias, Stopped}
use Rattle.pre_sim.specs.Telling.{TellsAll}
use Rattle.pre_sim.specs.Parts.{IsFrontOfLegal}
use Rattle.pre_sim.specs.Views.{SimView, HasTold}

abbrev pub is_more : Step → Bool
is_more More = true
is_more Ended = false
is_more (Alias arc ordinal) = false
is_more Stopped = false

-- What the watcher was told, by the watcher's relations before and after. The events of the tick follow those told so
-- far; on Ended all of them are a legal history; where the run stopped early they are the front of one, with the event at
-- which the watcher failed at its end. Before an alias they are legal before the moment of that arrival, which is one of the tick.
abbrev pub StepTells : SimView → Step → SimView → (List ℕ → History → Type 0) → (List ℕ → History → Type 0) → (List ℕ → History → PlainEvent → Type 0) → Type 0
StepTells old More new took took' torn = (es : History) × TellsAll old.run.net took took' es × ((h : History) → HasTold old h → HasTold new (h ++ es))
StepTells old Ended new took took' torn = (es : History) × TellsAll old.run.net took took' es × ((h : History) → HasTold old h → Legal old.run (h ++ es))
StepTells old (Alias arc ordinal) new took took' torn =
    (es : History) × TellsAll old.run.net took took' es × ((h : History) → HasTold old h → (tick : ℕ) × FirstAliasAt old.run (h ++ es) tick arc.0 ordinal)
StepTells old Stopped new took took' torn =
    (es : History) × (e : PlainEvent) × AreWritten old.run.net es × IsWritten old.run.net e × ((base : List ℕ) (h : History) → took base h → torn base (h ++ es) e)
    × ((h : History) → HasTold old h → IsFrontOfLegal old.run (h ++ (es ++ e ∷ [])))

-- it moves to a later tick, up to the last one, which ends the run
abbrev pub StepMoves : Step → SimView → SimView → Type 0
StepMoves More old new = (old.next < new.next) × (new.next ≤ new.run.script.until.0)
StepMoves Ended old new = old.next ≡ old.run.script.until.0
StepMoves (Alias arc ordinal) old new = Unit {0}
StepMoves Stopped old new = Unit {0}

-- the count of the watcher's faults, which rose where it stopped the run
abbrev pub StepCause : Step → ℕ → ℕ → Type 0
StepCause More before now = before ≤ now
StepCause Ended before now = before ≤ now
StepCause (Alias arc ordinal) before now = before ≤ now
StepCause Stopped before now = (before ≤ now) × Rose before now

-- What the command that drills the plant of a number answers and leaves.
use Rattle.std.specs.Prelude.{◌≡◌, ◌≢◌, ◌⊎◌, ℕ, ◌≤◌, ◌++◌, true, Option, All}
use Rattle.pre_base.specs.Faults.{Rose}
use Rattle.pre_base.specs.Told.{WhereTold}
use Rattle.pre_base.specs.Sinks.{Taken}
use Rattle.pre_base.specs.Sinks.{TakesFront}
use Rattle.pre_topo.specs.declared.network.Network.{Network}
use Rattle.pre_streams.specs.declared.rows.Streams.{Streams}
use Rattle.pre_script.specs.declared.scripts.Script.{Script}
use Rattle.pre_bound.specs.declared.certificate.Certificate.{Certificate}
use Rattle.pre_bound.specs.Listed.{HasGood}
use Rattle.pre_certify.specs.Causes.{Cause}
use Rattle.pre_certify.specs.declared.unfit.Unfit.{Unfit}
use Rattle.pre_certify.specs.declared.unfit.Unfit.TheVariants as unfit
use Rattle.pre_plant.specs.Plants.{IsPlant}
use Rattle.pre_history.specs.Scenario.{Scenario}
use Rattle.pre_history.specs.History.{History}
use Rattle.pre_history.specs.Legal.{Legal}
use Rattle.pre_trace.specs.Figures.{figures_of}
use Rattle.pre_trace.specs.SummaryText.{summary_text}
use Rattle.pre_cli.specs.declared.statuses.Status.{Status}
use Rattle.pre_cli.specs.declared.statuses.Status.TheVariants as status
use Rattle.pre_cli.specs.Certifying.{IsLeastRanked, HasLeast, UnfitCause}
use Rattle.pre_cli.specs.DueCertificates.{RefusesAs}
use Rattle.pre_cli.specs.Replaying.{RunsTo}
use Rattle.pre_cli.specs.Written.{HasHistory, IsFirstAlias}

-- the plant of a number: what its script runs over, and the script
pub record Drill (number : ℕ) : Type 0 where
  pub net : Network
  pub streams : Streams
  pub script : Script
  pub is_plant : IsPlant number net streams script

abbrev pub scenario : {number : ℕ} → Drill number → Scenario
scenario x = record { net = x.net; streams = x.streams; script = x.script }

-- ---- answers

-- it has a least certificate, and its script a legal history
abbrev pub IsDrilled : {number : ℕ} → Drill number → Type 0
IsDrilled x = HasLeast x.net x.streams × HasHistory (scenario x)

-- the cause of each answer; want of memory is free
abbrev pub DrillingCause : ℕ → Status → ℕ → ℕ → Type 0
DrillingCause number status.Done before now = (x : Drill number) × IsDrilled x
DrillingCause number status.WriteFault before now = Rose before now × ((x : Drill number) × IsDrilled x)
DrillingCause number (status.Unfit cause) before now = (x : Drill number) × UnfitCause cause x.net x.streams
DrillingCause number (status.Alias arc ordinal) before now = (x : Drill number) × HasLeast x.net x.streams × IsFirstAlias (scenario x) arc.0 ordinal
DrillingCause number status.Memory before now = Unit {0}
DrillingCause number _ before now = ⊥

-- ---- what the sink took

-- A plant was drilled with its certificate. The octets that the sink had, and those that it has:
pub record Drilled (number : ℕ) (x : Drill number) (c : Certificate) (old new : Taken) : Type 0 where
  -- The certificate is good, and the least one with ranks.
  pub certificate_is_least : IsLeastRanked x.net x.streams c
  -- The history is legal for the plant.
  pub history : History
  pub history_is_legal : Legal (scenario x) history
  -- What the sink took is its summary and nothing else, all of it flushed.
  pub summary_is_its_text : new.octets ≡ old.octets ++ summary_text x.net x.streams x.script history c.bounds number
  pub summary_is_flushed : new.flushed ≡ true
  -- No frame of a stream is longer on its way than the stream's bound, which stands beside the greatest delay.
  pub delays_are_within_bounds : All (λ bound. (figures_of x.script history bound.0.0).greatest ≤ bound.1) c.bounds

-- a front of such a summary
pub record DrilledFront (number : ℕ) (x : Drill number) (c : Certificate) (old new : Taken) : Type 0 where
  pub certificate_is_least : IsLeastRanked x.net x.streams c
  pub history : History
  pub history_is_legal : Legal (scenario x) history
  pub front : TakesFront (summary_text x.net x.streams x.script history c.bounds number) old new

-- What the sink took, by the answer: on Done the summary of a legal history of the plant; a front of it where writing failed;
-- and else nothing.
abbrev pub DrillingLeaves : ℕ → Status → Option Taken → Option Taken → Type 0
DrillingLeaves number status.Done old new = (x : Drill number) × (c : Certificate) × WhereTold old new (Drilled number x c)
DrillingLeaves number status.WriteFault old new = (x : Drill number) × (c : Certificate) × WhereTold old new (DrilledFront number x c)
DrillingLeaves number _ old new = new ≡ old

-- ---- what is due

-- Where the plant has a good certificate with ranks, the answer is the one that its run leads to.
abbrev pub DrillRuns : Type 0
DrillRuns = (number : ℕ) (x : Drill number) (s t : Status) (before now : ℕ) → HasGood x.net x.streams → RunsTo (scenario x) t → DrillingCause number s before now
    → (s ≡ t) ⊎ ((s ≡ status.WriteFault) × Rose before now) ⊎ (s ≡ status.Memory)

-- Where there is a cause to refuse it, it is refused so.
abbrev pub DrillRefuses : Type 0
DrillRefuses = (number : ℕ) (x : Drill number) (s : Status) (before now : ℕ) (e : Unfit) → e ≢ unfit.Memory → Cause x.net x.streams.rows e → DrillingCause number s before now
    → RefusesAs e s ⊎ (s ≡ status.Memory)

-- ---- one text

-- All drills of a number that are done took one text.
abbrev pub OneSummary : Type 0
OneSummary = (number : ℕ) (x y : Drill number) (c d : Certificate) (a b p q : Taken) → (first : Drilled number x c a b) → (second : Drilled number y d p q)
    → summary_text x.net x.streams x.script first.history c.bounds number ≡ summary_text y.net y.streams y.script second.history d.bounds number

-- What a command left in its sink.
use Rattle.std.specs.Prelude.{◌≡◌, ◌⊎◌, ℕ, List, ◌++◌, true}
use Rattle.pre_base.specs.Sinks.{Taken, TakesBut}
use Rattle.pre_history.specs.Scenario.{Scenario}
use Rattle.pre_history.specs.History.{History}
use Rattle.pre_trace.specs.Text.{text}
use Rattle.pre_history.specs.Deliveries.{DeliversOnce}
use Rattle.pre_history.specs.Legal.{Legal, LegalBefore, FirstAliasAt}
use Rattle.pre_history.specs.Written.{AreWritten}

-- The text of a legal history. Each of its deliveries has the octets of a frame that was sent, and no frame is delivered
-- twice. Its events can be told over the network, so the text is no other such history's.
abbrev pub TakesText : Scenario → Taken → Taken → Type 0
TakesText w old new = (h : History) × Legal w h × DeliversOnce w h × AreWritten w.net h × (new.octets ≡ old.octets ++ text w.net h)

-- that text, all of it flushed
abbrev pub TakesTrace : Scenario → Taken → Taken → Type 0
TakesTrace w old new = TakesText w old new × (new.flushed ≡ true)

-- there is a legal history
abbrev pub HasHistory : Scenario → Type 0
HasHistory w = (h : History) × Legal w h

-- The history is legal before the moment of this arrival, which is the first alias.
abbrev pub IsBeforeAlias : Scenario → (arc ordinal : ℕ) → History → Type 0
IsBeforeAlias w arc ordinal h = (t : ℕ) × FirstAliasAt w h t arc ordinal

-- This arrival is the first alias of a run.
abbrev pub IsFirstAlias : Scenario → (arc ordinal : ℕ) → Type 0
IsFirstAlias w arc ordinal = (h : History) × IsBeforeAlias w arc ordinal h

-- the text of the history before it, whose deliveries are as those of a legal one
abbrev pub TakesTextBefore : Scenario → (arc ordinal : ℕ) → Taken → Taken → Type 0
TakesTextBefore w arc ordinal old new = (h : History) × IsBeforeAlias w arc ordinal h × DeliversOnce w h × AreWritten w.net h × (new.octets ≡ old.octets ++ text w.net h)

-- that text, all of it flushed
abbrev pub TakesTraceBefore : Scenario → (arc ordinal : ℕ) → Taken → Taken → Type 0
TakesTraceBefore w arc ordinal old new = TakesTextBefore w arc ordinal old new × (new.flushed ≡ true)

-- a history that is legal, or legal before some moment
abbrev pub IsLegalSoFar : Scenario → History → Type 0
IsLegalSoFar w h = Legal w h ⊎ ((n : ℕ) × LegalBefore w h n)

-- A front of the text of such a history. Each delivery so far has the octets of a frame that was sent, and no frame is
-- delivered twice.
abbrev pub TakesTextFront : Scenario → Taken → Taken → Type 0
TakesTextFront w old new = (h : History) × (rest : List ℕ) × IsLegalSoFar w h × DeliversOnce w h × TakesBut rest (text w.net h) old new

-- What contracts see of a run.
use Rattle.std.specs.Prelude.{ℕ, Bool, length}
use Rattle.pre_history.specs.Scenario.{Scenario}
use Rattle.pre_history.specs.History.{History}
use Rattle.pre_history.specs.Placed.{number}
use Rattle.pre_history.specs.Legal.{LegalBefore}
use Rattle.pre_sim.specs.declared.ticks.Progress.{Progress}
use Rattle.pre_sim.specs.Stands.{Reaches}

-- what it is given, how far it is, the tick that comes next, and whether it goes on
pub record SimView : Type 0 where
  pub run : Scenario
  pub progress : Progress
  pub next : ℕ
  pub going : Bool

-- These are the events that the run has told: they are legal before the first moment of the next tick, none of their arrivals is
-- an alias, and the run stands where they lead.
pub record HasTold (s : SimView) (h : History) : Type 0 where
  pub legal : LegalBefore s.run h (number (length s.run.net.arcs) s.next 0)
  pub reaches : Reaches s.run s.next 0 h s.progress

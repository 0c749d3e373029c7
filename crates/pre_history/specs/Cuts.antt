-- A legal history cut before a moment.
use Rattle.std.specs.Prelude.{ℕ, suc, ◌≡◌, ◌++◌, List, length}
use Rattle.pre_history.specs.Scenario.{Scenario}
use Rattle.pre_history.specs.Moments.{moment_at}
use Rattle.pre_history.specs.History.{PlainEvent, History}
use Rattle.pre_history.specs.Placed.{AllWithin}
use Rattle.pre_history.specs.Rules.{Happens}
use Rattle.pre_history.specs.Legal.{LegalUpTo}

-- A history before moment n is cut before moment m: the front is legal, and the rest stands at moments from m on.
pub record IsCut (w : Scenario) (m n : ℕ) (h front rest : History) : Type 0 where
  pub joined : h ≡ front ++ rest
  pub legal : LegalUpTo w m front
  pub later : AllWithin (length w.net.arcs) m n rest

-- It is cut before and after moment m, which has these events.
pub record IsCutAt (w : Scenario) (m n : ℕ) (h front : History) (events : List PlainEvent) (rest : History) : Type 0 where
  pub joined : h ≡ front ++ events ++ rest
  pub legal : LegalUpTo w m front
  pub happens : Happens w front (moment_at (length w.net.arcs) m) events
  pub later : AllWithin (length w.net.arcs) (suc m) n rest

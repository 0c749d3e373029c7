-- What events at later moments leave as it is.
use Rattle.std.specs.Prelude.{ℕ, ◌<◌, ◌≡◌, ◌↔◌, length, Some, slice_get}
use Rattle.pre_mpacket.specs.Arrivals.{Given, Gives}
use Rattle.pre_history.specs.declared.events.Outcome.{Outcome}
use Rattle.pre_history.specs.Scenario.{Scenario}
use Rattle.pre_history.specs.History.{Begin, History}
use Rattle.pre_history.specs.Queries.{Begins, Ends}
use Rattle.pre_history.specs.Octets.{WholeOf, Air}
use Rattle.pre_history.specs.ArrivalResults.{Result}

module _ (w : Scenario) (g h : History) (a : ℕ) where
  -- What each mPacket that began on the arc carries is the same by g as by h.
  abbrev pub SameWholes : Type 0
  SameWholes = (i : ℕ) (b : Begin) → slice_get (Begins h a) i ≡ Some b → WholeOf w g b ≡ WholeOf w h b

  -- What each that ended gives is the same.
  abbrev pub SameGiven : Type 0
  SameGiven = (i : ℕ) (given : Given) → i < length (Ends h a) → Gives (Air w g a) i given ↔ Gives (Air w h a) i given

  -- And so is its result.
  abbrev pub SameResults : Type 0
  SameResults = (i : ℕ) (result : Outcome) → i < length (Ends h a) → Result (Air w g a) i result ↔ Result (Air w h a) i result

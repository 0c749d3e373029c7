-- How the mPackets of an arc follow one another.
use Rattle.std.specs.Prelude.{ℕ, suc, ◌+◌, ◌*◌, ◌<◌, ◌≤◌, ◌≡◌, List, length, Some, slice_get}
use Rattle.pre_base.specs.declared.limits.TheConstants.{GAP}
use Rattle.pre_history.specs.Scenario.{Scenario, arc}
use Rattle.pre_history.specs.History.{Begin, Ended, Arrive, History}
use Rattle.pre_history.specs.Queries.{Begins, Ends, Arrivals}
use Rattle.pre_history.specs.Starts.{SizeOf}
use Rattle.pre_history.specs.Rules.{CheckOf}
use Rattle.pre_history.specs.Placed.{moment_of}
use Rattle.pre_history.specs.Moments.{Phase}

-- mPackets, their ends and their arrivals, at so many ticks for an octet and such a delay
pub record AreOrdered (cost delay : ℕ) (begins : List Begin) (ends : List Ended) (arrivals : List Arrive) : Type 0 where
  -- ordinals are places
  pub begin_places : (i : ℕ) (b : Begin) → slice_get begins i ≡ Some b → b.ord ≡ i
  pub end_places : (i : ℕ) (e : Ended) → slice_get ends i ≡ Some e → e.ord ≡ i
  pub arrival_places : (i : ℕ) (x : Arrive) → slice_get arrivals i ≡ Some x → x.ord ≡ i
  -- all but perhaps the last one have ended, and only those that ended arrive
  pub few_open : length begins ≤ suc (length ends)
  pub ends_begun : length ends ≤ length begins
  pub arrivals_ended : length arrivals ≤ length ends
  -- each takes the ticks of its eight octets of head and of its size, and then the delay
  pub spans : (i : ℕ) (b : Begin) (e : Ended) → slice_get begins i ≡ Some b → slice_get ends i ≡ Some e → e.tick ≡ b.tick + cost * (e.size + 8)
  pub travels : (i : ℕ) (e : Ended) (x : Arrive) → slice_get ends i ≡ Some e → slice_get arrivals i ≡ Some x → x.tick ≡ e.tick + delay
  -- each begins after the gap of twelve octets behind the one before it
  pub apart : (i : ℕ) (e : Ended) (b : Begin) → slice_get ends i ≡ Some e → slice_get begins (suc i) ≡ Some b → e.tick + GAP * cost ≤ b.tick

module _ (w : Scenario) (h : History) (a : ℕ) where
  abbrev pub IsOrdered : Type 0
  IsOrdered = AreOrdered (arc w a).cost (arc w a).delay (Begins h a) (Ends h a) (Arrivals h a)

  -- each has the size that the rules give it
  abbrev pub HaveSizes : Type 0
  HaveSizes = (i : ℕ) (b : Begin) (e : Ended) → slice_get (Begins h a) i ≡ Some b → slice_get (Ends h a) i ≡ Some e → SizeOf w h b.kind b e.size

  -- and the check octets
  abbrev pub HaveChecks : Type 0
  HaveChecks = (i : ℕ) (b : Begin) (e : Ended) → slice_get (Begins h a) i ≡ Some b → slice_get (Ends h a) i ≡ Some e → e.check ≡ CheckOf w h b e.size

  -- before moment n each that ended has arrived, where its delay is over
  abbrev pub HaveArrived : ℕ → Type 0
  HaveArrived n =
      (i : ℕ) (e : Ended) → slice_get (Ends h a) i ≡ Some e
      → moment_of w (e.tick + (arc w a).delay) (Phase.arrivals a) < n → i < length (Arrivals h a)

-- Which refusals go together: none with a good certificate, and no two but cycles.
use Rattle.std.specs.Prelude.{◌≡◌, ◌⊎◌, ℕ, Bool, true, false, List}
use Rattle.pre_base.specs.declared.numbers.ArcId.{ArcId}
use Rattle.pre_topo.specs.declared.network.Network.{Network}
use Rattle.pre_streams.specs.declared.rows.Row.{Row}
use Rattle.pre_streams.specs.declared.rows.Streams.{Streams}
use Rattle.pre_streams.specs.Fits.{Fits}
use Rattle.pre_bound.specs.Settled.{PriosBelow}
use Rattle.pre_bound.specs.Listed.{HasGood}
use Rattle.pre_bound.specs.Order.{Rise}
use Rattle.pre_certify.specs.Causes.{Cause, IsCycle}
use Rattle.pre_certify.specs.declared.unfit.Unfit.{Unfit}
use Rattle.pre_certify.specs.declared.unfit.Unfit.TheVariants.{Overload, Cycle, Large, Ring, Memory}

abbrev pub names_cycle : Unfit → Bool
names_cycle (Cycle arcs) = true
names_cycle _ = false

-- the same refusal, but for the choice of a cycle
abbrev pub SameRefusal : Unfit → Unfit → Type 0
SameRefusal e f = (e ≡ f) ⊎ (names_cycle e ≡ true) × (names_cycle f ≡ true)

-- no refusal has a cause; want of memory is none
abbrev pub NoneRefuses : Network → List Row → Type 0
NoneRefuses net rows = (e : Unfit) → Cause net rows e → e ≡ Memory

-- no refusal but this one has a cause
abbrev pub NoOtherRefuses : Network → List Row → Unfit → Type 0
NoOtherRefuses net rows e = (f : Unfit) → Cause net rows f → (f ≡ Memory) ⊎ SameRefusal e f

-- the refusal is the only one with a cause, and there is no good certificate
pub record IsAlone (net : Network) (streams : Streams) (e : Unfit) : Type 0 where
  pub others : NoOtherRefuses net streams.rows e
  pub none : ¬ HasGood net streams

-- where there is a good certificate, no refusal has a cause
abbrev pub GoodRefusesNone : Type 0
GoodRefusesNone = (net : Network) (streams : Streams) → Fits net streams → PriosBelow streams.rows → HasGood net streams → NoneRefuses net streams.rows

-- one refusal at most has a cause
abbrev pub OneRefuses : Type 0
OneRefuses = (net : Network) (streams : Streams) (e : Unfit) → Fits net streams → PriosBelow streams.rows → Cause net streams.rows e → (e ≡ Memory) ⊎ NoOtherRefuses net streams.rows e

-- where ranks rise along each route, there is no cycle
abbrev pub RanksLeaveNoCycle : Type 0
RanksLeaveNoCycle = (rows : List Row) (rank : ℕ → ℕ) (arcs : List ArcId) → Rise rows rank → ¬ IsCycle rows arcs

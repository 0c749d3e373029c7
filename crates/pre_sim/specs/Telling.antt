-- What a watcher was told by a part of a run.
use Rattle.std.specs.Prelude.{ℕ, ◌≤◌, List, ◌++◌, Result, Ok, Err}
use Rattle.pre_base.specs.Faults.{Rose}
use Rattle.pre_topo.specs.declared.network.Network.{Network}
use Rattle.pre_history.specs.History.{History}
use Rattle.pre_history.specs.Written.{AreWritten}
use Rattle.pre_sim.specs.declared.halts.Halt.{Halt}
use Rattle.pre_sim.specs.declared.halts.Halt.TheVariants.{Stopped, Alias}

-- these events, which can be told over the network, were told, in order
abbrev pub TellsAll : Network → (List ℕ → History → Type 0) → (List ℕ → History → Type 0) → History → Type 0
TellsAll net old new es = AreWritten net es × ((base : List ℕ) (h : History) → old base h → new base (h ++ es))

-- a part stops only where the watcher failed
abbrev pub OnStopped : {T : Type 0} → Result T Halt → Type 0 → Type 0
OnStopped (Ok x) P = Unit {0}
OnStopped (Err (Alias arc ordinal)) P = Unit {0}
OnStopped (Err Stopped) P = P

pub record HasCause {T : Type 0} (before now : ℕ) (result : Result T Halt) : Type 0 where
  pub later : before ≤ now
  pub stopped : OnStopped result (Rose before now)

-- What a watcher took, and where it failed.
use Rattle.std.specs.Prelude.{◌≡◌, ℕ, List, [], ◌∷◌, ◌++◌, Option, IfSome, Result, Ok, Err}
use Rattle.pre_base.specs.Sinks.{Taken}
use Rattle.pre_topo.specs.declared.network.Network.{Network}
use Rattle.pre_history.specs.History.{PlainEvent, History}
use Rattle.pre_history.specs.Names.{IsOf, AreOf}
use Rattle.pre_trace.specs.Text.{line, text}

-- after an event: at Ok it took one more, and else it failed at it
abbrev pub GoesOn : {T E : Type 0} → Result T E → (List ℕ → History → Type 0) → (List ℕ → History → Type 0) → (List ℕ → History → PlainEvent → Type 0) → PlainEvent → Type 0
GoesOn (Ok x) old new torn e = (base : List ℕ) (h : History) → old base h → new base (h ++ e ∷ [])
GoesOn (Err d) old new torn e = (base : List ℕ) (h : History) → old base h → torn base h e

-- what a sink tells, once it took base and the text of h
abbrev pub HoldsText : Network → Option Taken → List ℕ → History → Type 0
HoldsText net told base h = AreOf net h → IfSome told (λ t. t.octets ≡ base ++ text net h)

-- the same, and a front of the line of e
abbrev pub HoldsTorn : Network → Option Taken → List ℕ → History → PlainEvent → Type 0
HoldsTorn net told base h e = AreOf net h → IsOf net e → IfSome told (λ t. (front rest : List ℕ) × (line net e ≡ front ++ rest) × (t.octets ≡ base ++ text net h ++ front))

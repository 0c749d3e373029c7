-- Lines that are read, and the events that they tell.
use Rattle.std.specs.Prelude.{ℕ, ◌≡◌, ◌<◌, ◌^◌, List, [], ◌∷◌, ◌++◌, length, Result, Ok, Err}
use Rattle.pre_topo.specs.declared.network.Network.{Network}
use Rattle.pre_history.specs.declared.events.Event.{Event}
use Rattle.pre_history.specs.declared.events.What.{What}
use Rattle.pre_history.specs.declared.events.What.TheVariants as what
use Rattle.pre_history.specs.History.{PlainEvent}
use Rattle.pre_history.specs.Plain.{plain, IsEvent}
use Rattle.pre_trace.specs.Text.{line}
use Rattle.pre_history.specs.Written.{IsWritten}
use Rattle.pre_trace.specs.declared.words.EventFault.{EventFault}

-- the result as plain values
abbrev pub plainly : Result Event EventFault → Result PlainEvent EventFault
plainly (Ok e) = Ok (plain e)
plainly (Err fault) = Err fault

abbrev pub FitsWhat : What → Type 0
FitsWhat (what.Frame f) = f.0 < 2 ^ 32
FitsWhat what.Lldp = Unit {0}
FitsWhat what.Nothing = Unit {0}

-- the numbers fit the fields of an event
abbrev pub Fits : PlainEvent → Type 0
Fits (PlainEvent.begin b) = FitsWhat b.what × (b.from < 2 ^ 16)
Fits (PlainEvent.ended e) = (e.size < 2 ^ 16) × (length e.check ≡ 4)
Fits (PlainEvent.deliver d) = d.frame < 2 ^ 32
Fits (PlainEvent.enter e) = (e.prio < 8) × (e.frame < 2 ^ 32)
Fits (PlainEvent.dropped e) = (e.prio < 8) × (e.frame < 2 ^ 32)
Fits (PlainEvent.set tick arc value) = Unit {0}
Fits (PlainEvent.arrive x) = Unit {0}
Fits (PlainEvent.active tick arc value) = Unit {0}
Fits (PlainEvent.count arc c) = Unit {0}
Fits (PlainEvent.end e) = Unit {0}

-- the event can be told over the network, and these octets are its line without the 0A at its end
pub record Tells (net : Network) (octets : List ℕ) (e : PlainEvent) : Type 0 where
  pub written : IsWritten net e
  pub event : IsEvent e
  pub fits : Fits e
  pub spells : line net e ≡ octets ++ 10 ∷ []

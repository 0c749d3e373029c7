-- Events that can be told over a network: what their types and the network ask of them.
use Rattle.std.specs.Prelude.{ℕ, ◌<◌, ◌^◌, List, length}
use Rattle.std.specs.List.{AllByRecursion as Every}
use Rattle.pre_text.specs.Reading.{AreOctets}
use Rattle.pre_topo.specs.declared.network.Network.{Network}
use Rattle.pre_history.specs.declared.events.What.{What}
use Rattle.pre_history.specs.declared.events.What.TheVariants as what
use Rattle.pre_history.specs.History.{PlainEvent, History}
use Rattle.pre_history.specs.Names.{HasArc, HasNode}
use Rattle.pre_history.specs.Plain.{IsKind}

abbrev pub IsNumber : ℕ → Type 0
IsNumber n = n < 2 ^ 64

abbrev pub IsWhat : What → Type 0
IsWhat (what.Frame f) = IsNumber f.0
IsWhat what.Lldp = Unit {0}
IsWhat what.Nothing = Unit {0}

-- one octet or more
abbrev pub HasOctets : List ℕ → Type 0
HasOctets octets = AreOctets octets × (0 < length octets)

abbrev pub IsWritten : Network → PlainEvent → Type 0
IsWritten net (PlainEvent.set tick arc value) = IsNumber tick × HasArc net arc
IsWritten net (PlainEvent.begin b) = IsNumber b.tick × HasArc net b.arc × IsNumber b.ord × IsKind b.kind × IsWhat b.what × IsNumber b.from
IsWritten net (PlainEvent.ended e) = IsNumber e.tick × HasArc net e.arc × IsNumber e.ord × IsNumber e.size × HasOctets e.check
IsWritten net (PlainEvent.arrive x) = IsNumber x.tick × HasArc net x.arc × IsNumber x.ord
IsWritten net (PlainEvent.deliver d) = IsNumber d.tick × HasNode net d.node × IsNumber d.frame × HasOctets d.octets
IsWritten net (PlainEvent.active tick arc value) = IsNumber tick × HasArc net arc
IsWritten net (PlainEvent.enter e) = IsNumber e.tick × HasArc net e.arc × IsNumber e.prio × IsNumber e.frame
IsWritten net (PlainEvent.dropped e) = IsNumber e.tick × HasArc net e.arc × IsNumber e.prio × IsNumber e.frame
IsWritten net (PlainEvent.count arc c) = HasArc net arc × IsNumber c.err × IsNumber c.smd × IsNumber c.ok × IsNumber c.rx × IsNumber c.tx
IsWritten net (PlainEvent.end e) = IsNumber e.until × IsNumber e.sent × IsNumber e.delivered × IsNumber e.dropped

abbrev pub AreWritten : Network → History → Type 0
AreWritten net h = Every (IsWritten net) h

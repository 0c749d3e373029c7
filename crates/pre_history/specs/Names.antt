-- Events whose arcs and nodes are a network's.
use Rattle.std.specs.Prelude.{ℕ, ◌<◌, [], ◌∷◌, length}
use Rattle.pre_topo.specs.declared.network.Network.{Network}
use Rattle.pre_history.specs.History.{PlainEvent, History}

abbrev pub HasArc : Network → ℕ → Type 0
HasArc net arc = arc < length net.arcs

abbrev pub HasNode : Network → ℕ → Type 0
HasNode net node = node < length net.nodes

-- the arc or node of the event, where it has one, is the network's
abbrev pub IsOf : Network → PlainEvent → Type 0
IsOf net (PlainEvent.set tick arc value) = HasArc net arc
IsOf net (PlainEvent.begin b) = HasArc net b.arc
IsOf net (PlainEvent.ended e) = HasArc net e.arc
IsOf net (PlainEvent.arrive x) = HasArc net x.arc
IsOf net (PlainEvent.deliver d) = HasNode net d.node
IsOf net (PlainEvent.active tick arc value) = HasArc net arc
IsOf net (PlainEvent.enter e) = HasArc net e.arc
IsOf net (PlainEvent.dropped e) = HasArc net e.arc
IsOf net (PlainEvent.count arc c) = HasArc net arc
IsOf net (PlainEvent.end e) = Unit {0}

-- so are those of each of these
abbrev pub AreOf : Network → History → Type 0
AreOf net [] = Unit {0}
AreOf net (e ∷ h) = IsOf net e × AreOf net h

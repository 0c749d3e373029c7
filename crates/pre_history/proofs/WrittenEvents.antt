-- Events that can be told over a network are the network's, and they stay such one after another.
use Rattle.std.specs.Prelude.{[], ◌∷◌, ◌++◌}
use Rattle.pre_topo.specs.declared.network.Network.{Network}
use Rattle.pre_history.specs.History.{PlainEvent, History}
use Rattle.pre_history.specs.Names.{IsOf, AreOf}
use Rattle.pre_history.specs.Written.{IsWritten, AreWritten}

pub IsWritten-of : (net : Network) (e : PlainEvent) → IsWritten net e → IsOf net e
IsWritten-of net (PlainEvent.set tick arc value) p = p.1
IsWritten-of net (PlainEvent.begin b) p = p.1
IsWritten-of net (PlainEvent.ended e) p = p.1
IsWritten-of net (PlainEvent.arrive x) p = p.1
IsWritten-of net (PlainEvent.deliver d) p = p.1
IsWritten-of net (PlainEvent.active tick arc value) p = p.1
IsWritten-of net (PlainEvent.enter e) p = p.1
IsWritten-of net (PlainEvent.dropped e) p = p.1
IsWritten-of net (PlainEvent.count arc c) p = p.0
IsWritten-of net (PlainEvent.end e) p = tt

pub AreWritten-of : (net : Network) (h : History) → AreWritten net h → AreOf net h
AreWritten-of net [] p = tt
AreWritten-of net (e ∷ h) p = (IsWritten-of net e p.0, AreWritten-of net h p.1)

pub AreWritten-append : (net : Network) (g h : History) → AreWritten net g → AreWritten net h → AreWritten net (g ++ h)
AreWritten-append net [] h p q = q
AreWritten-append net (e ∷ g) h p q = (p.0, AreWritten-append net g h p.1 q)

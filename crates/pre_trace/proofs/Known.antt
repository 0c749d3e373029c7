-- An event that is read is one of the network.
use Rattle.std.proofs.Common.{ℕ, ◌≡◌, List, Result, Ok, Err, IfOk, sym}
use Rattle.pre_topo.specs.declared.network.Network.{Network}
use Rattle.pre_history.specs.declared.events.Event.{Event}
use Rattle.pre_history.specs.History.{PlainEvent}
use Rattle.pre_history.specs.Names.{IsOf}
use Rattle.pre_history.specs.Plain.{plain, IsEvent}
use Rattle.pre_history.specs.Written.{IsWritten}
use Rattle.pre_trace.specs.declared.words.EventFault.{EventFault}
use Rattle.pre_trace.specs.Reading.{plainly}
use Rattle.pre_trace.specs.Saying.{event_of}
use Rattle.pre_trace.proofs.Told.{told_line}

of_written : (net : Network) (e : PlainEvent) → IsWritten net e → IsOf net e
of_written net (PlainEvent.set tick arc value) p = p.1
of_written net (PlainEvent.begin b) p = p.1
of_written net (PlainEvent.ended b) p = p.1
of_written net (PlainEvent.arrive x) p = p.1
of_written net (PlainEvent.deliver d) p = p.1
of_written net (PlainEvent.active tick arc value) p = p.1
of_written net (PlainEvent.enter x) p = p.1
of_written net (PlainEvent.dropped x) p = p.1
of_written net (PlainEvent.count arc c) p = p.0
of_written net (PlainEvent.end e) p = tt

pub event_known : (net : Network) (line : List ℕ) (r : Result Event EventFault) → plainly r ≡ event_of net line → IfOk r (λ e. IsOf net (plain e) × IsEvent (plain e))
event_known net line (Ok e) is = let told = told_line net line (plain e) (sym is) in (of_written net (plain e) told.written, told.event)
event_known net line (Err fault) is = tt

use Rattle.std.proofs.Common.{sym, ◌∙◌}
use Rattle.pre_trace.proofs.Told.{told_line}
use Rattle.pre_trace.proofs.Faulty.{read_fault}
use Rattle.pre_trace.proofs.Known.{event_known}
use Rattle.pre_trace.proofs.Back.{read_line}
use Rattle.pre_trace.proofs.reading.read_event.Goals as goal

pub returns-clause-tells : goal.returns-clause-tells
returns-clause-tells c = λ e. (
  λ is. told_line c.args.net.now c.args.line.now e (sym c.event_in.ensures ∙ is),
  λ told. c.event_in.ensures ∙ read_line c.args.net.now c.args.line.now e told,
)

pub returns-clause-event : goal.returns-clause-event
returns-clause-event c = event_known c.args.net.now c.args.line.now c.event_in.result c.event_in.ensures

pub returns-clause-fault : goal.returns-clause-fault
returns-clause-fault c = read_fault c.args.net.now c.args.line.now c.event_in.result c.event_in.ensures

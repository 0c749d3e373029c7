use Rattle.pre_history.specs.Plain.{plain}
use Rattle.pre_trace.proofs.Back.{line_read_back}
use Rattle.pre_trace.proofs.laws.event_reads_back.Goals as goal

pub returns : goal.returns
returns c = line_read_back c.args.net.now (plain c.args.event.now) c.events_are_written.ensures c.requires.kind c.events_fit.ensures

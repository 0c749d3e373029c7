use Rattle.pre_trace.proofs.Told.{told_line}
use Rattle.pre_trace.proofs.Back.{read_line}
use Rattle.pre_trace.proofs.laws.lines_tell_events.Goals as goal

pub returns : goal.returns
returns c = λ net octets e. (told_line net octets e, read_line net octets e)

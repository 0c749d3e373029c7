use Rattle.pre_streams.proofs.Found.{IfNone-map}
use Rattle.pre_streams.proofs.lookups.arc_by.Goals as goal

pub returns-then-row-vid-clause-missing : goal.returns-then-row-vid-clause-missing
returns-then-row-vid-clause-missing c = IfNone-map c.arc_from.result (λ not arc takes. not arc takes.1) c.arc_from.ensures.missing

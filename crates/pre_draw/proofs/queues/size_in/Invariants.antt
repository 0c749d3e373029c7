use Rattle.std.proofs.Common.{◌≡◌, drop}
use Rattle.pre_check.specs.Said.{of_port}
use Rattle.pre_draw.proofs.queues.size_in.Given as goal

abbrev pub invariant-loop-row : goal.invariant-loop-row
invariant-loop-row l = of_port (λ row. row.size) (drop l.row-index l.ports) l.arc.0 l.prio ≡ of_port (λ row. row.size) l.ports l.arc.0 l.prio

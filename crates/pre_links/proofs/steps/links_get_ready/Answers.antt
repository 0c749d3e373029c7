use Rattle.std.proofs.Common.{arith, ◌+◌}
use Rattle.pre_links.proofs.Ready.{before_later}
use Rattle.pre_links.proofs.steps.links_get_ready.Goals as goal

pub returns-clause-later : goal.returns-clause-later
returns-clause-later c = λ link t u le ready. (omega (arith, le, ready.0), before_later _ t u le ready.1)

pub returns-clause-next : goal.returns-clause-next
returns-clause-next c = λ link t u lt settled. (omega (arith, lt, settled.0), before_later _ (t + 1) u (omega (arith, lt)) settled.1)

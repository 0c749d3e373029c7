use Rattle.pre_delay.proofs.Windows.{obeys_ticks, ticks_obey}
use Rattle.pre_delay.proofs.laws.windows_are_ticks.Goals as goal

pub returns-clause-ticks : goal.returns-clause-ticks
returns-clause-ticks c = obeys_ticks

pub returns-clause-places : goal.returns-clause-places
returns-clause-places c = ticks_obey

use Rattle.pre_outgoing.proofs.Keeping.{other_events, entries_come, idle_ticks}
use Rattle.pre_outgoing.proofs.laws.other_events.Goals as goal

pub returns-clause-others : goal.returns-clause-others
returns-clause-others c = other_events

pub returns-clause-entries : goal.returns-clause-entries
returns-clause-entries c = entries_come

pub returns-clause-idle : goal.returns-clause-idle
returns-clause-idle c = idle_ticks

use Rattle.pre_history.proofs.EntriesRead.{entries_read, entries_placed, entries_come}
use Rattle.pre_history.proofs.laws.entries_are_read.Goals as goal

pub returns-clause-all : goal.returns-clause-all
returns-clause-all c = entries_read

pub returns-clause-each : goal.returns-clause-each
returns-clause-each c = entries_placed

pub returns-clause-only : goal.returns-clause-only
returns-clause-only c = entries_come

use Rattle.pre_read_back.proofs.Whole.{due_read_back, good_read_back, read_read_back}
use Rattle.pre_read_back.proofs.laws.certificate_reads_back.Goals as goal

pub returns-clause-due : goal.returns-clause-due
returns-clause-due c = due_read_back

pub returns-clause-good : goal.returns-clause-good
returns-clause-good c = good_read_back

pub returns-clause-read : goal.returns-clause-read
returns-clause-read c = read_read_back

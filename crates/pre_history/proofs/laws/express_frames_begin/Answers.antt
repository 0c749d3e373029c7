use Rattle.pre_history.proofs.Waits.{express_begins, busy_for}
use Rattle.pre_history.proofs.laws.express_frames_begin.Goals as goal

pub returns-clause-begins : goal.returns-clause-begins
returns-clause-begins c = express_begins

pub returns-clause-busy : goal.returns-clause-busy
returns-clause-busy c = busy_for

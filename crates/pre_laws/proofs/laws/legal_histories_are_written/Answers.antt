use Rattle.pre_laws.proofs.Writable.{are_written}
use Rattle.pre_laws.proofs.laws.legal_histories_are_written.Goals as goal

pub returns : goal.returns
returns c = are_written

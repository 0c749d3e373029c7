use Rattle.pre_script.proofs.ReadBack.{reads_back}
use Rattle.pre_script.proofs.laws.script_reads_back.Goals as goal

pub returns : goal.returns
returns c = reads_back

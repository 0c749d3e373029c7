use Rattle.pre_text.proofs.OneReading.{line_cut}
use Rattle.pre_text.proofs.laws.one_reading.Goals as goal

pub returns : goal.returns
returns c = line_cut

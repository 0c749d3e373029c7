use Rattle.std.proofs.lemmas.List.Splits.{join_with_byte-slice_split}
use Rattle.pre_text.proofs.laws.parts_join.Goals as goal

pub returns : goal.returns
returns c = join_with_byte-slice_split

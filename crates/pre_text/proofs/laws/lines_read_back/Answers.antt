use Rattle.std.proofs.Common.{ap, filter}
use Rattle.pre_text.specs.Lines.{is_nonempty}
use Rattle.pre_text.proofs.ReadBack.{line_back, words_back}
use Rattle.pre_text.proofs.laws.lines_read_back.Goals as goal

pub returns-clause-line : goal.returns-clause-line
returns-clause-line c = line_back

pub returns-clause-words : goal.returns-clause-words
returns-clause-words c = λ w ws p ps. ap (filter is_nonempty) (words_back w ws p ps)

use Rattle.pre_text.proofs.Decimals.{decimal_word, number_back, number_only}
use Rattle.pre_text.proofs.laws.numbers_read_back.Goals as goal

pub returns-clause-word : goal.returns-clause-word
returns-clause-word c = decimal_word

pub returns-clause-same : goal.returns-clause-same
returns-clause-same c = number_back

pub returns-clause-only : goal.returns-clause-only
returns-clause-only c = number_only

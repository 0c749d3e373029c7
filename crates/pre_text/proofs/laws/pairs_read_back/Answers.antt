use Rattle.pre_text.proofs.Decimals.{hex_word, hex_back}
use Rattle.pre_text.proofs.laws.pairs_read_back.Goals as goal

pub returns-clause-word : goal.returns-clause-word
returns-clause-word c = hex_word

pub returns-clause-same : goal.returns-clause-same
returns-clause-same c = hex_back

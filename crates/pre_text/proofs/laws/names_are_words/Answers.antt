use Rattle.pre_text.proofs.Decimals.{name_word}
use Rattle.pre_text.proofs.laws.names_are_words.Goals as goal

pub returns : goal.returns
returns c = name_word

use Rattle.pre_trace.proofs.Lines.{text_one}
use Rattle.pre_trace.proofs.laws.one_told_history.Goals as goal

pub returns : goal.returns
returns c = text_one (record {
  reading = c.one_reading.ensures;
  number_word = c.numbers_read_back.ensures.word;
  number_back = c.numbers_read_back.ensures.same;
  octets_word = c.pairs_read_back.ensures.word;
  octets_back = c.pairs_read_back.ensures.same;
})

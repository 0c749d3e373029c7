use Rattle.pre_text.specs.declared.writing.Word.TheVariants.{Number}
use Rattle.pre_text.specs.Spelled.{spelled}
use Rattle.pre_base.proofs.Pieces.{piece_fails}
use Rattle.pre_topo.proofs.writing.put_words.Goals as goal

pub returns-in_err-put_word-clause-octets : goal.returns-in_err-put_word-clause-octets
returns-in_err-put_word-clause-octets g c =
    piece_fails spelled c.args.words.now c.loop-word.word-index (Number 0) _ _ _ c.from_residual.result c.loop-word-test.true c.from_residual.ensures.0 c.loop-word.invariant.taken c.in_err-put_word.ensures.octets

use Rattle.pre_picture.specs.Bounds.{columns}
use Rattle.pre_picture.proofs.Drawn.{first_fails, second_ends}
use Rattle.pre_picture.proofs.bounds.put_columns.Goals as goal

pub returns-in_err-put_word-clause-octets : goal.returns-in_err-put_word-clause-octets
unfolding columns
returns-in_err-put_word-clause-octets g c = first_fails _ _ _ _ c.from_residual.result c.from_residual.ensures.0 c.in_err-put_word.ensures.octets

pub returns-clause-octets : goal.returns-clause-octets
unfolding columns
returns-clause-octets g c = second_ends _ _ _ _ _ c.put_word-2.result c.in_ok-put_word.ensures.octets c.put_word-2.ensures.octets

use Rattle.pre_picture.specs.Bounds.{row_front}
use Rattle.pre_picture.proofs.Drawn.{first_fails, second_ends}
use Rattle.pre_picture.proofs.bounds.put_row_front.Goals as goal

pub returns-in_err-put_row_name-clause-octets : goal.returns-in_err-put_row_name-clause-octets
unfolding row_front
returns-in_err-put_row_name-clause-octets g c = first_fails _ _ _ _ c.from_residual.result c.from_residual.ensures.0 c.in_err-put_row_name.ensures.octets

pub returns-clause-octets : goal.returns-clause-octets
unfolding row_front
returns-clause-octets g c = second_ends _ _ _ _ _ c.put_bar_of.result c.in_ok-put_row_name.ensures.octets c.put_bar_of.ensures.octets

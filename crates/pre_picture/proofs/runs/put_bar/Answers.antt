use Rattle.pre_picture.specs.Runs.{bar_text}
use Rattle.pre_picture.proofs.Drawn.{first_fails, second_ends}
use Rattle.pre_picture.proofs.runs.put_bar.Goals as goal

pub returns-in_err-put_box-clause-octets : goal.returns-in_err-put_box-clause-octets
unfolding bar_text
returns-in_err-put_box-clause-octets g c = first_fails _ _ _ _ c.from_residual.result c.from_residual.ensures.0 c.in_err-put_box.ensures.octets

pub returns-clause-octets : goal.returns-clause-octets
unfolding bar_text
returns-clause-octets g c = second_ends _ _ _ _ _ c.put_bar_name.result c.in_ok-put_box.ensures.octets c.put_bar_name.ensures.octets

use Rattle.pre_picture.specs.Charts.{axis_mark}
use Rattle.pre_picture.proofs.Drawn.{first_fails, second_ends}
use Rattle.pre_picture.proofs.charts.put_axis_mark.Goals as goal

pub returns-in_err-put_grid_line-clause-octets : goal.returns-in_err-put_grid_line-clause-octets
unfolding axis_mark
returns-in_err-put_grid_line-clause-octets g c = first_fails _ _ _ _ c.from_residual.result c.from_residual.ensures.0 c.in_err-put_grid_line.ensures.octets

pub returns-clause-octets : goal.returns-clause-octets
unfolding axis_mark
returns-clause-octets g c = second_ends _ _ _ _ _ c.put_axis_label.result c.in_ok-put_grid_line.ensures.octets c.put_axis_label.ensures.octets

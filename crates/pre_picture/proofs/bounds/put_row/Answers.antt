use Rattle.pre_picture.specs.Bounds.{row_text}
use Rattle.pre_picture.proofs.Drawn.{first_fails, second_fails, third_ends}
use Rattle.pre_picture.proofs.bounds.put_row.Goals as goal

pub returns-in_err-put_row_front-clause-octets : goal.returns-in_err-put_row_front-clause-octets
unfolding row_text
returns-in_err-put_row_front-clause-octets g c = first_fails _ _ _ _ c.from_residual.result c.from_residual.ensures.0 c.in_err-put_row_front.ensures.octets

pub returns-in_err-put_points-clause-octets : goal.returns-in_err-put_points-clause-octets
unfolding row_text
returns-in_err-put_points-clause-octets g c =
    second_fails _ _ _ _ _ _ c.from_residual-in_err-put_points.result c.from_residual-in_err-put_points.ensures.0 c.in_ok-put_row_front.ensures.octets c.in_err-put_points.ensures.octets

pub returns-clause-octets : goal.returns-clause-octets
unfolding row_text
returns-clause-octets g c = third_ends _ _ _ _ _ _ _ c.put_row_slack.result c.in_ok-put_row_front.ensures.octets c.in_ok-put_points.ensures.octets c.put_row_slack.ensures.octets

use Rattle.pre_picture.proofs.Drawn.{first_fails, second_fails, third_ends}
use Rattle.pre_picture.proofs.runs.put_arcs.Goals as goal

pub returns-in_err-put_front-clause-octets : goal.returns-in_err-put_front-clause-octets
returns-in_err-put_front-clause-octets g c = first_fails _ _ _ _ c.from_residual.result c.from_residual.ensures.0 c.in_err-put_front.ensures.octets

pub returns-in_err-put_lanes-clause-octets : goal.returns-in_err-put_lanes-clause-octets
returns-in_err-put_lanes-clause-octets g c =
    second_fails _ _ _ _ _ _ c.from_residual-in_err-put_lanes.result c.from_residual-in_err-put_lanes.ensures.0 c.in_ok-put_front.ensures.octets c.in_err-put_lanes.ensures.octets

pub returns-clause-octets : goal.returns-clause-octets
returns-clause-octets g c = third_ends _ _ _ _ _ _ _ c.put_tail.result c.in_ok-put_front.ensures.octets c.in_ok-put_lanes.ensures.octets c.put_tail.ensures.octets

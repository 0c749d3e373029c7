use Rattle.pre_picture.specs.Runs.{lane_base}
use Rattle.pre_picture.proofs.Drawn.{first_fails, second_ends}
use Rattle.pre_picture.proofs.runs.put_base.Goals as goal

pub returns-in_err-put_name-clause-octets : goal.returns-in_err-put_name-clause-octets
unfolding lane_base
returns-in_err-put_name-clause-octets g c = first_fails _ _ _ _ c.from_residual.result c.from_residual.ensures.0 c.in_err-put_name.ensures.octets

pub returns-clause-octets : goal.returns-clause-octets
unfolding lane_base
returns-clause-octets g c = second_ends _ _ _ _ _ c.put_base_line.result c.in_ok-put_name.ensures.octets c.put_base_line.ensures.octets

use Rattle.pre_picture.specs.Runs.{lane}
use Rattle.pre_picture.proofs.Drawn.{first_fails, second_fails, third_ends}
use Rattle.pre_picture.proofs.runs.put_lane.Goals as goal

pub returns-in_err-put_base-clause-octets : goal.returns-in_err-put_base-clause-octets
unfolding lane
returns-in_err-put_base-clause-octets g c = first_fails _ _ _ _ c.from_residual.result c.from_residual.ensures.0 c.in_err-put_base.ensures.octets

pub returns-in_err-put_bars-clause-octets : goal.returns-in_err-put_bars-clause-octets
unfolding lane
returns-in_err-put_bars-clause-octets g c =
    second_fails _ _ _ _ _ _ c.from_residual-in_err-put_bars.result c.from_residual-in_err-put_bars.ensures.0 c.in_ok-put_base.ensures.octets c.in_err-put_bars.ensures.octets

pub returns-clause-octets : goal.returns-clause-octets
unfolding lane
returns-clause-octets g c = third_ends _ _ _ _ _ _ _ c.put_marks.result c.in_ok-put_base.ensures.octets c.in_ok-put_bars.ensures.octets c.put_marks.ensures.octets

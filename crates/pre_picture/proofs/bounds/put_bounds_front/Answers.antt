use Rattle.pre_picture.specs.Bounds.{bounds_front}
use Rattle.pre_picture.proofs.Drawn.{first_fails, second_fails, third_ends}
use Rattle.pre_picture.proofs.bounds.put_bounds_front.Goals as goal

pub returns-in_err-put_head-clause-octets : goal.returns-in_err-put_head-clause-octets
unfolding bounds_front
returns-in_err-put_head-clause-octets g c = first_fails _ _ _ _ c.from_residual.result c.from_residual.ensures.0 c.in_err-put_head.ensures.octets

pub returns-in_err-put_captions-clause-octets : goal.returns-in_err-put_captions-clause-octets
unfolding bounds_front
returns-in_err-put_captions-clause-octets g c =
    second_fails _ _ _ _ _ _ c.from_residual-in_err-put_captions.result c.from_residual-in_err-put_captions.ensures.0 c.in_ok-put_head.ensures.octets c.in_err-put_captions.ensures.octets

pub returns-clause-octets : goal.returns-clause-octets
unfolding bounds_front
returns-clause-octets g c = third_ends _ _ _ _ _ _ _ c.put_axis.result c.in_ok-put_head.ensures.octets c.in_ok-put_captions.ensures.octets c.put_axis.ensures.octets

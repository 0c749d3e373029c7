use Rattle.pre_picture.specs.Queues.{queue_field}
use Rattle.pre_picture.proofs.Drawn.{first_fails, second_ends}
use Rattle.pre_picture.proofs.queues.put_field.Goals as goal

pub returns-in_err-put_axis-clause-octets : goal.returns-in_err-put_axis-clause-octets
unfolding queue_field
returns-in_err-put_axis-clause-octets g c = first_fails _ _ _ _ c.from_residual.result c.from_residual.ensures.0 c.in_err-put_axis.ensures.octets

pub returns-clause-octets : goal.returns-clause-octets
unfolding queue_field
returns-clause-octets g c = second_ends _ _ _ _ _ c.put_base.result c.in_ok-put_axis.ensures.octets c.put_base.ensures.octets

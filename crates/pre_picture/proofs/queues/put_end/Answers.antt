use Rattle.pre_picture.specs.Queues.{queue_end}
use Rattle.pre_picture.proofs.Drawn.{first_fails, second_ends}
use Rattle.pre_picture.proofs.queues.put_end.Goals as goal

pub returns-in_err-put_size_line-clause-octets : goal.returns-in_err-put_size_line-clause-octets
unfolding queue_end
returns-in_err-put_size_line-clause-octets g c = first_fails _ _ _ _ c.from_residual.result c.from_residual.ensures.0 c.in_err-put_size_line.ensures.octets

pub returns-clause-octets : goal.returns-clause-octets
unfolding queue_end
returns-clause-octets g c = second_ends _ _ _ _ _ c.put_tail.result c.in_ok-put_size_line.ensures.octets c.put_tail.ensures.octets

use Rattle.pre_picture.specs.Queues.{size_line}
use Rattle.pre_picture.proofs.Drawn.{first_fails, second_ends}
use Rattle.pre_picture.proofs.queues.put_size_line.Goals as goal

pub returns-in_err-put_line-clause-octets : goal.returns-in_err-put_line-clause-octets
unfolding size_line
returns-in_err-put_line-clause-octets g c = first_fails _ _ _ _ c.from_residual.result c.from_residual.ensures.0 c.in_err-put_line.ensures.octets

pub returns-clause-octets : goal.returns-clause-octets
unfolding size_line
returns-clause-octets g c = second_ends _ _ _ _ _ c.put_size_number.result c.in_ok-put_line.ensures.octets c.put_size_number.ensures.octets

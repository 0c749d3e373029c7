use Rattle.pre_picture.specs.Queues.{base}
use Rattle.pre_picture.proofs.Drawn.{first_fails, second_ends}
use Rattle.pre_picture.proofs.queues.put_base.Goals as goal

pub returns-in_err-put_rect-clause-octets : goal.returns-in_err-put_rect-clause-octets
unfolding base
returns-in_err-put_rect-clause-octets g c = first_fails _ _ _ _ c.from_residual.result c.from_residual.ensures.0 c.in_err-put_rect.ensures.octets

pub returns-clause-octets : goal.returns-clause-octets
unfolding base
returns-clause-octets g c = second_ends _ _ _ _ _ c.put_word.result c.in_ok-put_rect.ensures.octets c.put_word.ensures.octets

use Rattle.pre_picture.specs.Queues.{queue_captions}
use Rattle.pre_picture.proofs.Drawn.{first_fails, second_ends}
use Rattle.pre_picture.proofs.queues.put_captions.Goals as goal

pub returns-in_err-put_note-clause-octets : goal.returns-in_err-put_note-clause-octets
unfolding queue_captions
returns-in_err-put_note-clause-octets g c = first_fails _ _ _ _ c.from_residual.result c.from_residual.ensures.0 c.in_err-put_note.ensures.octets

pub returns-clause-octets : goal.returns-clause-octets
unfolding queue_captions
returns-clause-octets g c = second_ends _ _ _ _ _ c.put_word.result c.in_ok-put_note.ensures.octets c.put_word.ensures.octets

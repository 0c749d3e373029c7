use Rattle.pre_laws.proofs.Interruptions.{interruption}
use Rattle.pre_laws.proofs.Parts.{one_interrupted, start, continuation, finished_frame}
use Rattle.pre_laws.proofs.laws.frames_go_in_parts.Goals as goal

pub returns-clause-interrupted : goal.returns-clause-interrupted
returns-clause-interrupted c = one_interrupted

pub returns-clause-starts : goal.returns-clause-starts
returns-clause-starts c = start

pub returns-clause-continues : goal.returns-clause-continues
returns-clause-continues c = continuation

pub returns-clause-finished : goal.returns-clause-finished
returns-clause-finished c = finished_frame

pub returns-clause-left : goal.returns-clause-left
returns-clause-left c = λ w routed n h legal a t a_lt left interrupted. interruption w n h legal a a_lt t routed left interrupted

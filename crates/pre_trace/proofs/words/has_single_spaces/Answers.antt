use Rattle.pre_trace.proofs.Spaces.{spaced_is}
use Rattle.pre_trace.proofs.words.has_single_spaces.Goals as goal

pub loop-rest-init : goal.loop-rest-init
loop-rest-init c = spaced_is c.args.line.now

use Rattle.pre_certify.specs.Tables.{delays_in}
use Rattle.pre_certify.specs.Turns.{ranks_in}
use Rattle.pre_certify.proofs.Stepping.{large-first}
use Rattle.pre_certify.proofs.settle.settle.Goals as goal

pub returns-in-Err-clause-cause : goal.returns-in-Err-clause-cause
returns-in-Err-clause-cause c = (
  c.requires.load,
  large-first c.args.net.now c.args.rows.now (ranks_in c.args.ranks.now) c.args.net.now.rules.arc_count.1 (delays_in c.loop-turn.delays) c.loop-turn.turn _ _ c.requires.ranks c.loop-turn.invariant.before c.in-Err.ensures.large,
)

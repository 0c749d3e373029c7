use Rattle.std.proofs.Common.{arith}
use Rattle.pre_rounds.specs.Rounds.{declared}
use Rattle.pre_rounds.proofs.Filling.{bursts_all}
use Rattle.pre_rounds.proofs.tables.first_table.Goals as goal

pub returns-clause-same : goal.returns-clause-same
returns-clause-same c = bursts_all c.args.rows.now (declared c.args.rows.now) c.loop-place.table c.loop-place.place c.requires.short (omega arith) c.loop-place.invariant.same

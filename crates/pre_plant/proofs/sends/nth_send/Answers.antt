use Rattle.std.proofs.Common.{arith}
use Rattle.pre_plant.proofs.Ticks.{before_stop, product_before_stop}
use Rattle.pre_plant.proofs.sends.nth_send.Goals as goal

pub overflow_mul-result : goal.overflow_mul-result
overflow_mul-result c = omega (arith, product_before_stop c.args.source.first c.args.source.period c.args.count (omega (arith, c.requires.first)) c.requires.often)

pub overflow_add-result : goal.overflow_add-result
overflow_add-result c = omega (arith, before_stop c.args.source.first c.args.source.period c.args.count (omega (arith, c.requires.first)) c.requires.often)

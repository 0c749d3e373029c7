use Rattle.std.proofs.Common.{arith}
use Rattle.std.proofs.Math.Nat.{div-le_self}
use Rattle.pre_topo.proofs.sums.wires_of_arc.Goals as goal

pub overflow_add-result : goal.overflow_add-result
overflow_add-result c = omega (arith, div-le_self c.args.arc.now.delay c.args.arc.now.cost)

use Rattle.std.proofs.Common.{arith}
use Rattle.pre_frame.proofs.Frames.{counted_up}
use Rattle.pre_frame.proofs.building.count_up.Goals as goal

pub returns : goal.returns
returns c = counted_up c.args.number.0 c.loop-octet.octets c.args.octets.now (omega arith) (λ k h. c.loop-octet.invariant.so_far k (omega arith))

use Rattle.std.proofs.Common.{◌≤◌, ◌-◌, length}
use Rattle.pre_base.proofs.held.write_rest.Given as goal

abbrev pub invariant-loop-written : goal.invariant-loop-written
invariant-loop-written g l = record {
  onward : l.fn.written ≤ l.written;
  within : l.written ≤ length l.octets;
}

abbrev pub decreases-loop-written : goal.decreases-loop-written
decreases-loop-written g l = length l.octets - l.written

use Rattle.std.proofs.Common.{◌≡◌, ◌*◌, ◌≤◌, ◌^◌, take}
use Rattle.pre_check.specs.Tests.{bursts_in}
use Rattle.pre_check.proofs.clauses.bursts_in.Given as goal

abbrev pub invariant-loop-stream : goal.invariant-loop-stream
invariant-loop-stream l = (l.bursts ≡ bursts_in (take l.stream l.rows) l.hops l.arc.0 l.low l.high) × (l.bursts ≤ l.stream * 2 ^ 64)

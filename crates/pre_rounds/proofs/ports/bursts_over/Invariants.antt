use Rattle.std.proofs.Common.{◌≡◌, ◌*◌, ◌≤◌, ◌^◌, take}
use Rattle.pre_rounds.specs.Rounds.{bursts_over}
use Rattle.pre_rounds.specs.Tables.{bursts_in}
use Rattle.pre_rounds.proofs.ports.bursts_over.Given as goal

abbrev pub invariant-loop-stream : goal.invariant-loop-stream
invariant-loop-stream l = record {
  so_far : l.sum ≡ bursts_over (bursts_in l.bursts) l.arc.0 l.low l.high (take l.stream l.rows);
  small : l.sum ≤ l.stream * 10 ^ 12;
}

use Rattle.std.proofs.Common.{◌<◌, ◌≤◌, length}
use Rattle.pre_bound.specs.Limits.{limit}
use Rattle.pre_bound.specs.Good.{AtStreams}
use Rattle.pre_bound.specs.Passing.{ticks_before}
use Rattle.pre_certify.specs.Tables.{delays_in}
use Rattle.pre_rounds.proofs.bounds.first_wide.Given as goal

abbrev pub invariant-loop-stream : goal.invariant-loop-stream
invariant-loop-stream l = AtStreams l.rows (λ other r. other < l.stream → ticks_before l.net (delays_in l.delays) r (length r.arcs) ≤ limit)

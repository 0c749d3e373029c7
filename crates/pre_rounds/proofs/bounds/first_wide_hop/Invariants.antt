use Rattle.std.proofs.Common.{ℕ, ◌+◌, ◌<◌, ◌≤◌}
use Rattle.pre_bound.specs.Limits.{limit}
use Rattle.pre_bound.specs.Passing.{ticks_before}
use Rattle.pre_certify.specs.Tables.{delays_in}
use Rattle.pre_rounds.proofs.bounds.first_wide_hop.Given as goal

abbrev pub invariant-loop-hop : goal.invariant-loop-hop
invariant-loop-hop l = (earlier : ℕ) → earlier < l.hop → ticks_before l.net (delays_in l.delays) l.row (earlier + 1) ≤ limit

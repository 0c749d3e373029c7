use Rattle.std.proofs.Common.{◌≡◌, take}
use Rattle.std.specs.Prelude.{filter}
use Rattle.std.specs.List.{enumerate_from}
use Rattle.pre_bound.specs.Uses.{is_stream}
use Rattle.pre_rounds.specs.Tables.{bursts_in}
use Rattle.pre_rounds.specs.Written.{all_hops}
use Rattle.pre_rounds.proofs.rows.hop_rows.Given as goal

abbrev pub invariant-loop-stream : goal.invariant-loop-stream
invariant-loop-stream l = l.found ≡ all_hops (bursts_in l.bursts) (filter (λ e. is_stream e.1) (enumerate_from 0 (take l.stream l.rows)))

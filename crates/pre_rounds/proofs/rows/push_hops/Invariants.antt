use Rattle.std.proofs.Common.{◌≡◌, ◌++◌, map}
use Rattle.std.specs.List.{range_with_len}
use Rattle.pre_rounds.specs.Tables.{bursts_in}
use Rattle.pre_rounds.proofs.rows.push_hops.Given as goal

abbrev pub invariant-loop-hop : goal.invariant-loop-hop
invariant-loop-hop l = l.found ≡ l.fn.found ++ map (λ hop. record { stream = record { 0 = l.stream }; hop = hop; burst = bursts_in l.bursts l.stream hop }) (range_with_len 0 l.hop)

use Rattle.std.proofs.Common.{◌≡◌, ◌++◌, map}
use Rattle.std.specs.List.{range_with_len}
use Rattle.pre_bound.specs.Along.{burst_at}
use Rattle.pre_certify.specs.Tables.{delays_in}
use Rattle.pre_certify.proofs.rows.push_hops.Given as goal

abbrev pub invariant-loop-hop : goal.invariant-loop-hop
invariant-loop-hop l = l.found ≡ l.fn.found ++ map (λ hop. record { stream = l.stream; hop = hop; burst = burst_at l.net (delays_in l.delays) l.row hop }) (range_with_len 0 l.hop)

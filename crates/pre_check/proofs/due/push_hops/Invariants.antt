use Rattle.std.proofs.Common.{◌≡◌, ◌++◌, map}
use Rattle.std.specs.List.{range_with_len}
use Rattle.pre_check.specs.Due.{due_hop}
use Rattle.pre_check.proofs.due.push_hops.Given as goal

abbrev pub invariant-loop-hop : goal.invariant-loop-hop
invariant-loop-hop l = l.due ≡ l.fn.due ++ map due_hop (map (λ hop. (l.stream.0, hop)) (range_with_len 0 l.hop))

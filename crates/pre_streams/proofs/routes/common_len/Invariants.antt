use Rattle.std.proofs.Common.{◌≡◌, ◌+◌, drop}
use Rattle.std.specs.List.{common_prefix_len}
use Rattle.std.specs.Str.{bytes_eq}
use Rattle.pre_streams.proofs.routes.common_len.Given as goal

abbrev pub invariant-loop-hop : goal.invariant-loop-hop
invariant-loop-hop l = common_prefix_len bytes_eq l.a l.b ≡ l.hop + common_prefix_len bytes_eq (drop l.hop l.a) (drop l.hop l.b)

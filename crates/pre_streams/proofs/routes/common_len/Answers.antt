use Rattle.std.proofs.Common.{arith, drop, length-drop}
use Rattle.std.specs.Str.{bytes_eq}
use Rattle.std.proofs.lemmas.List.Sums.{common_prefix_len-le}
use Rattle.pre_streams.proofs.routes.common_len.Goals as goal

pub returns : goal.returns
returns c =
    let within = common_prefix_len-le bytes_eq (drop c.loop-hop.hop c.args.a.now) (drop c.loop-hop.hop c.args.b.now) in
    omega (arith, within.0, within.1, c.loop-hop.invariant, length-drop c.loop-hop.hop c.args.a.now, length-drop c.loop-hop.hop c.args.b.now)

use Rattle.std.proofs.Common.{arith, sym, ◌∙◌}
use Rattle.pre_streams.proofs.Rising.{short_names}
use Rattle.pre_streams.proofs.arc_rules.holds_along.Goals as goal

pub returns : goal.returns
returns c = sym (short_names c.args.net.now c.args.rule c.loop-rest.rest.now (omega (arith, c.in_default.len_below))) ∙ c.loop-rest.invariant

use Rattle.std.proofs.Common.{rules, ◌∙◌, is_none}
use Rattle.pre_streams.specs.declared.rows.Row.{Row}
use Rattle.pre_streams.proofs.Joining.{first_or_end}
use Rattle.pre_streams.proofs.lookups.first_flow.Goals as goal

pub returns : goal.returns
returns c = (search rules) ∙ first_or_end (λ (r : Row). is_none r.curve) c.args.rows.now

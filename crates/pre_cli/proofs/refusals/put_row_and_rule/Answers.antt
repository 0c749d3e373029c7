use Rattle.std.proofs.Common.{rules}
use Rattle.pre_base.specs.Told.{WhereTold}
use Rattle.pre_base.specs.Sinks.{TakesWhole, TakesFront}
use Rattle.pre_cli.specs.Statuses.{behind_space, row_words}
use Rattle.pre_cli.proofs.Two.{two_breaks, two_ends}
use Rattle.pre_cli.proofs.refusals.put_row_and_rule.Goals as goal

pub returns-in_err-put_row-clause-octets : goal.returns-in_err-put_row-clause-octets
returns-in_err-put_row-clause-octets g c =
    let before = g.S.Sink.tells c.args.sink.now in
    let after = g.S.Sink.tells c.put_row.new.sink in
    let took : WhereTold before after (TakesFront (row_words c.args.row)) = search rules in
    two_breaks before after (row_words c.args.row) (behind_space c.args.rule) c.from_residual.result c.from_residual.ensures.0 took

pub returns-clause-octets : goal.returns-clause-octets
returns-clause-octets g c =
    let before = g.S.Sink.tells c.args.sink.now in
    let after = g.S.Sink.tells c.put_row.new.sink in
    let took : WhereTold before after (TakesWhole (row_words c.args.row)) = search rules in
    two_ends before after (g.S.Sink.tells c.put_behind_space.new.sink) (row_words c.args.row) (behind_space c.args.rule) c.put_behind_space.result took c.put_behind_space.ensures.octets

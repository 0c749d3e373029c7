use Rattle.std.proofs.Common.{◌++◌, codes, rules}
use Rattle.pre_base.specs.Told.{WhereTold}
use Rattle.pre_base.specs.Sinks.{TakesWhole, TakesFront}
use Rattle.pre_cli.specs.Outcomes.{why_words}
use Rattle.pre_cli.proofs.Two.{two_breaks, two_ends}
use Rattle.pre_cli.proofs.outcomes.put_refused.Goals as goal

pub returns-in_err-put_named-clause-octets : goal.returns-in_err-put_named-clause-octets
returns-in_err-put_named-clause-octets g c =
    let before = g.S.Sink.tells c.args.sink.now in
    let after = g.S.Sink.tells c.put_named.new.sink in
    let took : WhereTold before after (TakesFront (codes "# refused " ++ c.args.name.now)) = search rules in
    two_breaks before after (codes "# refused " ++ c.args.name.now) (why_words c.args.why.now) c.from_residual.result c.from_residual.ensures.0 took

pub returns-clause-octets : goal.returns-clause-octets
returns-clause-octets g c =
    let before = g.S.Sink.tells c.args.sink.now in
    let after = g.S.Sink.tells c.put_named.new.sink in
    let took : WhereTold before after (TakesWhole (codes "# refused " ++ c.args.name.now)) = search rules in
    two_ends before after (g.S.Sink.tells c.put_why.new.sink) (codes "# refused " ++ c.args.name.now) (why_words c.args.why.now) c.put_why.result took c.put_why.ensures.octets

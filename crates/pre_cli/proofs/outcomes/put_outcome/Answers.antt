use Rattle.std.proofs.Common.{codes, rules}
use Rattle.pre_base.specs.Told.{WhereTold}
use Rattle.pre_base.specs.Sinks.{TakesWhole, TakesFront}
use Rattle.pre_cli.specs.Outcomes.{outcome_words, name_held}
use Rattle.pre_cli.proofs.Two.{two_breaks, two_ends}
use Rattle.pre_cli.proofs.outcomes.put_outcome.Goals as goal

pub returns-in_err-put_words-clause-octets : goal.returns-in_err-put_words-clause-octets
returns-in_err-put_words-clause-octets g c =
    let before = g.S.Sink.tells c.args.sink.now in
    let after = g.S.Sink.tells c.put_words.new.sink in
    let took : WhereTold before after (TakesFront (outcome_words (name_held c.args.held.now c.args.outcome.now) c.args.outcome.now)) = search rules in
    two_breaks before after (outcome_words (name_held c.args.held.now c.args.outcome.now) c.args.outcome.now) (codes "\n") c.from_residual.result c.from_residual.ensures.0 took

pub returns-clause-octets : goal.returns-clause-octets
returns-clause-octets g c =
    let before = g.S.Sink.tells c.args.sink.now in
    let after = g.S.Sink.tells c.put_words.new.sink in
    let took : WhereTold before after (TakesWhole (outcome_words (name_held c.args.held.now c.args.outcome.now) c.args.outcome.now)) = search rules in
    two_ends before after (g.S.Sink.tells c.write_all.new.sink) (outcome_words (name_held c.args.held.now c.args.outcome.now) c.args.outcome.now) (codes "\n") c.write_all.result took c.write_all.ensures.octets

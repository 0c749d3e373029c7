use Rattle.std.proofs.Common.{◌++◌, codes, List, ℕ, subst}
use Rattle.pre_base.specs.Told.{WhereTold}
use Rattle.pre_base.specs.Sinks.{TakesWhole, TakesFront}
use Rattle.pre_cli.specs.Statuses.{behind_space, file_word}
use Rattle.pre_cli.proofs.Two.{two_breaks, two_ends}
use Rattle.pre_cli.proofs.statuses.put_form.Goals as goal

pub returns-in_err-write_all-clause-octets : goal.returns-in_err-write_all-clause-octets
returns-in_err-write_all-clause-octets g c =
    let before = g.S.Sink.tells c.args.sink.now in
    let after = g.S.Sink.tells c.write_all.new.sink in
    two_breaks before after (codes "form " ++ file_word c.args.file) (behind_space c.args.line ++ behind_space c.args.rule) c.from_residual.result c.from_residual.ensures.0
    (subst (λ (p : List ℕ). WhereTold before after (TakesFront p)) c.form_word.ensures c.in_err-write_all.ensures.octets)

pub returns-clause-octets : goal.returns-clause-octets
returns-clause-octets g c =
    let before = g.S.Sink.tells c.args.sink.now in
    let after = g.S.Sink.tells c.write_all.new.sink in
    two_ends before after (g.S.Sink.tells c.put_place.new.sink) (codes "form " ++ file_word c.args.file) (behind_space c.args.line ++ behind_space c.args.rule) c.put_place.result
    (subst (λ (p : List ℕ). WhereTold before after (TakesWhole p)) c.form_word.ensures c.in_ok-write_all.ensures.octets) c.put_place.ensures.octets

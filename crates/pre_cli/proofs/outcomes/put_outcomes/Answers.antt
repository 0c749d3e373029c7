use Rattle.std.proofs.Common.{subst}
use Rattle.pre_base.specs.Told.{WhereTold}
use Rattle.pre_base.specs.Sinks.{TakesFront}
use Rattle.pre_base.proofs.Pieces.{piece_fails}
use Rattle.pre_admit.specs.declared.admissions.Outcome.{Outcome}
use Rattle.pre_cli.specs.Outcomes.{held_line}
use Rattle.pre_cli.proofs.outcomes.put_outcomes.Goals as goal

pub returns-in_err-put_outcome-clause-octets : goal.returns-in_err-put_outcome-clause-octets
returns-in_err-put_outcome-clause-octets g c =
    let before = g.S.Sink.tells c.loop-outcome.sink in
    let after = g.S.Sink.tells c.put_outcome.new.sink in
    piece_fails (held_line c.args.held.now) c.args.outcomes.now c.loop-outcome.outcome-index c.outcome-item.result _ _ _ c.from_residual.result c.loop-outcome-test.true c.from_residual.ensures.0
    c.loop-outcome.invariant.taken
    (subst (λ (o : Outcome). WhereTold before after (TakesFront (held_line c.args.held.now o))) c.outcome-item.is c.in_err-put_outcome.ensures.octets)

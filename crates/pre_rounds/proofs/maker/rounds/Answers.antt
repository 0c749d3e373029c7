use Rattle.std.proofs.Common.{sym, List, subst}
use Rattle.std.specs.Prelude.{IfOk, IfErr}
use Rattle.pre_streams.specs.declared.rows.Row.{Row}
use Rattle.pre_bound.specs.Settled.{PriosBelow}
use Rattle.pre_certify.proofs.Walking.{ok_weaker}
use Rattle.pre_rounds.specs.Causes.{Cause}
use Rattle.pre_rounds.specs.Routed.{AreRouted}
use Rattle.pre_rounds.specs.Answers.{IsOfSettled}
use Rattle.pre_rounds.proofs.Routes.{are_routed}
use Rattle.pre_rounds.proofs.Good.{no_ranks}
use Rattle.pre_rounds.proofs.AtMost.{least_certificate}
use Rattle.pre_rounds.proofs.Completed.{complete_answer}
use Rattle.pre_rounds.proofs.Alone.{alone_answer, none_answer}
use Rattle.pre_rounds.proofs.maker.rounds.Goals as goal

pub answer-requires : goal.answer-requires
answer-requires c =
    subst (λ (l : List Row). AreRouted c.args.net.now l) (sym c.as_slice-2.ensures)
    (are_routed c.args.net.now c.args.streams.now c.requires (subst (λ (l : List Row). PriosBelow l) c.as_slice.ensures c.prios_below.ensures))

pub returns-clause-numbers : goal.returns-clause-numbers
returns-clause-numbers c = subst (λ (l : List Row). IfOk c.answer.result (IsOfSettled c.args.net.now l)) c.as_slice-2.ensures c.answer.ensures.numbers

pub returns-clause-least : goal.returns-clause-least
returns-clause-least c =
    let net = c.args.net.now in
    let streams = c.args.streams.now in
    let routed = are_routed net streams c.requires (subst (λ (l : List Row). PriosBelow l) c.as_slice.ensures c.prios_below.ensures) in
    ok_weaker (IsOfSettled net streams.rows) _ c.answer.result (subst (λ (l : List Row). IfOk c.answer.result (IsOfSettled net l)) c.as_slice-2.ensures c.answer.ensures.numbers)
    (λ x of. least_certificate net streams x routed of)

pub returns-clause-unranked : goal.returns-clause-unranked
returns-clause-unranked c =
    let net = c.args.net.now in
    let rows = c.args.streams.now.rows in
    ok_weaker (IsOfSettled net rows) _ c.answer.result (subst (λ (l : List Row). IfOk c.answer.result (IsOfSettled net l)) c.as_slice-2.ensures c.answer.ensures.numbers) (λ x of. no_ranks net rows x of)

pub returns-clause-cause : goal.returns-clause-cause
returns-clause-cause c = subst (λ (l : List Row). IfErr c.answer.result (Cause c.args.net.now l)) c.as_slice-2.ensures c.answer.ensures.cause

pub returns-clause-none : goal.returns-clause-none
returns-clause-none c =
    none_answer c.args.net.now c.args.streams.now.rows c.answer.result (subst (λ (l : List Row). IfOk c.answer.result (IsOfSettled c.args.net.now l)) c.as_slice-2.ensures c.answer.ensures.numbers)

pub returns-clause-alone : goal.returns-clause-alone
returns-clause-alone c =
    alone_answer c.args.net.now c.args.streams.now.rows c.answer.result (subst (λ (l : List Row). IfErr c.answer.result (Cause c.args.net.now l)) c.as_slice-2.ensures c.answer.ensures.cause)

pub returns-clause-complete : goal.returns-clause-complete
returns-clause-complete c =
    let net = c.args.net.now in
    let streams = c.args.streams.now in
    let routed = are_routed net streams c.requires (subst (λ (l : List Row). PriosBelow l) c.as_slice.ensures c.prios_below.ensures) in
    complete_answer net streams routed c.answer.result (subst (λ (l : List Row). IfErr c.answer.result (Cause net l)) c.as_slice-2.ensures c.answer.ensures.cause)

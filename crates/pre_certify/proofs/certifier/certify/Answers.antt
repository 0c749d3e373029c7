use Rattle.std.proofs.Common.{subst}
use Rattle.pre_bound.specs.Settled.{PriosBelow}
use Rattle.pre_certify.proofs.Refusing.{complete_answer, no_refusal, alone_answer}
use Rattle.pre_certify.proofs.certifier.certify.Goals as goal

pub certificate_of-requires-clause-prios : goal.certificate_of-requires-clause-prios
certificate_of-requires-clause-prios c = subst (λ rows. PriosBelow rows) c.as_slice.ensures c.prios_below.ensures

pub returns-clause-complete : goal.returns-clause-complete
returns-clause-complete c =
    complete_answer c.args.net.now c.args.streams.now c.requires (subst (λ rows. PriosBelow rows) c.as_slice.ensures c.prios_below.ensures) c.refusal_law.ensures.none _ c.certificate_of.ensures.cause

pub returns-clause-none : goal.returns-clause-none
returns-clause-none c =
    no_refusal c.args.net.now c.args.streams.now c.requires (subst (λ rows. PriosBelow rows) c.as_slice.ensures c.prios_below.ensures) c.refusal_law.ensures.none _ c.certificate_of.ensures.least c.certificate_of.ensures.ranked

pub returns-clause-alone : goal.returns-clause-alone
returns-clause-alone c =
    alone_answer c.args.net.now c.args.streams.now c.requires (subst (λ rows. PriosBelow rows) c.as_slice.ensures c.prios_below.ensures) c.refusal_law.ensures.none c.refusal_law.ensures.one _ c.certificate_of.ensures.cause

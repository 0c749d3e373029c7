use Rattle.std.proofs.Common.{sym, subst}
use Rattle.pre_bound.specs.Settled.{PriosBelow}
use Rattle.pre_certify.specs.Computed.{SaysSettled}
use Rattle.pre_admit.proofs.Joins.{can_join}
use Rattle.pre_admit.proofs.Answers.{certified_moved}
use Rattle.pre_admit.proofs.Certificates.{is_local}
use Rattle.pre_admit.proofs.plans.Plan.admit.Goals as goal

pub joined-requires-clause-can : goal.joined-requires-clause-can
joined-requires-clause-can c = can_join c.args.self.now.net.now c.args.self.now.streams c.args.row c.requires.plan.fits c.requires.row c.requires.stream c.in_default.ensures.missing

pub returns-in_err-self-clause-plan : goal.returns-in_err-self-clause-plan
returns-in_err-self-clause-plan c = record {
  fits = c.joined.ensures.fits;
  certified = certified_moved c.args.self.now.net.now c.args.self.now.streams c.joined.new.streams c.args.self.now.certificate (sym c.in_err-self.ensures.stay) c.requires.plan.certified;
}

pub returns-clause-local : goal.returns-clause-local
returns-clause-local c =
    is_local c.args.self.now.net.now c.args.self.now.streams c.args.row c.args.self.now.certificate c.in_ok-self.field-0 c.requires.plan.fits (subst (λ rows. PriosBelow rows) c.as_slice.ensures c.prios_below.ensures)
    c.requires.plan.certified.settled (subst (λ rows. SaysSettled c.args.self.now.net.now rows c.in_ok-self.field-0) c.in_ok-self.ensures.rows c.in_ok-self.ensures.certified.settled)

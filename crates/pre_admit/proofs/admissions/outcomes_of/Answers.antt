use Rattle.std.proofs.Common.{◌∙◌, ◌∷◌, ◌++◌, [], sym, subst}
use Rattle.pre_admit.specs.Admissions.{Admits, AdmitsOne}
use Rattle.pre_admit.proofs.Admitting.{one_more}
use Rattle.pre_admit.proofs.admissions.outcomes_of.Goals as goal

pub loop-row-preserved : goal.loop-row-preserved
loop-row-preserved c = (
  c.outcome_of.ensures.net ∙ c.loop-row.invariant.0,
  c.outcome_of.ensures.plan,
  subst (λ outcomes. Admits c.args.plan.now.net.now c.args.plan.now.streams.rows (c.loop-row.yielded ++ c.in-Some.row ∷ []) outcomes c.outcome_of.new.plan.streams.rows) (sym c.in_ok-push.ensures.ok)
      (one_more c.args.plan.now.net.now c.args.plan.now.streams.rows c.loop-row.yielded c.loop-row.outcomes c.loop-row.plan.streams.rows c.outcome_of.new.plan.streams.rows c.in-Some.row c.in_ok-outcome_of.field-0 c.loop-row.invariant.2
      (subst (λ net. AdmitsOne net c.loop-row.plan.streams.rows c.in-Some.row c.in_ok-outcome_of.field-0 c.outcome_of.new.plan.streams.rows) c.loop-row.invariant.0 c.in_ok-outcome_of.ensures.outcome)),
)

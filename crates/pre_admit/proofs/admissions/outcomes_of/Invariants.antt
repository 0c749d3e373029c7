use Rattle.std.proofs.Common.{◌≡◌}
use Rattle.pre_admit.specs.Certified.{IsPlan}
use Rattle.pre_admit.specs.Admissions.{Admits}
use Rattle.pre_admit.proofs.admissions.outcomes_of.Given as goal

abbrev pub invariant-loop-row : goal.invariant-loop-row
invariant-loop-row l = (l.plan.net.now ≡ l.fn.plan.net.now) × IsPlan l.plan.net.now l.plan.streams l.plan.certificate × Admits l.fn.plan.net.now l.fn.plan.streams.rows l.yielded l.outcomes l.plan.streams.rows

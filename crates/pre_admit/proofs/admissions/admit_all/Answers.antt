use Rattle.pre_admit.proofs.Admitting.{held_in_the_end}
use Rattle.pre_admit.proofs.admissions.admit_all.Goals as goal

pub returns-clause-held : goal.returns-clause-held
returns-clause-held c = held_in_the_end c.outcomes_of.result c.args.plan.now.net.now c.args.plan.now.streams.rows c.args.rows c.outcomes_of.new.plan.streams.rows c.requires.streams c.outcomes_of.ensures.outcomes

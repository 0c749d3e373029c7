use Rattle.pre_outgoing.proofs.Asking.{ends_agree, no_end, never_ends}
use Rattle.pre_outgoing.proofs.outgoing.Outgoing.ends.Goals as goal

pub returns-in-Some-clause-none : goal.returns-in-Some-clause-none
returns-in-Some-clause-none c = λ w past a a_lt legal sends other.
    ends_agree w past c.args.now.0 a c.args.self.now a_lt legal sends
    (no_end c.args.self.now c.ends_at.result c.in-Some.due.0 c.args.now.0 c.ends_at.ensures.plans c.in-Some.is other)

pub returns-in-None-clause-none : goal.returns-in-None-clause-none
returns-in-None-clause-none c = λ w past a a_lt legal sends other.
    ends_agree w past c.args.now.0 a c.args.self.now a_lt legal sends (never_ends c.args.self.now c.ends_at.result c.args.now.0 c.ends_at.ensures.plans c.in-None.is)

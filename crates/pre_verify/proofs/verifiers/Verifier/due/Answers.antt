use Rattle.std.proofs.Common.{sym}
use Rattle.pre_verify.proofs.Dues.{due-not_trying, due-first, due-going, due-over, due-later}
use Rattle.pre_verify.proofs.verifiers.Verifier.due.Goals as goal

pub returns-then-not-is_trying : goal.returns-then-not-is_trying
returns-then-not-is_trying c = λ wait calls s. due-not_trying c.args.self.now wait calls s (sym c.if-not-is_trying.ensures)

pub returns-then-self-eq0 : goal.returns-then-self-eq0
returns-then-self-eq0 c = λ wait calls s. due-first c.args.self.now wait calls s c.if-self-eq0.true

pub returns-in_default : goal.returns-in_default
returns-in_default c = λ wait calls s. due-going c.args.self.now wait calls s c.in_default.is

pub returns-then-over-self : goal.returns-then-over-self
returns-then-over-self c = λ wait calls s. due-over c.args.self.now wait calls c.in-Some.ended s c.in-Some.is c.if-over-self.true

pub returns : goal.returns
returns c = λ wait calls s.
    due-later c.args.self.now wait calls c.in-Some.ended s (sym c.if-not-is_trying.ensures) c.if-self-eq0.false c.in-Some.is c.if-over-self.false

use Rattle.std.proofs.Common.{true, false, sym}
use Rattle.pre_verify.proofs.Standing.{sends, fails, wants_or_waits}
use Rattle.pre_verify.proofs.verifiers.Verifier.state.Goals as goal

pub returns-then-is_under_way : goal.returns-then-is_under_way
returns-then-is_under_way c = λ wait calls s. sends c.args.self.now wait calls s c.if-is_none.ensures c.if-self.false (sym c.if-is_under_way.ensures.going)

pub returns-then-has_failed : goal.returns-then-has_failed
returns-then-has_failed c = λ wait calls s.
    fails c.args.self.now wait calls s c.if-is_none.ensures c.if-self.false (sym c.if-is_under_way.ensures.going) (sym c.if-has_failed.ensures)

pub returns-then-wants : goal.returns-then-wants
returns-then-wants c = λ wait calls s.
    wants_or_waits c.args.self.now wait calls true s c.if-is_none.ensures c.if-self.false (sym c.if-is_under_way.ensures.going) (sym c.if-has_failed.ensures) (sym c.if-wants.ensures)

pub returns : goal.returns
returns c = λ wait calls s.
    wants_or_waits c.args.self.now wait calls false s c.if-is_none.ensures c.if-self.false (sym c.if-is_under_way.ensures.going) (sym c.if-has_failed.ensures) (sym c.if-wants.ensures)

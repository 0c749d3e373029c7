use Rattle.std.proofs.Common.{◌≡◌, Bool, true, false, refl}
use Rattle.pre_history.specs.Scenario.{arc}
use Rattle.pre_history.proofs.Steady.{costs}
use Rattle.pre_outgoing.proofs.Settling.{settles_waiting, settles_quiet, still_ahead}
use Rattle.pre_outgoing.proofs.outgoing.Outgoing.settle.Goals as goal

pub returns-then-waits-clause-settles : goal.returns-then-waits-clause-settles
returns-then-waits-clause-settles c = λ w past a a_lt legal decides sends.
    settles_waiting w past c.args.now.0 a c.args.self.now _ a_lt legal sends (decides.0 c.if-waits.true)
    (c.express_waits.ensures.stands (arc w a).cost (arc w a).add_frag sends.calls sends.stands) refl refl refl refl

pub returns-then-waits-clause-ahead : goal.returns-then-waits-clause-ahead
returns-then-waits-clause-ahead c = λ w past a n due settled a_lt sends is lt.
    still_ahead w past c.args.now.0 a n due settled c.args.self.now c.express_waits.new.self (costs w a a_lt) sends
    (c.express_waits.ensures.stands (arc w a).cost (arc w a).add_frag sends.calls sends.stands) is c.express_waits.ensures.going lt

pub returns-else-waits-clause-settles : goal.returns-else-waits-clause-settles
returns-else-waits-clause-settles c = λ w past a a_lt legal decides sends.
    settles_quiet w past c.args.now.0 a c.args.self.now a_lt legal sends (λ x. not_both (decides.1 x) c.if-waits.false)
  where
    not_both : {b : Bool} → b ≡ true → b ≡ false → ⊥
    not_both t f = absurd (cc (t, f))

use Rattle.std.proofs.Common.{sym, subst}
use Rattle.pre_bound.specs.Settled.{PriosBelow}
use Rattle.pre_bound.specs.Order.{Rise}
use Rattle.pre_certify.specs.Turns.{ranks_in}
use Rattle.pre_certify.proofs.certifier.certified.Goals as goal

pub settle-requires-clause-prios : goal.settle-requires-clause-prios
settle-requires-clause-prios c = subst (λ rows. PriosBelow rows) (sym c.as_slice.ensures) c.requires.prios

pub settle-requires-clause-rise : goal.settle-requires-clause-rise
settle-requires-clause-rise c =
    subst (λ rows. Rise rows (ranks_in c.args.ranks.now)) (sym c.as_slice.ensures)
    (c.order_law.ensures.rise c.args.net.now c.args.streams.now (ranks_in c.args.ranks.now) c.requires.fits c.requires.ranks.are)

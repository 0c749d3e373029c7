use Rattle.std.proofs.Common.{arith}
use Rattle.pre_streams.specs.Hops.{TakesArcBy}
use Rattle.pre_streams.proofs.Found.{none_up_to, none_of_all}
use Rattle.pre_streams.proofs.lookups.arc_of_vid.Goals as goal

pub loop-row-preserved : goal.loop-row-preserved
loop-row-preserved c k d arc below =
    none_up_to (TakesArcBy c.args.node c.args.vid arc) c.args.rows.now c.loop-row.row-index c.row-item.result c.loop-row-test.true c.row-item.is
    (λ i e less. c.loop-row.invariant i e arc less) (c.in_default.ensures.missing arc) k d below

pub returns : goal.returns
returns c arc = none_of_all (TakesArcBy c.args.node c.args.vid arc) c.args.rows.now c.loop-row.row-index (λ less. omega (arith, less, c.loop-row-test.false)) (λ i e less. c.loop-row.invariant i e arc less)

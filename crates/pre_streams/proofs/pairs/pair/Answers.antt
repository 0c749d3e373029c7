use Rattle.std.proofs.Common.{rules}
use Rattle.pre_streams.proofs.PairFits.{pair_fits}
use Rattle.pre_streams.proofs.pairs.pair.Goals as goal

pub returns-clause-rows : goal.returns-clause-rows
returns-clause-rows c = (c.pair_curve-curve.result, c.pair_curve-curve.ensures, search rules)

pub returns-clause-fits : goal.returns-clause-fits
returns-clause-fits c net is = pair_fits net _ is (c.pair_curve-curve.result, c.pair_curve-curve.ensures, search rules)

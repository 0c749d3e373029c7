use Rattle.std.proofs.Common.{arith}
use Rattle.pre_text.proofs.Hexes.{digits_more}
use Rattle.pre_text.proofs.writing.spell.Goals as goal

pub loop-at-preserved : goal.loop-at-preserved
loop-at-preserved c =
    digits_more c.loop-at.into c.args.octets.now c.loop-at.at c.digit_of.result c.digit_of-in-loop-at.result (omega arith) c.loop-at-test.true c.digit_of.ensures c.digit_of-in-loop-at.ensures c.loop-at.invariant

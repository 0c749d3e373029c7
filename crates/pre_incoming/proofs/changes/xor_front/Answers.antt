use Rattle.std.proofs.Common.{◌≡◌, ◌+◌, ◌<◌, suc, length, take, get_or, sym, ◌∙◌, ap, arith, bit_xor}
use Rattle.std.proofs.Math.ListN.{set}
use Rattle.pre_history.specs.Octets.{xored_from}
use Rattle.pre_incoming.proofs.Xored.{one_more, all_of}
use Rattle.pre_incoming.proofs.changes.xor_front.Goals as goal

pub loop-i-preserved : goal.loop-i-preserved
loop-i-preserved c =
    let lt : c.loop-i.i < length c.args.octets.now = omega arith in
    let lt' : c.loop-i.i < length c.args.with.now = omega arith in
    let next : c.loop-i.i + 1 ≡ suc c.loop-i.i = omega arith in
    ap (λ xs. set xs c.loop-i.i (bit_xor (get_or xs c.loop-i.i 0) (get_or c.args.with.now c.loop-i.i 0))) c.loop-i.invariant
    ∙ (one_more c.args.with.now c.args.octets.now c.loop-i.i lt lt' ∙ ap (λ n. xored_from (take n c.args.with.now) c.args.octets.now) (sym next))

pub returns : goal.returns
returns c = c.loop-i.invariant ∙ all_of c.loop-i.i c.args.with.now c.args.octets.now (omega arith)

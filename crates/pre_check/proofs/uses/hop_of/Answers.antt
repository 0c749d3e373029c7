use Rattle.std.proofs.Common.{sym, ◌∙◌, ap, arith, length, eq-eqb}
use Rattle.std.specs.Prelude.{◌==◌}
use Rattle.std.specs.List.{position_or_len}
use Rattle.std.proofs.lemmas.List.Sums.{position_or_len_is}
use Rattle.pre_base.specs.declared.numbers.ArcId.{ArcId}
use Rattle.pre_check.proofs.uses.hop_of.Goals as goal

pub returns-then-a-arc : goal.returns-then-a-arc
returns-then-a-arc c =
    let arc = c.args.arc.0 in
    let d : ArcId = record { 0 = 0 } in
    sym (ap (position_or_len (λ (a : ArcId). a.0 == arc)) (sym c.as_slice-arcs.ensures)
    ∙ position_or_len_is (λ (a : ArcId). a.0 == arc) c.as_slice-arcs.result.now c.loop-hop.hop d (omega (arith, c.loop-hop-test.true))
    (λ k less. c.loop-hop.invariant k d less) (λ less. eq-eqb _ _ c.if-a-arc.true))

pub returns : goal.returns
returns c =
    let arc = c.args.arc.0 in
    let end = c.loop-hop-test.false in
    sym (ap (position_or_len (λ (a : ArcId). a.0 == arc)) (sym c.as_slice-arcs.ensures)
    ∙ position_or_len_is (λ (a : ArcId). a.0 == arc) c.as_slice-arcs.result.now (length c.as_slice-arcs.result.now) c.args.arc (omega arith)
    (λ k less. c.loop-hop.invariant k c.args.arc (omega (arith, less, end))) (λ less. absurd (omega arith)))

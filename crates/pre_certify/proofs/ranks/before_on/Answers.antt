use Rattle.std.proofs.Common.{◌≡◌, ◌+◌, Some, below_more, subst, sym, ap, arith, length, get_or}
use Rattle.std.specs.Prelude.{slice_get}
use Rattle.std.proofs.lemmas.Bool.{iff_false}
use Rattle.std.proofs.lemmas.Option.{get_or_from_slice_get, slice_get_within}
use Rattle.pre_base.specs.declared.numbers.ArcId.{ArcId}
use Rattle.pre_certify.specs.Peels.{IsOpen}
use Rattle.pre_certify.proofs.ranks.before_on.Goals as goal
use Rattle.pre_certify.proofs.ranks.before_on.Goals.{else-is_next-via-then-is_next+else-is_open, else-is_next-via-else-is_next}

pub loop-hop-preserved : goal.loop-hop-preserved
loop-hop-preserved c =
    below_more _ _ c.loop-hop.invariant
    (λ b marked here next.
    elim c.else-is_next.branch [
      | else-is_next-via-then-is_next+else-is_open w ↦
          let d : ArcId = record { 0 = 0 } in
          let same : get_or c.as_slice-arcs.result.now c.loop-hop.hop d ≡ b = get_or_from_slice_get c.as_slice-arcs.result.now c.loop-hop.hop b d here in
          iff_false w.is_open.ensures w.if-is_open.false (subst (λ x. IsOpen c.args.ranks.now x.0) (sym same) marked)
      | else-is_next-via-else-is_next w ↦ iff_false c.is_next.ensures w.if-is_next.false next
    ])

pub returns-clause-none : goal.returns-clause-none
returns-clause-none c = λ b hop marked here next.
    let inside = slice_get_within c.args.row.now.arcs hop b here in
    let same = c.as_slice-arcs.ensures in
    let long = ap length same in
    c.loop-hop.invariant hop (omega (arith, inside, long, c.loop-hop-test.false)) b marked
    (subst (λ xs. slice_get xs hop ≡ Some b) (sym same) here)
    (subst (λ xs. slice_get xs (hop + 1) ≡ Some c.args.arc) (sym same) next)

use Rattle.std.proofs.Common.{◌<◌, sym, subst, ap, ◌∙◌, arith, length, None}
use Rattle.std.proofs.lemmas.List.{length-replicate}
use Rattle.pre_certify.specs.Peels.{IsRound, Peeled, open_count}
use Rattle.pre_certify.specs.Peelings.{FollowedWithin}
use Rattle.pre_certify.proofs.Peeling.{peeled-step, peeled-none, count_none, closed-from_round}
use Rattle.pre_certify.proofs.ranks.peeled.Goals as goal

pub loop-left-init : goal.loop-left-init
loop-left-init c =
    let same = c.in_ok-ranks.ensures in
    record {
      long = ap length same ∙ length-replicate c.args.arcs None;
      left = sym (ap open_count same ∙ count_none c.args.arcs);
      peeled = subst (λ r. Peeled c.args.rows.now 0 r) (sym same) (peeled-none c.args.rows.now c.args.arcs);
      few = omega arith;
    }

pub returns-then-still-left : goal.returns-then-still-left
returns-then-still-left c =
    let step = subst (λ r. IsRound c.args.rows.now c.loop-left.round r c.in_ok-next.next) c.as_slice.ensures c.in_ok-next.ensures in
    let still = c.open_count-still.ensures ∙ ap open_count c.as_slice-in-loop-left.ensures in
    let left = c.loop-left.invariant.left in
    let some : 0 < c.loop-left.left = c.loop-left-test.true in
    let more = c.if-still-left.true in
    (c.loop-left.invariant.long, omega (arith, left, some), closed-from_round c.args.rows.now c.loop-left.round c.loop-left.ranks c.in_ok-next.next step (omega (arith, still, left, more)))

pub loop-left-preserved : goal.loop-left-preserved
loop-left-preserved c =
    let step = subst (λ r. IsRound c.args.rows.now c.loop-left.round r c.in_ok-next.next) c.as_slice.ensures c.in_ok-next.ensures in
    let still = c.open_count-still.ensures ∙ ap open_count c.as_slice-in-loop-left.ensures in
    let long = c.loop-left.invariant.long in
    record {
      long = step.long ∙ long;
      left = still;
      peeled = peeled-step c.args.rows.now c.loop-left.round c.loop-left.ranks c.in_ok-next.next step (subst (λ n. FollowedWithin c.args.rows.now n) (sym long) c.requires.within) c.loop-left.invariant.peeled;
      few = omega (arith, c.loop-left.invariant.few, c.if-still-left.false);
    }

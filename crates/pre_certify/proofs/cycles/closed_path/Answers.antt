use Rattle.std.proofs.Common.{◌≡◌, ◌+◌, take, sym, subst, ap, ◌∙◌, arith, Some, length}
use Rattle.std.specs.Prelude.{slice_get}
use Rattle.pre_certify.specs.Causes.{Closes}
use Rattle.pre_certify.specs.Paths.{IsDistinct, IsBackPath}
use Rattle.pre_certify.proofs.Walking.{back_open, back_closes, back_step, path_short, ok_weaker}
use Rattle.pre_certify.proofs.cycles.closed_path.Goals as goal

pub open_before-arc-requires-clause-here : goal.open_before-arc-requires-clause-here
open_before-arc-requires-clause-here c = back_open c.args.rows.now c.args.ranks.now c.loop-turn.last c.loop-turn.path c.loop-turn.invariant.back

pub returns : goal.returns
returns c =
    let short = path_short c.args.rows.now c.args.ranks.now c.loop-turn.last c.loop-turn.path c.loop-turn.invariant.back in
    let long = c.loop-turn.invariant.long in
    absurd (omega (arith, short, long, c.loop-turn-test.false))

pub returns-in-Some : goal.returns-in-Some
returns-in-Some c =
    let found : slice_get c.loop-turn.path c.in-Some.place ≡ Some c.open_before-arc.result = subst (λ p. slice_get p c.in-Some.place ≡ Some c.open_before-arc.result) c.as_slice.ensures c.in-Some.ensures.found in
    ok_weaker (λ arcs. arcs ≡ take (c.in-Some.place + 1) c.as_slice-in-Some.result.now) (λ arcs. Closes c.args.rows.now arcs × IsDistinct arcs) c.front.result c.front.ensures
    (λ arcs e.
    let closed = back_closes c.args.rows.now c.args.ranks.now c.loop-turn.last c.open_before-arc.result c.loop-turn.path c.in-Some.place c.loop-turn.invariant.back c.open_before-arc.ensures.follows found in
    subst (λ xs. Closes c.args.rows.now xs × IsDistinct xs) (sym (e ∙ ap (take (c.in-Some.place + 1)) c.as_slice-in-Some.ensures)) closed)

pub loop-turn-preserved : goal.loop-turn-preserved
loop-turn-preserved c =
    let step = back_step c.args.rows.now c.args.ranks.now c.loop-turn.last c.open_before-arc.result c.loop-turn.path c.loop-turn.invariant.back c.open_before-arc.ensures.follows c.open_before-arc.ensures.still
    (λ place e. c.in_default.ensures.none place (subst (λ p. slice_get p place ≡ Some c.open_before-arc.result) (sym c.as_slice.ensures) e))
    in
    let now = c.in_ok-push_front.ensures.ok in
    let longer = ap length now in
    record {
      back = subst (λ p. IsBackPath c.args.rows.now c.args.ranks.now c.open_before-arc.result p) (sym now) step;
      long = omega (arith, longer, c.loop-turn.invariant.long);
    }

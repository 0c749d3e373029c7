use Rattle.std.proofs.Common.{◌≡◌, ◌-◌, ◌++◌, ℕ, List, drop, get_or, arith, sym, ap, ◌∙◌, subst}
use Rattle.pre_picture.specs.declared.bars.Bar.{Bar}
use Rattle.pre_picture.specs.declared.traces.Seen.{Seen}
use Rattle.pre_picture.specs.declared.traces.Seen.TheVariants.{Other}
use Rattle.pre_picture.specs.Bars.{bars, bars_at, Follow}
use Rattle.pre_picture.proofs.Drawn.{drop_before}
use Rattle.pre_picture.proofs.bars.bars_of.Goals as goal

pub loop-at-preserved : goal.loop-at-preserved
loop-at-preserved c =
    let events = c.args.events.now in
    let at = c.loop-at.at in
    let cut = drop_before events at (Other 0) c.loop-at-test.true c.loop-at.invariant.within in
    record {
      within = omega (arith, c.loop-at.invariant.within);
      follow = subst (λ (l : List Seen). Follow c.take.new.stops l) (sym cut) (c.in_ok-take.ensures.stops (drop at events) c.loop-at.invariant.follow);
      found = c.in_ok-take.ensures.found (drop at events) c.loop-at.invariant.follow
          ∙ (ap (λ (l : List Bar). l ++ bars_at (get_or events (at - 1) (Other 0)) (drop at events)) c.loop-at.invariant.found ∙ ap bars (sym cut));
    }

pub returns : goal.returns
returns c = subst (λ (n : ℕ). c.loop-at.found ≡ bars (drop n c.args.events.now)) (let none : c.loop-at.at ≡ 0 = omega (arith, c.loop-at-test.false) in none) c.loop-at.invariant.found

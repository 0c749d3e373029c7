use Rattle.std.proofs.Common.{rules, ◌≡◌, ◌++◌, []}
use Rattle.pre_sim.specs.Parts.{TickFront, CarriesAlias, ClosesFront, scenario_of}
use Rattle.pre_sim.proofs.TellParts.{then_early, then_front}
use Rattle.pre_sim.proofs.Told.{tells_nothing, tells_then}
use Rattle.pre_sim.proofs.AdvanceParts.{front_of_tick, closes, closes_front}
use Rattle.pre_sim.proofs.ticks.advance.Goals as goal

pub returns-in_err-run_tick-clause-part : goal.returns-in_err-run_tick-clause-part
returns-in_err-run_tick-clause-part g c =
    let w = scenario_of c.args.plan.now in
    then_early c.args.plan.now.net.now c.run_tick.result c.from_residual.result (g.W.Watcher.took c.args.watcher.now) (g.W.Watcher.took c.args.watcher.now)
    (g.W.Watcher.took c.run_tick.new.watcher) (g.W.Watcher.torn c.run_tick.new.watcher) []
    _ (TickFront w c.args.now.0 c.args.progress.now) (CarriesAlias w c.args.now.0 0 c.args.progress.now) _ _ _
    (tells_nothing c.args.plan.now.net.now (g.W.Watcher.took c.args.watcher.now)) (λ es front. front_of_tick w c.args.now.0 c.args.progress.now es front)
    (λ a i es alias. alias) c.run_tick.ensures.part
    c.in_err-run_tick.field-0.0 c.in_err-run_tick.was (search rules)

pub returns-in_err-close-clause-part : goal.returns-in_err-close-clause-part
returns-in_err-close-clause-part g c =
    let w = scenario_of c.args.plan.now in
    let first = c.in_ok-run_tick.ensures.part in
    let last : c.args.now.0 ≡ w.script.until.0 = search rules in
    then_front c.args.plan.now.net.now c.close.result c.from_residual-in_err-close.result (g.W.Watcher.took c.args.watcher.now) (g.W.Watcher.took c.run_tick.new.watcher)
    (g.W.Watcher.took c.close.new.watcher) (g.W.Watcher.torn c.close.new.watcher) first.0
    _ (ClosesFront w c.run_tick.new.progress) _ _ _
    first.1 c.close.ensures.part (λ es front. closes_front w c.args.now.0 c.args.progress.now c.run_tick.new.progress first.0 es first.2 last front)
    c.in_err-close.field-0.0 c.in_err-close.was (search rules)

pub returns-clause-part : goal.returns-clause-part
returns-clause-part g c =
    let w = scenario_of c.args.plan.now in
    let first = c.in_ok-run_tick.ensures.part in
    let second = c.in_ok-close.ensures.part in
    let last : c.args.now.0 ≡ w.script.until.0 = search rules in (
      first.0 ++ second.0,
      tells_then c.args.plan.now.net.now (g.W.Watcher.took c.args.watcher.now) (g.W.Watcher.took c.run_tick.new.watcher) (g.W.Watcher.took c.close.new.watcher) first.0 second.0 first.1 second.1,
      closes w c.args.now.0 c.args.progress.now c.run_tick.new.progress first.0 second.0 first.2 last second.2,
    )

use Rattle.std.proofs.Common.{rules, ◌+◌, ◌*◌, length, []}
use Rattle.pre_sim.specs.Parts.{CarriesFront, CarriesAlias, scenario_of}
use Rattle.pre_sim.proofs.TellParts.{then_early, then_part, on_ok_weaker}
use Rattle.pre_sim.proofs.Told.{tells_nothing}
use Rattle.pre_sim.proofs.Readiness.{ready_next}
use Rattle.pre_sim.proofs.TickParts.{carries_on, carries_front}
use Rattle.pre_sim.proofs.ticks.run_tick.Goals as goal

pub returns-in_err-land-clause-part : goal.returns-in_err-land-clause-part
returns-in_err-land-clause-part g c =
    let w = scenario_of c.args.plan.now in
    then_early c.args.plan.now.net.now c.land.result c.from_residual.result (g.W.Watcher.took c.args.watcher.now) (g.W.Watcher.took c.args.watcher.now)
    (g.W.Watcher.took c.land.new.watcher) (g.W.Watcher.torn c.land.new.watcher) []
    _ (CarriesFront w c.args.now.0 0 c.args.progress.now) (CarriesAlias w c.args.now.0 0 c.args.progress.now) _ _ _
    (tells_nothing c.args.plan.now.net.now (g.W.Watcher.took c.args.watcher.now)) (λ es front. front) (λ a i es alias. alias) c.land.ensures.part
    c.in_err-land.field-0.0 c.in_err-land.was (search rules)

pub returns-clause-part : goal.returns-clause-part
returns-clause-part g c =
    let w = scenario_of c.args.plan.now in
    let t = c.args.now.0 in
    let middle = 1 + 3 * length w.net.arcs in
    let first = c.in_ok-land.ensures.part in
    then_part c.args.plan.now.net.now c.leave.result (g.W.Watcher.took c.args.watcher.now) (g.W.Watcher.took c.land.new.watcher) (g.W.Watcher.took c.leave.new.watcher)
    (g.W.Watcher.torn c.leave.new.watcher) first.0
    _ _ (CarriesFront w t middle c.land.new.progress) _ _
    first.1 c.leave.ensures.part
    (λ x es part. carries_on w t 0 t middle c.args.progress.now c.land.new.progress first.0 es first.2 (t + 1) 0 c.leave.new.progress part)
    (λ es front. carries_front w t 0 t middle c.args.progress.now c.land.new.progress first.0 es first.2 front)

pub returns-clause-ready : goal.returns-clause-ready
returns-clause-ready g c = on_ok_weaker c.leave.result (ready_next c.args.now.0 c.leave.new.progress.lanes.items) c.leave.ensures.settled

use Rattle.std.proofs.Common.{rules, ap, ◌∙◌, ◌≡◌, ◌++◌, Some, sym, subst, length, [], arith, refl}
use Rattle.std.specs.Prelude.{slice_get, slice_index_or, None}
use Rattle.pre_history.specs.Moments.{Phase}
use Rattle.pre_history.specs.Scenario.{Scenario}
use Rattle.std.proofs.lemmas.List.{length-set}
use Rattle.pre_bridge.specs.Inside.{of_arc}
use Rattle.pre_sim.specs.Keeps.{Keeps}
use Rattle.pre_sim.specs.Parts.{LanePart, LaneFront, LanesPart, scenario_of}
use Rattle.pre_sim.proofs.Told.{tells_nothing, tells_then}
use Rattle.pre_sim.proofs.Lists.{found_at}
use Rattle.pre_sim.proofs.Rows.{lane_more, front_more, lanes_begin}
use Rattle.pre_sim.proofs.Readiness.{ready_set}
use Rattle.pre_sim.proofs.TellParts.{then_front}
use Rattle.pre_sim.proofs.ends.ends.Goals as goal

pub loop-arc-init : goal.loop-arc-init
loop-arc-init g c = record {
  long = search rules;
  ready = search rules;
  part = ([], tells_nothing c.args.plan.now.net.now (g.W.Watcher.took c.args.watcher.now), lanes_begin (scenario_of c.args.plan.now) c.args.now.0 1 c.args.store.now c.args.lanes.now);
  later = search rules;
  same = search rules;
}

pub end_on-requires-clause-keeps : goal.end_on-requires-clause-keeps
end_on-requires-clause-keeps g c =
    let before = c.loop-arc.invariant.part in
    let lane = slice_index_or c.loop-arc.lanes c.loop-arc.arc c.index-lanes-arc.result in
    let found : slice_get c.loop-arc.lanes c.loop-arc.arc ≡ Some c.index-lanes-arc.result = found_at c.loop-arc.lanes c.loop-arc.arc c.index-lanes-arc.result (search rules)
    (sym c.index-lanes-arc.is) in
    let here : slice_get c.loop-arc.lanes c.loop-arc.arc ≡ Some lane = found ∙ ap Some c.index-lanes-arc.is in
    let now = before.2.keeps c.requires.keeps.0 (subst (λ xs. Keeps (scenario_of c.args.plan.now) c.args.store.now c.args.lanes.now xs []) refl c.requires.keeps.1) in
    now.apart.each_lane c.loop-arc.arc lane here

pub end_on-requires-clause-reached : goal.end_on-requires-clause-reached
end_on-requires-clause-reached g c =
    let before = c.loop-arc.invariant.part in
    let lane = slice_index_or c.loop-arc.lanes c.loop-arc.arc c.index-lanes-arc.result in
    let found : slice_get c.loop-arc.lanes c.loop-arc.arc ≡ Some c.index-lanes-arc.result = found_at c.loop-arc.lanes c.loop-arc.arc c.index-lanes-arc.result (search rules)
    (sym c.index-lanes-arc.is) in
    let here : slice_get c.loop-arc.lanes c.loop-arc.arc ≡ Some lane = found ∙ ap Some c.index-lanes-arc.is in
    let from = c.requires.reached in
    let now = before.2.legal from.0 from.1 from.2 from.3 in
    (from.0 ++ before.0, of_arc c.loop-arc.arc (from.1 ++ []), record { legal = now.0; hears = tt; stands = now.1 c.loop-arc.arc lane here })

pub end_on-requires-clause-ready : goal.end_on-requires-clause-ready
end_on-requires-clause-ready g c =
    let lane = slice_index_or c.loop-arc.lanes c.loop-arc.arc c.index-lanes-arc.result in
    let found : slice_get c.loop-arc.lanes c.loop-arc.arc ≡ Some c.index-lanes-arc.result = found_at c.loop-arc.lanes c.loop-arc.arc c.index-lanes-arc.result (search rules)
    (sym c.index-lanes-arc.is) in
    c.loop-arc.invariant.ready c.loop-arc.arc lane (found ∙ ap Some c.index-lanes-arc.is)

pub returns-in_err-end_on-clause-ready : goal.returns-in_err-end_on-clause-ready
returns-in_err-end_on-clause-ready g c = ready_set c.args.now.0 c.loop-arc.lanes c.loop-arc.arc c.end_on.new.lane c.loop-arc.invariant.ready c.end_on.ensures.ready

pub loop-arc-preserved : goal.loop-arc-preserved
loop-arc-preserved g c =
    let w : Scenario = scenario_of c.args.plan.now in
    let before = c.loop-arc.invariant.part in
    let now = c.in_ok-end_on.ensures.part in
    let lane = slice_index_or c.loop-arc.lanes c.loop-arc.arc c.index-lanes-arc.result in
    let found : slice_get c.loop-arc.lanes c.loop-arc.arc ≡ Some c.index-lanes-arc.result = found_at c.loop-arc.lanes c.loop-arc.arc c.index-lanes-arc.result (search rules)
    (sym c.index-lanes-arc.is) in
    let here : slice_get c.loop-arc.lanes c.loop-arc.arc ≡ Some lane = found ∙ ap Some c.index-lanes-arc.is in
    record {
      long = length-set c.loop-arc.lanes c.loop-arc.arc c.end_on.new.lane ∙ c.loop-arc.invariant.long;
      ready = ready_set c.args.now.0 c.loop-arc.lanes c.loop-arc.arc c.end_on.new.lane c.loop-arc.invariant.ready c.in_ok-end_on.ensures.ready;
      part = (
        before.0 ++ now.0,
        tells_then c.args.plan.now.net.now (g.W.Watcher.took c.args.watcher.now) (g.W.Watcher.took c.loop-arc.watcher) (g.W.Watcher.took c.end_on.new.watcher) before.0 now.0 before.1 now.1,
        lane_more w c.args.now.0 1 c.loop-arc.arc 0 0 (Phase.ends c.loop-arc.arc)
            c.args.store.now c.loop-arc.store c.end_on.new.store c.args.lanes.now c.loop-arc.lanes None lane c.end_on.new.lane here
            (omega (arith, c.loop-arc.invariant.long)) refl (search rules, refl) refl [] [] before.0 now.0 before.2 (λ h entries stand. tt) now.2,
      );
      later = search rules;
      same = search rules;
    }

pub returns-in_err-end_on-clause-part : goal.returns-in_err-end_on-clause-part
returns-in_err-end_on-clause-part g c =
    let w : Scenario = scenario_of c.args.plan.now in
    let before = c.loop-arc.invariant.part in
    let lane = slice_index_or c.loop-arc.lanes c.loop-arc.arc c.index-lanes-arc.result in
    let found : slice_get c.loop-arc.lanes c.loop-arc.arc ≡ Some c.index-lanes-arc.result = found_at c.loop-arc.lanes c.loop-arc.arc c.index-lanes-arc.result (search rules)
    (sym c.index-lanes-arc.is) in
    let here : slice_get c.loop-arc.lanes c.loop-arc.arc ≡ Some lane = found ∙ ap Some c.index-lanes-arc.is in
    then_front c.args.plan.now.net.now c.end_on.result c.from_residual.result (g.W.Watcher.took c.args.watcher.now) (g.W.Watcher.took c.loop-arc.watcher)
    (g.W.Watcher.took c.end_on.new.watcher) (g.W.Watcher.torn c.end_on.new.watcher) before.0
    (λ x es. LanePart w c.args.now.0 (Phase.ends c.loop-arc.arc) c.loop-arc.arc None lane 0 c.loop-arc.store c.end_on.new.store c.end_on.new.lane [] es)
    (LaneFront w c.args.now.0 (Phase.ends c.loop-arc.arc) c.loop-arc.arc None lane) _ _ _
    before.1 c.end_on.ensures.part
    (λ fs front. front_more w c.args.now.0 1 c.loop-arc.arc 0 0 (Phase.ends c.loop-arc.arc)
    c.args.store.now c.loop-arc.store c.end_on.new.store c.args.lanes.now c.loop-arc.lanes None lane c.end_on.new.lane here
    (omega (arith, c.loop-arc.invariant.long)) refl (search rules, refl) refl [] [] before.0 fs before.2 (λ h entries stand. tt) front)
    c.in_err-end_on.field-0.0 c.in_err-end_on.was (search rules)

pub returns-clause-part : goal.returns-clause-part
returns-clause-part g c =
    let part = c.loop-arc.invariant.part in
    let done : c.loop-arc.arc ≡ length c.args.plan.now.net.now.arcs = search rules in
    (part.0, part.1, subst (λ n. LanesPart (scenario_of c.args.plan.now) c.args.now.0 1 n 0 c.args.store.now c.loop-arc.store c.args.lanes.now c.loop-arc.lanes [] part.0) done part.2)

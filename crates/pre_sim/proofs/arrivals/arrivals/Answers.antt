use Rattle.std.proofs.Common.{rules, ap, ◌∙◌, ◌≡◌, ◌+◌, ◌++◌, Some, sym, subst, length, [], arith, refl}
use Rattle.std.specs.Prelude.{slice_get, slice_index_or, set, None}
use Rattle.std.proofs.lemmas.List.{length-set}
use Rattle.pre_history.specs.Moments.{Phase}
use Rattle.pre_history.specs.Scenario.{Scenario}
use Rattle.pre_bridge.specs.Inside.{inside}
use Rattle.pre_links.specs.Standing.{IsReady}
use Rattle.pre_sim.specs.Parts.{ArrivalPart, ArrivalsAlias, ArrivalsPart, LaneAlias, LaneFront, LanesFront, count_of, scenario_of}
use Rattle.pre_sim.proofs.Told.{tells_nothing, tells_then}
use Rattle.pre_sim.proofs.Lists.{found_at}
use Rattle.pre_sim.proofs.Readiness.{ready_set}
use Rattle.pre_sim.proofs.TellParts.{byte_of, then_early}
use Rattle.pre_sim.proofs.FrameSizes.{routed}
use Rattle.pre_sim.proofs.ArrivalRooms.{reached}
use Rattle.pre_sim.proofs.AllArrivals.{arrivals_begin, arrival_more, arrival_front_more, alias_more, lane_kept}
use Rattle.pre_sim.proofs.arrivals.arrivals.Goals as goal

pub loop-arc-init : goal.loop-arc-init
loop-arc-init g c = record {
  long = search rules;
  ready = search rules;
  part = (
    [],
    tells_nothing c.args.plan.now.net.now (g.W.Watcher.took c.args.watcher.now),
    arrivals_begin (scenario_of c.args.plan.now) c.args.now.0 (1 + length c.args.plan.now.net.now.arcs) c.args.store.now c.args.relay.now c.args.lanes.now,
  );
  few = search rules;
  latest = search rules;
  later = search rules;
  same = search rules;
}

pub arrive_on-requires-clause-keeps : goal.arrive_on-requires-clause-keeps
arrive_on-requires-clause-keeps g c =
    let w : Scenario = scenario_of c.args.plan.now in
    let before = c.loop-arc.invariant.part in
    let lane = slice_index_or c.loop-arc.lanes c.loop-arc.arc c.index-lanes-arc.result in
    let found : slice_get c.loop-arc.lanes c.loop-arc.arc ≡ Some c.index-lanes-arc.result =
    found_at c.loop-arc.lanes c.loop-arc.arc c.index-lanes-arc.result (search rules) (sym c.index-lanes-arc.is) in
    let here : slice_get c.loop-arc.lanes c.loop-arc.arc ≡ Some lane = found ∙ ap Some c.index-lanes-arc.is in
    lane_kept w c.args.now.0 c.loop-arc.arc c.loop-arc.delivered 0 c.args.store.now c.loop-arc.store c.loop-arc.store c.args.relay.now c.loop-arc.relay c.loop-arc.relay
    c.args.lanes.now c.loop-arc.lanes lane lane here (omega (arith, c.loop-arc.invariant.long)) (search rules, refl) before.0 [] before.2
    (inside w.net w.streams c.requires.reached.calls) c.requires.reached.keeps

pub arrive_on-requires-clause-reached : goal.arrive_on-requires-clause-reached
arrive_on-requires-clause-reached g c =
    let w : Scenario = scenario_of c.args.plan.now in
    let before = c.loop-arc.invariant.part in
    let lane = slice_index_or c.loop-arc.lanes c.loop-arc.arc c.index-lanes-arc.result in
    let found : slice_get c.loop-arc.lanes c.loop-arc.arc ≡ Some c.index-lanes-arc.result =
    found_at c.loop-arc.lanes c.loop-arc.arc c.index-lanes-arc.result (search rules) (sym c.index-lanes-arc.is) in
    let here : slice_get c.loop-arc.lanes c.loop-arc.arc ≡ Some lane = found ∙ ap Some c.index-lanes-arc.is in
    let many : length c.loop-arc.lanes ≡ length w.net.arcs = c.loop-arc.invariant.long in
    reached w (routed w c.requires.fit) c.args.now.0 c.loop-arc.arc c.loop-arc.delivered c.args.relay.now c.loop-arc.relay c.args.lanes.now c.loop-arc.lanes c.args.store.now c.loop-arc.store
    before.0 c.requires.reached before.2 many lane here

pub arrive_on-requires-clause-stands : goal.arrive_on-requires-clause-stands
arrive_on-requires-clause-stands g c =
    let came = c.loop-arc.invariant.part.2.2 c.requires.reached.calls c.requires.reached.relays in
    (came.0, came.1)

pub returns-in_err-arrived-clause-ready : goal.returns-in_err-arrived-clause-ready
returns-in_err-arrived-clause-ready g c =
    let lane = slice_index_or c.loop-arc.lanes c.loop-arc.arc c.index-lanes-arc.result in
    let found : slice_get c.loop-arc.lanes c.loop-arc.arc ≡ Some c.index-lanes-arc.result =
    found_at c.loop-arc.lanes c.loop-arc.arc c.index-lanes-arc.result (search rules) (sym c.index-lanes-arc.is) in
    ready_set c.args.now.0 c.loop-arc.lanes c.loop-arc.arc c.arrive_on.new.lane c.loop-arc.invariant.ready
    (subst (λ x. IsReady x c.args.now.0) (sym c.arrive_on.ensures.link) (c.loop-arc.invariant.ready c.loop-arc.arc lane (found ∙ ap Some c.index-lanes-arc.is)))

pub loop-arc-preserved : goal.loop-arc-preserved
loop-arc-preserved g c =
    let w : Scenario = scenario_of c.args.plan.now in
    let t = c.args.now.0 in
    let n = c.loop-arc.arc in
    let before = c.loop-arc.invariant.part in
    let now = c.in_ok-arrived.ensures.part in
    let lane = slice_index_or c.loop-arc.lanes n c.index-lanes-arc.result in
    let found : slice_get c.loop-arc.lanes n ≡ Some c.index-lanes-arc.result = found_at c.loop-arc.lanes n c.index-lanes-arc.result (search rules) (sym c.index-lanes-arc.is) in
    let here : slice_get c.loop-arc.lanes n ≡ Some lane = found ∙ ap Some c.index-lanes-arc.is in
    record {
      long = length-set c.loop-arc.lanes n c.arrive_on.new.lane ∙ c.loop-arc.invariant.long;
      ready = ready_set t c.loop-arc.lanes n c.arrive_on.new.lane c.loop-arc.invariant.ready
          (subst (λ x. IsReady x t) (sym c.in_ok-arrived.ensures.link) (c.loop-arc.invariant.ready n lane here));
      part = (
        before.0 ++ now.0,
        tells_then w.net (g.W.Watcher.took c.args.watcher.now) (g.W.Watcher.took c.loop-arc.watcher) (g.W.Watcher.took c.arrive_on.new.watcher)
            before.0 now.0 before.1 now.1,
        subst (λ d. ArrivalsPart w t (1 + length w.net.arcs) (n + 1) (c.loop-arc.delivered + d) c.args.store.now c.arrive_on.new.store c.args.relay.now c.arrive_on.new.relay
            c.args.lanes.now (set c.loop-arc.lanes n c.arrive_on.new.lane) (before.0 ++ now.0))
            (sym (c.from-delivered.ensures ∙ byte_of c.in_ok-arrived.arrived))
            (arrival_more w t n c.loop-arc.delivered (count_of c.in_ok-arrived.arrived) c.args.store.now c.loop-arc.store c.arrive_on.new.store c.args.relay.now c.loop-arc.relay c.arrive_on.new.relay
            c.args.lanes.now c.loop-arc.lanes lane c.arrive_on.new.lane here (omega (arith, c.loop-arc.invariant.long)) (search rules, refl) before.0 now.0 before.2 now.2),
      );
      few = search rules;
      latest = search rules;
      later = search rules;
      same = search rules;
    }

pub returns-in_err-arrived-clause-part : goal.returns-in_err-arrived-clause-part
returns-in_err-arrived-clause-part g c =
    let w : Scenario = scenario_of c.args.plan.now in
    let t = c.args.now.0 in
    let n = c.loop-arc.arc in
    let before = c.loop-arc.invariant.part in
    let lane = slice_index_or c.loop-arc.lanes n c.index-lanes-arc.result in
    let found : slice_get c.loop-arc.lanes n ≡ Some c.index-lanes-arc.result = found_at c.loop-arc.lanes n c.index-lanes-arc.result (search rules) (sym c.index-lanes-arc.is) in
    let here : slice_get c.loop-arc.lanes n ≡ Some lane = found ∙ ap Some c.index-lanes-arc.is in
    then_early w.net c.arrive_on.result c.from_residual.result
    (g.W.Watcher.took c.args.watcher.now) (g.W.Watcher.took c.loop-arc.watcher) (g.W.Watcher.took c.arrive_on.new.watcher) (g.W.Watcher.torn c.arrive_on.new.watcher) before.0
    (λ x es. ArrivalPart w t n (count_of x) c.loop-arc.store c.arrive_on.new.store c.loop-arc.relay c.arrive_on.new.relay lane c.arrive_on.new.lane es)
    (LaneFront w t (Phase.arrivals n) n None lane) (LaneAlias w t (Phase.arrivals n) n None lane)
    (λ y es. ArrivalsPart w t (1 + length w.net.arcs) (length w.net.arcs) y c.args.store.now c.arrive_on.new.store c.args.relay.now c.arrive_on.new.relay
    c.args.lanes.now (set c.loop-arc.lanes n c.arrive_on.new.lane) es)
    (LanesFront w t (1 + length w.net.arcs) c.args.lanes.now) (ArrivalsAlias w t c.args.lanes.now)
    before.1
    (λ fs front. arrival_front_more w t n c.loop-arc.delivered 0 c.args.store.now c.loop-arc.store c.loop-arc.store c.args.relay.now c.loop-arc.relay c.loop-arc.relay
    c.args.lanes.now c.loop-arc.lanes lane c.arrive_on.new.lane here (omega (arith, c.loop-arc.invariant.long)) (search rules, refl) before.0 fs before.2 front)
    (λ a i fs alias. alias_more w t n c.loop-arc.delivered 0 c.args.store.now c.loop-arc.store c.loop-arc.store c.args.relay.now c.loop-arc.relay c.loop-arc.relay
    c.args.lanes.now c.loop-arc.lanes lane c.arrive_on.new.lane here (omega (arith, c.loop-arc.invariant.long)) (search rules, refl) before.0 fs before.2 a i alias)
    c.arrive_on.ensures.part c.in_err-arrived.field-0.0 c.in_err-arrived.was (search rules)

pub returns-clause-part : goal.returns-clause-part
returns-clause-part g c =
    let w : Scenario = scenario_of c.args.plan.now in
    let part = c.loop-arc.invariant.part in
    let done : c.loop-arc.arc ≡ length c.args.plan.now.net.now.arcs = search rules in (
      part.0,
      part.1,
      subst (λ n. ArrivalsPart w c.args.now.0 (1 + length w.net.arcs) n c.loop-arc.delivered c.args.store.now c.loop-arc.store c.args.relay.now c.loop-arc.relay
          c.args.lanes.now c.loop-arc.lanes part.0) done part.2,
    )

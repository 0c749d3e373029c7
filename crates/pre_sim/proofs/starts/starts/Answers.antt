use Rattle.std.proofs.Common.{rules, ap, ◌∙◌, ◌≡◌, ◌+◌, ◌*◌, ◌++◌, Some, sym, subst, length, [], arith, refl}
use Rattle.std.specs.Prelude.{slice_get, slice_index_or}
use Rattle.std.proofs.lemmas.List.{length-set}
use Rattle.pre_topo.specs.Arcs.{reverse_of}
use Rattle.pre_history.specs.Moments.{Phase}
use Rattle.pre_history.specs.Scenario.{Scenario}
use Rattle.pre_links.specs.declared.partners.Partner.{Partner}
use Rattle.pre_sim.specs.Keeps.{Store}
use Rattle.pre_sim.specs.declared.lanes.Lane.{Lane}
use Rattle.pre_sim.proofs.Told.{tells_nothing, tells_then}
use Rattle.pre_sim.specs.Parts.{LanePart, LaneFront, LanesPart, scenario_of}
use Rattle.pre_sim.proofs.Lists.{found_at}
use Rattle.pre_sim.proofs.Rows.{lane_more, front_more, lanes_begin}
use Rattle.pre_sim.proofs.StartParts.{settled_with}
use Rattle.pre_sim.proofs.TellParts.{then_front}
use Rattle.pre_sim.proofs.starts.starts.Goals as goal

pub loop-arc-init : goal.loop-arc-init
loop-arc-init g c = record {
  long = search rules;
  settled = c.requires.settled;
  part = (
    [],
    tells_nothing c.args.plan.now.net.now (g.W.Watcher.took c.args.watcher.now),
    λ store. lanes_begin (scenario_of c.args.plan.now) c.args.now.0
        (2 + 3 * length c.args.plan.now.net.now.arcs) store c.args.lanes.now,
  );
  later = search rules;
  same = search rules;
}

pub start_on-requires-clause-settled : goal.start_on-requires-clause-settled
start_on-requires-clause-settled g c =
    let n = c.loop-arc.arc in
    let found : slice_get c.loop-arc.lanes n ≡ Some c.index-lanes-arc.result = found_at c.loop-arc.lanes n c.index-lanes-arc.result (search rules) (sym c.index-lanes-arc.is) in
    c.loop-arc.invariant.settled n (slice_index_or c.loop-arc.lanes n c.index-lanes-arc.result) (found ∙ ap Some c.index-lanes-arc.is)

pub start_on-requires-clause-keeps : goal.start_on-requires-clause-keeps
start_on-requires-clause-keeps g c =
    let n = c.loop-arc.arc in
    let found : slice_get c.loop-arc.lanes n ≡ Some c.index-lanes-arc.result = found_at c.loop-arc.lanes n c.index-lanes-arc.result (search rules) (sym c.index-lanes-arc.is) in
    let now = (c.loop-arc.invariant.part.2 c.requires.keeps.0).keeps c.requires.keeps.1 c.requires.keeps.2 in
    (c.requires.keeps.0, now.apart.each_lane n (slice_index_or c.loop-arc.lanes n c.index-lanes-arc.result) (found ∙ ap Some c.index-lanes-arc.is))

pub returns-in_err-start_on-clause-settled : goal.returns-in_err-start_on-clause-settled
returns-in_err-start_on-clause-settled g c = settled_with c.args.now.0 c.loop-arc.lanes c.loop-arc.arc c.start_on.new.lane c.loop-arc.invariant.settled c.start_on.ensures.settled

pub returns-in_err-start_on-clause-part : goal.returns-in_err-start_on-clause-part
returns-in_err-start_on-clause-part g c =
    let w : Scenario = scenario_of c.args.plan.now in
    let t = c.args.now.0 in
    let n = c.loop-arc.arc in
    let before = c.loop-arc.invariant.part in
    let lane = slice_index_or c.loop-arc.lanes n c.index-lanes-arc.result in
    let found : slice_get c.loop-arc.lanes n ≡ Some c.index-lanes-arc.result = found_at c.loop-arc.lanes n c.index-lanes-arc.result (search rules) (sym c.index-lanes-arc.is) in
    let here : slice_get c.loop-arc.lanes n ≡ Some lane = found ∙ ap Some c.index-lanes-arc.is in
    let other : Lane = slice_index_or c.loop-arc.lanes c.partner_of.result c.index-lanes-partner_of.result in
    let there : slice_get c.loop-arc.lanes (reverse_of n) ≡ Some other =
    subst (λ j. slice_get c.loop-arc.lanes j ≡ Some other) c.partner_of.ensures
    (found_at c.loop-arc.lanes c.partner_of.result c.index-lanes-partner_of.result (search rules) (sym c.index-lanes-partner_of.is) ∙ ap Some c.index-lanes-partner_of.is) in
    let partner : Partner = other.partner in
    then_front c.args.plan.now.net.now c.start_on.result c.from_residual.result (g.W.Watcher.took c.args.watcher.now) (g.W.Watcher.took c.loop-arc.watcher)
    (g.W.Watcher.took c.start_on.new.watcher) (g.W.Watcher.torn c.start_on.new.watcher) before.0
    (λ x es. (store : Store) → LanePart w t (Phase.starts n) n (Some partner) lane 0 store store c.start_on.new.lane [] es) (LaneFront w t (Phase.starts n) n (Some partner) lane) _ _ _
    before.1 c.start_on.ensures.part
    (λ fs front. let store = [] in front_more w t (2 + 3 * length w.net.arcs) n 0 0 (Phase.starts n) store store store c.args.lanes.now c.loop-arc.lanes
    (Some partner) lane c.start_on.new.lane here (omega (arith, c.loop-arc.invariant.long)) refl (search rules, refl) refl [] [] before.0 fs (before.2 store)
    (λ h entries stand. (stand (reverse_of n) other there).partner) front)
    c.in_err-start_on.field-0.0 c.in_err-start_on.was (search rules)

pub loop-arc-preserved : goal.loop-arc-preserved
loop-arc-preserved g c =
    let w : Scenario = scenario_of c.args.plan.now in
    let t = c.args.now.0 in
    let n = c.loop-arc.arc in
    let before = c.loop-arc.invariant.part in
    let lane = slice_index_or c.loop-arc.lanes n c.index-lanes-arc.result in
    let found : slice_get c.loop-arc.lanes n ≡ Some c.index-lanes-arc.result = found_at c.loop-arc.lanes n c.index-lanes-arc.result (search rules) (sym c.index-lanes-arc.is) in
    let here : slice_get c.loop-arc.lanes n ≡ Some lane = found ∙ ap Some c.index-lanes-arc.is in
    let other : Lane = slice_index_or c.loop-arc.lanes c.partner_of.result c.index-lanes-partner_of.result in
    let there : slice_get c.loop-arc.lanes (reverse_of n) ≡ Some other =
    subst (λ j. slice_get c.loop-arc.lanes j ≡ Some other) c.partner_of.ensures
    (found_at c.loop-arc.lanes c.partner_of.result c.index-lanes-partner_of.result (search rules) (sym c.index-lanes-partner_of.is) ∙ ap Some c.index-lanes-partner_of.is) in
    let partner : Partner = other.partner in
    let now = c.in_ok-start_on.ensures.part in
    record {
      long = length-set c.loop-arc.lanes n c.start_on.new.lane ∙ c.loop-arc.invariant.long;
      settled = settled_with t c.loop-arc.lanes n c.start_on.new.lane c.loop-arc.invariant.settled c.in_ok-start_on.ensures.settled;
      part = (
        before.0 ++ now.0,
        tells_then c.args.plan.now.net.now (g.W.Watcher.took c.args.watcher.now) (g.W.Watcher.took c.loop-arc.watcher) (g.W.Watcher.took c.start_on.new.watcher) before.0 now.0 before.1 now.1,
        λ store. lane_more w t (2 + 3 * length w.net.arcs) n 0 0 (Phase.starts n) store store store c.args.lanes.now c.loop-arc.lanes (Some partner) lane c.start_on.new.lane here
            (omega (arith, c.loop-arc.invariant.long)) refl (search rules, refl) refl [] [] before.0 now.0 (before.2 store) (λ h entries stand. (stand (reverse_of n) other there).partner)
            (now.2 store),
      );
      later = search rules;
      same = search rules;
    }

pub returns-clause-settled : goal.returns-clause-settled
returns-clause-settled g c = c.loop-arc.invariant.settled

pub returns-clause-part : goal.returns-clause-part
returns-clause-part g c =
    let part = c.loop-arc.invariant.part in
    let done : c.loop-arc.arc ≡ length c.args.plan.now.net.now.arcs = search rules in (
      part.0,
      part.1,
      λ store. subst (λ n. LanesPart (scenario_of c.args.plan.now) c.args.now.0
          (2 + 3 * length c.args.plan.now.net.now.arcs) n 0 store store c.args.lanes.now c.loop-arc.lanes [] part.0) done (part.2 store),
    )

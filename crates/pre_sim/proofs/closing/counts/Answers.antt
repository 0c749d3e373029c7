use Rattle.std.proofs.Common.{rules, ◌≡◌, [], ◌++◌, length, Some, sym, subst}
use Rattle.std.specs.Prelude.{slice_get}
use Rattle.pre_history.specs.Scenario.{Scenario}
use Rattle.pre_sim.specs.Closing.{TellsCounts}
use Rattle.pre_sim.specs.Parts.{CountsPart, scenario_of}
use Rattle.pre_sim.proofs.Told.{tells_nothing, tells_then}
use Rattle.pre_sim.proofs.Lists.{found_at}
use Rattle.pre_sim.proofs.TellParts.{then_front}
use Rattle.pre_sim.proofs.ClosingParts.{no_lines, one_more_line, one_more_front}
use Rattle.pre_sim.proofs.closing.counts.Goals as goal

pub loop-arc-init : goal.loop-arc-init
loop-arc-init g c = record {
  part = ([], tells_nothing c.args.plan.now.net.now (g.W.Watcher.took c.args.watcher.now), no_lines (scenario_of c.args.plan.now) c.args.progress.now);
  later = search rules;
  same = search rules;
}

pub returns-in_err-tell_counts-clause-part : goal.returns-in_err-tell_counts-clause-part
returns-in_err-tell_counts-clause-part g c =
    let w : Scenario = scenario_of c.args.plan.now in
    let p = c.args.progress.now in
    let before = c.loop-arc.invariant.part in
    let here : slice_get p.lanes.items c.loop-arc.arc ≡ Some c.index.result.now = found_at p.lanes.items c.loop-arc.arc c.index.result.now (search rules) (sym c.index.ensures) in
    then_front c.args.plan.now.net.now c.tell_counts.result c.from_residual.result (g.W.Watcher.took c.args.watcher.now) (g.W.Watcher.took c.loop-arc.watcher)
    (g.W.Watcher.took c.tell_counts.new.watcher) (g.W.Watcher.torn c.tell_counts.new.watcher) before.0
    _ (TellsCounts c.loop-arc.arc c.index.result.now) _ _ _
    before.1 c.tell_counts.ensures.part
    (λ fs front. one_more_front w p c.requires.until c.loop-arc.arc c.index.result.now here (search rules) before.0 fs before.2 front)
    c.in_err-tell_counts.field-0.0 c.in_err-tell_counts.was (search rules)

pub loop-arc-preserved : goal.loop-arc-preserved
loop-arc-preserved g c =
    let w : Scenario = scenario_of c.args.plan.now in
    let p = c.args.progress.now in
    let before = c.loop-arc.invariant.part in
    let now = c.in_ok-tell_counts.ensures.part in
    let here : slice_get p.lanes.items c.loop-arc.arc ≡ Some c.index.result.now = found_at p.lanes.items c.loop-arc.arc c.index.result.now (search rules) (sym c.index.ensures) in
    record {
      part = (
        before.0 ++ now.0,
        tells_then c.args.plan.now.net.now (g.W.Watcher.took c.args.watcher.now) (g.W.Watcher.took c.loop-arc.watcher) (g.W.Watcher.took c.tell_counts.new.watcher) before.0 now.0 before.1 now.1,
        one_more_line w p c.requires.until c.loop-arc.arc c.index.result.now here (search rules) before.0 now.0 before.2 now.2,
      );
      later = search rules;
      same = search rules;
    }

pub returns-clause-part : goal.returns-clause-part
returns-clause-part g c =
    let part = c.loop-arc.invariant.part in
    let done : c.loop-arc.arc ≡ length c.args.plan.now.net.now.arcs = search rules in
    (part.0, part.1, subst (λ n. CountsPart (scenario_of c.args.plan.now) c.args.progress.now n part.0) done part.2)

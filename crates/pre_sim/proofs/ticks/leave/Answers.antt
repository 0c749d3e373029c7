use Rattle.std.proofs.Common.{rules, refl, sym, subst, ◌+◌, ◌*◌, length, []}
use Rattle.std.proofs.lemmas.List.{take_at}
use Rattle.pre_sim.specs.Keeps.{AreSettled}
use Rattle.pre_sim.specs.Parts.{LanesFront, EntriesFront, scenario_of}
use Rattle.pre_sim.proofs.TellParts.{then_front, then_part, on_ok, on_ok_of}
use Rattle.pre_sim.proofs.Told.{tells_nothing}
use Rattle.pre_sim.proofs.Readiness.{still_settled}
use Rattle.pre_sim.proofs.TickParts.{left, left_front, left_kept, entries_front}
use Rattle.pre_sim.proofs.ticks.leave.Goals as goal

pub returns-in_err-entries-clause-part : goal.returns-in_err-entries-clause-part
returns-in_err-entries-clause-part g c =
    let w = scenario_of c.args.plan.now in
    then_front c.args.plan.now.net.now c.entries.result c.from_residual.result (g.W.Watcher.took c.args.watcher.now) (g.W.Watcher.took c.args.watcher.now)
    (g.W.Watcher.took c.entries.new.watcher) (g.W.Watcher.torn c.entries.new.watcher) []
    _ (EntriesFront w c.args.now.0 c.args.progress.now) _ _ _
    (tells_nothing c.args.plan.now.net.now (g.W.Watcher.took c.args.watcher.now)) c.entries.ensures.part
    (λ es front. entries_front w c.args.now.0 c.args.progress.now es front)
    c.in_err-entries.field-0.0 c.in_err-entries.was (search rules)

pub starts-requires-clause-settled : goal.starts-requires-clause-settled
starts-requires-clause-settled g c =
    subst (AreSettled c.args.now.0) (sym c.deref_mut.ensures.value)
    (still_settled c.args.now.0 c.args.progress.now.lanes.items c.entries.new.progress.lanes.items c.in_ok-entries.ensures.links c.requires.settled)

pub returns-clause-part : goal.returns-clause-part
returns-clause-part g c =
    let w = scenario_of c.args.plan.now in
    let t = c.args.now.0 in
    let first = c.in_ok-entries.ensures.part in
    then_part c.args.plan.now.net.now c.starts.result (g.W.Watcher.took c.args.watcher.now) (g.W.Watcher.took c.entries.new.watcher) (g.W.Watcher.took c.starts.new.watcher)
    (g.W.Watcher.torn c.starts.new.watcher) first.0
    _ _ (LanesFront w t (2 + 3 * length w.net.arcs) c.deref_mut.result.now) _ _
    first.1 c.starts.ensures.part
    (λ x es part. left w t c.args.progress.now c.entries.new.progress c.deref_mut.result.now c.starts.new.lanes first.0 es first.2 c.deref_mut.ensures.value _ c.entries.new.progress.store
    (search rules) (part c.entries.new.progress.store)
    (take_at c.starts.new.lanes _ c.entries.new.progress.lanes.len (search rules)) refl refl refl refl refl)
    (λ es front. left_front w t c.args.progress.now c.entries.new.progress c.deref_mut.result.now c.starts.new.lanes first.0 es first.2 c.deref_mut.ensures.value front)

pub returns-clause-kept : goal.returns-clause-kept
returns-clause-kept g c =
    let w = scenario_of c.args.plan.now in
    let t = c.args.now.0 in
    on_ok c.args.plan.now.net.now c.starts.result (g.W.Watcher.took c.entries.new.watcher) (g.W.Watcher.took c.starts.new.watcher) (g.W.Watcher.torn c.starts.new.watcher)
    _ (LanesFront w t (2 + 3 * length w.net.arcs) c.deref_mut.result.now) _ _ c.starts.ensures.part
    (λ x es part. left_kept w t c.entries.new.progress _ c.deref_mut.result.now c.starts.new.lanes es c.deref_mut.ensures.value (part c.entries.new.progress.store)
    (take_at c.starts.new.lanes _ c.entries.new.progress.lanes.len (search rules)) refl refl c.in_ok-entries.ensures.kept)

pub returns-clause-settled : goal.returns-clause-settled
returns-clause-settled g c =
    on_ok_of c.starts.result (subst (AreSettled c.args.now.0) (sym (take_at c.starts.new.lanes _ c.entries.new.progress.lanes.len (search rules))) c.starts.ensures.settled)

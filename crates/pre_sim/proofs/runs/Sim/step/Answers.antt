use Rattle.std.proofs.Common.{rules, refl, sym, subst, arith, length, ◌≡◌, ◌+◌, ◌≤◌, ◌++◌}
use Rattle.pre_sim.specs.Parts.{TickPart, AdvancePart, scenario_of}
use Rattle.pre_sim.specs.Views.{SimView}
use Rattle.pre_sim.proofs.StepParts.{tells_more, tells_ended, stops, finds_alias, same_alias, not_last, kept_later, within_later, ready_later}
use Rattle.pre_sim.proofs.Owning.{holds_its_own}
use Rattle.pre_sim.proofs.RestingTicks.{rests_to}
use Rattle.pre_sim.proofs.runs.Sim.step.Goals as goal

pub returns-in-Ok-true-clause-told : goal.returns-in-Ok-true-clause-told
returns-in-Ok-true-clause-told g c =
    let old : SimView = record { run = scenario_of c.self.inside.plan; progress = c.self.inside.progress; next = c.self.inside.next.0; going = c.self.inside.going } in
    tells_ended c.args.self.now old old (sym c.self.view_is) (g.W.Watcher.took c.args.watcher.now) (g.W.Watcher.took c.advance.new.watcher)
    (g.W.Watcher.torn c.advance.new.watcher) c.advance.new.progress c.in-Ok-true.field-0 c.in-Ok-true.field-0-test c.in-Ok-true.ensures.part

pub returns-in-Ok-false-clause-told : goal.returns-in-Ok-false-clause-told
returns-in-Ok-false-clause-told g c =
    let before = c.self.invariant in
    let old : SimView = record { run = scenario_of c.self.inside.plan; progress = c.self.inside.progress; next = c.self.inside.next.0; going = c.self.inside.going } in
    let new : SimView = record { run = scenario_of c.self.inside.plan; progress = c.advance.new.progress; next = c.next_due-self-inside.result.0; going = c.self.inside.going } in
    tells_more c.args.self.now old new (sym c.self.view_is) (g.W.Watcher.took c.args.watcher.now) (g.W.Watcher.took c.advance.new.watcher) (g.W.Watcher.torn c.advance.new.watcher)
    before.0 (search rules) refl c.next_due-self-inside.ensures.later c.next_due-self-inside.ensures.rests c.in-Ok-false.field-0 c.in-Ok-false.field-0-test c.in-Ok-false.ensures.part

pub next_due-self-inside-requires-clause-until : goal.next_due-self-inside-requires-clause-until
next_due-self-inside-requires-clause-until g c =
    not_last c.in-Ok-false.field-0 c.self.inside.next c.self.inside.plan.script.now.until c.in-Ok-false.field-0-test c.in-Ok-false.ensures.last c.self.invariant.2

pub returns-in-Err-Stopped-clause-told : goal.returns-in-Err-Stopped-clause-told
returns-in-Err-Stopped-clause-told g c =
    let old : SimView = record { run = scenario_of c.self.inside.plan; progress = c.self.inside.progress; next = c.self.inside.next.0; going = c.self.inside.going } in
    stops c.args.self.now old old (sym c.self.view_is) (g.W.Watcher.took c.args.watcher.now) (g.W.Watcher.took c.advance.new.watcher)
    (g.W.Watcher.torn c.advance.new.watcher) c.in-Err-Stopped.field-0 _ c.in-Err-Stopped.ensures.part c.in-Err-Stopped.field-0-is

pub returns-in-Err-Alias-clause-told : goal.returns-in-Err-Alias-clause-told
returns-in-Err-Alias-clause-told g c =
    let s = c.args.self.now in
    let old : SimView = record { run = scenario_of c.self.inside.plan; progress = c.self.inside.progress; next = c.self.inside.next.0; going = c.self.inside.going } in
    let told = finds_alias s old old (sym c.self.view_is) (g.W.Watcher.took c.args.watcher.now) (g.W.Watcher.took c.advance.new.watcher)
    (g.W.Watcher.torn c.advance.new.watcher) c.in-Err-Alias.field-0 _ c.in-Err-Alias.ensures.part c.in-Err-Alias.arc c.in-Err-Alias.ordinal c.in-Err-Alias.field-0-is in
    same_alias s old (g.W.Watcher.took c.args.watcher.now) (g.W.Watcher.took c.advance.new.watcher)
    (g.W.Watcher.torn c.advance.new.watcher) _ c.in-Err-Alias.arc _ c.in-Err-Alias.ordinal c.in-Err-Alias.arc-is c.in-Err-Alias.ordinal-is told

pub advance-requires-clause-ready : goal.advance-requires-clause-ready
advance-requires-clause-ready g c = (c.self.invariant.3 (search rules)).2

pub invariant_of-self-in-Ok-false : goal.invariant_of-self-in-Ok-false
invariant_of-self-in-Ok-false g c =
    let before = c.self.invariant in
    let reached = (before.3 (search rules)).3 in
    let w = scenario_of c.self.inside.plan in
    let p = c.advance.new.progress in
    let next = c.self.inside.next.0 + 1 in
    let now = c.next_due-self-inside.result.0 in
    let later : next ≤ now = c.next_due-self-inside.ensures.later in
    let done = c.in-Ok-false.ensures in
    let tick : TickPart w c.self.inside.next.0 c.self.inside.progress p done.part.0 =
    subst (λ x. AdvancePart w c.self.inside.next.0 c.self.inside.progress p x done.part.0) c.in-Ok-false.field-0-test done.part.2 in
    let h = reached.0 ++ done.part.0 in (
      before.0,
      done.lanes,
      c.next_due-self-inside.ensures.until,
      λ going. (
        within_later next now p later done.counts,
        kept_later w c.self.inside.next.0 now p (omega (arith, later)) done.kept,
        ready_later next now p.lanes.items later done.ready,
        (h, rests_to w before.0 h p (search rules) next now later c.next_due-self-inside.ensures.rests (tick reached.0 reached.1)),
      ),
    )

pub returns-in-Ok-false-clause-own : goal.returns-in-Ok-false-clause-own
returns-in-Ok-false-clause-own g c = λ going.
    let w = scenario_of c.self.inside.plan in
    let now = c.next_due-self-inside.result.0 in
    let after = invariant_of-self-in-Ok-false g c in
    let at = after.3 (search rules) in
    let long : length c.advance.new.progress.lanes.items ≡ length w.net.arcs = search rules in
    holds_its_own w now now 0 at.3.0 c.advance.new.progress long at.1 at.3.1

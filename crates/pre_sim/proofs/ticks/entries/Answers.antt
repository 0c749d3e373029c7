use Rattle.std.proofs.Common.{rules, ap, sym, ◌∙◌, ◌≡◌, ◌≤◌, List, [], length, subst, refl}
use Rattle.pre_sim.specs.declared.lanes.Lane.{Lane}
use Rattle.pre_base.specs.declared.numbers.Tick.{Tick}
use Rattle.pre_bridge.specs.Inside.{inside}
use Rattle.pre_sim.specs.Keeps.{Keeps}
use Rattle.pre_sim.specs.Parts.{scenario_of}
use Rattle.pre_sim.specs.Sends.{RelaysPart, RelaysFront}
use Rattle.pre_sim.proofs.Told.{tells_nothing}
use Rattle.pre_sim.proofs.TellParts.{then_front}
use Rattle.pre_sim.proofs.EntriesLeft.{LeftLaws}
use Rattle.pre_sim.proofs.EntriesParts.{relays_front, entries_told}
use Rattle.pre_sim.proofs.ticks.entries.Goals as goal
use Rattle.pre_sim.proofs.Lists.{written}

pub returns-in_err-lost-clause-part : goal.returns-in_err-lost-clause-part
returns-in_err-lost-clause-part g c =
    let w = scenario_of c.args.plan.now in
    then_front c.args.plan.now.net.now c.relays.result c.from_residual.result (g.W.Watcher.took c.args.watcher.now) (g.W.Watcher.took c.args.watcher.now) (g.W.Watcher.took c.relays.new.watcher)
    (g.W.Watcher.torn c.relays.new.watcher) []
    _ (RelaysFront w c.args.now.0 c.args.progress.now.relay c.deref_mut.result.now) _ _ _
    (tells_nothing c.args.plan.now.net.now (g.W.Watcher.took c.args.watcher.now)) c.relays.ensures.part
    (λ es front. relays_front w c.requires.fit c.args.now.0 c.args.progress.now (search rules) es
    (subst (λ (ls : List Lane). RelaysFront w c.args.now.0 c.args.progress.now.relay ls es) c.deref_mut.ensures.value front))
    c.in_err-lost.field-0.0 c.in_err-lost.was (search rules)

pub returns-clause-part : goal.returns-clause-part
returns-clause-part g c =
    let w = scenario_of c.args.plan.now in
    let t = c.args.now.0 in
    let left_laws : LeftLaws = record { each = c.takes_law.ensures.each; left = c.takes_law.ensures.left } in
    let first = c.in_ok-lost.ensures.part in
    let many : length c.args.progress.now.lanes.items ≡ length w.net.arcs = search rules in
    let back = written c.args.progress.now.lanes.len c.args.progress.now.lanes.items c.relays.new.lanes (c.relays.auto.lanes ∙ ap length c.deref_mut.ensures.value) (search rules) in
    let part : RelaysPart w t c.args.progress.now.relay c.args.progress.now.lanes.items c.relays.new.relay c.relays.new.lanes c.in_ok-lost.lost first.0 =
    subst (λ (ls : List Lane). RelaysPart w t c.args.progress.now.relay ls c.relays.new.relay c.relays.new.lanes c.in_ok-lost.lost first.0) c.deref_mut.ensures.value first.2 in
    let told = subst (λ (ls : List Lane). RelaysPart w t c.args.progress.now.relay c.args.progress.now.lanes.items c.relays.new.relay ls c.in_ok-lost.lost first.0) (sym back) part in
    entries_told left_laws w c.requires.fit t c.args.progress.now _ c.sends.new.progress c.args.plan.now.net.now c.sends.result (g.W.Watcher.took c.args.watcher.now)
    (g.W.Watcher.took c.relays.new.watcher) (g.W.Watcher.took c.sends.new.watcher) (g.W.Watcher.torn c.sends.new.watcher)
    c.sends.ensures.part many c.in_ok-lost.lost first.0 first.1 told refl refl refl refl

pub relays-requires-clause-kept : goal.relays-requires-clause-kept
relays-requires-clause-kept g c =
    let w = scenario_of c.args.plan.now in
    let kept = c.requires.kept in
    (kept.calls, kept.stands, subst (λ (ls : List Lane). Keeps w c.args.progress.now.store ls (inside w.net w.streams kept.calls) []) (sym c.deref_mut.ensures.value) kept.keeps)

pub sends-requires-clause-kept : goal.sends-requires-clause-kept
sends-requires-clause-kept g c =
    let w = scenario_of c.args.plan.now in
    let kept = c.in_ok-lost.ensures.kept in
    let back = written c.args.progress.now.lanes.len c.args.progress.now.lanes.items c.relays.new.lanes (c.relays.auto.lanes ∙ ap length c.deref_mut.ensures.value) (search rules) in
    record {
      calls = kept.0;
      stands = kept.1;
      latest = subst (λ (tick : Tick). tick.0 ≤ c.args.now.0) (sym c.in_ok-lost.ensures.latest) c.requires.kept.latest;
      keeps = subst (λ (ls : List Lane). Keeps w c.relays.new.store ls (inside w.net w.streams kept.0) []) (sym back) kept.2;
    }

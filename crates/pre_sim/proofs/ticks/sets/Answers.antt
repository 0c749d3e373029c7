use Rattle.std.proofs.Common.{rules, arith, refl, sym, subst, ◌≡◌, ◌≢◌, ◌+◌, [], ◌∷◌, ◌++◌, take, Some}
use Rattle.std.specs.Prelude.{slice_get, slice_index_or}
use Rattle.pre_script.specs.declared.scripts.SetLine.{SetLine}
use Rattle.pre_history.specs.Scenario.{Scenario}
use Rattle.pre_history.specs.History.{PlainEvent}
use Rattle.pre_sim.specs.Telling.{TellsAll}
use Rattle.pre_sim.specs.Parts.{TellsOne, NoArrival, SetsFront, scenario_of}
use Rattle.pre_sim.proofs.Told.{tells_nothing, tells_then}
use Rattle.pre_sim.proofs.Lists.{found_at}
use Rattle.pre_sim.proofs.LinksKept.{links_set, links_then}
use Rattle.pre_sim.proofs.NumberTests.{same_number, other_number}
use Rattle.pre_sim.proofs.TellParts.{part_of_one, then_front}
use Rattle.pre_sim.proofs.SetsParts.{no_set, line_at, line_known, over_at, over_end, none_told, more_told, set_nothing, set_next, keeps_set, sets_front, sets_part, event_of}
use Rattle.pre_sim.proofs.ticks.sets.Goals as goal

pub loop-progress-init : goal.loop-progress-init
loop-progress-init g c =
    let w : Scenario = scenario_of c.args.plan.now in
    let p = c.args.progress.now in
    record {
      part = ([], [], tells_nothing c.args.plan.now.net.now (g.W.Watcher.took c.args.watcher.now), none_told w c.args.now.0 p.set);
      by = set_nothing (take p.set w.script.sets) p.lanes.items;
      keeps = λ entries keeps. keeps;
      lanes = search rules;
      links = refl;
      relay = refl;
      store = refl;
      sent = refl;
      delivered = refl;
      dropped = refl;
      later = search rules;
      same = search rules;
    }

pub index_mut-requires : goal.index_mut-requires
index_mut-requires g c =
    let known = line_known c.args.plan.now.net.now c.as_slice-lines.result.now c.args.plan.now.script.now.sets c.as_slice-lines.ensures c.requires.fit.script_fits.sets
    c.loop-progress.progress.set c.loop-progress-test.true in
    omega (arith, known, c.from.ensures, c.loop-progress.invariant.lanes)

pub tell-requires-clause-known : goal.tell-requires-clause-known
tell-requires-clause-known g c = line_known c.args.plan.now.net.now c.as_slice-lines.result.now c.args.plan.now.script.now.sets c.as_slice-lines.ensures c.requires.fit.script_fits.sets
    c.loop-progress.progress.set c.loop-progress-test.true

pub returns-in_err-tell-clause-links : goal.returns-in_err-tell-clause-links
returns-in_err-tell-clause-links g c =
    let mid = c.loop-progress.progress.lanes.items in
    let lane = c.index_mut.result.now in
    let here : slice_get mid c.from.result ≡ Some lane = found_at mid c.from.result lane (search rules) (sym c.index_mut.ensures.value) in
    links_then c.args.progress.now.lanes.items mid _ c.loop-progress.invariant.links (links_set mid c.from.result lane _ here refl)

pub loop-progress-preserved : goal.loop-progress-preserved
loop-progress-preserved g c =
    let w : Scenario = scenario_of c.args.plan.now in
    let net = c.args.plan.now.net.now in
    let k = c.loop-progress.progress.set in
    let lines = c.as_slice-lines.result.now in
    let x : SetLine = slice_index_or lines k no_set in
    let at : slice_get w.script.sets k ≡ Some x = line_at lines w.script.sets c.as_slice-lines.ensures k c.loop-progress-test.true in
    let now : x.tick.0 ≡ c.args.now.0 = same_number x.tick.0 c.args.now.0 (sym c.if-eq.ensures) in
    let mid = c.loop-progress.progress.lanes.items in
    let lane = c.index_mut.result.now in
    let here : slice_get mid c.from.result ≡ Some lane = found_at mid c.from.result lane (search rules) (sym c.index_mut.ensures.value) in
    let arc : c.from.result ≡ x.arc.0 = search rules in
    let so_far = c.loop-progress.invariant in
    let before = so_far.part in
    let told = subst (λ m. TellsAll net (g.W.Watcher.took c.loop-progress.watcher) (g.W.Watcher.took c.tell.new.watcher) (PlainEvent.set m x.arc.0 x.value ∷ [])) (sym now) c.in_ok-tell.ensures.one in
    record {
      part = (
        before.0 ++ event_of x ∷ [],
        before.1 ++ x ∷ [],
        tells_then net (g.W.Watcher.took c.args.watcher.now) (g.W.Watcher.took c.loop-progress.watcher) (g.W.Watcher.took c.tell.new.watcher) before.0 (event_of x ∷ []) before.2 told,
        more_told w c.args.now.0 c.args.progress.now.set k before.1 before.0 x at now before.3,
      );
      by = set_next w.script.sets c.args.progress.now.set k x at c.args.progress.now.lanes.items mid c.from.result lane arc here so_far.by;
      keeps = λ entries keeps. keeps_set w c.args.progress.now.store mid c.from.result lane x.value entries here (so_far.keeps entries keeps);
      lanes = search rules;
      links = links_then c.args.progress.now.lanes.items mid _ so_far.links (links_set mid c.from.result lane _ here refl);
      relay = so_far.relay;
      store = so_far.store;
      sent = so_far.sent;
      delivered = so_far.delivered;
      dropped = so_far.dropped;
      later = search rules;
      same = search rules;
    }

pub returns-in_err-tell-clause-part : goal.returns-in_err-tell-clause-part
returns-in_err-tell-clause-part g c =
    let w : Scenario = scenario_of c.args.plan.now in
    let t = c.args.now.0 in
    let net = c.args.plan.now.net.now in
    let k = c.loop-progress.progress.set in
    let lines = c.as_slice-lines.result.now in
    let x : SetLine = slice_index_or lines k no_set in
    let at : slice_get w.script.sets k ≡ Some x = line_at lines w.script.sets c.as_slice-lines.ensures k c.loop-progress-test.true in
    let now : x.tick.0 ≡ t = same_number x.tick.0 t (sym c.if-eq.ensures) in
    let before = c.loop-progress.invariant.part in
    let told = subst (λ m. TellsOne net c.tell.result (g.W.Watcher.took c.loop-progress.watcher) (g.W.Watcher.took c.tell.new.watcher) (g.W.Watcher.torn c.tell.new.watcher)
    (PlainEvent.set m x.arc.0 x.value)) (sym now) c.tell.ensures.one in
    let more = more_told w t c.args.progress.now.set k before.1 before.0 x at now before.3 in
    let front : SetsFront w t c.args.progress.now (before.0 ++ event_of x ∷ []) =
    λ h entries legal stand set_before. sets_front w c.requires.fit t c.args.progress.now.set (k + 1) (before.1 ++ x ∷ []) (before.0 ++ event_of x ∷ []) more set_before h legal in
    then_front net c.tell.result c.from_residual.result (g.W.Watcher.took c.args.watcher.now) (g.W.Watcher.took c.loop-progress.watcher) (g.W.Watcher.took c.tell.new.watcher)
    (g.W.Watcher.torn c.tell.new.watcher) before.0
    (λ y es. Unit {0}) (λ es. es ≡ event_of x ∷ []) _ _ _
    before.2
    (part_of_one net c.tell.result (g.W.Watcher.took c.loop-progress.watcher) (g.W.Watcher.took c.tell.new.watcher) (g.W.Watcher.torn c.tell.new.watcher) (event_of x) (λ y es. Unit {0})
    (λ es. es ≡ event_of x ∷ []) NoArrival told (λ y. tt) refl)
    (λ es is. subst (λ gs. SetsFront w t c.args.progress.now (before.0 ++ gs)) (sym is) front)
    c.in_err-tell.field-0.0 c.in_err-tell.was (search rules)

pub returns-else-eq-clause-part : goal.returns-else-eq-clause-part
returns-else-eq-clause-part g c =
    let w : Scenario = scenario_of c.args.plan.now in
    let t = c.args.now.0 in
    let k = c.loop-progress.progress.set in
    let lines = c.as_slice-lines.result.now in
    let so_far = c.loop-progress.invariant in
    let other : (slice_index_or lines k no_set).tick.0 ≢ t = other_number (slice_index_or lines k no_set).tick.0 t (sym c.if-eq.ensures) in
    let part = so_far.part in (
      part.0,
      part.2,
      sets_part w c.requires.fit t c.args.progress.now c.loop-progress.progress part.0 part.1 part.3 (search rules) so_far.by so_far.keeps
          (so_far.relay, so_far.store, so_far.sent, so_far.delivered, so_far.dropped) (over_at lines w.script.sets t k c.as_slice-lines.ensures other),
    )

pub returns-after-loop-progress-clause-part : goal.returns-after-loop-progress-clause-part
returns-after-loop-progress-clause-part g c =
    let w : Scenario = scenario_of c.args.plan.now in
    let t = c.args.now.0 in
    let k = c.loop-progress.progress.set in
    let lines = c.as_slice-lines.result.now in
    let so_far = c.loop-progress.invariant in
    let part = so_far.part in (
      part.0,
      part.2,
      sets_part w c.requires.fit t c.args.progress.now c.loop-progress.progress part.0 part.1 part.3 (search rules) so_far.by so_far.keeps
          (so_far.relay, so_far.store, so_far.sent, so_far.delivered, so_far.dropped) (over_end lines w.script.sets t k c.as_slice-lines.ensures c.loop-progress-test.false),
    )

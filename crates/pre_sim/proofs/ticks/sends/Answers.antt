use Rattle.std.proofs.Common.{rules, arith, ap, sym, ◌∙◌, ◌≡◌, ◌+◌, ◌<◌, ◌≤◌, ◌++◌, ◌∷◌, List, [], length, subst, refl}
use Rattle.pre_script.specs.declared.scripts.SendLine.{SendLine}
use Rattle.pre_history.specs.Scenario.{send}
use Rattle.pre_sim.specs.declared.lanes.Lane.{Lane}
use Rattle.pre_sim.specs.Keeps.{SameLinks}
use Rattle.pre_sim.specs.Parts.{scenario_of}
use Rattle.pre_sim.specs.Sends.{ComesPart, ComesFront, KeepsSame, sent_frame, sent_frames, drops_of}
use Rattle.pre_sim.proofs.Told.{tells_nothing, tells_then}
use Rattle.pre_sim.proofs.LinksKept.{links_then}
use Rattle.pre_sim.proofs.SlotsThere.{kept_slot}
use Rattle.pre_sim.proofs.TellParts.{then_front}
use Rattle.pre_sim.proofs.EntriesRun.{none_come}
use Rattle.pre_sim.proofs.EntriesCount.{kept_on, one_more_send, one_more_front, one_more_now, sends_front, more_drops, sums_up, is_now, is_not_now}
use Rattle.pre_sim.proofs.ticks.sends.Goals as goal
use Rattle.pre_sim.proofs.Lists.{written}

pub loop-progress-init : goal.loop-progress-init
loop-progress-init g c = record {
  part = (
    [],
    0,
    0,
    tells_nothing c.args.plan.now.net.now (g.W.Watcher.took c.args.watcher.now),
    none_come
        (scenario_of c.args.plan.now) c.args.now.0 c.args.progress.now.lanes.items,
    search rules,
    search rules,
  );
  this_tick = λ k le lt. absurd (omega (arith, le, lt));
  known = λ le. le;
  lanes = search rules;
  counts = search rules;
  set = refl;
  links = refl;
  delivered = search rules;
  relay = refl;
  kept = c.requires.kept;
  later = search rules;
  same = search rules;
}

pub loop-progress-preserved : goal.loop-progress-preserved
loop-progress-preserved g c =
    let w = scenario_of c.args.plan.now in
    let t = c.args.now.0 in
    let k = c.loop-progress.progress.sent in
    let before = c.loop-progress.invariant.part in
    let now = c.in_ok-entered.ensures.part in
    let here : k < length w.script.sends = subst (λ (ls : List SendLine). k < length ls) c.as_slice-lines.ensures c.loop-progress-test.true in
    let few : length w.script.sends ≤ 100000 = c.requires.fit.script_fits.sends_count in
    let tick : (send w k).send.tick.0 ≡ t = is_now w t k c.as_slice-lines.result.now c.as_slice-lines.ensures c.if-eq.ensures in
    let part : ComesPart w t (sent_frame w k ∷ []) c.loop-progress.progress.lanes.items c.send.new.lanes (drops_of c.in_ok-entered.entered) now.0 =
    subst (λ (ls : List Lane). ComesPart w t (sent_frame w k ∷ []) ls c.send.new.lanes (drops_of c.in_ok-entered.entered) now.0) c.deref_mut.ensures.value now.2 in
    let lanes = written c.loop-progress.progress.lanes.len c.loop-progress.progress.lanes.items c.send.new.lanes (c.send.auto.lanes ∙ ap length c.deref_mut.ensures.value) (search rules) in
    let drops : c.from.result ≡ drops_of c.in_ok-entered.entered = more_drops c.in_ok-entered.entered c.from.result (λ e. search (rules, e)) (λ e. search (rules, e)) in
    let one : c.from.result ≤ 1 = search rules in
    let all = one_more_send w t c.args.progress.now.sent c.args.progress.now.lanes.items before.1 c.loop-progress.progress.lanes.items before.2 before.0 k before.5 before.4 c.send.new.lanes
    (drops_of c.in_ok-entered.entered) now.0 part in
    record {
      part = (
        before.0 ++ now.0,
        before.1 + 1,
        before.2 + drops_of c.in_ok-entered.entered,
        tells_then c.args.plan.now.net.now (g.W.Watcher.took c.args.watcher.now) (g.W.Watcher.took c.loop-progress.watcher) (g.W.Watcher.took c.send.new.watcher) before.0 now.0 before.3 now.1,
        subst (λ (ls : List Lane). ComesPart w t (sent_frames w c.args.progress.now.sent (before.1 + 1)) c.args.progress.now.lanes.items ls (before.2 + drops_of c.in_ok-entered.entered)
            (before.0 ++ now.0)) (sym lanes) all,
        omega (arith, before.5),
        sums_up c.loop-progress.progress.dropped c.args.progress.now.dropped before.2 c.from.result (drops_of c.in_ok-entered.entered) before.6 drops,
      );
      this_tick = one_more_now w t c.args.progress.now.sent k c.loop-progress.invariant.this_tick tick;
      known = λ le. omega (arith, here);
      lanes = search rules;
      counts = record { sent = omega (arith, here, few); dropped = let was = c.loop-progress.invariant.counts.dropped in omega (arith, was, one) };
      set = search rules;
      links = links_then c.args.progress.now.lanes.items c.loop-progress.progress.lanes.items _ c.loop-progress.invariant.links
          (subst (λ (ls : List Lane). SameLinks c.loop-progress.progress.lanes.items ls) (sym lanes)
          (subst (λ (ls : List Lane). SameLinks ls c.send.new.lanes) c.deref_mut.ensures.value c.in_ok-entered.ensures.links));
      delivered = search rules;
      relay = search rules;
      kept = kept_on w t c.loop-progress.progress _ c.send.new.lanes c.loop-progress.invariant.kept refl lanes
          (subst (λ (ls : List Lane). KeepsSame w c.loop-progress.progress.store c.send.new.store ls c.send.new.lanes) c.deref_mut.ensures.value c.in_ok-entered.ensures.keeps);
      later = search rules;
      same = search rules;
    }

pub returns-in_err-entered-clause-part : goal.returns-in_err-entered-clause-part
returns-in_err-entered-clause-part g c =
    let w = scenario_of c.args.plan.now in
    let t = c.args.now.0 in
    let k = c.loop-progress.progress.sent in
    let before = c.loop-progress.invariant.part in
    let here : k < length w.script.sends = subst (λ (ls : List SendLine). k < length ls) c.as_slice-lines.ensures c.loop-progress-test.true in
    let tick : (send w k).send.tick.0 ≡ t = is_now w t k c.as_slice-lines.result.now c.as_slice-lines.ensures c.if-eq.ensures in
    let reach : c.args.progress.now.sent + (before.1 + 1) ≡ k + 1 = omega (arith, before.5) in
    then_front c.args.plan.now.net.now c.send.result c.from_residual.result (g.W.Watcher.took c.args.watcher.now) (g.W.Watcher.took c.loop-progress.watcher) (g.W.Watcher.took c.send.new.watcher)
    (g.W.Watcher.torn c.send.new.watcher) before.0
    (λ entered es. ComesPart w t (sent_frame w k ∷ []) c.deref_mut.result.now c.send.new.lanes (drops_of entered) es) (ComesFront w t (sent_frame w k ∷ []) c.deref_mut.result.now) _ _ _
    before.3 c.send.ensures.part
    (λ fs front. sends_front w t c.args.progress.now (before.1 + 1) (before.0 ++ fs) (omega (arith, reach, here))
    (λ j le lt. one_more_now w t c.args.progress.now.sent k c.loop-progress.invariant.this_tick tick j le (omega (arith, reach, lt)))
    (one_more_front w t c.args.progress.now.sent c.args.progress.now.lanes.items before.1 c.loop-progress.progress.lanes.items before.2 before.0 k before.5 before.4 fs
    (subst (λ (ls : List Lane). ComesFront w t (sent_frame w k ∷ []) ls fs) c.deref_mut.ensures.value front)))
    c.in_err-entered.field-0.0 c.in_err-entered.was (search rules)

pub returns-else-eq-clause-part : goal.returns-else-eq-clause-part
returns-else-eq-clause-part g c =
    let w = scenario_of c.args.plan.now in
    let t = c.args.now.0 in
    let before = c.loop-progress.invariant.part in (
      before.0,
      before.3,
      record {
        count = before.1;
        sent = before.5;
        within = c.loop-progress.invariant.known;
        now = c.loop-progress.invariant.this_tick;
        over = λ lt. is_not_now w t c.loop-progress.progress.sent c.as_slice-lines.result.now c.as_slice-lines.ensures c.if-eq.ensures;
        delivered = c.loop-progress.invariant.delivered;
        set = c.loop-progress.invariant.set;
        relay = c.loop-progress.invariant.relay;
        lost = before.2;
        dropped = before.6;
        part = before.4;
      },
    )

pub returns-after-loop-progress-clause-part : goal.returns-after-loop-progress-clause-part
returns-after-loop-progress-clause-part g c =
    let before = c.loop-progress.invariant.part in (
      before.0,
      before.3,
      record {
        count = before.1;
        sent = before.5;
        within = c.loop-progress.invariant.known;
        now = c.loop-progress.invariant.this_tick;
        over = λ lt. absurd (omega (arith, lt, c.loop-progress-test.false, ap length c.as_slice-lines.ensures));
        delivered = c.loop-progress.invariant.delivered;
        set = c.loop-progress.invariant.set;
        relay = c.loop-progress.invariant.relay;
        lost = before.2;
        dropped = before.6;
        part = before.4;
      },
    )

pub send-requires-clause-slot : goal.send-requires-clause-slot
send-requires-clause-slot g c =
    let w = scenario_of c.args.plan.now in
    let here : c.loop-progress.progress.sent < length w.script.sends = subst (λ (ls : List SendLine). c.loop-progress.progress.sent < length ls) c.as_slice-lines.ensures c.loop-progress-test.true in
    kept_slot w c.requires.fit c.args.now.0 c.loop-progress.progress.sent c.loop-progress.progress c.loop-progress.invariant.kept (search rules) here

use Rattle.std.proofs.Common.{rules, arith, refl, sym, ◌∙◌, ◌≡◌, ◌+◌, ◌∷◌, ◌++◌, None, subst, length, []}
use Rattle.pre_bridge.specs.Inside.{inside}
use Rattle.pre_laws.proofs.Fitting.{is_routed}
use Rattle.pre_sim.specs.Parts.{scenario_of}
use Rattle.pre_sim.specs.Sends.{ComesFront, comes_to, drops_of}
use Rattle.pre_sim.proofs.Told.{tells_nothing, tells_then}
use Rattle.pre_sim.proofs.LinksKept.{links_then}
use Rattle.pre_sim.proofs.TellParts.{then_front}
use Rattle.pre_sim.proofs.EntriesTakes.{TakeLaws, TakesPart, RelayGives, none_taken, one_taken, taken_front, all_taken, no_more_taken, keeps_taken, keeps_none, lost_byte, one_dropped}
use Rattle.pre_sim.proofs.entering.relays.Goals as goal

pub loop-arc-init : goal.loop-arc-init
loop-arc-init g c = record {
  part = ([], tells_nothing c.args.plan.now.net.now (g.W.Watcher.took c.args.watcher.now), none_taken (scenario_of c.args.plan.now) c.args.now.0 c.args.relay.now c.args.lanes.now);
  kept = c.requires.kept;
  links = refl;
  latest = search rules;
  long = search rules;
  few = search rules;
  later = search rules;
  same = search rules;
}

pub come-requires-clause-arc : goal.come-requires-clause-arc
come-requires-clause-arc g c =
    let laws : TakeLaws = record { each = c.takes_law.ensures.each; comes_out = c.turn_law.ensures.comes_out; turn = c.turn_law.ensures.turn } in
    (keeps_taken (scenario_of c.args.plan.now) (is_routed (scenario_of c.args.plan.now) c.requires.fit.streams_fit c.requires.fit.script_fits) laws c.args.now.0 c.loop-arc.store c.loop-arc.relay
    c.take_due.new.self c.loop-arc.lanes c.take_due.ensures.stands c.in-Some.next c.in-Some.frame c.in-Some.ensures.given c.loop-arc.invariant.kept).known

pub come-requires-clause-keeps : goal.come-requires-clause-keeps
come-requires-clause-keeps g c =
    let laws : TakeLaws = record { each = c.takes_law.ensures.each; comes_out = c.turn_law.ensures.comes_out; turn = c.turn_law.ensures.turn } in
    let left = keeps_taken (scenario_of c.args.plan.now) (is_routed (scenario_of c.args.plan.now) c.requires.fit.streams_fit c.requires.fit.script_fits) laws c.args.now.0 c.loop-arc.store
    c.loop-arc.relay c.take_due.new.self c.loop-arc.lanes c.take_due.ensures.stands c.in-Some.next c.in-Some.frame c.in-Some.ensures.given c.loop-arc.invariant.kept in
    (inside c.args.plan.now.net.now c.args.plan.now.streams.now left.calls, left.keeps)

pub come-requires-clause-over : goal.come-requires-clause-over
come-requires-clause-over g c =
    let laws : TakeLaws = record { each = c.takes_law.ensures.each; comes_out = c.turn_law.ensures.comes_out; turn = c.turn_law.ensures.turn } in
    (keeps_taken (scenario_of c.args.plan.now) (is_routed (scenario_of c.args.plan.now) c.requires.fit.streams_fit c.requires.fit.script_fits) laws c.args.now.0 c.loop-arc.store c.loop-arc.relay
    c.take_due.new.self c.loop-arc.lanes c.take_due.ensures.stands c.in-Some.next c.in-Some.frame c.in-Some.ensures.given c.loop-arc.invariant.kept).over

pub loop-arc-preserved : goal.loop-arc-preserved
loop-arc-preserved g c =
    let w = scenario_of c.args.plan.now in
    let t = c.args.now.0 in
    let laws : TakeLaws = record { each = c.takes_law.ensures.each; comes_out = c.turn_law.ensures.comes_out; turn = c.turn_law.ensures.turn } in
    let left = keeps_taken w (is_routed w c.requires.fit.streams_fit c.requires.fit.script_fits) laws t c.loop-arc.store c.loop-arc.relay c.take_due.new.self c.loop-arc.lanes
    c.take_due.ensures.stands c.in-Some.next c.in-Some.frame c.in-Some.ensures.given c.loop-arc.invariant.kept in
    let before = c.loop-arc.invariant.part in
    let now = c.in_ok-entered.ensures.part in
    let lost : c.from-lost.result ≡ drops_of c.in_ok-entered.entered = c.from-lost.ensures ∙ lost_byte c.in_ok-entered.entered in
    let least = one_dropped c.in_ok-entered.entered in
    record {
      part = (
        before.0 ++ now.0,
        tells_then c.args.plan.now.net.now (g.W.Watcher.took c.args.watcher.now) (g.W.Watcher.took c.loop-arc.watcher) (g.W.Watcher.took c.come.new.watcher) before.0 now.0 before.1 now.1,
        subst (λ d. TakesPart w t c.args.relay.now c.take_due.new.self c.args.lanes.now c.come.new.lanes (c.loop-arc._arc + 1) (c.loop-arc.lost + d) (before.0 ++ now.0)) (sym lost)
            (one_taken w t c.args.relay.now c.args.lanes.now laws c.loop-arc.relay c.loop-arc.lanes c.loop-arc._arc c.loop-arc.lost before.0 before.2 c.in-Some.next c.in-Some.frame
            c.in-Some.ensures.given
            c.take_due.new.self c.take_due.ensures.stands c.come.new.lanes (drops_of c.in_ok-entered.entered) now.0 now.2.comes),
      );
      kept = (left.calls, left.stands, now.2.keeps (inside w.net w.streams left.calls) left.keeps);
      links = links_then c.args.lanes.now c.loop-arc.lanes c.come.new.lanes c.loop-arc.invariant.links c.in_ok-entered.ensures.links;
      latest = c.take_due.ensures.latest ∙ c.loop-arc.invariant.latest;
      long = search rules;
      few = let few = c.loop-arc.invariant.few in omega (arith, few, lost, least);
      later = search rules;
      same = search rules;
    }

pub returns-in_err-entered-clause-part : goal.returns-in_err-entered-clause-part
returns-in_err-entered-clause-part g c =
    let w = scenario_of c.args.plan.now in
    let t = c.args.now.0 in
    let laws : TakeLaws = record { each = c.takes_law.ensures.each; comes_out = c.turn_law.ensures.comes_out; turn = c.turn_law.ensures.turn } in
    let before = c.loop-arc.invariant.part in
    then_front c.args.plan.now.net.now c.come.result c.from_residual.result (g.W.Watcher.took c.args.watcher.now) (g.W.Watcher.took c.loop-arc.watcher) (g.W.Watcher.took c.come.new.watcher)
    (g.W.Watcher.torn c.come.new.watcher) before.0
    _ (ComesFront w t (comes_to c.in-Some.next.0 c.in-Some.frame ∷ []) c.loop-arc.lanes) _ _ _
    before.1 c.come.ensures.part
    (λ fs front. taken_front w t c.args.relay.now c.args.lanes.now laws c.loop-arc.relay c.loop-arc.lanes c.loop-arc._arc c.loop-arc.lost before.0 before.2 c.in-Some.next c.in-Some.frame
    c.in-Some.ensures.given (search rules) fs front)
    c.in_err-entered.field-0.0 c.in_err-entered.was (search rules)

pub returns-in_err-entered-clause-same : goal.returns-in_err-entered-clause-same
returns-in_err-entered-clause-same g c = g.met.W.Watcher.same_trans c.args.watcher.now c.loop-arc.watcher c.come.new.watcher c.loop-arc.invariant.same c.come.ensures.same

pub returns-in_default-clause-kept : goal.returns-in_default-clause-kept
returns-in_default-clause-kept g c =
    let w = scenario_of c.args.plan.now in
    let laws : TakeLaws = record { each = c.takes_law.ensures.each; comes_out = c.turn_law.ensures.comes_out; turn = c.turn_law.ensures.turn } in
    let none : RelayGives c.loop-arc.relay c.args.now.0 None = λ net streams calls stands. sym c.in_default.is ∙ c.take_due.ensures.given net streams calls stands in
    keeps_none w (is_routed w c.requires.fit.streams_fit c.requires.fit.script_fits) laws c.args.now.0 c.loop-arc.store c.loop-arc.relay c.take_due.new.self c.loop-arc.lanes
    c.take_due.ensures.stands none c.loop-arc.invariant.kept

pub returns-in_default-clause-part : goal.returns-in_default-clause-part
returns-in_default-clause-part g c =
    let w = scenario_of c.args.plan.now in
    let laws : TakeLaws = record { each = c.takes_law.ensures.each; comes_out = c.turn_law.ensures.comes_out; turn = c.turn_law.ensures.turn } in
    let none : RelayGives c.loop-arc.relay c.args.now.0 None = λ net streams calls stands. sym c.in_default.is ∙ c.take_due.ensures.given net streams calls stands in
    let part = c.loop-arc.invariant.part in (
      part.0,
      part.1,
      no_more_taken w c.args.now.0 c.args.relay.now c.args.lanes.now laws c.loop-arc.relay c.loop-arc.lanes c.loop-arc._arc c.loop-arc.lost part.0 part.2 c.requires.kept.0 c.requires.kept.1
          (search rules) c.take_due.new.self c.take_due.ensures.stands none,
    )

pub returns-clause-kept : goal.returns-clause-kept
returns-clause-kept g c = c.loop-arc.invariant.kept

pub returns-clause-part : goal.returns-clause-part
returns-clause-part g c =
    let w = scenario_of c.args.plan.now in
    let laws : TakeLaws = record { each = c.takes_law.ensures.each; comes_out = c.turn_law.ensures.comes_out; turn = c.turn_law.ensures.turn } in
    let part = c.loop-arc.invariant.part in
    let done : c.loop-arc._arc ≡ length w.net.arcs = search rules in (
      part.0,
      part.1,
      all_taken w c.args.now.0 c.args.relay.now c.args.lanes.now laws c.loop-arc.relay c.loop-arc.lanes c.loop-arc._arc c.loop-arc.lost part.0 part.2 c.requires.kept.0
          c.requires.kept.1 done,
    )

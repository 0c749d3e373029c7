use Rattle.std.proofs.Common.{rules, ◌+◌, Some, None, refl, sym, ◌∙◌, ap, subst, ◌≡◌, ◌≢◌, [], ◌++◌}
use Rattle.pre_topo.specs.declared.arcs.Arc.{Arc}
use Rattle.pre_topo.specs.declared.arcs.Mode.TheVariants as mode
use Rattle.pre_history.specs.Moments.{Phase}
use Rattle.pre_history.specs.Scenario.{Scenario, arc, no_arc}
use Rattle.pre_history.specs.Rules.{HappensIn}
use Rattle.pre_links.specs.Standing.{LinkStands, told}
use Rattle.pre_sim.specs.Keeps.{Store}
use Rattle.pre_sim.specs.declared.lanes.Lane.{Lane}
use Rattle.pre_sim.specs.Parts.{LanePart, scenario_of}
use Rattle.pre_sim.proofs.Lists.{read_at}
use Rattle.pre_sim.proofs.TellParts.{part_of_none, part_of_one}
use Rattle.pre_sim.proofs.ExpiryParts.{calm_arc, expiry_part, expiry_front}
use Rattle.pre_sim.proofs.expiries.expire_on.Goals as goal

pub returns-then-ne-clause-part : goal.returns-then-ne-clause-part
returns-then-ne-clause-part g c =
    let w : Scenario = scenario_of c.args.plan.now in
    let off : c.arc_at.result.now.mode ≢ mode.Negotiate = search rules in
    let its : arc w c.args.arc.0 ≡ c.arc_at.result.now = read_at w.net.arcs c.args.arc.0 c.arc_at.result.now no_arc c.arc_at.ensures.found in
    let calm : (arc w c.args.arc.0).mode ≢ mode.Negotiate = λ e. off (sym (ap (λ (x : Arc). x.mode) its) ∙ e) in
    part_of_none c.args.plan.now.net.now (g.W.Watcher.took c.args.watcher.now)
    (λ es. (store : Store) → LanePart w c.args.now.0 (Phase.expiries c.args.arc.0) c.args.arc.0 (Some c.args.partner.now) c.args.lane.now 0 store store c.args.lane.now [] es)
    (λ store. expiry_part w c.args.now.0 c.args.arc.0 c.requires.arc c.args.partner.now c.args.lane.now c.args.lane.now None refl refl refl refl refl
    (λ h legal hears stands set. calm_arc w h c.args.arc.0 c.args.now.0 calm) (λ h legal hears negotiates stands set. absurd (calm negotiates)) store)

pub returns-in_default-clause-part : goal.returns-in_default-clause-part
returns-in_default-clause-part g c =
    let w : Scenario = scenario_of c.args.plan.now in
    let t = c.args.now.0 in
    let a = c.args.arc.0 in
    let on : c.arc_at.result.now.mode ≡ mode.Negotiate = search rules in
    let its : arc w a ≡ c.arc_at.result.now = read_at w.net.arcs a c.arc_at.result.now no_arc c.arc_at.ensures.found in
    let negotiates : (arc w a).mode ≡ mode.Negotiate = ap (λ (x : Arc). x.mode) its ∙ on in
    let none : c.settle.result ≡ None = search rules in
    let new : Lane = record {
      rings = c.args.lane.now.rings;
      outgoing = c.args.lane.now.outgoing;
      incoming = c.args.lane.now.incoming;
      partner = c.args.lane.now.partner;
      setting =
          c.args.lane.now.setting;
      link = c.settle.new.self;
    } in
    part_of_none c.args.plan.now.net.now (g.W.Watcher.took c.args.watcher.now)
    (λ es. (store : Store) → LanePart w t (Phase.expiries a) a (Some c.args.partner.now) c.args.lane.now 0 store store new [] es)
    (λ store. expiry_part w t a c.requires.arc c.args.partner.now c.args.lane.now new None refl refl refl refl refl
    (λ h legal hears stands set. subst (λ o. HappensIn w h t (Phase.expiries a) (told t a o)) none (c.settle.ensures.happens w h a c.requires.arc negotiates legal (stands negotiates) hears set refl))
    (λ h legal hears on stands set. subst (λ o. LinkStands w (h ++ told t a o) a (t + 1) c.settle.new.self) none
    (c.settle.ensures.stands w h a c.requires.arc negotiates legal stands hears set refl)) store)

pub returns-clause-part : goal.returns-clause-part
returns-clause-part g c =
    let w : Scenario = scenario_of c.args.plan.now in
    let t = c.args.now.0 in
    let a = c.args.arc.0 in
    let on : c.arc_at.result.now.mode ≡ mode.Negotiate = search rules in
    let its : arc w a ≡ c.arc_at.result.now = read_at w.net.arcs a c.arc_at.result.now no_arc c.arc_at.ensures.found in
    let negotiates : (arc w a).mode ≡ mode.Negotiate = ap (λ (x : Arc). x.mode) its ∙ on in
    let new : Lane = record {
      rings = c.args.lane.now.rings;
      outgoing = c.args.lane.now.outgoing;
      incoming = c.args.lane.now.incoming;
      partner = c.args.lane.now.partner;
      setting =
          c.args.lane.now.setting;
      link = c.settle.new.self;
    } in
    part_of_one c.args.plan.now.net.now c.tell.result (g.W.Watcher.took c.args.watcher.now) (g.W.Watcher.took c.tell.new.watcher) (g.W.Watcher.torn c.tell.new.watcher) _ _ _ _
    c.tell.ensures.one
    (λ x store. expiry_part w t a c.requires.arc c.args.partner.now c.args.lane.now new (Some c.in-Some.value) refl refl refl refl refl
    (λ h legal hears stands set. subst (λ o. HappensIn w h t (Phase.expiries a) (told t a o)) c.in-Some.is
    (c.settle.ensures.happens w h a c.requires.arc negotiates legal (stands negotiates) hears set refl))
    (λ h legal hears on stands set. subst (λ o. LinkStands w (h ++ told t a o) a (t + 1) c.settle.new.self) c.in-Some.is
    (c.settle.ensures.stands w h a c.requires.arc negotiates legal stands hears set refl)) store)
    (expiry_front w t a c.requires.arc c.args.partner.now c.args.lane.now new (Some c.in-Some.value) refl refl refl refl refl
    (λ h legal hears stands set. subst (λ o. HappensIn w h t (Phase.expiries a) (told t a o)) c.in-Some.is
    (c.settle.ensures.happens w h a c.requires.arc negotiates legal (stands negotiates) hears set refl))
    (λ h legal hears on stands set. subst (λ o. LinkStands w (h ++ told t a o) a (t + 1) c.settle.new.self) c.in-Some.is
    (c.settle.ensures.stands w h a c.requires.arc negotiates legal stands hears set refl)))

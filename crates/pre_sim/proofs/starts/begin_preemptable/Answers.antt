use Rattle.std.proofs.Common.{rules, ◌≡◌, ◌≤◌, ◌+◌, ◌-◌, ◌%◌, ◌∙◌, ap, refl, sym, subst, arith, false, []}
use Rattle.pre_topo.specs.declared.arcs.Arc.{Arc}
use Rattle.pre_topo.specs.declared.arcs.Mode.TheVariants as mode
use Rattle.pre_topo.specs.declared.arcs.Policy.TheVariants as policy
use Rattle.pre_mpacket.specs.declared.packets.Kind.{Kind}
use Rattle.pre_mpacket.specs.declared.packets.Kind.TheVariants as kind
use Rattle.pre_history.specs.Scenario.{Scenario, arc, no_arc}
use Rattle.std.specs.Bool.{Decides}
use Rattle.pre_history.specs.LinkState.{Active}
use Rattle.pre_history.specs.Starts.{Item, starts_before, whole_frame}
use Rattle.pre_sim.specs.declared.lanes.Lane.{Lane}
use Rattle.pre_sim.specs.Keeps.{KeepsOn}
use Rattle.pre_sim.specs.Parts.{scenario_of}
use Rattle.pre_sim.specs.Starting.{StartsAs}
use Rattle.pre_sim.proofs.Keeping.{keep_same, keep_started}
use Rattle.pre_sim.proofs.Lists.{read_at}
use Rattle.pre_sim.proofs.WaitingNow.{no_front, front_of}
use Rattle.pre_sim.proofs.ItemsThere.{none_more, first_begins, preemptable_first, preemptable_whole, none_on_quiet}
use Rattle.pre_sim.proofs.RingStarts.{express_from_within, same_lane, has_size, has_its_size, frame_started}
use Rattle.pre_sim.proofs.starts.begin_preemptable.Goals.{else-eq-via-then-eq+else-eq-2, else-eq-via-else-eq}
use Rattle.pre_sim.proofs.starts.begin_preemptable.Goals as goal

-- no frame waits where preemption is active
pub returns-in_err-frame-clause-starts : goal.returns-in_err-frame-clause-starts
returns-in_err-frame-clause-starts c = λ h items legal hears stand free none.
    let w : Scenario = scenario_of c.args.plan.now in
    let t = c.args.now.0 in
    let a = c.args.arc.0 in
    let its : arc w a ≡ c.args.link.now = read_at w.net.arcs a c.args.link.now no_arc c.requires.link in
    let from = express_from_within w a c.args.link.now c.requires.arc c.requires.link in
    let empty = no_front w h t a c.requires.arc legal.0 c.args.lane.now.rings stand.rings 0 (c.args.link.now.express_from - 1) (arc w a).express_from in
    let end : (arc w a).express_from ≡ c.args.link.now.express_from - 1 + 1 = omega (arith, ap (λ (x : Arc). x.express_from) its, from.0) in
    let old = c.args.lane.now in
    let new : Lane = record { rings = c.take_first.new.rings; outgoing = old.outgoing; incoming = old.incoming; partner = old.partner; setting = old.setting; link = old.link } in
    subst (λ r. StartsAs w t a c.args.partner.now 6 7 old new r h items) (sym c.from_residual.ensures)
    (none_more w h a t Item.preemptable 6 refl none (λ c' there. empty there.0 end c.in_err-frame.ensures.0 there.2), same_lane c.args.lane.now c.take_first.new.rings c.in_err-frame.ensures.1)

pub returns-in_err-frame-clause-keeps : goal.returns-in_err-frame-clause-keeps
returns-in_err-frame-clause-keeps c = λ store.
    subst (λ l. KeepsOn (scenario_of c.args.plan.now) c.args.arc.0 store store c.args.lane.now l []) (sym (same_lane c.args.lane.now c.take_first.new.rings c.in_err-frame.ensures.1))
    (keep_same (scenario_of c.args.plan.now) c.args.arc.0 store c.args.lane.now)

-- in fragments
pub begin-requires-clause-may : goal.begin-requires-clause-may
begin-requires-clause-may c =
    let w : Scenario = scenario_of c.args.plan.now in
    let from = express_from_within w c.args.arc.0 c.args.link.now c.requires.arc c.requires.link in
    let old = c.args.lane.now in
    let new : Lane = record { rings = c.take_first.new.rings; outgoing = old.outgoing; incoming = old.incoming; partner = old.partner; setting = old.setting; link = old.link } in (
      has_size w c.requires.fit c.args.now.0 c.args.arc.0 c.requires.arc c.requires.keeps.0 old new c.requires.keeps.1 0 (c.args.link.now.express_from - 1)
          (omega (arith, from.1)) c.in_ok-frame.frame c.in_ok-frame.ensures,
      c.requires.alone,
    )

pub returns-then-is_active-clause-starts : goal.returns-then-is_active-clause-starts
returns-then-is_active-clause-starts c = λ h items legal hears stand free none.
    let w : Scenario = scenario_of c.args.plan.now in
    let t = c.args.now.0 in
    let a = c.args.arc.0 in
    let old = c.args.lane.now in
    let new : Lane = record { rings = c.take_first.new.rings; outgoing = c.begin.new.self; incoming = old.incoming; partner = old.partner; setting = old.setting; link = old.link } in
    let f = c.in_ok-frame.frame in
    let its : arc w a ≡ c.args.link.now = read_at w.net.arcs a c.args.link.now no_arc c.requires.link in
    let from = express_from_within w a c.args.link.now c.requires.arc c.requires.link in
    let end : (arc w a).express_from ≡ c.args.link.now.express_from - 1 + 1 = omega (arith, ap (λ (x : Arc). x.express_from) its, from.0) in
    let few : c.args.link.now.express_from - 1 ≤ 7 = omega (arith, from.1) in
    let front = front_of w h t a c.requires.arc legal.0 old.rings stand.rings 0 (c.args.link.now.express_from - 1) (arc w a).express_from c.take_first.new.rings f end c.in_ok-frame.ensures in
    let active = (c.is_active.ensures w h a t its (λ on. stand.link (ap (λ (x : Arc). x.mode) its ∙ on))).0 c.if-is_active.true in
    let k : Kind = kind.Start (starts_before w h a t % 4) in
    let rule = first_begins w h a t free Item.preemptable (whole_frame f.frame.0 k) (preemptable_first w h a t f.frame.0 front active) none in
    let sized = has_its_size w c.requires.fit t a c.requires.arc c.requires.keeps.0 old new c.requires.keeps.1 0 (c.args.link.now.express_from - 1) few f c.in_ok-frame.ensures in
    let begun = c.begin.ensures.begins w h a t false (whole_frame f.frame.0 k) c.requires.arc legal.0 stand.outgoing rule (refl, refl, sized) in
    frame_started w c.requires.fit t a c.requires.arc c.requires.keeps.0 old new c.requires.keeps.1 0
    (c.args.link.now.express_from - 1) few f c.in_ok-frame.ensures h items k tt c.begin.result legal stand rule begun refl refl refl refl
    c.args.partner.now 6 7

pub returns-then-is_active-clause-keeps : goal.returns-then-is_active-clause-keeps
returns-then-is_active-clause-keeps c = λ store.
    let w : Scenario = scenario_of c.args.plan.now in
    let from = express_from_within w c.args.arc.0 c.args.link.now c.requires.arc c.requires.link in
    let old = c.args.lane.now in
    let new : Lane = record { rings = c.take_first.new.rings; outgoing = c.begin.new.self; incoming = old.incoming; partner = old.partner; setting = old.setting; link = old.link } in
    keep_started w c.args.arc.0 0 (c.args.link.now.express_from - 1) store old new c.in_ok-frame.frame (omega (arith, from.1)) c.in_ok-frame.ensures c.begin.ensures.frames

-- not at all
pub returns-then-eq-2-clause-starts : goal.returns-then-eq-2-clause-starts
returns-then-eq-2-clause-starts c = λ h items legal hears stand free none.
    let w : Scenario = scenario_of c.args.plan.now in
    let t = c.args.now.0 in
    let a = c.args.arc.0 in
    let its : arc w a ≡ c.args.link.now = read_at w.net.arcs a c.args.link.now no_arc c.requires.link in
    let on : c.args.link.now.mode ≡ mode.Negotiate = search rules in
    let quiet : c.args.link.now.policy ≡ policy.Quiet = search rules in
    let inactive = c.is_active.ensures w h a t its (λ on. stand.link (ap (λ (x : Arc). x.mode) its ∙ on)) in
    let nothing = none_on_quiet w h a t (subst (λ r. Decides r (Active w h a t)) c.if-is_active.false inactive) (ap (λ (x : Arc). x.mode) its ∙ on) (ap (λ (x : Arc). x.policy) its ∙ quiet) in
    (none_more w h a t Item.preemptable 6 refl none nothing, refl)

pub returns-then-eq-2-clause-keeps : goal.returns-then-eq-2-clause-keeps
returns-then-eq-2-clause-keeps c = λ store. keep_same (scenario_of c.args.plan.now) c.args.arc.0 store c.args.lane.now

-- whole
pub invariant_of-greatest-2 : goal.invariant_of-greatest-2
invariant_of-greatest-2 c = let from = express_from_within (scenario_of c.args.plan.now) c.args.arc.0 c.args.link.now c.requires.arc c.requires.link in omega (arith, from.1)

pub take_first-requires-2 : goal.take_first-requires-2
take_first-requires-2 c = let from = express_from_within (scenario_of c.args.plan.now) c.args.arc.0 c.args.link.now c.requires.arc c.requires.link in omega (arith, from.1)

pub returns-in_err-frame-2-clause-starts : goal.returns-in_err-frame-2-clause-starts
returns-in_err-frame-2-clause-starts c = λ h items legal hears stand free none.
    let w : Scenario = scenario_of c.args.plan.now in
    let t = c.args.now.0 in
    let a = c.args.arc.0 in
    let its : arc w a ≡ c.args.link.now = read_at w.net.arcs a c.args.link.now no_arc c.requires.link in
    let from = express_from_within w a c.args.link.now c.requires.arc c.requires.link in
    let empty = no_front w h t a c.requires.arc legal.0 c.args.lane.now.rings stand.rings 0 (c.args.link.now.express_from - 1) (arc w a).express_from in
    let end : (arc w a).express_from ≡ c.args.link.now.express_from - 1 + 1 = omega (arith, ap (λ (x : Arc). x.express_from) its, from.0) in
    let old = c.args.lane.now in
    let new : Lane = record { rings = c.take_first-2.new.rings; outgoing = old.outgoing; incoming = old.incoming; partner = old.partner; setting = old.setting; link = old.link } in
    subst (λ r. StartsAs w t a c.args.partner.now 6 7 old new r h items) (sym c.from_residual-in_err-frame-2.ensures)
    (none_more w h a t Item.preemptable 6 refl none (λ c' there. empty there.0 end c.in_err-frame-2.ensures.0 there.2), same_lane c.args.lane.now c.take_first-2.new.rings c.in_err-frame-2.ensures.1)

pub returns-in_err-frame-2-clause-keeps : goal.returns-in_err-frame-2-clause-keeps
returns-in_err-frame-2-clause-keeps c = λ store.
    subst (λ l. KeepsOn (scenario_of c.args.plan.now) c.args.arc.0 store store c.args.lane.now l []) (sym (same_lane c.args.lane.now c.take_first-2.new.rings c.in_err-frame-2.ensures.1))
    (keep_same (scenario_of c.args.plan.now) c.args.arc.0 store c.args.lane.now)

pub begin-requires-2-clause-may : goal.begin-requires-2-clause-may
begin-requires-2-clause-may c =
    let w : Scenario = scenario_of c.args.plan.now in
    let from = express_from_within w c.args.arc.0 c.args.link.now c.requires.arc c.requires.link in
    let old = c.args.lane.now in
    let new : Lane = record { rings = c.take_first-2.new.rings; outgoing = old.outgoing; incoming = old.incoming; partner = old.partner; setting = old.setting; link = old.link } in
    has_size w c.requires.fit c.args.now.0 c.args.arc.0 c.requires.arc c.requires.keeps.0 old new c.requires.keeps.1 0 (c.args.link.now.express_from - 1)
    (omega (arith, from.1)) c.in_ok-frame-2.frame c.in_ok-frame-2.ensures

pub returns-clause-starts : goal.returns-clause-starts
returns-clause-starts c = λ h items legal hears stand free none.
    let w : Scenario = scenario_of c.args.plan.now in
    let t = c.args.now.0 in
    let a = c.args.arc.0 in
    let old = c.args.lane.now in
    let new : Lane = record { rings = c.take_first-2.new.rings; outgoing = c.begin-2.new.self; incoming = old.incoming; partner = old.partner; setting = old.setting; link = old.link } in
    let f = c.in_ok-frame-2.frame in
    let its : arc w a ≡ c.args.link.now = read_at w.net.arcs a c.args.link.now no_arc c.requires.link in
    let from = express_from_within w a c.args.link.now c.requires.arc c.requires.link in
    let end : (arc w a).express_from ≡ c.args.link.now.express_from - 1 + 1 = omega (arith, ap (λ (x : Arc). x.express_from) its, from.0) in
    let few : c.args.link.now.express_from - 1 ≤ 7 = omega (arith, from.1) in
    let front = front_of w h t a c.requires.arc legal.0 old.rings stand.rings 0 (c.args.link.now.express_from - 1) (arc w a).express_from c.take_first-2.new.rings f end c.in_ok-frame-2.ensures in
    let decides = c.is_active.ensures w h a t its (λ on. stand.link (ap (λ (x : Arc). x.mode) its ∙ on)) in
    let loud : ¬ ((c.args.link.now.mode ≡ mode.Negotiate) × (c.args.link.now.policy ≡ policy.Quiet)) =
    λ p. elim c.else-eq.branch [ else-eq-via-then-eq+else-eq-2 x ↦ search rules | else-eq-via-else-eq x ↦ search rules ] in
    let quieter : ¬ (((arc w a).mode ≡ mode.Negotiate) × ((arc w a).policy ≡ policy.Quiet)) = λ p. loud (ap (λ (x : Arc). x.mode) (sym its) ∙ p.0, ap (λ (x : Arc). x.policy) (sym its) ∙ p.1) in
    let rule = first_begins w h a t free Item.preemptable (whole_frame f.frame.0 kind.Express)
    (preemptable_whole w h a t f.frame.0 front (subst (λ r. Decides r (Active w h a t)) c.if-is_active.false decides) quieter) none in
    let sized = has_its_size w c.requires.fit t a c.requires.arc c.requires.keeps.0 old new c.requires.keeps.1 0 (c.args.link.now.express_from - 1) few f c.in_ok-frame-2.ensures in
    let begun = c.begin-2.ensures.begins w h a t false (whole_frame f.frame.0 kind.Express) c.requires.arc legal.0 stand.outgoing rule (refl, refl, sized) in
    frame_started w c.requires.fit t a c.requires.arc c.requires.keeps.0 old new c.requires.keeps.1 0
    (c.args.link.now.express_from - 1) few f c.in_ok-frame-2.ensures h items kind.Express tt c.begin-2.result legal stand rule begun refl refl refl refl
    c.args.partner.now 6 7

pub returns-clause-keeps : goal.returns-clause-keeps
returns-clause-keeps c = λ store.
    let w : Scenario = scenario_of c.args.plan.now in
    let from = express_from_within w c.args.arc.0 c.args.link.now c.requires.arc c.requires.link in
    let old = c.args.lane.now in
    let new : Lane = record { rings = c.take_first-2.new.rings; outgoing = c.begin-2.new.self; incoming = old.incoming; partner = old.partner; setting = old.setting; link = old.link } in
    keep_started w c.args.arc.0 0 (c.args.link.now.express_from - 1) store old new c.in_ok-frame-2.frame (omega (arith, from.1)) c.in_ok-frame-2.ensures c.begin-2.ensures.frames

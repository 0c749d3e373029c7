use Rattle.std.proofs.Common.{◌≡◌, ◌∙◌, ap, refl, sym, subst, arith, false, List, Some, []}
use Rattle.std.specs.Bool.{Decides}
use Rattle.std.proofs.lemmas.Bool.{false≢true}
use Rattle.pre_topo.specs.declared.arcs.Arc.{Arc}
use Rattle.pre_history.specs.History.{History}
use Rattle.pre_history.specs.Moments.{Phase}
use Rattle.pre_bridge.specs.Inside.{Entry}
use Rattle.pre_history.specs.Scenario.{Scenario, arc, no_arc}
use Rattle.pre_history.specs.Starts.{Item, ExpressWaits}
use Rattle.pre_sim.specs.declared.lanes.Lane.{Lane}
use Rattle.pre_sim.specs.Keeps.{Store}
use Rattle.pre_sim.specs.Stages.{entered}
use Rattle.pre_sim.specs.Stands.{LaneStands}
use Rattle.pre_sim.specs.Parts.{Before, LanePart, scenario_of}
use Rattle.pre_sim.specs.Starting.{StartsAs}
use Rattle.pre_sim.proofs.Keeping.{keep_lane}
use Rattle.pre_sim.proofs.Lists.{read_at}
use Rattle.pre_sim.proofs.TellParts.{part_of_none, part_of_one}
use Rattle.pre_sim.proofs.WaitingNow.{express_decided, none_in_front}
use Rattle.pre_sim.proofs.ItemsThere.{none_first, busy_starts, idle_starts}
use Rattle.pre_sim.proofs.StartParts.{keeps_both, kind_counts, settled_lane, stood, quiet_part, begun_part, begun_front}
use Rattle.pre_sim.proofs.starts.start_on.Goals as goal

-- the arc is occupied
pub returns-then-not-free-clause-part : goal.returns-then-not-free-clause-part
returns-then-not-free-clause-part g c =
    let w : Scenario = scenario_of c.args.plan.now in
    let t = c.args.now.0 in
    let a = c.args.arc.0 in
    let old = c.args.lane.now in
    let link = c.arc_at-link.result.now in
    let new : Lane = record { rings = old.rings; outgoing = c.settle.new.self; incoming = old.incoming; partner = old.partner; setting = old.setting; link = old.link } in
    let its : arc w a ≡ link = read_at w.net.arcs a link no_arc c.arc_at-link.ensures.found in
    part_of_none c.args.plan.now.net.now (g.W.Watcher.took c.args.watcher.now) (λ es. (store : Store) → LanePart w t (Phase.starts a) a (Some c.args.partner.now) old 0 store store new [] es)
    (quiet_part w t a c.requires.arc c.args.partner.now old new
    (λ h items b.
    let stand = stood w t a c.requires.arc c.args.partner.now old new h items b in
    let busy = busy_starts w h a t (λ free. false≢true (sym c.if-not-free.true ∙ (c.free.ensures.exact w h a t false c.requires.arc b.legal.0 stand.outgoing).1 free)) in
    let waits = express_decided w h t a c.requires.arc b.legal.0 old.rings stand.rings link.express_from
    (ap (λ (x : Arc). x.express_from) its) c.highest.result c.highest.ensures.within c.highest.ensures.waits c.highest.ensures.none in
    let sends = c.settle.ensures.settles w h a c.requires.arc b.legal.0 (subst (λ r. Decides r (ExpressWaits w h a t)) (sym c.is_some-waits.ensures) waits) stand.outgoing in
    (busy, settled_lane w h t a old new items refl refl refl refl refl stand sends))
    (λ store. keep_lane w a store old new refl c.settle.ensures.frames))

-- nothing is there
pub returns-in_default-clause-part : goal.returns-in_default-clause-part
returns-in_default-clause-part g c =
    let w : Scenario = scenario_of c.args.plan.now in
    let t = c.args.now.0 in
    let a = c.args.arc.0 in
    let old = c.args.lane.now in
    let mid = c.begin_on.new.lane in
    let new : Lane = record { rings = mid.rings; outgoing = c.settle-in_default.new.self; incoming = mid.incoming; partner = mid.partner; setting = mid.setting; link = mid.link } in
    part_of_none c.args.plan.now.net.now (g.W.Watcher.took c.args.watcher.now) (λ es. (store : Store) → LanePart w t (Phase.starts a) a (Some c.args.partner.now) old 0 store store new [] es)
    (quiet_part w t a c.requires.arc c.args.partner.now old new
    (λ h items b.
    let stand = stood w t a c.requires.arc c.args.partner.now old new h items b in
    let free = (c.free.ensures.exact w h a t false c.requires.arc b.legal.0 stand.outgoing).0 c.if-not-free.false in
    let none = c.in_default.ensures.starts h items b.legal b.hears stand free (none_first w h a t) in
    let stand' : LaneStands w h a (entered t) mid items = subst (λ l. LaneStands w h a (entered t) l items) (sym none.1) stand in
    let quiet = none_in_front w h a t (λ d there. none.0 Item.express d (omega arith) there) in
    let sends = c.settle-in_default.ensures.settles w h a c.requires.arc b.legal.0 ((λ is. absurd (false≢true is)), λ waits. absurd (quiet waits)) stand'.outgoing in
    (idle_starts w h a t none.0, settled_lane w h t a mid new items refl refl refl refl refl stand' sends))
    (λ store. keeps_both w a store old mid new (c.in_default.ensures.keeps store) (keep_lane w a store mid new refl c.settle-in_default.ensures.frames)))

pub tell-requires-clause-kind : goal.tell-requires-clause-kind
tell-requires-clause-kind g c = kind_counts c.in-Some.begun.kind c.in-Some.ensures.kind

-- an mPacket begins
pub returns-clause-part : goal.returns-clause-part
returns-clause-part g c =
    let w : Scenario = scenario_of c.args.plan.now in
    let t = c.args.now.0 in
    let a = c.args.arc.0 in
    let old = c.args.lane.now in
    let new = c.begin_on.new.lane in
    let starts : (h : History) (items : List Entry) → Before w t (Phase.starts a) a (Some c.args.partner.now) old h items
    → StartsAs w t a c.args.partner.now 1 7 old new (Some c.in-Some.begun) h items =
    λ h items b.
    let stand = stood w t a c.requires.arc c.args.partner.now old new h items b in
    let free = (c.free.ensures.exact w h a t false c.requires.arc b.legal.0 stand.outgoing).0 c.if-not-free.false in
    c.in-Some.ensures.starts h items b.legal b.hears stand free (none_first w h a t) in
    part_of_one c.args.plan.now.net.now c.tell.result (g.W.Watcher.took c.args.watcher.now) (g.W.Watcher.took c.tell.new.watcher) (g.W.Watcher.torn c.tell.new.watcher) _ _ _ _
    c.tell.ensures.one
    (λ x. begun_part w t a c.requires.arc c.args.partner.now old new c.in-Some.begun 1 7 starts c.in-Some.ensures.keeps)
    (begun_front w t a c.requires.arc c.args.partner.now old new c.in-Some.begun 1 7 starts)

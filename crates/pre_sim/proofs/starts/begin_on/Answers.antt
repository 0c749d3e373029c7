use Rattle.std.proofs.Common.{◌≡◌, ◌∙◌, ap, refl, sym, subst, arith, true, false, []}
use Rattle.std.proofs.lemmas.Bool.{false≢true}
use Rattle.pre_topo.specs.declared.arcs.Arc.{Arc}
use Rattle.pre_mpacket.specs.declared.packets.Kind.TheVariants as kind
use Rattle.pre_send.specs.Senders.{is_free}
use Rattle.pre_history.specs.Scenario.{Scenario, arc, no_arc}
use Rattle.pre_history.specs.Starts.{Item, whole_frame}
use Rattle.pre_sim.specs.declared.lanes.Lane.{Lane}
use Rattle.pre_sim.specs.Keeps.{KeepsOn}
use Rattle.pre_sim.specs.Stages.{entered}
use Rattle.pre_sim.specs.Stands.{LaneStands}
use Rattle.pre_sim.specs.Parts.{scenario_of}
use Rattle.pre_sim.specs.Choices.{LeavesFirst}
use Rattle.pre_sim.specs.Starting.{NoneBelow}
use Rattle.pre_sim.proofs.Keeping.{keep_lane, keep_started}
use Rattle.pre_sim.proofs.Lists.{read_at}
use Rattle.pre_sim.proofs.WaitingNow.{front_of}
use Rattle.pre_sim.proofs.ItemsThere.{none_more, first_begins}
use Rattle.pre_sim.proofs.BegunLanes.{rest_continues, rest_started}
use Rattle.pre_sim.proofs.RingStarts.{same_lane, has_its_size, frame_started, none_express, starts_since}
use Rattle.pre_sim.proofs.starts.begin_on.Goals as goal

-- an express frame
pub returns-in-Some-clause-starts : goal.returns-in-Some-clause-starts
returns-in-Some-clause-starts c = λ h items legal hears stand free none.
    let w : Scenario = scenario_of c.args.plan.now in
    let t = c.args.now.0 in
    let a = c.args.arc.0 in
    let old = c.args.lane.now in
    let new : Lane = record { rings = c.take_first.new.rings; outgoing = c.begin.new.self; incoming = old.incoming; partner = old.partner; setting = old.setting; link = old.link } in
    let f = c.in-Some.frame in
    let its : arc w a ≡ c.args.link.now = read_at w.net.arcs a c.args.link.now no_arc c.requires.link in
    let leaves : LeavesFirst (arc w a).express_from 7 old.rings new.rings f = subst (λ (x : Arc). LeavesFirst x.express_from 7 old.rings new.rings f) (sym its) c.in-Some.ensures in
    let front = front_of w h t a c.requires.arc legal.0 old.rings stand.rings (arc w a).express_from 7 8 new.rings f refl leaves in
    let rule = first_begins w h a t free Item.express (whole_frame f.frame.0 kind.Express) (f.frame.0, front, refl) none in
    let sized = has_its_size w c.requires.fit t a c.requires.arc c.requires.keeps.0 old new c.requires.keeps.1 (arc w a).express_from 7 (omega arith) f leaves in
    let begun = c.begin.ensures.begins w h a t false (whole_frame f.frame.0 kind.Express) c.requires.arc legal.0 stand.outgoing rule (refl, refl, sized) in
    frame_started w c.requires.fit t a c.requires.arc c.requires.keeps.0 old new c.requires.keeps.1 (arc w a).express_from 7
    (omega arith) f leaves h items kind.Express tt c.begin.result legal stand rule begun refl refl refl refl
    c.args.partner.now 1 7

pub returns-in-Some-clause-keeps : goal.returns-in-Some-clause-keeps
returns-in-Some-clause-keeps c = λ store.
    let old = c.args.lane.now in
    let new : Lane = record { rings = c.take_first.new.rings; outgoing = c.begin.new.self; incoming = old.incoming; partner = old.partner; setting = old.setting; link = old.link } in
    keep_started (scenario_of c.args.plan.now) c.args.arc.0 c.args.link.now.express_from 7 store old new c.in-Some.frame (omega arith) c.in-Some.ensures c.begin.ensures.frames

-- what begins for the link
pub returns-in-Some-begin_for_link-clause-starts :
    goal.returns-in-Some-begin_for_link-clause-starts
returns-in-Some-begin_for_link-clause-starts c = λ h items legal hears stand free none.
    let w : Scenario = scenario_of c.args.plan.now in
    let t = c.args.now.0 in
    let a = c.args.arc.0 in
    let old = c.args.lane.now in
    let same = same_lane old c.take_first.new.rings c.in_default.ensures.1 in
    let below : NoneBelow w h a t 2 = none_more w h a t Item.express 1 refl none
    (none_express w h t a c.requires.arc legal.0 old.rings stand.rings c.args.link.now c.requires.link c.in_default.ensures.0) in
    c.in-Some-begin_for_link.ensures.starts h items legal hears (subst (λ l. LaneStands w h a (entered t) l items) (sym same) stand) free below

pub returns-in-Some-begin_for_link-clause-keeps : goal.returns-in-Some-begin_for_link-clause-keeps
returns-in-Some-begin_for_link-clause-keeps c = λ store.
    subst (λ l. KeepsOn (scenario_of c.args.plan.now) c.args.arc.0 store store l c.begin_for_link.new.lane []) (same_lane c.args.lane.now c.take_first.new.rings c.in_default.ensures.1)
    (c.in-Some-begin_for_link.ensures.keeps store)

-- the rest of the interrupted frame
pub returns-then-is_interrupted-clause-starts : goal.returns-then-is_interrupted-clause-starts
returns-then-is_interrupted-clause-starts c = λ h items legal hears stand free none.
    let w : Scenario = scenario_of c.args.plan.now in
    let t = c.args.now.0 in
    let a = c.args.arc.0 in
    let old = c.args.lane.now in
    let mid = c.begin_for_link.new.lane in
    let new : Lane = record { rings = mid.rings; outgoing = c.begin-then-is_interrupted.new.self; incoming = mid.incoming; partner = mid.partner; setting = mid.setting; link = mid.link } in
    let same = same_lane old c.take_first.new.rings c.in_default.ensures.1 in
    let still : mid ≡ old = c.in_default-begin_for_link.ensures.none ∙ same in
    let stand' : LaneStands w h a (entered t) mid items = subst (λ l. LaneStands w h a (entered t) l items) (sym still) stand in
    let free' : is_free mid.outgoing.sender t ≡ true = ap (λ (l : Lane). is_free l.outgoing.sender t) still ∙ c.requires.free in
    let first : NoneBelow w h a t 2 = none_more w h a t Item.express 1 refl none
    (none_express w h t a c.requires.arc legal.0 old.rings stand.rings c.args.link.now c.requires.link c.in_default.ensures.0) in
    let below : NoneBelow w h a t 5 = (c.in_default-begin_for_link.ensures.starts h items legal hears (subst (λ l. LaneStands w h a (entered t) l items) (sym same) stand) free first).0 in
    let found = (c.is_interrupted.ensures.exact w h t a t false c.requires.arc legal.0 stand'.outgoing free').0 c.if-is_interrupted.true in
    let rule = first_begins w h a t free Item.rest found.0 found.1 below in
    let begun = c.begin-then-is_interrupted.ensures.begins w h a t false found.0 c.requires.arc legal.0 stand'.outgoing rule (rest_continues w h a t found.0 found.1) in
    rest_started w c.requires.fit t a c.requires.arc h items mid new found.0 c.begin-then-is_interrupted.result legal stand' rule begun refl refl refl refl refl found.1 c.args.partner.now 1 7

pub returns-then-is_interrupted-clause-keeps : goal.returns-then-is_interrupted-clause-keeps
returns-then-is_interrupted-clause-keeps c = λ store.
    let w : Scenario = scenario_of c.args.plan.now in
    let a = c.args.arc.0 in
    let mid = c.begin_for_link.new.lane in
    let new : Lane = record { rings = mid.rings; outgoing = c.begin-then-is_interrupted.new.self; incoming = mid.incoming; partner = mid.partner; setting = mid.setting; link = mid.link } in
    let still : mid ≡ c.args.lane.now = c.in_default-begin_for_link.ensures.none ∙ same_lane c.args.lane.now c.take_first.new.rings c.in_default.ensures.1 in
    subst (λ l. KeepsOn w a store store l new []) still (keep_lane w a store mid new refl c.begin-then-is_interrupted.ensures.frames)

-- a preemptable frame
pub returns-clause-starts : goal.returns-clause-starts
returns-clause-starts c = λ h items legal hears stand free none.
    let w : Scenario = scenario_of c.args.plan.now in
    let t = c.args.now.0 in
    let a = c.args.arc.0 in
    let old = c.args.lane.now in
    let mid = c.begin_for_link.new.lane in
    let same = same_lane old c.take_first.new.rings c.in_default.ensures.1 in
    let still : mid ≡ old = c.in_default-begin_for_link.ensures.none ∙ same in
    let stand' : LaneStands w h a (entered t) mid items = subst (λ l. LaneStands w h a (entered t) l items) (sym still) stand in
    let free' : is_free mid.outgoing.sender t ≡ true = ap (λ (l : Lane). is_free l.outgoing.sender t) still ∙ c.requires.free in
    let first : NoneBelow w h a t 2 = none_more w h a t Item.express 1 refl none
    (none_express w h t a c.requires.arc legal.0 old.rings stand.rings c.args.link.now c.requires.link c.in_default.ensures.0) in
    let below : NoneBelow w h a t 5 = (c.in_default-begin_for_link.ensures.starts h items legal hears (subst (λ l. LaneStands w h a (entered t) l items) (sym same) stand) free first).0 in
    let exact = c.is_interrupted.ensures.exact w h t a t false c.requires.arc legal.0 stand'.outgoing free' in
    let none' : NoneBelow w h a t 6 = none_more w h a t Item.rest 5 refl below (λ d there. false≢true (sym c.if-is_interrupted.false ∙ exact.1 (d, there))) in
    starts_since w t a c.args.partner.now 1 6 7 old mid c.begin_preemptable.new.lane c.begin_preemptable.result h items still (c.begin_preemptable.ensures.starts h items legal hears stand' free none')

pub returns-clause-keeps : goal.returns-clause-keeps
returns-clause-keeps c = λ store.
    let still = c.in_default-begin_for_link.ensures.none ∙ same_lane c.args.lane.now c.take_first.new.rings c.in_default.ensures.1 in
    subst (λ l. KeepsOn (scenario_of c.args.plan.now) c.args.arc.0 store store l c.begin_preemptable.new.lane []) still (c.begin_preemptable.ensures.keeps store)

use Rattle.std.proofs.Common.{rules, Some, refl, sym, ap, ◌≡◌, ◌+◌, [], None, take, subst, length}
use Rattle.pre_history.specs.Moments.{Phase}
use Rattle.pre_topo.specs.declared.arcs.Arc.{Arc}
use Rattle.pre_send.specs.Endings.{plans_end}
use Rattle.pre_send.specs.Owned.{frames_of}
use Rattle.pre_history.specs.Scenario.{Scenario, arc, no_arc}
use Rattle.pre_mpacket.specs.Spelling.{PlainPacket}
use Rattle.pre_incoming.specs.Flights.{OnWire, TakesOctets}
use Rattle.pre_sim.specs.declared.lanes.Lane.{Lane}
use Rattle.pre_sim.specs.Ending.{IsLeaving}
use Rattle.pre_sim.specs.Parts.{LanePart, scenario_of}
use Rattle.pre_sim.proofs.Lists.{read_at}
use Rattle.pre_sim.proofs.TellParts.{part_of_none, part_of_one}
use Rattle.pre_sim.proofs.EndParts.{all_held, quiet_part, ended_part, ended_front, done_is_out}
use Rattle.pre_sim.proofs.FrameSizes.{routed}
use Rattle.pre_sim.proofs.WireRooms.{mdata_short, goes_on}
use Rattle.pre_sim.proofs.ends.end_on.Goals as goal

pub returns-then-not-ends-clause-part : goal.returns-then-not-ends-clause-part
returns-then-not-ends-clause-part g c =
    let w : Scenario = scenario_of c.args.plan.now in
    part_of_none c.args.plan.now.net.now (g.W.Watcher.took c.args.watcher.now)
    (LanePart w c.args.now.0 (Phase.ends c.args.arc.0) c.args.arc.0 None c.args.lane.now 0 c.args.store.now c.args.store.now c.args.lane.now [])
    (quiet_part w c.args.now.0 c.args.arc.0 c.requires.arc c.args.lane.now c.args.store.now (λ h legal sends. c.ends.ensures.none w h c.args.arc.0 c.requires.arc legal sends c.if-not-ends.true))

pub next_to_leave-kind-requires-clause-held : goal.next_to_leave-kind-requires-clause-held
next_to_leave-kind-requires-clause-held g c = all_held (scenario_of c.args.plan.now) c.args.store.now c.args.arc.0 c.args.lane.now c.requires.keeps

pub next_to_leave-kind-requires-clause-short : goal.next_to_leave-kind-requires-clause-short
next_to_leave-kind-requires-clause-short g c =
    let w : Scenario = scenario_of c.args.plan.now in
    λ m leaves. mdata_short w (routed w c.requires.fit) c.args.now.0 c.args.arc.0 c.requires.arc c.args.store.now c.args.lane.now c.requires.keeps c.requires.reached
    (c.ends.ensures.own.0 (search rules)) m leaves

pub finish-ord-requires-clause-held : goal.finish-ord-requires-clause-held
finish-ord-requires-clause-held g c = all_held (scenario_of c.args.plan.now) c.args.store.now c.args.arc.0 c.args.lane.now c.requires.keeps

pub returns-clause-part : goal.returns-clause-part
returns-clause-part g c =
    let w : Scenario = scenario_of c.args.plan.now in
    let t = c.args.now.0 in
    let a = c.args.arc.0 in
    let lane = c.args.lane.now in
    let f = c.finish-ord.result in
    let l = c.next_to_leave-kind.result in
    let sent = take l.count c.next_to_leave-kind.new.into in
    let p : OnWire = record { ord = f.ord; kind = l.kind; what = f.what; is_last = f.is_last; due = record { 0 = t + c.arc_at-link.result.now.delay }; octets = sent } in
    let new : Lane = record { rings = lane.rings; outgoing = c.finish-ord.new.self; incoming = c.push.new.self; partner = lane.partner; setting = lane.setting; link = c.mpacket_ended.new.self } in
    let leaves : IsLeaving c.args.store.now lane.outgoing l sent = c.next_to_leave-kind.ensures.leaves in
    let due : plans_end lane.outgoing.sender ≡ Some t = c.ends.ensures.own.0 (search rules) in
    let delay : t + c.arc_at-link.result.now.delay ≡ t + (arc w a).delay = ap (λ (x : Arc). t + x.delay) (sym (read_at w.net.arcs a c.arc_at-link.result.now no_arc c.arc_at-link.ensures.found)) in
    part_of_one c.args.plan.now.net.now c.tell.result (g.W.Watcher.took c.args.watcher.now) (g.W.Watcher.took c.tell.new.watcher) (g.W.Watcher.torn c.tell.new.watcher) _ _ _ _
    c.tell.ensures.one
    (λ x. ended_part w t a c.requires.arc c.args.store.now lane new c.requires.keeps l f p sent leaves due
    (λ h e legal sends stored happens. c.finish-ord.ensures.ends w h a e c.requires.arc legal sends stored happens)
    (λ h e on legal wire receives. c.push.ensures w h a e c.requires.arc on legal wire receives)
    (λ h e legal stands on at ord few. c.mpacket_ended.ensures.stands w h a e c.requires.arc legal stands on at ord few)
    refl refl refl refl refl delay refl refl refl c.put_back.new.store c.put_back.ensures c.finish-ord.ensures.frames)
    (ended_front w t a c.requires.arc c.args.store.now lane new c.requires.keeps l f p sent leaves due
    (λ h e legal sends stored happens. c.finish-ord.ensures.ends w h a e c.requires.arc legal sends stored happens)
    (λ h e on legal wire receives. c.push.ensures w h a e c.requires.arc on legal wire receives)
    (λ h e legal stands on at ord few. c.mpacket_ended.ensures.stands w h a e c.requires.arc legal stands on at ord few)
    refl refl refl refl refl delay refl refl refl)

pub put_back-requires : goal.put_back-requires
put_back-requires g c = done_is_out c.args.store.now (frames_of c.args.lane.now.outgoing.sender) c.finish-ord.result.done (frames_of c.finish-ord.new.self.sender)
    (all_held (scenario_of c.args.plan.now) c.args.store.now c.args.arc.0 c.args.lane.now c.requires.keeps) c.finish-ord.ensures.frames

pub push-requires-clause-room : goal.push-requires-clause-room
push-requires-clause-room g c =
    let w : Scenario = scenario_of c.args.plan.now in
    let l = c.next_to_leave-kind.result in
    let leaves = c.next_to_leave-kind.ensures.leaves in
    let m : PlainPacket = record { kind = l.kind; mdata = leaves.mdata; check = l.check } in
    subst (λ xs. TakesOctets c.args.lane.now.incoming.wire (length xs)) (sym leaves.octets)
    (goes_on w (routed w c.requires.fit) c.args.now.0 c.args.arc.0 c.requires.arc c.args.store.now c.args.lane.now c.requires.keeps c.requires.reached
    (c.ends.ensures.own.0 (search rules)) m leaves.leaves)

use Rattle.std.proofs.Common.{rules, ap, sym, ◌∙◌, ◌≡◌, [], Some, refl}
use Rattle.std.specs.Prelude.{slice_get, slice_index_or}
use Rattle.pre_sim.specs.declared.lanes.Lane.{Lane}
use Rattle.pre_sim.specs.Parts.{RingTells, RingFront, NoArrival, scenario_of}
use Rattle.pre_sim.proofs.Told.{tells_nothing}
use Rattle.pre_sim.proofs.Lists.{found_at}
use Rattle.pre_sim.proofs.LinksKept.{links_set}
use Rattle.pre_sim.proofs.TellParts.{then_part}
use Rattle.pre_sim.proofs.EntriesOne.{come_part, come_front}
use Rattle.pre_sim.proofs.entering.come.Goals as goal

pub returns-clause-links : goal.returns-clause-links
returns-clause-links g c =
    let a = c.args.arc.0 in
    let lane = slice_index_or c.args.lanes.now a c.index-lanes-arc.result in
    let found : slice_get c.args.lanes.now a ≡ Some c.index-lanes-arc.result = found_at c.args.lanes.now a c.index-lanes-arc.result (search rules) (sym c.index-lanes-arc.is) in
    links_set c.args.lanes.now a lane _ (found ∙ ap Some c.index-lanes-arc.is) refl

pub returns-clause-part : goal.returns-clause-part
returns-clause-part g c =
    let w = scenario_of c.args.plan.now in
    let a = c.args.arc.0 in
    let lane = slice_index_or c.args.lanes.now a c.index-lanes-arc.result in
    let found : slice_get c.args.lanes.now a ≡ Some c.index-lanes-arc.result = found_at c.args.lanes.now a c.index-lanes-arc.result (search rules) (sym c.index-lanes-arc.is) in
    let here : slice_get c.args.lanes.now a ≡ Some lane = found ∙ ap Some c.index-lanes-arc.is in
    let new : Lane = record { rings = c.enter.new.rings; outgoing = lane.outgoing; incoming = lane.incoming; partner = lane.partner; setting = lane.setting; link = lane.link } in
    let right = c.requires.keeps.1.apart.each_moving.0 in
    let lane_keeps = c.requires.keeps.1.apart.each_lane a lane here in
    then_part c.args.plan.now.net.now c.enter.result (g.W.Watcher.took c.args.watcher.now) (g.W.Watcher.took c.args.watcher.now) (g.W.Watcher.took c.enter.new.watcher)
    (g.W.Watcher.torn c.enter.new.watcher) []
    (RingTells c.args.now.0 a c.args.frame c.args.store.now c.enter.new.store lane.rings c.enter.new.rings) _
    (RingFront c.args.now.0 a c.args.frame c.args.store.now lane.rings) _ NoArrival
    (tells_nothing c.args.plan.now.net.now (g.W.Watcher.took c.args.watcher.now)) c.enter.ensures.part
    (λ entered es told. come_part w c.args.now.0 a c.args.frame c.args.store.now c.args.lanes.now lane here right lane_keeps c.requires.over c.enter.new.store new entered es
    (record { outgoing = refl; incoming = refl; partner = refl; setting = refl; link = refl }) told)
    (λ es front. come_front w c.args.now.0 a c.args.frame c.args.store.now c.args.lanes.now lane here right lane_keeps es front)

use Rattle.std.proofs.Common.{◌≡◌, ◌∷◌, []}
use Rattle.pre_laws.proofs.Fitting.{is_routed}
use Rattle.pre_history.specs.Scenario.{FrameOf}
use Rattle.pre_sim.specs.Parts.{ComePart, NoArrival, scenario_of}
use Rattle.pre_sim.specs.Sends.{ComesFront, comes_to, drops_of, sent_frame}
use Rattle.pre_sim.proofs.Told.{tells_nothing}
use Rattle.pre_sim.proofs.Keeping.{keep_sent}
use Rattle.pre_sim.proofs.TellParts.{then_part, on_ok}
use Rattle.pre_sim.proofs.EntriesRun.{comes_same, front_same}
use Rattle.pre_sim.proofs.EntriesCount.{goes_first}
use Rattle.pre_sim.proofs.entering.send.Goals as goal

pub come-requires-clause-keeps : goal.come-requires-clause-keeps
come-requires-clause-keeps g c =
    let w = scenario_of c.args.plan.now in
    let keeps = c.requires.keeps in
    let f = c.frame_of-frame.result in
    (keeps.0, keep_sent w f (FrameOf w c.args.number) c.args.store.now c.frame_of-frame.new.store c.args.lanes.now keeps.0 c.frame_of-frame.ensures.frame c.frame_of-frame.ensures.stored keeps.1)

pub come-requires-clause-over : goal.come-requires-clause-over
come-requires-clause-over g c =
    let w = scenario_of c.args.plan.now in
    goes_first w (is_routed w c.requires.fit.streams_fit c.requires.fit.script_fits) c.args.number c.first_arc-arc.result.0 c.frame_of-frame.result.frame c.requires.known
    c.first_arc-arc.ensures.first c.frame_of-frame.ensures.number

pub returns-clause-keeps : goal.returns-clause-keeps
returns-clause-keeps g c =
    let w = scenario_of c.args.plan.now in
    let f = c.frame_of-frame.result in
    on_ok c.args.plan.now.net.now c.come.result (g.W.Watcher.took c.args.watcher.now) (g.W.Watcher.took c.come.new.watcher) (g.W.Watcher.torn c.come.new.watcher)
    (λ entered es. ComePart w c.args.now.0 c.first_arc-arc.result.0 f c.frame_of-frame.new.store c.come.new.store c.args.lanes.now c.come.new.lanes entered es)
    (ComesFront w c.args.now.0 (comes_to c.first_arc-arc.result.0 f ∷ []) c.args.lanes.now) NoArrival _
    c.come.ensures.part
    (λ entered es part entries keeps. part.keeps entries (keep_sent w f
    (FrameOf w c.args.number) c.args.store.now c.frame_of-frame.new.store c.args.lanes.now entries c.frame_of-frame.ensures.frame c.frame_of-frame.ensures.stored keeps))

pub returns-clause-part : goal.returns-clause-part
returns-clause-part g c =
    let w = scenario_of c.args.plan.now in
    let t = c.args.now.0 in
    let a = c.first_arc-arc.result.0 in
    let f = c.frame_of-frame.result in
    let is : comes_to a f ∷ [] ≡ sent_frame w c.args.number ∷ [] = λ i. record { arc = c.first_arc-arc.ensures.first i; frame = c.frame_of-frame.ensures.number i } ∷ [] in
    then_part c.args.plan.now.net.now c.come.result (g.W.Watcher.took c.args.watcher.now) (g.W.Watcher.took c.args.watcher.now) (g.W.Watcher.took c.come.new.watcher)
    (g.W.Watcher.torn c.come.new.watcher) []
    (λ entered es. ComePart w t a f c.frame_of-frame.new.store c.come.new.store c.args.lanes.now c.come.new.lanes entered es) _
    (ComesFront w t (comes_to a f ∷ []) c.args.lanes.now) _ NoArrival
    (tells_nothing c.args.plan.now.net.now (g.W.Watcher.took c.args.watcher.now)) c.come.ensures.part
    (λ entered es part. comes_same w t c.args.lanes.now c.come.new.lanes (comes_to a f ∷ []) (sent_frame w c.args.number ∷ []) (drops_of entered) es is part.comes)
    (λ es front. front_same w t c.args.lanes.now (comes_to a f ∷ []) (sent_frame w c.args.number ∷ []) es is front)

use Rattle.std.proofs.Common.{rules, ◌<◌, ◌≤◌, [], ◌∷◌, refl, ◌++◌, true, false, length, None}
use Rattle.std.specs.Prelude.{set}
use Rattle.pre_rings.specs.Ports.{frames_at, capacity_at, with_frames}
use Rattle.pre_history.specs.History.{PlainEvent}
use Rattle.pre_sim.specs.Parts.{RingFront, NoArrival}
use Rattle.pre_sim.proofs.Told.{tells_nothing}
use Rattle.pre_sim.proofs.TellParts.{part_of_one, then_front}
use Rattle.pre_sim.proofs.entering.enter.Goals as goal

pub returns-in_err-tell-clause-part : goal.returns-in_err-tell-clause-part
returns-in_err-tell-clause-part g c =
    let f = c.args.frame in
    let full : capacity_at c.args.rings.now f.prio ≤ length (frames_at c.args.rings.now f.prio) = search rules in
    let front : RingFront c.args.now.0 c.args.arc.0 f c.args.store.now c.args.rings.now
    (PlainEvent.dropped (record { tick = c.args.now.0; arc = c.args.arc.0; prio = f.prio; frame = f.frame.0 }) ∷ []) =
    (set c.args.store.now f.slot None, c.args.rings.now, false, (full, refl, refl, refl)) in
    then_front c.args.net.now c.tell.result c.from_residual.result (g.W.Watcher.took c.args.watcher.now) (g.W.Watcher.took c.args.watcher.now) (g.W.Watcher.took c.tell.new.watcher)
    (g.W.Watcher.torn c.tell.new.watcher) []
    (λ x es. Unit {0}) (RingFront c.args.now.0 c.args.arc.0 f c.args.store.now c.args.rings.now) _ _ _
    (tells_nothing c.args.net.now (g.W.Watcher.took c.args.watcher.now))
    (part_of_one c.args.net.now c.tell.result (g.W.Watcher.took c.args.watcher.now) (g.W.Watcher.took c.tell.new.watcher) (g.W.Watcher.torn c.tell.new.watcher) _ (λ x es. Unit {0})
    (RingFront c.args.now.0 c.args.arc.0 f c.args.store.now c.args.rings.now) NoArrival c.tell.ensures.one (λ x. tt) front)
    (λ fs f. f) c.in_err-tell.field-0.0 c.in_err-tell.was (search rules)

pub returns-in_err-tell-2-clause-part : goal.returns-in_err-tell-2-clause-part
returns-in_err-tell-2-clause-part g c =
    let f = c.args.frame in
    let room : length (frames_at c.args.rings.now f.prio) < capacity_at c.args.rings.now f.prio = search rules in
    let front : RingFront c.args.now.0 c.args.arc.0 f c.args.store.now c.args.rings.now
    (PlainEvent.enter (record { tick = c.args.now.0; arc = c.args.arc.0; prio = f.prio; frame = f.frame.0 }) ∷ []) =
    (c.args.store.now, with_frames c.args.rings.now f.prio (frames_at c.args.rings.now f.prio ++ f ∷ []), true, (room, refl, refl, refl)) in
    then_front c.args.net.now c.tell-2.result c.from_residual-in_err-tell-2.result (g.W.Watcher.took c.args.watcher.now) (g.W.Watcher.took c.args.watcher.now)
    (g.W.Watcher.took c.tell-2.new.watcher) (g.W.Watcher.torn c.tell-2.new.watcher) []
    (λ x es. Unit {0}) (RingFront c.args.now.0 c.args.arc.0 f c.args.store.now c.args.rings.now) _ _ _
    (tells_nothing c.args.net.now (g.W.Watcher.took c.args.watcher.now))
    (part_of_one c.args.net.now c.tell-2.result (g.W.Watcher.took c.args.watcher.now) (g.W.Watcher.took c.tell-2.new.watcher) (g.W.Watcher.torn c.tell-2.new.watcher) _ (λ x es. Unit {0})
    (RingFront c.args.now.0 c.args.arc.0 f c.args.store.now c.args.rings.now) NoArrival c.tell-2.ensures.one (λ x. tt) front)
    (λ fs f. f) c.in_err-tell-2.field-0.0 c.in_err-tell-2.was (search rules)

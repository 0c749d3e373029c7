use Rattle.std.proofs.Common.{rules, ◌≡◌, refl, sym, subst, [], ◌∷◌, ◌++◌}
use Rattle.pre_history.specs.Scenario.{Scenario}
use Rattle.pre_history.specs.History.{PlainEvent}
use Rattle.pre_sim.specs.Parts.{CountsFront, ClosesPart, ClosesFront, TellsOne, end_event, scenario_of}
use Rattle.pre_sim.proofs.Told.{tells_nothing}
use Rattle.pre_sim.proofs.TellParts.{then_front, then_part, part_of_one}
use Rattle.pre_sim.proofs.ClosingParts.{closes, counts_front, end_front}
use Rattle.pre_sim.proofs.closing.close.Goals as goal

pub returns-in_err-counts-clause-part : goal.returns-in_err-counts-clause-part
returns-in_err-counts-clause-part g c =
    let w : Scenario = scenario_of c.args.plan.now in
    then_front c.args.plan.now.net.now c.counts.result c.from_residual.result (g.W.Watcher.took c.args.watcher.now) (g.W.Watcher.took c.args.watcher.now) (g.W.Watcher.took c.counts.new.watcher)
    (g.W.Watcher.torn c.counts.new.watcher) []
    _ (CountsFront w c.args.progress.now) _ _ _
    (tells_nothing c.args.plan.now.net.now (g.W.Watcher.took c.args.watcher.now)) c.counts.ensures.part
    (λ es front. counts_front w c.args.progress.now c.requires.until es front)
    c.in_err-counts.field-0.0 c.in_err-counts.was (search rules)

pub returns-clause-part : goal.returns-clause-part
returns-clause-part g c =
    let w : Scenario = scenario_of c.args.plan.now in
    let p = c.args.progress.now in
    let first = c.in_ok-counts.ensures.part in
    let net = c.args.plan.now.net.now in
    let told = subst (λ n. TellsOne net c.tell.result (g.W.Watcher.took c.counts.new.watcher) (g.W.Watcher.took c.tell.new.watcher) (g.W.Watcher.torn c.tell.new.watcher)
    (PlainEvent.end (record { until = w.script.until.0; sent = n; delivered = p.delivered; dropped = p.dropped }))) c.count_sent.ensures c.tell.ensures.one in
    then_part net c.tell.result (g.W.Watcher.took c.args.watcher.now) (g.W.Watcher.took c.counts.new.watcher) (g.W.Watcher.took c.tell.new.watcher) (g.W.Watcher.torn c.tell.new.watcher) first.0
    (λ x es. es ≡ end_event w p ∷ []) _ (λ es. es ≡ end_event w p ∷ []) _ _
    first.1
    (part_of_one net c.tell.result (g.W.Watcher.took c.counts.new.watcher) (g.W.Watcher.took c.tell.new.watcher) (g.W.Watcher.torn c.tell.new.watcher) (end_event w p)
    (λ x es. es ≡ end_event w p ∷ []) (λ es. es ≡ end_event w p ∷ []) _ told (λ x. refl) refl)
    (λ x es is. subst (λ gs. ClosesPart w p (first.0 ++ gs)) (sym is) (closes w p c.requires.until first.0 first.2))
    (λ es is. subst (λ gs. ClosesFront w p (first.0 ++ gs)) (sym is) (end_front w p c.requires.until first.0 first.2))

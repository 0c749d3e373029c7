use Rattle.std.proofs.Common.{rules, refl, sym, ◌∙◌, ◌≡◌, ◌+◌, ◌*◌, ◌++◌, length, [], subst, arith}
use Rattle.std.proofs.lemmas.List.{take_at, append-nil}
use Rattle.pre_sim.specs.Keeps.{AreReady, AreSettled, TakesIn}
use Rattle.pre_sim.specs.Parts.{LanesPart, LanesFront, SetsFront, ArrivalsAlias, scenario_of}
use Rattle.pre_sim.proofs.Told.{tells_nothing, tells_then}
use Rattle.pre_sim.proofs.TellParts.{then_front, then_early}
use Rattle.pre_sim.proofs.Readiness.{still_ready}
use Rattle.pre_sim.proofs.LandParts.{sets_lead, sets_front, lead_on, lead_front, lead_alias, lead_lanes, lead_reached, landed, landed_kept, twice, thrice}
use Rattle.pre_sim.proofs.ticks.land.Goals as goal

pub returns-in_err-sets-clause-part : goal.returns-in_err-sets-clause-part
returns-in_err-sets-clause-part g c =
    let w = scenario_of c.args.plan.now in
    let t = c.args.now.0 in
    let old = c.args.progress.now in
    then_front c.args.plan.now.net.now c.sets.result c.from_residual.result (g.W.Watcher.took c.args.watcher.now) (g.W.Watcher.took c.args.watcher.now)
    (g.W.Watcher.took c.sets.new.watcher) (g.W.Watcher.torn c.sets.new.watcher) []
    _ (SetsFront w t old) _ _ _
    (tells_nothing c.args.plan.now.net.now (g.W.Watcher.took c.args.watcher.now)) c.sets.ensures.part (λ es front. sets_front w t old es front)
    c.in_err-sets.field-0.0 c.in_err-sets.was (search rules)

pub ends-requires-clause-reached : goal.ends-requires-clause-reached
ends-requires-clause-reached g c =
    let w = scenario_of c.args.plan.now in
    let t = c.args.now.0 in
    let old = c.args.progress.now in
    let first = c.in_ok-sets.ensures.part in
    let set = sets_lead w t old c.sets.new.progress first.0 first.2 in
    lead_lanes w t old 1 _ _ _ _ _ first.0 set c.deref_mut.result.now c.deref_mut.ensures.value c.requires.reached

pub ends-requires-clause-ready : goal.ends-requires-clause-ready
ends-requires-clause-ready g c =
    subst (AreReady c.args.now.0) (sym c.deref_mut.ensures.value) (still_ready c.args.now.0 c.args.progress.now.lanes.items c.sets.new.progress.lanes.items c.in_ok-sets.ensures.links c.requires.ready)

pub returns-in_err-ends-clause-part : goal.returns-in_err-ends-clause-part
returns-in_err-ends-clause-part g c =
    let w = scenario_of c.args.plan.now in
    let t = c.args.now.0 in
    let old = c.args.progress.now in
    let first = c.in_ok-sets.ensures.part in
    let set = sets_lead w t old c.sets.new.progress first.0 first.2 in
    then_front c.args.plan.now.net.now c.ends.result c.from_residual-in_err-ends.result (g.W.Watcher.took c.args.watcher.now) (g.W.Watcher.took c.sets.new.watcher)
    (g.W.Watcher.took c.ends.new.watcher) (g.W.Watcher.torn c.ends.new.watcher) first.0
    _ (LanesFront w t 1 c.deref_mut.result.now) _ _ _
    first.1 c.ends.ensures.part (λ es front. lead_front w t old 1 _ _ _ _ _ first.0 set c.deref_mut.result.now c.deref_mut.ensures.value es front)
    c.in_err-ends.field-0.0 c.in_err-ends.was (search rules)

pub arrivals-requires-clause-reached : goal.arrivals-requires-clause-reached
arrivals-requires-clause-reached g c =
    let w = scenario_of c.args.plan.now in
    let t = c.args.now.0 in
    let old = c.args.progress.now in
    let first = c.in_ok-sets.ensures.part in
    let set = sets_lead w t old c.sets.new.progress first.0 first.2 in
    let second = c.in_ok-ends.ensures.part in
    let back : c.deref_mut-2.result.now ≡ c.ends.new.lanes = c.deref_mut-2.ensures.value ∙ take_at c.ends.new.lanes _ c.sets.new.progress.lanes.len (search rules) in
    let ended = lead_on w t old 1 _ _ _ _ _ first.0 set c.deref_mut.result.now c.deref_mut.ensures.value (length w.net.arcs) 0 c.ends.new.store c.ends.new.lanes [] second.0 second.2 in
    lead_reached w t old (1 + length w.net.arcs) _ _ _ _ _ (first.0 ++ second.0) ended c.deref_mut-2.result.now back refl
    c.sets.new.progress.relay first.2.kept.0 refl c.requires.reached c.requires.kept

pub arrivals-requires-clause-ready : goal.arrivals-requires-clause-ready
arrivals-requires-clause-ready g c =
    let w = scenario_of c.args.plan.now in
    let t = c.args.now.0 in
    let old = c.args.progress.now in
    let back : c.deref_mut-2.result.now ≡ c.ends.new.lanes = c.deref_mut-2.ensures.value ∙ take_at c.ends.new.lanes _ c.sets.new.progress.lanes.len (search rules) in
    subst (AreReady t) (sym back) c.in_ok-ends.ensures.ready

pub returns-in_err-delivered-clause-part : goal.returns-in_err-delivered-clause-part
returns-in_err-delivered-clause-part g c =
    let w = scenario_of c.args.plan.now in
    let t = c.args.now.0 in
    let old = c.args.progress.now in
    let first = c.in_ok-sets.ensures.part in
    let set = sets_lead w t old c.sets.new.progress first.0 first.2 in
    let second = c.in_ok-ends.ensures.part in
    let back : c.deref_mut-2.result.now ≡ c.ends.new.lanes = c.deref_mut-2.ensures.value ∙ take_at c.ends.new.lanes _ c.sets.new.progress.lanes.len (search rules) in
    let ended = lead_on w t old 1 _ _ _ _ _ first.0 set c.deref_mut.result.now c.deref_mut.ensures.value (length w.net.arcs) 0 c.ends.new.store c.ends.new.lanes [] second.0 second.2 in
    let told = tells_then c.args.plan.now.net.now (g.W.Watcher.took c.args.watcher.now) (g.W.Watcher.took c.sets.new.watcher) (g.W.Watcher.took c.ends.new.watcher) first.0 second.0 first.1 second.1 in
    then_early c.args.plan.now.net.now c.arrivals.result c.from_residual-in_err-delivered.result (g.W.Watcher.took c.args.watcher.now) (g.W.Watcher.took c.ends.new.watcher)
    (g.W.Watcher.took c.arrivals.new.watcher) (g.W.Watcher.torn c.arrivals.new.watcher) (first.0 ++ second.0)
    _ (LanesFront w t (1 + length w.net.arcs) c.deref_mut-2.result.now) (ArrivalsAlias w t c.deref_mut-2.result.now) _ _ _
    told
    (λ es front. lead_front w t old (1 + length w.net.arcs) _ _ _ _ _ (first.0 ++ second.0) ended c.deref_mut-2.result.now back es front)
    (λ a i es alias. lead_alias w t old (1 + length w.net.arcs) _ _ _ _ _ (first.0 ++ second.0) ended c.deref_mut-2.result.now back refl a i es alias)
    c.arrivals.ensures.part c.in_err-delivered.field-0.0 c.in_err-delivered.was (search rules)

pub expiries-requires-clause-ready : goal.expiries-requires-clause-ready
expiries-requires-clause-ready g c =
    let w = scenario_of c.args.plan.now in
    let t = c.args.now.0 in
    let old = c.args.progress.now in
    let back : c.deref_mut-3.result.now ≡ c.arrivals.new.lanes = c.deref_mut-3.ensures.value ∙ take_at c.arrivals.new.lanes _ c.sets.new.progress.lanes.len (search rules) in
    subst (AreReady t) (sym back) c.in_ok-delivered.ensures.ready

pub returns-in_err-expiries-clause-part : goal.returns-in_err-expiries-clause-part
returns-in_err-expiries-clause-part g c =
    let w = scenario_of c.args.plan.now in
    let t = c.args.now.0 in
    let old = c.args.progress.now in
    let first = c.in_ok-sets.ensures.part in
    let set = sets_lead w t old c.sets.new.progress first.0 first.2 in
    let second = c.in_ok-ends.ensures.part in
    let back : c.deref_mut-2.result.now ≡ c.ends.new.lanes = c.deref_mut-2.ensures.value ∙ take_at c.ends.new.lanes _ c.sets.new.progress.lanes.len (search rules) in
    let ended = lead_on w t old 1 _ _ _ _ _ first.0 set c.deref_mut.result.now c.deref_mut.ensures.value (length w.net.arcs) 0 c.ends.new.store c.ends.new.lanes [] second.0 second.2 in
    let told = tells_then c.args.plan.now.net.now (g.W.Watcher.took c.args.watcher.now) (g.W.Watcher.took c.sets.new.watcher) (g.W.Watcher.took c.ends.new.watcher) first.0 second.0 first.1 second.1 in
    let third = c.in_ok-delivered.ensures.part in
    let more = third.2.0 in
    let back' : c.deref_mut-3.result.now ≡ c.arrivals.new.lanes = c.deref_mut-3.ensures.value ∙ take_at c.arrivals.new.lanes _ c.sets.new.progress.lanes.len (search rules) in
    let arrived = lead_on w t old (1 + length w.net.arcs) _ _ _ _ _ (first.0 ++ second.0) ended c.deref_mut-2.result.now back
    (length w.net.arcs) c.in_ok-delivered.delivered c.arrivals.new.store c.arrivals.new.lanes more third.0 third.2.1 in
    let told' = tells_then c.args.plan.now.net.now (g.W.Watcher.took c.args.watcher.now) (g.W.Watcher.took c.ends.new.watcher) (g.W.Watcher.took c.arrivals.new.watcher)
    (first.0 ++ second.0) third.0 told third.1 in
    then_front c.args.plan.now.net.now c.expiries.result c.from_residual-in_err-expiries.result (g.W.Watcher.took c.args.watcher.now) (g.W.Watcher.took c.arrivals.new.watcher)
    (g.W.Watcher.took c.expiries.new.watcher) (g.W.Watcher.torn c.expiries.new.watcher) ((first.0 ++ second.0) ++ third.0)
    _ (LanesFront w t (1 + 2 * length w.net.arcs) c.deref_mut-3.result.now) _ _ _
    told' c.expiries.ensures.part
    (λ es front. lead_front w t old (1 + length w.net.arcs + length w.net.arcs) _ _ _ _ _ ((first.0 ++ second.0) ++ third.0) arrived c.deref_mut-3.result.now back' es
    (subst (λ k. LanesFront w t k c.deref_mut-3.result.now es) (twice (length w.net.arcs)) front))
    c.in_err-expiries.field-0.0 c.in_err-expiries.was (search rules)

pub returns-in_err-expiries-clause-same : goal.returns-in_err-expiries-clause-same
returns-in_err-expiries-clause-same g c =
    g.met.W.Watcher.same_trans c.args.watcher.now c.ends.new.watcher c.expiries.new.watcher
    (g.met.W.Watcher.same_trans c.args.watcher.now c.sets.new.watcher c.ends.new.watcher c.sets.ensures.same c.ends.ensures.same)
    (g.met.W.Watcher.same_trans c.ends.new.watcher c.arrivals.new.watcher c.expiries.new.watcher c.arrivals.ensures.same c.expiries.ensures.same)

pub returns-clause-same : goal.returns-clause-same
returns-clause-same g c =
    g.met.W.Watcher.same_trans c.args.watcher.now c.ends.new.watcher c.expiries.new.watcher
    (g.met.W.Watcher.same_trans c.args.watcher.now c.sets.new.watcher c.ends.new.watcher c.sets.ensures.same c.ends.ensures.same)
    (g.met.W.Watcher.same_trans c.ends.new.watcher c.arrivals.new.watcher c.expiries.new.watcher c.arrivals.ensures.same c.expiries.ensures.same)

pub returns-clause-kept : goal.returns-clause-kept
returns-clause-kept g c =
    let w = scenario_of c.args.plan.now in
    let t = c.args.now.0 in
    let old = c.args.progress.now in
    let first = c.in_ok-sets.ensures.part in
    let set = sets_lead w t old c.sets.new.progress first.0 first.2 in
    let second = c.in_ok-ends.ensures.part in
    let back : c.deref_mut-2.result.now ≡ c.ends.new.lanes = c.deref_mut-2.ensures.value ∙ take_at c.ends.new.lanes _ c.sets.new.progress.lanes.len (search rules) in
    let ended = lead_on w t old 1 _ _ _ _ _ first.0 set c.deref_mut.result.now c.deref_mut.ensures.value (length w.net.arcs) 0 c.ends.new.store c.ends.new.lanes [] second.0 second.2 in
    let told = tells_then c.args.plan.now.net.now (g.W.Watcher.took c.args.watcher.now) (g.W.Watcher.took c.sets.new.watcher) (g.W.Watcher.took c.ends.new.watcher) first.0 second.0 first.1 second.1 in
    let third = c.in_ok-delivered.ensures.part in
    let more = third.2.0 in
    let back' : c.deref_mut-3.result.now ≡ c.arrivals.new.lanes = c.deref_mut-3.ensures.value ∙ take_at c.arrivals.new.lanes _ c.sets.new.progress.lanes.len (search rules) in
    let arrived = lead_on w t old (1 + length w.net.arcs) _ _ _ _ _ (first.0 ++ second.0) ended c.deref_mut-2.result.now back
    (length w.net.arcs) c.in_ok-delivered.delivered c.arrivals.new.store c.arrivals.new.lanes more third.0 third.2.1 in
    let told' = tells_then c.args.plan.now.net.now (g.W.Watcher.took c.args.watcher.now) (g.W.Watcher.took c.ends.new.watcher) (g.W.Watcher.took c.arrivals.new.watcher)
    (first.0 ++ second.0) third.0 told third.1 in
    let fourth = c.in_ok-expiries.ensures.part in
    let expired = lead_on w t old (1 + length w.net.arcs + length w.net.arcs) _ _ _ _ _ ((first.0 ++ second.0) ++ third.0) arrived c.deref_mut-3.result.now back'
    (length w.net.arcs) 0 c.arrivals.new.store c.expiries.new.lanes [] fourth.0
    (subst (λ k. LanesPart w t k (length w.net.arcs) 0 c.arrivals.new.store c.arrivals.new.store c.deref_mut-3.result.now c.expiries.new.lanes [] fourth.0)
    (twice (length w.net.arcs)) (fourth.2 c.arrivals.new.store)) in
    let takes : TakesIn w old.relay c.arrivals.new.relay (([] ++ []) ++ more ++ []) = subst (λ r. TakesIn w r c.arrivals.new.relay (([] ++ []) ++ more ++ [])) first.2.kept.0
    (subst (TakesIn w c.sets.new.progress.relay c.arrivals.new.relay) (sym (append-nil more)) third.2.2) in
    landed_kept w t old _ (1 + length w.net.arcs + length w.net.arcs + length w.net.arcs) c.sets.new.progress.set c.expiries.new.lanes _ _
    (((first.0 ++ second.0) ++ third.0) ++ fourth.0) expired (thrice (length w.net.arcs)) takes (take_at c.expiries.new.lanes _ c.sets.new.progress.lanes.len (search rules))
    (search rules) c.requires.kept

pub returns-clause-settled : goal.returns-clause-settled
returns-clause-settled g c =
    subst (AreSettled c.args.now.0) (sym (take_at c.expiries.new.lanes _ c.sets.new.progress.lanes.len (search rules))) c.in_ok-expiries.ensures.settled

pub returns-clause-part : goal.returns-clause-part
returns-clause-part g c =
    let w = scenario_of c.args.plan.now in
    let t = c.args.now.0 in
    let old = c.args.progress.now in
    let first = c.in_ok-sets.ensures.part in
    let set = sets_lead w t old c.sets.new.progress first.0 first.2 in
    let second = c.in_ok-ends.ensures.part in
    let back : c.deref_mut-2.result.now ≡ c.ends.new.lanes = c.deref_mut-2.ensures.value ∙ take_at c.ends.new.lanes _ c.sets.new.progress.lanes.len (search rules) in
    let ended = lead_on w t old 1 _ _ _ _ _ first.0 set c.deref_mut.result.now c.deref_mut.ensures.value (length w.net.arcs) 0 c.ends.new.store c.ends.new.lanes [] second.0 second.2 in
    let told = tells_then c.args.plan.now.net.now (g.W.Watcher.took c.args.watcher.now) (g.W.Watcher.took c.sets.new.watcher) (g.W.Watcher.took c.ends.new.watcher) first.0 second.0 first.1 second.1 in
    let third = c.in_ok-delivered.ensures.part in
    let more = third.2.0 in
    let back' : c.deref_mut-3.result.now ≡ c.arrivals.new.lanes = c.deref_mut-3.ensures.value ∙ take_at c.arrivals.new.lanes _ c.sets.new.progress.lanes.len (search rules) in
    let arrived = lead_on w t old (1 + length w.net.arcs) _ _ _ _ _ (first.0 ++ second.0) ended c.deref_mut-2.result.now back
    (length w.net.arcs) c.in_ok-delivered.delivered c.arrivals.new.store c.arrivals.new.lanes more third.0 third.2.1 in
    let told' = tells_then c.args.plan.now.net.now (g.W.Watcher.took c.args.watcher.now) (g.W.Watcher.took c.ends.new.watcher) (g.W.Watcher.took c.arrivals.new.watcher)
    (first.0 ++ second.0) third.0 told third.1 in
    let fourth = c.in_ok-expiries.ensures.part in
    let expired = lead_on w t old (1 + length w.net.arcs + length w.net.arcs) _ _ _ _ _ ((first.0 ++ second.0) ++ third.0) arrived c.deref_mut-3.result.now back'
    (length w.net.arcs) 0 c.arrivals.new.store c.expiries.new.lanes [] fourth.0
    (subst (λ k. LanesPart w t k (length w.net.arcs) 0 c.arrivals.new.store c.arrivals.new.store c.deref_mut-3.result.now c.expiries.new.lanes [] fourth.0)
    (twice (length w.net.arcs)) (fourth.2 c.arrivals.new.store)) in
    let takes : TakesIn w old.relay c.arrivals.new.relay (([] ++ []) ++ more ++ []) = subst (λ r. TakesIn w r c.arrivals.new.relay (([] ++ []) ++ more ++ [])) first.2.kept.0
    (subst (TakesIn w c.sets.new.progress.relay c.arrivals.new.relay) (sym (append-nil more)) third.2.2) in (
      ((first.0 ++ second.0) ++ third.0) ++ fourth.0,
      tells_then c.args.plan.now.net.now (g.W.Watcher.took c.args.watcher.now) (g.W.Watcher.took c.arrivals.new.watcher) (g.W.Watcher.took c.expiries.new.watcher)
          ((first.0 ++ second.0) ++ third.0) fourth.0 told' fourth.1,
      landed w t old _ (1 + length w.net.arcs + length w.net.arcs + length w.net.arcs) c.sets.new.progress.set c.expiries.new.lanes _ _
          (((first.0 ++ second.0) ++ third.0) ++ fourth.0) expired (thrice (length w.net.arcs)) takes
          (take_at c.expiries.new.lanes _ c.sets.new.progress.lanes.len (search rules))
          c.in_ok-sets.ensures.counts.0 refl c.in_ok-sets.ensures.counts.1 c.sets.new.progress.delivered c.in_ok-delivered.delivered first.2.kept.3
          (omega arith) c.saturating_add-progress.ensures c.requires.fit.script_fits.sends_count
          (λ n h legal. c.deliveries_are_of_frames_sent.ensures.so_far w (c.files_give_routes.ensures w c.requires.fit.streams_fit c.requires.fit.script_fits) n h legal),
    )

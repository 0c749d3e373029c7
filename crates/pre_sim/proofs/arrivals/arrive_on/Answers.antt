use Rattle.std.proofs.Common.{rules, ◌∷◌, [], refl, sym, subst, None}
use Rattle.std.proofs.lemmas.Bool.{false≢true}
use Rattle.pre_history.specs.Moments.{Phase}
use Rattle.pre_history.specs.Scenario.{Scenario, FrameOf}
use Rattle.pre_history.specs.Rules.{arrival}
use Rattle.pre_sim.specs.Arriving.{KeepsInside, delivered_at}
use Rattle.pre_sim.specs.Telling.{TellsAll}
use Rattle.pre_sim.proofs.Told.{tells_nothing, tells_then}
use Rattle.pre_sim.specs.Parts.{ArrivalPart, LaneAlias, LaneFront, TellsOne, count_of, scenario_of}
use Rattle.pre_sim.proofs.ArrivalRooms.{finds_room, leads}
use Rattle.pre_sim.proofs.ArrivalParts.{HasLanded, GivesFrame, gives_frame, none_part, alias_part, arrival_front, plain_part, both_front, ends_here, kept_arrival, given_arrival}
use Rattle.pre_sim.proofs.FrameSizes.{routed}
use Rattle.pre_sim.proofs.Landings.{lane_with}
use Rattle.pre_sim.proofs.TellFronts.{one_failed}
use Rattle.pre_sim.proofs.arrivals.arrive_on.Goals as goal

pub returns-in_default-clause-part : goal.returns-in_default-clause-part
returns-in_default-clause-part g c =
    let w : Scenario = scenario_of c.args.plan.now in (
      [],
      tells_nothing w.net (g.W.Watcher.took c.args.watcher.now),
      none_part w c.args.now.0 c.args.arc.0 c.requires.arc c.args.lane.now c.land.new.incoming c.args.store.now c.args.relay.now c.in_default.ensures.lands,
    )

pub returns-in_default-outcome_of-clause-part : goal.returns-in_default-outcome_of-clause-part
returns-in_default-outcome_of-clause-part g c =
    let w : Scenario = scenario_of c.args.plan.now in (
      [],
      tells_nothing w.net (g.W.Watcher.took c.args.watcher.now),
      alias_part w c.args.now.0 c.args.arc.0 c.args.lane.now c.land.new.incoming c.in-Some.landing c.land.new.into c.requires.arc c.in-Some.ensures.lands c.requires.until
          (c.in_default-outcome_of.ensures.none.0 refl),
    )

pub returns-in_default-outcome_of-clause-same : goal.returns-in_default-outcome_of-clause-same
returns-in_default-outcome_of-clause-same g c = g.met.W.Watcher.same_refl c.args.watcher.now

pub returns-in_err-tell_arrival-clause-part : goal.returns-in_err-tell_arrival-clause-part
returns-in_err-tell_arrival-clause-part g c =
    let w : Scenario = scenario_of c.args.plan.now in
    let t = c.args.now.0 in
    let a = c.args.arc.0 in
    let old = c.args.lane.now in
    let store = c.args.store.now in
    let relay = c.args.relay.now in
    let x = c.in-Some.landing in
    let r = c.in-Some-outcome_of.outcome in
    let landed : HasLanded w t a old c.land.new.incoming x c.land.new.into c.listen.new.partner r = record {
      lands = c.in-Some.ensures.lands;
      some = λ e. false≢true (sym (c.in-Some-outcome_of.ensures.none.1 e));
      result = c.in-Some-outcome_of.ensures.some;
      listens = c.listen.ensures.hears;
      unheard = c.listen.ensures.unheard;
    } in
    one_failed w.net c.tell_arrival.result c.from_residual.result
    (g.W.Watcher.took c.args.watcher.now) (g.W.Watcher.took c.args.watcher.now) (g.W.Watcher.took c.tell_arrival.new.watcher) (g.W.Watcher.torn c.tell_arrival.new.watcher)
    [] (arrival t a x.ord r) (λ y es. ArrivalPart w t a (count_of y) store store relay relay old (lane_with old c.land.new.incoming c.listen.new.partner) es)
    (LaneFront w t (Phase.arrivals a) a None old) (LaneAlias w t (Phase.arrivals a) a None old)
    (tells_nothing w.net (g.W.Watcher.took c.args.watcher.now)) c.tell_arrival.ensures.one
    (arrival_front w t a c.requires.arc c.adverts_are_sent.ensures old c.land.new.incoming c.listen.new.partner x c.land.new.into r landed)
    c.in_err-tell_arrival.field-0.0 c.in_err-tell_arrival.was (search rules)

pub returns-in_default-given : goal.returns-in_default-given
returns-in_default-given g c =
    let w : Scenario = scenario_of c.args.plan.now in
    let t = c.args.now.0 in
    let a = c.args.arc.0 in
    let old = c.args.lane.now in
    let x = c.in-Some.landing in
    let r = c.in-Some-outcome_of.outcome in
    let landed : HasLanded w t a old c.land.new.incoming x c.land.new.into c.listen.new.partner r = record {
      lands = c.in-Some.ensures.lands;
      some = λ e. false≢true (sym (c.in-Some-outcome_of.ensures.none.1 e));
      result = c.in-Some-outcome_of.ensures.some;
      listens = c.listen.ensures.hears;
      unheard = c.listen.ensures.unheard;
    } in
    record {
      part = (
        arrival t a x.ord r ∷ [],
        c.in_ok-tell_arrival.ensures.one,
        plain_part w t a c.requires.arc c.adverts_are_sent.ensures old c.land.new.incoming c.listen.new.partner x c.land.new.into r landed c.args.store.now c.args.relay.now
            c.in_default-given.not-Frame,
      );
      link = refl;
      latest = c.requires.latest;
      cause = search rules;
      same = c.tell_arrival.ensures.same;
    }

pub keep_inside-requires-clause-takes : goal.keep_inside-requires-clause-takes
keep_inside-requires-clause-takes g c =
    finds_room (scenario_of c.args.plan.now) c.args.now.0 c.args.arc.0 c.requires.arc c.args.lane.now c.land.new.incoming c.in-Some.landing c.land.new.into c.args.relay.now c.args.store.now
    c.requires.reached c.in-Some.ensures.lands c.in-Frame.frame c.in-Frame.is

pub returns-then-keep_inside-clause-part : goal.returns-then-keep_inside-clause-part
returns-then-keep_inside-clause-part g c =
    let w : Scenario = scenario_of c.args.plan.now in
    let t = c.args.now.0 in
    let a = c.args.arc.0 in
    let old = c.args.lane.now in
    let store = c.args.store.now in
    let relay = c.args.relay.now in
    let x = c.in-Some.landing in
    let r = c.in-Some-outcome_of.outcome in
    let f = c.in-Frame.frame in
    let landed : HasLanded w t a old c.land.new.incoming x c.land.new.into c.listen.new.partner r = record {
      lands = c.in-Some.ensures.lands;
      some = λ e. false≢true (sym (c.in-Some-outcome_of.ensures.none.1 e));
      result = c.in-Some-outcome_of.ensures.some;
      listens = c.listen.ensures.hears;
      unheard = c.listen.ensures.unheard;
    } in
    let user : GivesFrame w t a old c.land.new.incoming x c.land.new.into f =
    gives_frame w t a old c.land.new.incoming x c.land.new.into (routed w c.requires.fit) (leads w t a old relay store c.requires.reached)
    c.in-Some.ensures.lands f c.in-Frame.is c.in-Some.ensures.frame in
    let keeps = subst (KeepsInside w t a f store c.keep_inside.new.store relay c.keep_inside.new.relay) c.if-keep_inside.true c.keep_inside.ensures.inside in (
      arrival t a x.ord r ∷ [],
      c.in_ok-tell_arrival.ensures.one,
      kept_arrival w t a c.requires.arc c.adverts_are_sent.ensures old c.land.new.incoming c.listen.new.partner x c.land.new.into r landed
          c.requires.fit (c.route_law.ensures.along w.net w.streams c.requires.fit.streams_fit) f user store c.keep_inside.new.store relay c.keep_inside.new.relay c.requires.stands keeps,
    )

pub returns-in_err-deliver-clause-part : goal.returns-in_err-deliver-clause-part
returns-in_err-deliver-clause-part g c =
    let w : Scenario = scenario_of c.args.plan.now in
    let t = c.args.now.0 in
    let a = c.args.arc.0 in
    let old = c.args.lane.now in
    let store = c.args.store.now in
    let relay = c.args.relay.now in
    let x = c.in-Some.landing in
    let r = c.in-Some-outcome_of.outcome in
    let f = c.in-Frame.frame in
    let landed : HasLanded w t a old c.land.new.incoming x c.land.new.into c.listen.new.partner r = record {
      lands = c.in-Some.ensures.lands;
      some = λ e. false≢true (sym (c.in-Some-outcome_of.ensures.none.1 e));
      result = c.in-Some-outcome_of.ensures.some;
      listens = c.listen.ensures.hears;
      unheard = c.listen.ensures.unheard;
    } in
    let user : GivesFrame w t a old c.land.new.incoming x c.land.new.into f =
    gives_frame w t a old c.land.new.incoming x c.land.new.into (routed w c.requires.fit) (leads w t a old relay store c.requires.reached)
    c.in-Some.ensures.lands f c.in-Frame.is c.in-Some.ensures.frame in
    let along = c.route_law.ensures.along w.net w.streams c.requires.fit.streams_fit in
    let keeps = subst (KeepsInside w t a f store c.keep_inside.new.store relay c.keep_inside.new.relay) c.if-keep_inside.false c.keep_inside.ensures.inside in
    let last = ends_here w t a c.requires.arc c.adverts_are_sent.ensures old c.land.new.incoming c.listen.new.partner x c.land.new.into r landed
    c.requires.fit along f user store c.keep_inside.new.store relay c.keep_inside.new.relay c.requires.stands keeps in
    one_failed w.net c.deliver.result c.from_residual-in_err-deliver.result
    (g.W.Watcher.took c.args.watcher.now) (g.W.Watcher.took c.tell_arrival.new.watcher) (g.W.Watcher.took c.deliver.new.watcher) (g.W.Watcher.torn c.deliver.new.watcher)
    (arrival t a x.ord r ∷ []) (delivered_at w.net t a f (FrameOf w f.0))
    (λ y es. ArrivalPart w t a (count_of y) store c.keep_inside.new.store relay c.keep_inside.new.relay old (lane_with old c.land.new.incoming c.listen.new.partner) es)
    (LaneFront w t (Phase.arrivals a) a None old) (LaneAlias w t (Phase.arrivals a) a None old)
    c.in_ok-tell_arrival.ensures.one
    (subst (λ octets. TellsOne w.net c.deliver.result (g.W.Watcher.took c.tell_arrival.new.watcher) (g.W.Watcher.took c.deliver.new.watcher) (g.W.Watcher.torn c.deliver.new.watcher)
    (delivered_at w.net t a f octets)) user.octets c.deliver.ensures.one)
    (both_front w t a c.requires.arc c.adverts_are_sent.ensures old c.land.new.incoming c.listen.new.partner x c.land.new.into r landed c.requires.fit along f user last)
    c.in_err-deliver.field-0.0 c.in_err-deliver.was (search rules)

pub returns-clause-part : goal.returns-clause-part
returns-clause-part g c =
    let w : Scenario = scenario_of c.args.plan.now in
    let t = c.args.now.0 in
    let a = c.args.arc.0 in
    let old = c.args.lane.now in
    let store = c.args.store.now in
    let relay = c.args.relay.now in
    let x = c.in-Some.landing in
    let r = c.in-Some-outcome_of.outcome in
    let f = c.in-Frame.frame in
    let landed : HasLanded w t a old c.land.new.incoming x c.land.new.into c.listen.new.partner r = record {
      lands = c.in-Some.ensures.lands;
      some = λ e. false≢true (sym (c.in-Some-outcome_of.ensures.none.1 e));
      result = c.in-Some-outcome_of.ensures.some;
      listens = c.listen.ensures.hears;
      unheard = c.listen.ensures.unheard;
    } in
    let user : GivesFrame w t a old c.land.new.incoming x c.land.new.into f =
    gives_frame w t a old c.land.new.incoming x c.land.new.into (routed w c.requires.fit) (leads w t a old relay store c.requires.reached)
    c.in-Some.ensures.lands f c.in-Frame.is c.in-Some.ensures.frame in
    let keeps = subst (KeepsInside w t a f store c.keep_inside.new.store relay c.keep_inside.new.relay) c.if-keep_inside.false c.keep_inside.ensures.inside in
    let told = subst (λ octets. TellsAll w.net (g.W.Watcher.took c.tell_arrival.new.watcher) (g.W.Watcher.took c.deliver.new.watcher) (delivered_at w.net t a f octets ∷ []))
    user.octets c.in_ok-deliver.ensures.one in (
      arrival t a x.ord r ∷ delivered_at w.net t a f (FrameOf w f.0) ∷ [],
      tells_then w.net (g.W.Watcher.took c.args.watcher.now) (g.W.Watcher.took c.tell_arrival.new.watcher) (g.W.Watcher.took c.deliver.new.watcher)
          (arrival t a x.ord r ∷ []) (delivered_at w.net t a f (FrameOf w f.0) ∷ []) c.in_ok-tell_arrival.ensures.one told,
      given_arrival w t a c.requires.arc c.adverts_are_sent.ensures old c.land.new.incoming c.listen.new.partner x c.land.new.into r landed
          c.requires.fit (c.route_law.ensures.along w.net w.streams c.requires.fit.streams_fit) f user store c.keep_inside.new.store relay c.keep_inside.new.relay c.requires.stands keeps,
    )

pub returns-clause-same : goal.returns-clause-same
returns-clause-same g c = g.met.W.Watcher.same_trans c.args.watcher.now c.tell_arrival.new.watcher c.deliver.new.watcher c.tell_arrival.ensures.same c.in_ok-deliver.ensures.same

pub returns-in_err-deliver-clause-same : goal.returns-in_err-deliver-clause-same
returns-in_err-deliver-clause-same g c =
    g.met.W.Watcher.same_trans c.args.watcher.now c.tell_arrival.new.watcher c.deliver.new.watcher c.tell_arrival.ensures.same c.deliver.ensures.same

-- When an arc of the pair that negotiates is good and active, and what it begins.
use Rattle.std.proofs.Common.{ℕ, zero, suc, ◌≡◌, ◌≢◌, ◌-◌, ◌<◌, ◌≤◌, true, false, List, [], ◌∷◌, ◌++◌}
use Rattle.std.proofs.Common.{length, take, drop, refl, sym, ◌∙◌, ap, inl, inr, arith, subst, Some, length-append}
use Rattle.std.specs.Prelude.{slice_get, Any}
use Rattle.pre_base.specs.Last.{last}
use Rattle.std.specs.Bool.{Decides}
use Rattle.std.specs.List.{AllByRecursion as Every}
use Rattle.std.proofs.lemmas.Bool.{cases_lt}
use Rattle.pre_crc.specs.Checks.{Fcs}
use Rattle.pre_crc.proofs.CheckFacts.{length-Fcs}
use Rattle.pre_frame.specs.Layout.{address_of}
use Rattle.pre_topo.specs.declared.nodes.Node.{Node}
use Rattle.pre_topo.specs.declared.nodes.Timing.{Timing}
use Rattle.pre_topo.specs.declared.arcs.Arc.{Arc}
use Rattle.pre_topo.specs.declared.arcs.Mode.TheVariants as mode
use Rattle.pre_topo.specs.Arcs.{reverse_of}
use Rattle.pre_topo.specs.Rules.{IsNetwork}
use Rattle.pre_topo.specs.Pair.{default_timing, pair_nodes}
use Rattle.pre_streams.specs.declared.rows.Streams.{Streams}
use Rattle.pre_script.specs.declared.scripts.Script.{Script}
use Rattle.pre_mpacket.specs.declared.packets.Kind.TheVariants as kind
use Rattle.pre_mpacket.specs.Spelling.{PlainPacket}
use Rattle.pre_mpacket.specs.Arrivals.{Given, Gives}
use Rattle.pre_lldp.specs.LldpLayout.{lldp_frame, padded, nearest_bridge, lldp_type, lldpdu_of}
use Rattle.pre_lldp.specs.LinkState as link
use Rattle.pre_lldp.proofs.ReadBack.{sent-length, sent-advert}
use Rattle.pre_history.specs.declared.events.What.TheVariants as what
use Rattle.pre_history.specs.declared.events.Outcome.TheVariants as outcome
use Rattle.pre_history.specs.Scenario.{Scenario, arc}
use Rattle.pre_history.specs.Moments.{Phase}
use Rattle.pre_history.specs.History.{PlainEvent, History, Begin, Ended, Arrive}
use Rattle.pre_history.specs.Queries.{Begins, Ends, Arrivals, Entries}
use Rattle.pre_history.specs.Octets.{WholeOf, Air}
use Rattle.pre_history.specs.LinkState.{Began, LldpReceived, VerifiesBefore, RespondTicks, Good, Active, ActiveBefore, Verified, VerifyWanted, RespondOwed}
use Rattle.pre_history.specs.Starts.{Item, Choice, There, place, without_octets, lldp_begins}
use Rattle.pre_history.specs.Rules.{Expiry, HappensIn}
use Rattle.pre_history.specs.Legal.{LegalUpTo}
use Rattle.pre_history.proofs.Lists.{any_at, found_at, every_at}
use Rattle.pre_laws.specs.Routed.{IsRouted}
use Rattle.pre_laws.proofs.Reassembled.{told, spelled}
use Rattle.pre_witnesses.specs.VerifiedLink.{negotiating_arcs, VerifiesLink, first_advert, advert_check}
use Rattle.pre_witnesses.proofs.Receptions.{frame_given}
use Rattle.pre_witnesses.proofs.Occupation.{free, IsBusy, empty_waits, begins_now}

-- what such a scenario may still choose
pub record Negotiating : Type 0 where
  pub rules : IsNetwork 4 default_timing pair_nodes negotiating_arcs
  pub streams : Streams

abbrev pub nothing_sent : Script
nothing_sent = record { sends = []; sets = []; losses = []; damages = []; until = record { 0 = 240 } }

abbrev pub scenario_of : Negotiating → Scenario
scenario_of g = record {
  net = record { express_from = 4; timing = default_timing; nodes = pair_nodes; arcs = negotiating_arcs; rules = g.rules };
  streams = g.streams;
  script = nothing_sent;
}

-- each scenario with these files is one of those
pub of_all : (P : Scenario → Type 0) → ((g : Negotiating) → P (scenario_of g)) → (w : Scenario) → VerifiesLink w → P w
of_all P all w s =
    let one : NetworkOf 4 default_timing pair_nodes negotiating_arcs = (λ rules. all (record { rules = rules; streams = w.streams })) in
    let net = subst (λ e. NetworkOf e w.net.timing w.net.nodes w.net.arcs) (sym s.net.express_from)
    (subst (λ t. NetworkOf 4 t w.net.nodes w.net.arcs) (sym s.net.timing)
    (subst (λ n. NetworkOf 4 default_timing n w.net.arcs) (sym s.net.nodes)
    (subst (λ a. NetworkOf 4 default_timing pair_nodes a) (sym s.net.arcs) one))) w.net.rules in
    subst (λ (script : Script). P (record { net = w.net; streams = w.streams; script = script }))
    (λ i. record { sends = sym s.sends i; sets = sym s.sets i; losses = sym s.losses i; damages = sym s.damages i; until = record { 0 = sym s.until i } }) net
  where
    NetworkOf : ℕ → Timing → List Node → List Arc → Type 0
    NetworkOf e t n a = (rules : IsNetwork e t n a) → P (record { net = record { express_from = e; timing = t; nodes = n; arcs = a; rules = rules }; streams = w.streams; script = nothing_sent })

take_front : (xs ys : List ℕ) (n : ℕ) → n ≡ length xs → take n (xs ++ ys) ≡ xs
take_front [] [] zero is = refl
take_front [] (y ∷ ys) zero is = refl
take_front [] ys (suc n) is = absurd (omega (arith, is))
take_front (x ∷ xs) ys zero is = absurd (omega (arith, is))
take_front (x ∷ xs) ys (suc n) is = ap (λ zs. x ∷ zs) (take_front xs ys n (omega (arith, is)))

drop_front : (xs ys : List ℕ) (n : ℕ) → n ≡ length xs → drop n (xs ++ ys) ≡ ys
drop_front [] ys zero is = refl
drop_front [] ys (suc n) is = absurd (omega (arith, is))
drop_front (x ∷ xs) ys zero is = absurd (omega (arith, is))
drop_front (x ∷ xs) ys (suc n) is = drop_front xs ys n (omega (arith, is))

-- what was received on the arc with number a was sent on the reverse one, by the node of that number
abbrev pub advert_from : ℕ → List ℕ
advert_from b = lldp_frame b b first_advert

abbrev pub advert_begin : ℕ → Begin
advert_begin b = record { tick = 0; arc = b; ord = 0; kind = kind.Express; what = what.Lldp; from = 0 }

abbrev pub advert_end : ℕ → Ended
advert_end b = record { tick = 72; arc = b; ord = 0; size = 64; check = advert_check b }

abbrev pub advert_arrival : ℕ → Arrive
advert_arrival b = record { tick = 72; arc = b; ord = 0; result = outcome.Lldp }

module _ (g : Negotiating) where
  abbrev w : Scenario
  w = scenario_of g

  pub routed : IsRouted w
  routed = record {
    routes = λ f lt. absurd (omega (arith, lt));
    once = λ f lt. absurd (omega (arith, lt));
    arcs = λ f a lt. absurd (omega (arith, lt));
    sizes = λ f lt. absurd (omega (arith, lt));
  }

  pub talks : (a : ℕ) → a < 2 → (arc w a).mode ≡ mode.Negotiate
  talks zero lt = refl
  talks (suc zero) lt = refl
  talks (suc (suc a)) lt = absurd (omega (arith, lt))

  -- ---- an advert that arrived

  pub advert_given : (n : ℕ) (h : History) → LegalUpTo w n h → (b : ℕ) → b < 2 → slice_get (Begins h b) 0 ≡ Some (advert_begin b) → slice_get (Ends h b) 0 ≡ Some (advert_end b)
      → WholeOf w h (advert_begin b) ≡ advert_from b → Gives (Air w h b) 0 (Given.frame (advert_from b))
  unfolding lldp_frame
  advert_given n h legal b b_lt at over whole =
      let user = padded (nearest_bridge ++ address_of b ++ lldp_type ++ lldpdu_of b b first_advert) in
      let long : length (user ++ Fcs user) ≡ 64 = sent-length b b first_advert (omega (arith, b_lt)) in
      let user_long : 60 ≡ length user = omega (arith, long, length-append user (Fcs user), length-Fcs user) in
      let m : PlainPacket = told w routed n h legal b b_lt 0 (advert_begin b) (advert_end b) at over in
      frame_given (Air w h b) 0 m (spelled w routed n h legal b b_lt 0 (advert_begin b) (advert_end b) at over (refl, refl)) user refl
      (ap (take 60) whole ∙ take_front user (Fcs user) 60 user_long)
      (drop_front user (Fcs user) (length (user ++ Fcs user) - 4) (omega (arith, long, user_long))) (omega (arith, user_long)) (omega (arith, user_long))

  -- ---- Good

  -- the reverse arc's advert has arrived and gives what it says
  pub record HasHeard (h : History) (a : ℕ) : Type 0 where
    pub received : (t : ℕ) → 72 ≤ t → LldpReceived h a t ≡ advert_arrival (reverse_of a) ∷ []
    pub none_before : (t : ℕ) → t < 72 → LldpReceived h a t ≡ []
    pub given : Gives (Air w h (reverse_of a)) 0 (Given.frame (advert_from (reverse_of a)))

  not_good : (h : History) (a t : ℕ) → LldpReceived h a t ≡ [] → Good w h a t → ⊥
  unfolding Good
  not_good h a t none (on, (heard, (x, last', says), counts, enabled)) = let is = ap last none in cc (sym is, last')

  good : (h : History) (a t : ℕ) → a < 2 → HasHeard h a → 72 ≤ t → t < 1000 → Good w h a t
  unfolding Good
  good h a t lt has from to = (
    refl,
    (
      record { tick = 72; says = first_advert },
      (
        advert_arrival (reverse_of a),
        ap last (has.received t from),
        (refl, (advert_from (reverse_of a), has.given, sent-advert (reverse_of a) (reverse_of a) first_advert (small a lt) (omega arith) (omega arith))),
      ),
      omega (arith, to),
      refl,
    ),
  )
    where
      small : (a : ℕ) → a < 2 → reverse_of a < 65536
      small zero lt = omega arith
      small (suc zero) lt = omega arith
      small (suc (suc a)) lt = absurd (omega (arith, lt))

  -- ---- Active

  not_verified : (h : History) (a t : ℕ) → Every (λ (r : ℕ). t < r) (RespondTicks h a) → Verified w h a t → ⊥
  not_verified h a t late (u, from, (k, v, k_lt, k_at, (le, (j, r, j_lt, j_at, (after, by))))) =
      let more : t < r = every_at (λ (r : ℕ). t < r) (RespondTicks h a) j r late (found_at (RespondTicks h a) j r j_lt j_at) in
      omega (arith, more, by)

  pub inactive : (h : History) (a t : ℕ) → a < 2 → Every (λ (r : ℕ). t < r) (RespondTicks h a) → Active w h a t → ⊥
  unfolding Active
  inactive h zero t lt late on = not_verified h 0 t late on
  inactive h (suc zero) t lt late on = not_verified h 1 t late on
  inactive h (suc (suc a)) t lt late on = omega (arith, lt)

  decides_not : (P : Type 0) → ¬ P → Decides false P
  decides_not P none = ((λ e. absurd (cc e)), (λ p. absurd (none p)))

  pub no_change : (h : History) (a t : ℕ) → a < 2 → RespondTicks h a ≡ [] → Expiry w h t a []
  no_change h a t lt none =
      let late : (t : ℕ) → Every (λ (r : ℕ). t < r) (RespondTicks h a) = (λ t. subst (Every (λ (r : ℕ). t < r)) (sym none) tt) in
      inl (talks a lt, (false, false, decides_not (Active w h a t) (inactive h a t lt (late t)), decides_not (ActiveBefore w h a t) (before t late), refl))
    where
      before : (t : ℕ) → ((t : ℕ) → Every (λ (r : ℕ). t < r) (RespondTicks h a)) → ActiveBefore w h a t → ⊥
      before zero late on = on
      before (suc t) late on = inactive h a t lt (late t) on

  active_if : (h : History) (a t : ℕ) → a < 2 → Verified w h a t → Active w h a t
  unfolding Active
  active_if h zero t lt is = is
  active_if h (suc zero) t lt is = is
  active_if h (suc (suc a)) t lt is = absurd (omega (arith, lt))

  -- a respond came at 240, to a verify that began at 84
  pub rises_now : (h : History) (a : ℕ) → a < 2 → HasHeard h a → VerifiesBefore h a 240 ≡ record { began = 84; ended = Some 156 } ∷ [] → RespondTicks h a ≡ 240 ∷ []
      → Expiry w h 240 a (PlainEvent.active 240 a true ∷ [])
  rises_now h a lt has verifies responds =
      let late : Every (λ (r : ℕ). 239 < r) (RespondTicks h a) = subst (Every (λ (r : ℕ). 239 < r)) (sym responds) (omega arith, tt) in
      inl (talks a lt, (true, false, ((λ e. active_if h a 240 lt verified), (λ on. refl)), decides_not (Active w h a 239) (inactive h a 239 lt late), refl))
    where
      verified : Verified w h a 240
      verified = (
        84,
        (omega arith, λ i from to. good h a i lt has (omega (arith, from)) (omega (arith, to))),
        any_at (λ (v : link.Verify). (84 ≤ v.began) × Any (λ r. (v.began < r) × (r ≤ 240)) (RespondTicks h a)) (VerifiesBefore h a 240) 0 (record { began = 84; ended = Some 156 })
            (ap (λ xs. slice_get xs 0) verifies)
            (omega arith, any_at (λ (r : ℕ). (84 < r) × (r ≤ 240)) (RespondTicks h a) 0 240 (ap (λ xs. slice_get xs 0) responds) (omega arith, omega arith)),
      )

  -- ---- what isn't there

  module _ (h : History) (a t : ℕ) where
    not_express : ((p : ℕ) → Entries h a p ≡ []) → (c : Choice) → There w h a t Item.express c → ⊥
    not_express none c (f, (p, from, to, (behind, waits), above), is) = let empty = empty_waits w h a t p (none p) in cc (sym empty, waits)

    not_owed : Every (λ (x : Arrive). x.result ≢ outcome.Verify) (Arrivals h (reverse_of a)) → RespondOwed w h a t → ⊥
    not_owed none (v, by, (k, x, k_lt, k_at, (is, at)), since) =
        every_at (λ (x : Arrive). x.result ≢ outcome.Verify) (Arrivals h (reverse_of a)) k x none (found_at (Arrivals h (reverse_of a)) k x k_lt k_at) is

    not_wanted : ((i : ℕ) → LldpReceived h a i ≡ []) → VerifyWanted w h a t → ⊥
    not_wanted none (unverified, (u, ((le, goods), least), few, over)) = not_good h a u (none u) (goods u (omega arith) le)

  -- ---- what begins

  module _ (h : History) (a : ℕ) (a_lt : a < 2) (silent : (p : ℕ) → Entries h a p ≡ []) where
    advert_first : Arrivals h (reverse_of a) ≡ [] → (i : Item) (c : Choice) → place i < 4 → There w h a 0 i c → ⊥
    advert_first none Item.express c lt here = not_express h a 0 silent c here
    advert_first none Item.respond c lt here = not_owed h a 0 (subst (Every (λ (x : Arrive). x.result ≢ outcome.Verify)) (sym none) tt) here.1
    advert_first none Item.verify c lt here = not_wanted h a 0 (λ i. rw none refl) here.1
    advert_first none Item.lldp c lt here = absurd (omega (arith, lt))
    advert_first none Item.rest c lt here = absurd (omega (arith, lt))
    advert_first none Item.preemptable c lt here = absurd (omega (arith, lt))

    pub advert_starts : Every (λ (b : Begin). ¬ IsBusy w h a 0 b) (Begins h a) → Arrivals h (reverse_of a) ≡ []
        → HappensIn w h 0 (Phase.starts a) (PlainEvent.begin (record { tick = 0; arc = a; ord = length (Begins h a); kind = kind.Express; what = what.Lldp; from = 0 }) ∷ [])
    advert_starts idle none =
        begins_now w h a 0 Item.lldp lldp_begins (free w h a 0 idle)
        (talks a a_lt, (0, omega arith, inr ((λ gone. cc gone), inl refl), λ i low high. absurd (omega (arith, high))), refl) (λ j d lt. advert_first none j d lt)

    verify_first : Every (λ (x : Arrive). x.result ≢ outcome.Verify) (Arrivals h (reverse_of a)) → (i : Item) (c : Choice) → place i < 3 → There w h a 84 i c → ⊥
    verify_first none Item.express c lt here = not_express h a 84 silent c here
    verify_first none Item.respond c lt here = not_owed h a 84 none here.1
    verify_first none Item.verify c lt here = absurd (omega (arith, lt))
    verify_first none Item.lldp c lt here = absurd (omega (arith, lt))
    verify_first none Item.rest c lt here = absurd (omega (arith, lt))
    verify_first none Item.preemptable c lt here = absurd (omega (arith, lt))

    pub verify_starts : Every (λ (b : Begin). ¬ IsBusy w h a 84 b) (Begins h a) → Every (λ (x : Arrive). x.result ≢ outcome.Verify) (Arrivals h (reverse_of a))
        → HasHeard h a → RespondTicks h a ≡ [] → VerifiesBefore h a 84 ≡ []
        → HappensIn w h 84 (Phase.starts a) (PlainEvent.begin (record { tick = 84; arc = a; ord = length (Begins h a); kind = kind.Verify; what = what.Nothing; from = 0 }) ∷ [])
    verify_starts idle none has responds verifies = begins_now w h a 84 Item.verify (without_octets kind.Verify) (free w h a 84 idle) (talks a a_lt, wanted, refl) (λ j d lt. verify_first none j d lt)
      where
        least : (v : ℕ) → link.GoodFrom (Good w h a) v 84 → 72 ≤ v
        least v (le, goods) = elim (cases_lt v 72) [
          | inl early ↦ absurd (not_good h a v (has.none_before v early) (goods v (omega arith) le))
          | inr late ↦ late
        ]

        wanted : VerifyWanted w h a 84
        wanted = (
          not_verified h a 84 (subst (Every (λ (r : ℕ). 84 < r)) (sym responds) tt),
          (
            72,
            ((omega arith, λ i from to. good h a i a_lt has from (omega (arith, to))), least),
            subst (λ (vs : List link.Verify). length (link.verifies_since 72 vs) < 3) (sym verifies) (omega arith),
            subst (λ (vs : List link.Verify). link.IsOver 10000000 84 (link.last_verify (link.verifies_since 72 vs))) (sym verifies) tt,
          ),
        )

    respond_first : (i : Item) (c : Choice) → place i < 2 → There w h a 168 i c → ⊥
    respond_first Item.express c lt here = not_express h a 168 silent c here
    respond_first Item.respond c lt here = absurd (omega (arith, lt))
    respond_first Item.verify c lt here = absurd (omega (arith, lt))
    respond_first Item.lldp c lt here = absurd (omega (arith, lt))
    respond_first Item.rest c lt here = absurd (omega (arith, lt))
    respond_first Item.preemptable c lt here = absurd (omega (arith, lt))

    pub respond_starts : Every (λ (b : Begin). ¬ IsBusy w h a 168 b) (Begins h a)
        → slice_get (Arrivals h (reverse_of a)) 1 ≡ Some (record { tick = 156; arc = reverse_of a; ord = 1; result = outcome.Verify })
        → Every (λ (b : Begin). b.kind ≢ kind.Respond) (Begins h a)
        → HappensIn w h 168 (Phase.starts a) (PlainEvent.begin (record { tick = 168; arc = a; ord = length (Begins h a); kind = kind.Respond; what = what.Nothing; from = 0 }) ∷ [])
    respond_starts idle here none = begins_now w h a 168 Item.respond (without_octets kind.Respond) (free w h a 168 idle) (talks a a_lt, owed, refl) (λ j d lt. respond_first j d lt)
      where
        not_begun : (i : ℕ) → Began h a kind.Respond i → ⊥
        not_begun i (k, b, k_lt, k_at, (is, at)) = every_at (λ (b : Begin). b.kind ≢ kind.Respond) (Begins h a) k b none (found_at (Begins h a) k b k_lt k_at) is

        owed : RespondOwed w h a 168
        owed = (
          156,
          omega arith,
          any_at (λ (x : Arrive). (x.result ≡ outcome.Verify) × (x.tick ≡ 156)) (Arrivals h (reverse_of a)) 1 (record { tick = 156; arc = reverse_of a; ord = 1; result = outcome.Verify }) here
              (refl, refl),
          λ i from to. not_begun i,
        )

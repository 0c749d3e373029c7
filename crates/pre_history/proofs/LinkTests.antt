-- The state of an arc is that of a link, heard and computed.
use Rattle.std.proofs.Common.{ℕ, zero, suc, ◌≡◌, ◌&&◌, ◌+◌, ◌*◌, ◌<◌, ◌≤◌, nat_le, Bool, true, List, [], ◌∷◌, refl, sym, ◌∙◌, ap, arith, subst, Some}
use Rattle.std.specs.Prelude.{◌↔◌}
use Rattle.std.specs.Bool.{Decides}
use Rattle.std.specs.List.{AllZip}
use Rattle.std.proofs.lemmas.Bool.{and_parts}
use Rattle.pre_topo.specs.declared.arcs.Mode.TheVariants as mode
use Rattle.pre_topo.specs.Arcs.{reverse_of}
use Rattle.pre_script.specs.declared.scripts.Setting.TheVariants as setting
use Rattle.pre_mpacket.specs.Arrivals.{Given}
use Rattle.pre_lldp.specs.LldpLayout.{advert_of}
use Rattle.pre_lldp.specs.Ages.{Heard, last_heard, CountsEnabled}
use Rattle.pre_lldp.specs.LinkState as link
use Rattle.pre_history.specs.Scenario.{Scenario, arc}
use Rattle.pre_history.specs.History.{History, Arrive}
use Rattle.pre_history.specs.Selected.{is_lldp_result}
use Rattle.pre_history.specs.Queries.{Arrivals, SettingOf}
use Rattle.pre_history.specs.Octets.{Air}
use Rattle.pre_history.specs.LinkState.{Says, LldpReceived, Good, AreHeard, VerifiesBefore, RespondTicks, ActiveIn, Active, VerifyWanted}
use Rattle.pre_history.proofs.Arrived.{OneGiven}
use Rattle.pre_history.proofs.Chosen.{from_filter, last_there}
use Rattle.pre_history.proofs.Unread.{verified_like}
use Rattle.pre_base.specs.Last.{last}
use Rattle.pre_history.proofs.NatTests.{by_then}

some_time : (t s ttl unit : ℕ) → s ≤ t → t < s + ttl * unit → 0 < ttl
some_time t s zero unit by lt = absurd (omega (arith, by, lt))
some_time t s (suc ttl) unit by lt = omega arith

-- ---- the last of what was heard

last_pair : {X : Type 0} (R : X → Heard → Type 0) (xs : List X) (ys : List Heard) (x : X) → AllZip R xs ys → last xs ≡ Some x → (y : Heard) × (last_heard ys ≡ Some y) × R x y
last_pair R [] ys x pairs is = absurd (cc is)
last_pair R (z ∷ xs) [] x pairs is = absurd pairs
last_pair R (z ∷ []) (y ∷ []) x (here, more) is = (y, refl, subst (λ v. R v y) (cc is) here)
last_pair R (z ∷ []) (y ∷ v ∷ ys) x (here, more) is = absurd more
last_pair R (z ∷ u ∷ xs) (y ∷ []) x (here, more) is = absurd more
last_pair R (z ∷ u ∷ xs) (y ∷ v ∷ ys) x (here, more) is = last_pair R (u ∷ xs) (v ∷ ys) x more is

pair_last : {X : Type 0} (R : X → Heard → Type 0) (xs : List X) (ys : List Heard) (y : Heard) → AllZip R xs ys → last_heard ys ≡ Some y → (x : X) × (last xs ≡ Some x) × R x y
pair_last R xs [] y pairs is = absurd (cc is)
pair_last R [] (v ∷ ys) y pairs is = absurd pairs
pair_last R (x ∷ []) (v ∷ []) y (here, more) is = (x, refl, subst (R x) (cc is) here)
pair_last R (x ∷ u ∷ xs) (v ∷ []) y (here, more) is = absurd more
pair_last R (x ∷ []) (v ∷ z ∷ ys) y (here, more) is = absurd more
pair_last R (x ∷ u ∷ xs) (v ∷ z ∷ ys) y (here, more) is = pair_last R (u ∷ xs) (z ∷ ys) y more is

-- an arrival says one advert
says_one : OneGiven → (w : Scenario) (h : History) (a : ℕ) (x : Arrive) (g k : Heard) → Says w h a x g → Says w h a x k → g ≡ k
says_one one w h a x g k (tick, (octets, gives, advert)) (tick', (octets', gives', advert')) =
    let same : Given.frame octets ≡ Given.frame octets' = one (Air w h (reverse_of a)) x.ord (Given.frame octets) (Given.frame octets') gives gives' in
    let octets_same : octets ≡ octets' = cc same in
    let adverts : Some g.says ≡ Some k.says = sym advert ∙ (ap advert_of octets_same ∙ advert') in
    let says : g.says ≡ k.says = cc adverts in
    let ticks : g.tick ≡ k.tick = tick ∙ sym tick' in
    λ i. record { tick = ticks i; says = says i }

-- Good by all adverts that were heard
pub good_heard : OneGiven → (w : Scenario) (h : History) (a t : ℕ) (calls : List Heard) → AreHeard w h a t calls → Good w h a t ↔ ((SettingOf w a t ≡ setting.On) × CountsEnabled w.net.timing.unit calls t)
unfolding Good
good_heard one w h a t calls heard = (to, from)
  where
    to : Good w h a t → (SettingOf w a t ≡ setting.On) × CountsEnabled w.net.timing.unit calls t
    to (on, (g, (x, last', says), counts, enabled)) =
        let o = last_pair (Says w h a) (LldpReceived h a t) calls x heard last' in
        let same : g ≡ o.0 = says_one one w h a x g o.0 says o.2 in
        let p = last_there (LldpReceived h a t) x last' in
        let q = from_filter (λ (y : Arrive). is_lldp_result y.result && nat_le y.tick t) (Arrivals h (reverse_of a)) p.0 x p.1 in
        let by : x.tick ≤ t = by_then x.tick t (and_parts (is_lldp_result x.result) (nat_le x.tick t) q.2).1 in
        let some : 0 < g.says.ttl = some_time t g.tick g.says.ttl w.net.timing.unit (omega (arith, by, says.0)) counts in
        (on, (g, o.1 ∙ ap Some (sym same), some, counts, enabled))

    from : (SettingOf w a t ≡ setting.On) × CountsEnabled w.net.timing.unit calls t → Good w h a t
    from (on, (g, last', some, counts, enabled)) =
        let o = pair_last (Says w h a) (LldpReceived h a t) calls g heard last' in
        (on, (g, (o.0, o.1, o.2), counts, enabled))

-- ---- Active and a wanted verify by any test of Good

-- the state of a link by a test is the one that is computed: a law of links
abbrev pub VerifiedComputed : Type 0
VerifiedComputed = (good : ℕ → Bool) (verifies : List link.Verify) (responds : List ℕ) (t : ℕ) → link.Verified (link.AtTrue good) verifies responds t ↔ (link.is_verified good verifies responds t ≡ true)

abbrev pub WantedComputed : Type 0
WantedComputed = (good : ℕ → Bool) (verifies : List link.Verify) (responds : List ℕ) (wait t : ℕ) → link.VerifyWanted (link.AtTrue good) verifies responds wait t ↔ (link.is_verify_wanted good verifies responds wait t ≡ true)

same_good : (G H : ℕ → Type 0) (verifies : List link.Verify) (responds : List ℕ) (t : ℕ) → ((i : ℕ) → i ≤ t → G i → H i) → link.Verified G verifies responds t → link.Verified H verifies responds t
same_good G H verifies responds t goods = verified_like G H verifies verifies responds responds t goods (λ i v at lt. (i, v, at, refl)) (λ i r at by. (i, at))

since_like : (G H : ℕ → Type 0) (u t : ℕ) → ((i : ℕ) → i ≤ t → G i → H i) → ((i : ℕ) → i ≤ t → H i → G i) → link.GoodSince G u t → link.GoodSince H u t
since_like G H u t to from ((le, good), least) =
    ((le, λ i from' by. to i by (good i from' by)), λ v other. least v (other.0, λ i from' by. from i by (other.1 i from' by)))

wanted_like : (G H : ℕ → Type 0) (verifies : List link.Verify) (responds : List ℕ) (wait t : ℕ) → ((i : ℕ) → i ≤ t → G i → H i) → ((i : ℕ) → i ≤ t → H i → G i)
    → link.VerifyWanted G verifies responds wait t → link.VerifyWanted H verifies responds wait t
wanted_like G H verifies responds wait t to from (unverified, (u, since, few, over)) =
    ((λ verified. unverified (same_good H G verifies responds t from verified)), (u, since_like G H u t to from since, few, over))

module _ (w : Scenario) (h : History) (a t : ℕ) (good : ℕ → Bool) (test : (i : ℕ) → i ≤ t → Decides (good i) (Good w h a i)) where
  pub active_by_test : VerifiedComputed → (arc w a).mode ≡ mode.Negotiate → Decides (link.is_verified good (VerifiesBefore h a t) (RespondTicks h a) t) (Active w h a t)
  unfolding Active
  active_by_test computed talks =
      subst (λ m. Decides (link.is_verified good (VerifiesBefore h a t) (RespondTicks h a) t) (ActiveIn w h a m t)) (sym talks) (
        (λ is. same_good (link.AtTrue good) (Good w h a) (VerifiesBefore h a t) (RespondTicks h a) t (λ i by. (test i by).0) ((computed good (VerifiesBefore h a t) (RespondTicks h a) t).1 is)),
        (λ is. (computed good (VerifiesBefore h a t) (RespondTicks h a) t).0 (same_good (Good w h a) (link.AtTrue good) (VerifiesBefore h a t) (RespondTicks h a) t (λ i by. (test i by).1) is)),
      )

  pub wanted_by_test : WantedComputed → Decides (link.is_verify_wanted good (VerifiesBefore h a t) (RespondTicks h a) w.net.timing.verify t) (VerifyWanted w h a t)
  wanted_by_test computed = (
    (λ is. wanted_like (link.AtTrue good) (Good w h a) (VerifiesBefore h a t) (RespondTicks h a) w.net.timing.verify t (λ i by. (test i by).0) (λ i by. (test i by).1) ((computed good (VerifiesBefore h a t) (RespondTicks h a) w.net.timing.verify t).1 is)),
    (λ is. (computed good (VerifiesBefore h a t) (RespondTicks h a) w.net.timing.verify t).0 (wanted_like (Good w h a) (link.AtTrue good) (VerifiesBefore h a t) (RespondTicks h a) w.net.timing.verify t (λ i by. (test i by).1) (λ i by. (test i by).0) is)),
  )

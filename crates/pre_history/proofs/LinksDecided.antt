-- The state of an arc of a legal history is decided, and what it has to send for its link.
use Rattle.std.proofs.Common.{ℕ, zero, suc, ◌≡◌, ◌⊎◌, ◌&&◌, ◌%◌, ◌<◌, ◌≤◌, nat_le, Bool, true, List, length, refl}
use Rattle.std.proofs.Common.{sym, ◌∙◌, ap, inl, inr, arith, subst, Option, Some, None}
use Rattle.std.specs.Bool.{Decides}
use Rattle.std.proofs.lemmas.Bool.{and_parts}
use Rattle.pre_topo.specs.declared.arcs.Mode.{Mode}
use Rattle.pre_topo.specs.declared.arcs.Mode.TheVariants as mode
use Rattle.pre_topo.specs.Arcs.{reverse_of}
use Rattle.pre_script.specs.declared.scripts.Setting.{Setting}
use Rattle.pre_script.specs.declared.scripts.Setting.TheVariants as setting
use Rattle.pre_mpacket.specs.declared.packets.Kind.TheVariants as kind
use Rattle.pre_mpacket.specs.Arrivals.{Given, Gives}
use Rattle.pre_lldp.specs.declared.adverts.Advert.{Advert}
use Rattle.pre_lldp.specs.LldpLayout.{advert_of}
use Rattle.pre_lldp.specs.Ages.{Heard, runs_out}
use Rattle.pre_history.specs.declared.events.Outcome.{Outcome}
use Rattle.pre_history.specs.declared.events.Outcome.TheVariants as outcome
use Rattle.pre_history.specs.declared.events.What.{What}
use Rattle.pre_history.specs.declared.events.What.TheVariants as what
use Rattle.pre_history.specs.Scenario.{Scenario, arc}
use Rattle.pre_history.specs.History.{History, Begin, Arrive}
use Rattle.pre_history.specs.Selected.{is_lldp_result}
use Rattle.pre_history.specs.Queries.{Begins, Arrivals, SettingOf}
use Rattle.pre_history.specs.Octets.{Air}
use Rattle.pre_history.specs.ArrivalResults.{Result}
use Rattle.pre_history.specs.LinkState.{Began, LldpBegan, Received, LldpReceived, IsHeard, Good, ActiveIn, Active, ActiveBefore, SettingBefore, IsWanting, VerifyWanted, RespondOwed, LldpWanted}
use Rattle.pre_history.specs.Legal.{LegalUpTo}
use Rattle.pre_history.proofs.Chosen.{from_filter, last_there}
use Rattle.pre_history.proofs.InOrder.{steady}
use Rattle.pre_history.proofs.Unread.{reverse_within}
use Rattle.pre_history.proofs.LinkTests.{active_by_test, wanted_by_test}
use Rattle.pre_history.proofs.ArrivalsRead.{results_read}
use Rattle.pre_mpacket.proofs.Decisions.{IsDecided, both, one_of, negated, by_test, tested, truth, equal, less, some_below, each_between}
use Rattle.pre_mpacket.proofs.GivenDecided.{is_respond_kind}
use Rattle.pre_history.proofs.Known.{one_given, verified_computed, wanted_computed}
use Rattle.pre_history.proofs.Decided.{some_element}
use Rattle.pre_base.specs.Last.{last}

-- ---- plain values

same_setting : (s u : Setting) → IsDecided (s ≡ u)
same_setting setting.On setting.On = inl refl
same_setting setting.On setting.Off = inr (λ e. cc e)
same_setting setting.On setting.Gone = inr (λ e. cc e)
same_setting setting.Off setting.On = inr (λ e. cc e)
same_setting setting.Off setting.Off = inl refl
same_setting setting.Off setting.Gone = inr (λ e. cc e)
same_setting setting.Gone setting.On = inr (λ e. cc e)
same_setting setting.Gone setting.Off = inr (λ e. cc e)
same_setting setting.Gone setting.Gone = inl refl

is_verify_outcome : (r : Outcome) → IsDecided (r ≡ outcome.Verify)
is_verify_outcome outcome.Verify = inl refl
is_verify_outcome outcome.Frame = inr (λ e. cc e)
is_verify_outcome outcome.Lost = inr (λ e. cc e)
is_verify_outcome outcome.Lldp = inr (λ e. cc e)
is_verify_outcome outcome.Part = inr (λ e. cc e)
is_verify_outcome outcome.Respond = inr (λ e. cc e)
is_verify_outcome outcome.Nothing = inr (λ e. cc e)

is_lldp : (x : What) → IsDecided (x ≡ what.Lldp)
is_lldp (what.Frame f) = inr (λ e. cc e)
is_lldp what.Lldp = inl refl
is_lldp what.Nothing = inr (λ e. cc e)

pub is_negotiate : (m : Mode) → IsDecided (m ≡ mode.Negotiate)
is_negotiate mode.Negotiate = inl refl
is_negotiate mode.Off = inr (λ e. cc e)
is_negotiate mode.On = inr (λ e. cc e)

lldp_result : (r : Outcome) → is_lldp_result r ≡ true → r ≡ outcome.Lldp
lldp_result outcome.Lldp is = refl
lldp_result outcome.Frame is = absurd (cc is)
lldp_result outcome.Lost is = absurd (cc is)
lldp_result outcome.Verify is = absurd (cc is)
lldp_result outcome.Part is = absurd (cc is)
lldp_result outcome.Respond is = absurd (cc is)
lldp_result outcome.Nothing is = absurd (cc is)

-- what arrived as an LLDP frame is a frame
lldp_given : (A : List (Option (List ℕ))) (i : ℕ) → Result A i outcome.Lldp → (octets : List ℕ) × Gives A i (Given.frame octets)
lldp_given A i (inl (lost, is)) = absurd (cc is)
lldp_given A i (inr (inl (Given.frame octets, gives, is))) = (octets, gives)
lldp_given A i (inr (inl (Given.part, gives, is))) = absurd (cc is)
lldp_given A i (inr (inl (Given.verify, gives, is))) = absurd (cc is)
lldp_given A i (inr (inl (Given.respond, gives, is))) = absurd (cc is)
lldp_given A i (inr (inr (here, none, is))) = absurd (cc is)

module _ (w : Scenario) (n : ℕ) (h : History) (legal : LegalUpTo w n h) (a : ℕ) (a_lt : a < length w.net.arcs) where
  -- ---- Good

  -- what the last LLDP frame says
  frame_of_last : (t : ℕ) (x : Arrive) → last (LldpReceived h a t) ≡ Some x → (octets : List ℕ) × Gives (Air w h (reverse_of a)) x.ord (Given.frame octets)
  frame_of_last t x is =
      let r_lt = reverse_within w a a_lt in
      let o = last_there (LldpReceived h a t) x is in
      let q = from_filter (λ (y : Arrive). is_lldp_result y.result && nat_le y.tick t) (Arrivals h (reverse_of a)) o.0 x o.1 in
      let ord : x.ord ≡ q.0 = (steady w n h (reverse_of a) r_lt legal).ordered.arrival_places q.0 x q.1 in
      let result = results_read w n h (reverse_of a) r_lt legal q.0 x q.1 in
      lldp_given (Air w h (reverse_of a)) x.ord
      (subst (λ j. Result (Air w h (reverse_of a)) j outcome.Lldp) (sym ord) (subst (Result (Air w h (reverse_of a)) q.0) (lldp_result x.result (and_parts (is_lldp_result x.result) (nat_le x.tick t) q.2).0) result))

  Hears : ℕ → Type 0
  Hears t = (heard : Heard) × IsHeard w h a t heard × (t < runs_out w.net.timing.unit heard) × (heard.says.enabled ≡ true)

  hears : (t : ℕ) → IsDecided (Hears t)
  unfolding Hears
  hears t = go (last (LldpReceived h a t)) refl
    where
      said : (x : Arrive) → last (LldpReceived h a t) ≡ Some x → (octets : List ℕ) → Gives (Air w h (reverse_of a)) x.ord (Given.frame octets) → (heard : Heard) → IsHeard w h a t heard
          → (heard.tick ≡ x.tick) × (advert_of octets ≡ Some heard.says)
      said x is octets gives heard (x', at, (tick, (octets', gives', advert))) =
          let same : x' ≡ x = cc (sym at ∙ is) in
          let given : Given.frame octets' ≡ Given.frame octets = one_given (Air w h (reverse_of a)) x.ord (Given.frame octets') (Given.frame octets) (subst (λ (y : Arrive). Gives (Air w h (reverse_of a)) y.ord (Given.frame octets')) same gives') gives in
          let octets_same : octets' ≡ octets = cc given in
          (tick ∙ ap (λ (y : Arrive). y.tick) same, ap advert_of (sym octets_same) ∙ advert)

      advert : (x : Arrive) → last (LldpReceived h a t) ≡ Some x → (octets : List ℕ) → Gives (Air w h (reverse_of a)) x.ord (Given.frame octets) → (o : Option Advert) → advert_of octets ≡ o
          → IsDecided ((heard : Heard) × IsHeard w h a t heard × (t < runs_out w.net.timing.unit heard) × (heard.says.enabled ≡ true))
      advert x is octets gives None none = inr (λ (heard, hearing, counts, enabled). absurd (cc (sym none ∙ (said x is octets gives heard hearing).1)))
      advert x is octets gives (Some says) some = elim (both (less t (runs_out w.net.timing.unit (record { tick = x.tick; says = says }))) (truth says.enabled)) [
        | inl (counts, enabled) ↦ inl (record { tick = x.tick; says = says }, (x, is, (refl, (octets, gives, some))), counts, enabled)
        | inr nay ↦ inr (λ (heard, hearing, counts, enabled).
            let s = said x is octets gives heard hearing in
            let says_same : says ≡ heard.says = cc (sym some ∙ s.1) in
            let same : heard ≡ record { tick = x.tick; says = says } = λ i. record { tick = s.0 i; says = (sym says_same) i } in
            nay (subst (λ (y : Heard). t < runs_out w.net.timing.unit y) same counts, subst (λ (y : Heard). y.says.enabled ≡ true) same enabled))
      ]

      go : (o : Option Arrive) → last (LldpReceived h a t) ≡ o → IsDecided ((heard : Heard) × IsHeard w h a t heard × (t < runs_out w.net.timing.unit heard) × (heard.says.enabled ≡ true))
      go None is = inr (λ (heard, (x, at, says), counts, enabled). absurd (cc (sym is ∙ at)))
      go (Some x) is = let f = frame_of_last t x is in advert x is f.0 f.1 (advert_of f.0) refl

  pub good_decided : (t : ℕ) → IsDecided (Good w h a t)
  unfolding Good Hears
  good_decided t = both (same_setting (SettingOf w a t) setting.On) (hears t)

  good_test : ℕ → Bool
  good_test t = (tested (good_decided t)).0

  good_tests : (t : ℕ) → Decides (good_test t) (Good w h a t)
  unfolding good_test
  good_tests t = (tested (good_decided t)).1

  -- ---- Active

  pub active_decided : (t : ℕ) → IsDecided (Active w h a t)
  unfolding Active
  active_decided t = go (arc w a).mode refl
    where
      go : (m : Mode) → (arc w a).mode ≡ m → IsDecided (ActiveIn w h a (arc w a).mode t)
      go mode.Off is = subst (λ m. IsDecided (ActiveIn w h a m t)) (sym is) (inr (λ x. x))
      go mode.On is = subst (λ m. IsDecided (ActiveIn w h a m t)) (sym is) (inl tt)
      go mode.Negotiate is = by_test _ (active_by_test w h a t good_test (λ i le. good_tests i) verified_computed is)

  pub active_before_decided : (t : ℕ) → IsDecided (ActiveBefore w h a t)
  active_before_decided zero = inr (λ x. x)
  active_before_decided (suc t) = active_decided t

  -- ---- what the arc has to send

  pub verify_wanted_decided : (t : ℕ) → IsDecided (VerifyWanted w h a t)
  verify_wanted_decided t = by_test _ (wanted_by_test w h a t good_test (λ i le. good_tests i) wanted_computed)

  pub owed_decided : (t : ℕ) → IsDecided (RespondOwed w h a t)
  owed_decided t = elim (some_below (λ v. Received h a outcome.Verify v × ((i : ℕ) → v ≤ i → i < t → ¬ Began h a kind.Respond i)) (suc t) (λ v lt. both (received v) (each_between (λ i. ¬ Began h a kind.Respond i) v t (λ i lt'. negated (began i))))) [
    | inl o ↦ inl (o.0, omega (arith, o.1), o.2.0, o.2.1)
    | inr none ↦ inr (λ (v, le, got, since). none v (omega (arith, le)) (got, since))
  ]
    where
      received : (v : ℕ) → IsDecided (Received h a outcome.Verify v)
      received v = some_element (λ (x : Arrive). (x.result ≡ outcome.Verify) × (x.tick ≡ v)) (λ x. both (is_verify_outcome x.result) (equal x.tick v)) (Arrivals h (reverse_of a))

      began : (i : ℕ) → IsDecided (Began h a kind.Respond i)
      began i = some_element (λ (b : Begin). (b.kind ≡ kind.Respond) × (b.tick ≡ i)) (λ b. both (is_respond_kind b.kind) (equal b.tick i)) (Begins h a)

  wanting : (t : ℕ) → IsDecided (IsWanting w h a t)
  wanting t =
      one_of (negated (same_setting (SettingOf w a t) (SettingBefore w h a t)))
      (both (negated (same_setting (SettingOf w a t) setting.Gone))
      (one_of3 (equal (t % w.net.timing.interval) 0) (both (active_decided t) (negated (active_before_decided t))) (both (negated (active_decided t)) (active_before_decided t))))
    where
      one_of3 : {P Q R : Type 0} → IsDecided P → IsDecided Q → IsDecided R → IsDecided (P ⊎ Q ⊎ R)
      one_of3 p q r = one_of p (one_of q r)

  pub lldp_wanted_decided : (t : ℕ) → IsDecided (LldpWanted w h a t)
  lldp_wanted_decided t = elim (some_below (λ x. IsWanting w h a x × ((i : ℕ) → x ≤ i → i < t → ¬ LldpBegan h a i)) (suc t) (λ x lt. both (wanting x) (each_between (λ i. ¬ LldpBegan h a i) x t (λ i lt'. negated (began i))))) [
    | inl o ↦ inl (o.0, omega (arith, o.1), o.2.0, o.2.1)
    | inr none ↦ inr (λ (x, le, wants, since). none x (omega (arith, le)) (wants, since))
  ]
    where
      began : (i : ℕ) → IsDecided (LldpBegan h a i)
      began i = some_element (λ (b : Begin). (b.what ≡ what.Lldp) × (b.tick ≡ i)) (λ b. both (is_lldp b.what) (equal b.tick i)) (Begins h a)

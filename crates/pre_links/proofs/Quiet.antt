-- Ticks at which nothing changes for a link.
use Rattle.std.proofs.Common.{ℕ, zero, suc, ◌≡◌, ◌+◌, ◌<◌, ◌≤◌, Bool, true, false, [], refl, sym, ◌∙◌, ap, inl, inr, arith, subst, Option, Some, None}
use Rattle.std.specs.Prelude.{◌↔◌, slice_get, Any}
use Rattle.std.specs.Bool.{Decides}
use Rattle.std.proofs.lemmas.Bool.{cases_lt}
use Rattle.pre_topo.specs.declared.arcs.Mode.TheVariants as mode
use Rattle.pre_topo.specs.Arcs.{reverse_of}
use Rattle.pre_lldp.specs.LinkState as link
use Rattle.pre_verify.specs.Calls.{good_of}
use Rattle.pre_verify.specs.Verifiers.{IsBelow, IsBy}
use Rattle.pre_history.specs.declared.events.Outcome.TheVariants as outcome
use Rattle.pre_history.specs.Scenario.{Scenario, arc}
use Rattle.pre_history.specs.History.{Arrive, Begin, History}
use Rattle.pre_history.specs.Queries.{Arrivals, Begins, SettingOf}
use Rattle.pre_history.specs.LinkState.{Active, ActiveBefore, ActiveIn, Good, IsWanting, Received, RespondTicks, SettingBefore, Verified, VerifiesBefore}
use Rattle.pre_history.specs.Moments.{Phase}
use Rattle.pre_history.specs.Placed.{moment_of}
use Rattle.pre_history.specs.Rules.{HappensIn, change}
use Rattle.pre_history.specs.Legal.{LegalUpTo}
use Rattle.pre_history.proofs.Lists.{any_at, found_at}
use Rattle.pre_history.proofs.Unread.{respond_back, verify_back, verify_there}
use Rattle.pre_links.specs.Standing.{IsQuiet, IsUpTo, LinkStands}
use Rattle.pre_links.specs.declared.links.Link.{Link}
use Rattle.pre_links.proofs.Computed.{respond_is}
use Rattle.pre_links.proofs.Early.{begun_early}
use Rattle.pre_links.proofs.Staying.{decides_like}

by_then : (o : Option ℕ) (t u : ℕ) → IsBelow o (t + 1) → t ≤ u → IsBy o u
by_then None t u before le = tt
by_then (Some s) t u before le = omega (arith, before, le)

unchanged : (i a : ℕ) (b : Bool) → [] ≡ change i a b b
unchanged i a true = refl
unchanged i a false = refl

module _ (w : Scenario) (h : History) (a t m : ℕ) (talks : (arc w a).mode ≡ mode.Negotiate) (legal : LegalUpTo w (moment_of w (t + 1) Phase.sets) h) (quiet : IsQuiet w h a t m) where
  early : (k : ℕ) (b : Begin) → slice_get (Begins h a) k ≡ Some b → b.tick < t + 1
  early k b at = begun_early w (t + 1) 0 h a legal (omega arith) k b at

  -- a respond up to a quiet tick was received by t
  heard_by : (i j r : ℕ) → i < m → slice_get (RespondTicks h a) j ≡ Some r → r ≤ i → r ≤ t
  heard_by i j r lt at by = elim (cases_lt t r) [
    | inr done ↦ done
    | inl more ↦
        let o = respond_back h a j r at in
        absurd (quiet.responds r more (omega (arith, by, lt)) (any_at (λ (x : Arrive). (x.result ≡ outcome.Respond) × (x.tick ≡ r)) (Arrivals h (reverse_of a)) o.0 o.1 o.2
        (respond_is o.1.result o.3, o.4)))
  ]

  verified_back : (i : ℕ) → t < i → i < m → Verified w h a i → Verified w h a t
  verified_back i from lt (u, (le, good), (k, v, lt_k, is_k, (since, (j, r, lt_j, is_j, (after, by))))) =
      let at_r = found_at (RespondTicks h a) j r lt_j is_j in
      let r_by : r ≤ t = heard_by i j r lt at_r by in
      let o = verify_back h a i k v (found_at (VerifiesBefore h a i) k v lt_k is_k) in
      let p = verify_there h a t o.0 o.1 o.2 o.3 (omega (arith, o.5, after, r_by)) in (
        u,
        (omega (arith, since, after, r_by), λ x from' to. good x from' (omega (arith, to, from))),
        any_at (λ (v : link.Verify). (u ≤ v.began) × Any (λ r. (v.began < r) × (r ≤ t)) (RespondTicks h a)) (VerifiesBefore h a t) p.0 p.1 p.2 (
          omega (arith, since, p.3, o.5),
          any_at (λ r. (p.1.began < r) × (r ≤ t)) (RespondTicks h a) j r at_r (omega (arith, after, p.3, o.5), r_by),
        ),
      )

  verified_on : (i : ℕ) → t < i → i < m → Verified w h a t → Verified w h a i
  verified_on i from lt (u, (le, good), (k, v, lt_k, is_k, (since, (j, r, lt_j, is_j, (after, by))))) =
      let at_r = found_at (RespondTicks h a) j r lt_j is_j in
      let o = verify_back h a t k v (found_at (VerifiesBefore h a t) k v lt_k is_k) in
      let p = verify_there h a i o.0 o.1 o.2 o.3 (omega (arith, o.4, from)) in (
        u,
        (
          omega (arith, le, from),
          λ x from' to. elim (cases_lt t x) [
            | inr old ↦ good x from' old
            | inl new ↦ (quiet.good x new (omega (arith, to, lt))).1 (good t le (omega arith))
          ],
        ),
        any_at (λ (v : link.Verify). (u ≤ v.began) × Any (λ r. (v.began < r) × (r ≤ i)) (RespondTicks h a)) (VerifiesBefore h a i) p.0 p.1 p.2 (
          omega (arith, since, p.3, o.5),
          any_at (λ r. (p.1.began < r) × (r ≤ i)) (RespondTicks h a) j r at_r (omega (arith, after, p.3, o.5), omega (arith, by, from)),
        ),
      )

  active_like : (i : ℕ) → t < i → i < m → Active w h a i ↔ Active w h a t
  unfolding Active
  active_like i from lt = subst (λ x. ActiveIn w h a x i ↔ ActiveIn w h a x t) (sym talks) (verified_back i from lt, verified_on i from lt)

  -- and so before each of these ticks and the next one
  before_like : (i : ℕ) → t < i → i ≤ m → ActiveBefore w h a i ↔ Active w h a t
  before_like zero from le = absurd (omega (arith, from))
  before_like (suc i) from le = elim (cases_lt t i) [
    | inl more ↦ active_like i more (omega (arith, le))
    | inr last ↦ let same : t ≡ i = omega (arith, from, last) in subst (λ x. Active w h a x ↔ Active w h a t) same ((λ x. x), (λ x. x))
  ]

  setting_like : (i : ℕ) → t < i → i ≤ m → SettingBefore w h a i ≡ SettingOf w a t
  setting_like zero from le = absurd (omega (arith, from))
  setting_like (suc i) from le = elim (cases_lt t i) [
    | inl more ↦ quiet.settings i more (omega (arith, le))
    | inr last ↦ let same : i ≡ t = omega (arith, from, last) in ap (SettingOf w a) same
  ]

  not_wanting : (x : ℕ) → t < x → x < m → ¬ IsWanting w h a x
  not_wanting x from lt (inl differs) = differs (quiet.settings x from lt ∙ sym (setting_like x from (omega (arith, lt))))
  not_wanting x from lt (inr (here, inl periodic)) = quiet.intervals x from lt periodic
  not_wanting x from lt (inr (here, inr (inl (now, before)))) = before ((before_like x from (omega (arith, lt))).1 ((active_like x from lt).0 now))
  not_wanting x from lt (inr (here, inr (inr (now, before)))) = now ((active_like x from lt).1 ((before_like x from (omega (arith, lt))).0 before))

  next : t + 1 ≡ suc t
  next = omega arith

  module _ (state : Link) (s : LinkStands w h a (t + 1) state) where
    active_now : Decides state.active (Active w h a t)
    active_now = subst (λ n. Decides state.active (ActiveBefore w h a n)) next s.active

    pub nothing_told : (i : ℕ) → t < i → i < m → HappensIn w h i (Phase.expiries a) []
    unfolding HappensIn
    nothing_told i from lt =
        inl (
          talks,
          (
            state.active,
            state.active,
            decides_like state.active active_now (active_like i from lt),
            decides_like state.active active_now
                (before_like i from (omega (arith, lt))),
            unchanged i a state.active,
          ),
        )

    pub stands_on : t < m → IsUpTo state t → LinkStands w h a m state
    stands_on t_lt upto = record {
      calls = s.calls;
      stands = s.stands;
      good = good_all;
      verifies = s.verifies;
      responds = λ r. (
        (λ any. let p = (s.responds r).0 any in (omega (arith, p.0, t_lt), p.1)),
        (λ (lt, got). (s.responds r).1 (by_t r lt got, got)),
      );
      setting = s.setting ∙ ap (SettingBefore w h a) next ∙ sym (setting_like m t_lt (omega arith));
      active = decides_like state.active active_now (before_like m t_lt (omega arith));
      lldp = decides_like state.wants_lldp s.lldp (
        (λ (x, lt, wants, since). (x, wanting_by x lt wants, wants, since)),
        (λ (x, lt, wants, since). (x, omega (arith, lt, t_lt), wants, since)),
      );
      responded = s.responded;
    }
      where
        good_all : (i : ℕ) → i < m → Decides (good_of s.calls i) (Good w h a i)
        good_all i lt = elim (cases_lt t i) [
          | inr old ↦ s.good i (omega (arith, old))
          | inl more ↦
              let same : good_of s.calls t ≡ good_of s.calls i = s.stands.steady t (by_then _ t t upto.1 (omega arith)) ∙ sym (s.stands.steady i (by_then _ t i upto.1 (omega (arith, more)))) in
              subst (λ b. Decides b (Good w h a i)) same (decides_like (good_of s.calls t) (s.good t (omega arith)) (quiet.good i more lt))
        ]

        by_t : (r : ℕ) → r < m → Received h a outcome.Respond r → r < t + 1
        by_t r lt got = elim (cases_lt t r) [
          | inr old ↦ omega (arith, old)
          | inl more ↦ absurd (quiet.responds r more lt got)
        ]

        wanting_by : (x : ℕ) → x < m → IsWanting w h a x → x < t + 1
        wanting_by x lt wants = elim (cases_lt t x) [
          | inr old ↦ omega (arith, old)
          | inl more ↦ absurd (not_wanting x more lt wants)
        ]

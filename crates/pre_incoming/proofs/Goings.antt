-- A history with no alias goes on with none.
use Rattle.std.proofs.Common.{ℕ, suc, ◌≡◌, ◌≢◌, ◌+◌, ◌<◌, ◌++◌, length, refl, sym, ◌∙◌, ap, inl, inr, arith, subst, Some}
use Rattle.std.specs.Prelude.{slice_get}
use Rattle.pre_history.specs.Scenario.{Scenario, arc}
use Rattle.pre_history.specs.Moments.{Phase, Moment, moments, moment_at, phase_at}
use Rattle.pre_history.specs.History.{Ended, History}
use Rattle.pre_history.specs.Queries.{Arrivals, Ends}
use Rattle.pre_history.specs.Rules.{HappensIn, Happens}
use Rattle.pre_history.specs.Placed.{number, moment_of}
use Rattle.pre_history.specs.Legal.{Alias, LegalBefore}
use Rattle.pre_history.proofs.Moments.{moment_in, arrivals_place}
use Rattle.pre_history.proofs.Placing.{placed, phase_events}
use Rattle.pre_history.proofs.ArrivalTurns.{not_due}
use Rattle.pre_history.proofs.InOrder.{steady}
use Rattle.pre_mpacket.proofs.Decisions.{equal}
use Rattle.pre_history.proofs.FirstAliases.{AliasNext, arrivals_at, next_legal, none_still}

module _ (w : Scenario) (h es : History) (t k : ℕ) (p : Phase) (k_lt : k < moments (length w.net.arcs)) (phase : phase_at (length w.net.arcs) k ≡ p)
    (legal : LegalBefore w h (number (length w.net.arcs) t k)) (happens : HappensIn w h t p es) where
  pub moment_is : moment_at (length w.net.arcs) (number (length w.net.arcs) t k) ≡ record { tick = t; phase = p }
  moment_is = moment_in (length w.net.arcs) t k k_lt ∙ ap (λ q. record { tick = t; phase = q }) phase

  pub goes_on : ¬ AliasNext w h (number (length w.net.arcs) t k) → LegalBefore w (h ++ es) (suc (number (length w.net.arcs) t k))
  goes_on none =
      let at : Happens w h (moment_at (length w.net.arcs) (number (length w.net.arcs) t k)) es = subst (λ (m : Moment). Happens w h m es) (sym moment_is) happens in
      (next_legal w (number (length w.net.arcs) t k) h legal.0 legal.1 es at none, none_still w (number (length w.net.arcs) t k) h legal.0 legal.1 es at none)

  -- at a moment that isn't one of arrivals
  pub elsewhere : ((a : ℕ) → p ≢ Phase.arrivals a) → LegalBefore w (h ++ es) (suc (number (length w.net.arcs) t k))
  elsewhere other = goes_on (λ (u, a, i, a_lt, is, alias). other a (ap (λ (m : Moment). m.phase) (sym moment_is ∙ arrivals_at w (number (length w.net.arcs) t k) u a a_lt is)))

-- at one of arrivals
pub at_arrivals : (w : Scenario) (h es : History) (t a : ℕ) → a < length w.net.arcs → LegalBefore w h (moment_of w t (Phase.arrivals a)) → HappensIn w h t (Phase.arrivals a) es
    → ((e : Ended) → slice_get (Ends h a) (length (Arrivals h a)) ≡ Some e → e.tick + (arc w a).delay ≡ t → ¬ Alias w h a (length (Arrivals h a)))
    → LegalBefore w (h ++ es) (suc (moment_of w t (Phase.arrivals a)))
at_arrivals w h es t a a_lt legal happens none =
    goes_on w h es t place (Phase.arrivals a) place_lt phase legal happens
    (λ (u, b, i, b_lt, is, (e, at, due, alias)).
    let same = sym (moment_is w h es t place (Phase.arrivals a) place_lt phase legal happens) ∙ arrivals_at w (moment_of w t (Phase.arrivals a)) u b b_lt is in
    let tick_is : t ≡ u = ap (λ (m : Moment). m.tick) same in
    let arc_is : Phase.arrivals a ≡ Phase.arrivals b = ap (λ (m : Moment). m.phase) same in
    let one : a ≡ b = cc arc_is in
    no_other i e (subst (λ x. slice_get (Ends h x) i ≡ Some e) (sym one) at) (subst (λ x. e.tick + (arc w x).delay ≡ t) (sym one) (due ∙ sym tick_is)) (subst (λ x. Alias w h x i) (sym one) alias))
  where
    place : ℕ
    place = 1 + length w.net.arcs + a

    place_lt : 1 + length w.net.arcs + a < moments (length w.net.arcs)
    place_lt = omega (arith, a_lt)

    phase : phase_at (length w.net.arcs) (1 + length w.net.arcs + a) ≡ Phase.arrivals a
    phase = arrivals_place (length w.net.arcs) a a_lt

    no_other : (i : ℕ) (e : Ended) → slice_get (Ends h a) i ≡ Some e → e.tick + (arc w a).delay ≡ t → Alias w h a i → ⊥
    no_other i e at due alias = elim (equal i (length (Arrivals h a))) [
      | inl next ↦ none e (ap (slice_get (Ends h a)) (sym next) ∙ at) due (subst (Alias w h a) next alias)
      | inr other ↦ not_due w h es t a a_lt place_lt (placed w (moment_of w t (Phase.arrivals a)) h legal.0)
          (phase_events w h t (1 + length w.net.arcs + a) (Phase.arrivals a) es (a_lt, refl) happens)
          (steady w (moment_of w t (Phase.arrivals a)) h a a_lt legal.0) i e other at due
    ]

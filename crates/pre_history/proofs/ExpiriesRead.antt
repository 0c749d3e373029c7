-- An `active` event stands at a tick exactly where Active differs, by the whole history.
use Rattle.std.proofs.Common.{ℕ, zero, suc, ◌≡◌, ◌≢◌, ◌⊎◌, ◌+◌, ◌*◌, ◌<◌, ◌≤◌, Bool, true, false, []}
use Rattle.std.proofs.Common.{◌∷◌, ◌++◌, length, refl, sym, ◌∙◌, ap, inl, inr, arith, subst}
use Rattle.std.specs.Prelude.{◌↔◌, slice_get}
use Rattle.std.specs.Bool.{Decides}
use Rattle.pre_topo.specs.declared.arcs.Mode.TheVariants as mode
use Rattle.pre_history.specs.Scenario.{Scenario, arc}
use Rattle.pre_history.specs.Moments.{Phase, moments}
use Rattle.pre_history.specs.History.{PlainEvent, History}
use Rattle.pre_history.specs.LinkState.{Active, ActiveBefore, Rises, Falls}
use Rattle.pre_history.specs.Rules.{Expiry, change, HappensIn}
use Rattle.pre_history.specs.Placed.{number, IsBefore}
use Rattle.pre_history.specs.Legal.{LegalUpTo}
use Rattle.pre_history.proofs.Lists.{any_at, found_at, every_at}
use Rattle.pre_history.proofs.LaterEnds.{split_at}
use Rattle.pre_history.proofs.Moments.{expiries_place}
use Rattle.pre_history.proofs.Placing.{placed}
use Rattle.pre_history.proofs.Unread.{active_stays, reverse_within}
use Rattle.pre_history.specs.Placed.{IsWithin}
use Rattle.pre_history.specs.Read.{IsTold}
use Rattle.pre_history.proofs.Places.{all_unread_from}
use Rattle.pre_history.proofs.EndsRead.{more_places}
use Rattle.pre_history.proofs.ArrivalsRead.{any_middle}
use Rattle.pre_history.proofs.Around.{Around, around}
use Rattle.pre_history.proofs.Known.{gives_later}

module _ (w : Scenario) (n : ℕ) (h : History) (a t : ℕ) (a_lt : a < length w.net.arcs) (legal : LegalUpTo w n h) (lt : number (length w.net.arcs) t (1 + 2 * length w.net.arcs + a) < n) where
  here : Around w n h t (1 + 2 * length w.net.arcs + a) (Phase.expiries a)
  here = around w n h t (1 + 2 * length w.net.arcs + a) (Phase.expiries a) (omega (arith, a_lt)) (expiries_place (length w.net.arcs) a a_lt) lt legal

  module _ (o : Around w n h t (1 + 2 * length w.net.arcs + a) (Phase.expiries a)) where
    same_at : (u : ℕ) → u ≤ t → Active w h a u ↔ Active w o.front a u
    same_at u le =
        let m = number (length w.net.arcs) t (1 + 2 * length w.net.arcs + a) in
        subst (λ (x : History). Active w x a u ↔ Active w o.front a u) (sym o.joined)
        (active_stays gives_later w m o.front (o.events ++ o.rest) o.legal u (all_unread_from (length w.net.arcs) u m n (o.events ++ o.rest) (places u le) o.follows) a (reverse_within w a a_lt))
      where
        places : (u : ℕ) → u ≤ t → number (length w.net.arcs) u (1 + 2 * length w.net.arcs) ≤ number (length w.net.arcs) t (1 + 2 * length w.net.arcs + a)
        places u le = elim (same_or_less u t le) [
          | inl same ↦ subst (λ x. number (length w.net.arcs) u (1 + 2 * length w.net.arcs) ≤ number (length w.net.arcs) x (1 + 2 * length w.net.arcs + a)) same (omega arith)
          | inr less ↦ more_places (moments (length w.net.arcs)) u t (1 + 2 * length w.net.arcs) (1 + 2 * length w.net.arcs + a) (omega arith) less
        ]
          where
            same_or_less : (u t : ℕ) → u ≤ t → (u ≡ t) ⊎ (u < t)
            same_or_less u t le = grind arith

    same_before : (u : ℕ) → u ≤ t → ActiveBefore w h a u ↔ ActiveBefore w o.front a u
    same_before zero le = ((λ x. x), λ x. x)
    same_before (suc u) le = same_at u (omega (arith, le))

    -- an event of the tick stands among those of the moment
    now : (v : Bool) → IsTold h (PlainEvent.active t a v) → IsTold o.events (PlainEvent.active t a v)
    now v (k, e, k_lt, at, is) = elim (split_at o.front (o.events ++ o.rest) k e (ap (λ l. slice_get l k) (sym o.joined) ∙ found_at h k e k_lt at)) [
      | inl old ↦ absurd (
          let y = every_at (IsBefore (length w.net.arcs) m) o.front k e (placed w m o.front o.legal) old in
          let z : IsBefore (length w.net.arcs) m (PlainEvent.active t a v) = subst (IsBefore (length w.net.arcs) m) is y in omega (arith, z.1, z.2.1))
      | inr new ↦ elim (split_at o.events o.rest new.0 e new.1) [
        | inl found ↦ any_at (λ x. x ≡ PlainEvent.active t a v) o.events new.0 e found is
        | inr after ↦ absurd (
            let y = every_at (IsWithin (length w.net.arcs) (suc m) n) o.rest after.0 e o.later after.1 in
            let z : IsWithin (length w.net.arcs) (suc m) n (PlainEvent.active t a v) = subst (IsWithin (length w.net.arcs) (suc m) n) is y in omega (arith, z.1, z.3.1))
      ]
    ]
      where
        m : ℕ
        m = number (length w.net.arcs) t (1 + 2 * length w.net.arcs + a)

    told : (v : Bool) → IsTold o.events (PlainEvent.active t a v) → IsTold h (PlainEvent.active t a v)
    told v is = subst (λ (x : History). IsTold x (PlainEvent.active t a v)) (sym o.joined) (any_middle (λ x. x ≡ PlainEvent.active t a v) o.front o.events o.rest is)

    none_told : (v : Bool) → IsTold [] (PlainEvent.active t a v) → ⊥
    none_told v (k, e, k_lt, at, is) = omega (arith, k_lt)

    other_told : (u v : Bool) → u ≢ v → IsTold (PlainEvent.active t a u ∷ []) (PlainEvent.active t a v) → ⊥
    other_told u v other (zero, e, k_lt, at, is) = let same : PlainEvent.active t a u ≡ PlainEvent.active t a v = cc (at, is) in other (cc same)
    other_told u v other (suc k, e, k_lt, at, is) = omega (arith, k_lt)

    changed : (now before : Bool) → Decides now (Active w h a t) → Decides before (ActiveBefore w h a t)
        → (IsTold (change t a now before) (PlainEvent.active t a true) ↔ Rises w h a t) × (IsTold (change t a now before) (PlainEvent.active t a false) ↔ Falls w h a t)
    changed true true is_now is_before = (
      ((λ x. absurd (none_told true x)), λ (on, off). absurd (off (is_before.0 refl))),
      ((λ x. absurd (none_told false x)), λ (off, on). absurd (off (is_now.0 refl))),
    )
    changed false false is_now is_before = (
      ((λ x. absurd (none_told true x)), λ (on, off). absurd (cc (is_now.1 on))),
      ((λ x. absurd (none_told false x)), λ (off, on). absurd (cc (is_before.1 on))),
    )
    changed true false is_now is_before = (
      ((λ x. (is_now.0 refl, λ on. absurd (cc (is_before.1 on)))), λ r. any_at (λ x. x ≡ PlainEvent.active t a true) (PlainEvent.active t a true ∷ []) 0 (PlainEvent.active t a true) refl refl),
      ((λ x. absurd (other_told true false (λ e. absurd (cc e)) x)), λ (off, on). absurd (off (is_now.0 refl))),
    )
    changed false true is_now is_before = (
      ((λ x. absurd (other_told false true (λ e. absurd (cc e)) x)), λ (on, off). absurd (off (is_before.0 refl))),
      ((λ x. ((λ on. absurd (cc (is_now.1 on))), is_before.0 refl)), λ r. any_at (λ x. x ≡ PlainEvent.active t a false) (PlainEvent.active t a false ∷ []) 0 (PlainEvent.active t a false) refl refl),
    )

    decides_like : {P Q : Type 0} (b : Bool) → Decides b P → Q ↔ P → Decides b Q
    decides_like b decides like = ((λ is. like.1 (decides.0 is)), λ q. decides.1 (like.0 q))

    read : (arc w a).mode ≡ mode.Negotiate → (IsTold h (PlainEvent.active t a true) ↔ Rises w h a t) × (IsTold h (PlainEvent.active t a false) ↔ Falls w h a t)
    unfolding HappensIn
    read talks = go o.happens
      where
        go : Expiry w o.front t a o.events → (IsTold h (PlainEvent.active t a true) ↔ Rises w h a t) × (IsTold h (PlainEvent.active t a false) ↔ Falls w h a t)
        go (inr (off, is)) = absurd (off talks)
        go (inl (on, (is, was, is_now, is_before, es_is))) =
            let c = changed is was (decides_like is is_now (same_at t (omega arith))) (decides_like was is_before (same_before t (omega arith))) in
            let move : (v : Bool) → IsTold h (PlainEvent.active t a v) → IsTold (change t a is was) (PlainEvent.active t a v) = λ v x. subst (λ (l : History). IsTold l (PlainEvent.active t a v)) es_is (now v x) in
            let back : (v : Bool) → IsTold (change t a is was) (PlainEvent.active t a v) → IsTold h (PlainEvent.active t a v) = λ v x. told v (subst (λ (l : History). IsTold l (PlainEvent.active t a v)) (sym es_is) x) in
            (((λ x. c.0.0 (move true x)), λ r. back true (c.0.1 r)), ((λ x. c.1.0 (move false x)), λ r. back false (c.1.1 r)))

    quiet : (arc w a).mode ≢ mode.Negotiate → (v : Bool) → ¬ IsTold h (PlainEvent.active t a v)
    unfolding HappensIn
    quiet off v x = go o.happens
      where
        go : Expiry w o.front t a o.events → ⊥
        go (inl (on, some)) = off on
        go (inr (off, is)) = none_told v (subst (λ (l : History). IsTold l (PlainEvent.active t a v)) is (now v x))

  pub rises_read : (arc w a).mode ≡ mode.Negotiate → IsTold h (PlainEvent.active t a true) ↔ Rises w h a t
  rises_read talks = (read here talks).0

  pub falls_read : (arc w a).mode ≡ mode.Negotiate → IsTold h (PlainEvent.active t a false) ↔ Falls w h a t
  falls_read talks = (read here talks).1

  pub quiet_read : (arc w a).mode ≢ mode.Negotiate → (v : Bool) → ¬ IsTold h (PlainEvent.active t a v)
  quiet_read off v = quiet here off v

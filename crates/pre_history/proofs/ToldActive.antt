-- In a legal history the last `active` event up to a tick tells whether the arc is Active there: an induction over moments.
use Rattle.std.proofs.Common.{ℕ, zero, suc, ◌≡◌, ◌==◌, ◌&&◌, ◌+◌, ◌*◌, ◌<◌, ◌≤◌, nat_le, Bool, true, false, List}
use Rattle.std.proofs.Common.{[], ◌∷◌, ◌++◌, length, refl, sym, ◌∙◌, ap, inl, inr, arith, subst, Some, None, filter_map}
use Rattle.std.specs.Prelude.{◌↔◌, if◌then◌else◌, unwrap_or}
use Rattle.std.specs.Bool.{Decides, one_answer}
use Rattle.std.proofs.lemmas.Bool.Decides.{nat_tests}
use Rattle.std.proofs.lemmas.List.Elements.{filter_map-append}
use Rattle.pre_topo.specs.declared.arcs.Mode.TheVariants as mode
use Rattle.pre_history.specs.Scenario.{Scenario, arc}
use Rattle.pre_history.specs.Moments.{Phase, moments, Moment, moment_at}
use Rattle.pre_history.specs.History.{PlainEvent, History}
use Rattle.pre_history.specs.Selected.{active_on}
use Rattle.pre_history.specs.Octets.{ToldActive}
use Rattle.pre_history.specs.LinkState.{Active, ActiveBefore}
use Rattle.pre_history.specs.Rules.{change, HappensIn, Happens}
use Rattle.pre_history.specs.Placed.{number, IsAt, AllAt, IsBefore}
use Rattle.pre_history.specs.Legal.{LegalUpTo}
use Rattle.pre_history.proofs.Lists.{every_weaker, none_selected, no_append}
use Rattle.pre_history.proofs.Chosen.{last_push, selected_like}
use Rattle.pre_history.proofs.Moments.{moment_in, expiries_place}
use Rattle.pre_history.proofs.Placing.{placed, moment_events}
use Rattle.pre_history.proofs.Turns.{tick_le, tick_lt}
use Rattle.pre_history.proofs.Steady.{less_or_equal, number_lt}
use Rattle.pre_history.proofs.Stays.{told_same}
use Rattle.pre_history.proofs.Unread.{LaterGives, IsUnread, active_stays, reverse_within}
use Rattle.pre_base.specs.Last.{last}
use Rattle.pre_history.proofs.NatTests.{is_eq, not_by}
use Rattle.pre_history.proofs.Places.{later_tick}

is_by : (m n : ℕ) → m ≤ n → nat_le m n ≡ true
is_by m n le = grind (arith, nat_tests)

decides_like : {P Q : Type 0} (b : Bool) → Decides b P → Q ↔ P → Decides b Q
decides_like b decides like = (λ is. like.1 (decides.0 is), λ q. decides.1 (like.0 q))

module _ (arcs a : ℕ) (a_lt : a < arcs) where
  -- events after the arc's expiry at the tick tell nothing of it
  none_at : (t n : ℕ) → number arcs t (1 + 2 * arcs + a) < n → (e : PlainEvent) → IsAt arcs n e → active_on a t e ≡ None
  none_at t n lt (PlainEvent.active s b v) (b_lt, at) = go (b == a) refl
    where
      go : (same : Bool) → (b == a) ≡ same → (if same && nat_le s t then Some v else None) ≡ None
      go false is = refl
      go true is =
          let on : b ≡ a = grind (arith, nat_tests) in
          let after : number arcs t (1 + 2 * arcs + a) < number arcs s (1 + 2 * arcs + a) = omega (arith, lt, at, on) in
          ap (λ (x : Bool). if x then Some v else None) (not_by s t (tick_lt (moments arcs) t s (1 + 2 * arcs + a) after))
  none_at t n lt (PlainEvent.set s b v) at = refl
  none_at t n lt (PlainEvent.begin b) at = refl
  none_at t n lt (PlainEvent.ended e) at = refl
  none_at t n lt (PlainEvent.arrive x) at = refl
  none_at t n lt (PlainEvent.deliver d) at = refl
  none_at t n lt (PlainEvent.enter e) at = refl
  none_at t n lt (PlainEvent.dropped e) at = refl
  none_at t n lt (PlainEvent.count b c) at = refl
  none_at t n lt (PlainEvent.end e) at = refl

  -- events before it tell what they told of the tick before
  told_before : (t : ℕ) (e : PlainEvent) → IsBefore arcs (number arcs (suc t) (1 + 2 * arcs + a)) e → active_on a (suc t) e ≡ active_on a t e
  told_before t (PlainEvent.active s b v) (m, lt, (b_lt, at)) = go (b == a) refl
    where
      go : (same : Bool) → (b == a) ≡ same → (if same && nat_le s (suc t) then Some v else None) ≡ (if same && nat_le s t then Some v else None)
      go false is = refl
      go true is =
          let on : b ≡ a = grind (arith, nat_tests) in
          let after : number arcs s (1 + 2 * arcs + a) < number arcs (suc t) (1 + 2 * arcs + a) = omega (arith, lt, at, on) in
          let early : s < suc t = tick_lt (moments arcs) s (suc t) (1 + 2 * arcs + a) after in
          ap (λ (x : Bool). if x then Some v else None) (is_by s (suc t) (omega (arith, early)) ∙ sym (is_by s t (omega (arith, early))))
  told_before t (PlainEvent.set s b v) at = refl
  told_before t (PlainEvent.begin b) at = refl
  told_before t (PlainEvent.ended e) at = refl
  told_before t (PlainEvent.arrive x) at = refl
  told_before t (PlainEvent.deliver d) at = refl
  told_before t (PlainEvent.enter e) at = refl
  told_before t (PlainEvent.dropped e) at = refl
  told_before t (PlainEvent.count b c) at = refl
  told_before t (PlainEvent.end e) at = refl

  -- before tick 0 nothing is told
  none_before : (e : PlainEvent) → IsBefore arcs (number arcs 0 (1 + 2 * arcs + a)) e → active_on a 0 e ≡ None
  none_before (PlainEvent.active s b v) (m, lt, (b_lt, at)) = go (b == a) refl
    where
      go : (same : Bool) → (b == a) ≡ same → (if same && nat_le s 0 then Some v else None) ≡ None
      go false is = refl
      go true is =
          let on : b ≡ a = grind (arith, nat_tests) in
          let after : number arcs s (1 + 2 * arcs + a) < number arcs 0 (1 + 2 * arcs + a) = omega (arith, lt, at, on) in
          absurd (let early : s < 0 = tick_lt (moments arcs) s 0 (1 + 2 * arcs + a) after in omega (arith, early))
  none_before (PlainEvent.set s b v) at = refl
  none_before (PlainEvent.begin b) at = refl
  none_before (PlainEvent.ended e) at = refl
  none_before (PlainEvent.arrive x) at = refl
  none_before (PlainEvent.deliver d) at = refl
  none_before (PlainEvent.enter e) at = refl
  none_before (PlainEvent.dropped e) at = refl
  none_before (PlainEvent.count b c) at = refl
  none_before (PlainEvent.end e) at = refl

  -- no query of link state at the tick reads events from its expiry on
  unread_at : (t n : ℕ) → number arcs t (1 + 2 * arcs + a) ≤ n → (e : PlainEvent) → IsAt arcs n e → IsUnread t e
  unread_at t n le (PlainEvent.begin b) (b_lt, at) = tick_le (moments arcs) t b.tick (1 + 2 * arcs + a) (2 + 3 * arcs + b.arc) (omega (arith, b_lt)) (omega (arith, le, at))
  unread_at t n le (PlainEvent.ended e) (e_lt, at) = later_tick (moments arcs) t e.tick (1 + e.arc) (1 + 2 * arcs + a) (omega (arith, e_lt)) (omega (arith, le, at))
  unread_at t n le (PlainEvent.arrive x) (x_lt, at) = later_tick (moments arcs) t x.tick (1 + arcs + x.arc) (1 + 2 * arcs + a) (omega (arith, x_lt)) (omega (arith, le, at))
  unread_at t n le (PlainEvent.active s b v) (b_lt, at) = tick_le (moments arcs) t s (1 + 2 * arcs + a) (1 + 2 * arcs + b) (omega (arith, b_lt)) (omega (arith, le, at))
  unread_at t n le (PlainEvent.set s b v) at = tt
  unread_at t n le (PlainEvent.deliver d) at = tt
  unread_at t n le (PlainEvent.enter e) at = tt
  unread_at t n le (PlainEvent.dropped e) at = tt
  unread_at t n le (PlainEvent.count b c) at = tt
  unread_at t n le (PlainEvent.end e) at = tt

-- after the arc's expiry the last event tells what is so now
told_change : (w : Scenario) (past : History) (t a : ℕ) (now before : Bool) → ToldActive w past a t ≡ before → ToldActive w (past ++ change t a now before) a t ≡ now
told_change w past t a true true told = ap (λ (x : History). ToldActive w x a t) (no_append past [] refl) ∙ told
told_change w past t a false false told = ap (λ (x : History). ToldActive w x a t) (no_append past [] refl) ∙ told
told_change w past t a true false told =
    ap (λ (xs : List Bool). unwrap_or (last xs) false) (filter_map-append (active_on a t) past (PlainEvent.active t a true ∷ []) ∙ ap (λ xs. filter_map (active_on a t) past ++ xs) (rw (is_eq a a refl, is_by t t (omega arith)) refl))
    ∙ ap (λ o. unwrap_or o false) (last_push (filter_map (active_on a t) past) true)
told_change w past t a false true told =
    ap (λ (xs : List Bool). unwrap_or (last xs) false) (filter_map-append (active_on a t) past (PlainEvent.active t a false ∷ []) ∙ ap (λ xs. filter_map (active_on a t) past ++ xs) (rw (is_eq a a refl, is_by t t (omega arith)) refl))
    ∙ ap (λ o. unwrap_or o false) (last_push (filter_map (active_on a t) past) false)

module _ (later : LaterGives) (w : Scenario) (a : ℕ) (a_lt : a < length w.net.arcs) (talks : (arc w a).mode ≡ mode.Negotiate) where
  -- the last event before the arc's expiry tells what was so at the tick before
  told_last : (past : History) (t : ℕ) (before : Bool) → LegalUpTo w (number (length w.net.arcs) t (1 + 2 * length w.net.arcs + a)) past
      → ((s : ℕ) → s < t → Decides (ToldActive w past a s) (Active w past a s)) → Decides before (ActiveBefore w past a t) → ToldActive w past a t ≡ before
  told_last past zero before legal told is =
      let none : filter_map (active_on a 0) past ≡ []
      = none_selected (active_on a 0) past (every_weaker (IsBefore (length w.net.arcs) (number (length w.net.arcs) 0 (1 + 2 * length w.net.arcs + a))) (λ e. active_on a 0 e ≡ None) (none_before (length w.net.arcs) a a_lt) past (placed w (number (length w.net.arcs) 0 (1 + 2 * length w.net.arcs + a)) past legal)) in
      let no : false ≡ before = one_answer false before ((λ e. absurd (cc e)), (λ x. absurd x)) is in
      ap (λ (xs : List Bool). unwrap_or (last xs) false) none ∙ no
  told_last past (suc t) before legal told is =
      ap (λ (xs : List Bool). unwrap_or (last xs) false)
      (selected_like (active_on a (suc t)) (active_on a t) past (every_weaker (IsBefore (length w.net.arcs) (number (length w.net.arcs) (suc t) (1 + 2 * length w.net.arcs + a))) (λ e. active_on a (suc t) e ≡ active_on a t e) (told_before (length w.net.arcs) a a_lt t) past (placed w (number (length w.net.arcs) (suc t) (1 + 2 * length w.net.arcs + a)) past legal)))
      ∙ one_answer (ToldActive w past a t) before (told t (omega arith)) is

  told_now : (past es : History) (t : ℕ) → LegalUpTo w (number (length w.net.arcs) t (1 + 2 * length w.net.arcs + a)) past → AllAt (length w.net.arcs) (number (length w.net.arcs) t (1 + 2 * length w.net.arcs + a)) es
      → ((s : ℕ) → s < t → Decides (ToldActive w past a s) (Active w past a s)) → HappensIn w past t (Phase.expiries a) es → Decides (ToldActive w (past ++ es) a t) (Active w (past ++ es) a t)
  unfolding HappensIn
  told_now past es t legal at told (inr (off, is)) = absurd (off talks)
  told_now past es t legal at told (inl (on, (now, before, is_now, is_before, is))) =
      let answer : ToldActive w (past ++ es) a t ≡ now = ap (λ (x : History). ToldActive w (past ++ x) a t) is ∙ told_change w past t a now before (told_last past t before legal told is_before) in
      let unread = every_weaker (IsAt (length w.net.arcs) (number (length w.net.arcs) t (1 + 2 * length w.net.arcs + a))) (IsUnread t) (unread_at (length w.net.arcs) a a_lt t (number (length w.net.arcs) t (1 + 2 * length w.net.arcs + a)) (omega arith)) es at in
      let stays = active_stays later w (number (length w.net.arcs) t (1 + 2 * length w.net.arcs + a)) past es legal t unread a (reverse_within w a a_lt) in
      subst (λ b. Decides b (Active w (past ++ es) a t)) (sym answer) (decides_like now is_now stays)

  -- told Active is Active
  pub told_active : (n : ℕ) (h : History) → LegalUpTo w n h → (t : ℕ) → number (length w.net.arcs) t (1 + 2 * length w.net.arcs + a) < n → Decides (ToldActive w h a t) (Active w h a t)
  told_active zero h legal t lt = absurd (omega (arith, lt))
  told_active (suc n) h (past, es, is, legal, happens) t lt =
      let at = moment_events w past n es happens in
      subst (λ (x : History). Decides (ToldActive w x a t) (Active w x a t)) (sym is) (elim (less_or_equal (number (length w.net.arcs) t (1 + 2 * length w.net.arcs + a)) n lt) [
        | inl before ↦
            let told = told_same w past es a t (every_weaker (IsAt (length w.net.arcs) n) (λ e. active_on a t e ≡ None) (none_at (length w.net.arcs) a a_lt t n before) es at) in
            let unread = every_weaker (IsAt (length w.net.arcs) n) (IsUnread t) (unread_at (length w.net.arcs) a a_lt t n (omega (arith, before))) es at in
            let stays = active_stays later w n past es legal t unread a (reverse_within w a a_lt) in
            subst (λ b. Decides b (Active w (past ++ es) a t)) (sym told) (decides_like (ToldActive w past a t) (told_active n past legal t before) stays)
        | inr same ↦
            let within : 1 + 2 * length w.net.arcs + a < moments (length w.net.arcs) = omega (arith, a_lt) in
            let here : moment_at (length w.net.arcs) n ≡ record { tick = t; phase = Phase.expiries a }
            = ap (moment_at (length w.net.arcs)) (sym same) ∙ (moment_in (length w.net.arcs) t (1 + 2 * length w.net.arcs + a) within ∙ ap (λ (p : Phase). record { tick = t; phase = p }) (expiries_place (length w.net.arcs) a a_lt)) in
            told_now past es t (subst (λ m. LegalUpTo w m past) (sym same) legal) (subst (λ m. AllAt (length w.net.arcs) m es) (sym same) at)
            (λ s s_lt. told_active n past legal s (subst (λ m. number (length w.net.arcs) s (1 + 2 * length w.net.arcs + a) < m) same (number_lt (moments (length w.net.arcs)) s t (1 + 2 * length w.net.arcs + a) (omega arith) s_lt)))
            (subst (λ (m : Moment). Happens w past m es) here happens)
      ])

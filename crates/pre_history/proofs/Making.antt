-- The events of a moment's ends and arrivals are those of the one mPacket whose turn it is.
use Rattle.std.proofs.Common.{ℕ, zero, suc, ◌≡◌, ◌≢◌, ◌+◌, ◌<◌, ◌≤◌, List, [], ◌∷◌, length, refl, sym, inl, inr, arith, subst, Some}
use Rattle.std.specs.Prelude.{slice_get}
use Rattle.std.proofs.lemmas.List.{append-nil}
use Rattle.pre_history.specs.Scenario.{Scenario}
use Rattle.pre_history.specs.Moments.{Phase}
use Rattle.pre_history.specs.History.{PlainEvent, History, Begin, Ended}
use Rattle.pre_history.specs.Queries.{Begins, Ends, Arrivals}
use Rattle.pre_history.specs.Rules.{Each, OneOrNone, EndDue, Arriving, HappensIn}
use Rattle.pre_history.specs.Placed.{number}
use Rattle.pre_history.specs.Legal.{LegalUpTo}
use Rattle.pre_history.proofs.Lists.{within}
use Rattle.pre_history.proofs.Placing.{placed}
use Rattle.pre_history.proofs.EndTurns.{not_again}
use Rattle.pre_history.proofs.ArrivalTurns.{not_due}
use Rattle.pre_history.proofs.InOrder.{steady}

each_none : {X : Type 0} (R : X → List PlainEvent → Type 0) (xs : List X) → ((i : ℕ) (x : X) → slice_get xs i ≡ Some x → R x []) → Each R xs []
each_none R [] none = refl
each_none R (x ∷ xs) none = ([], [], none 0 x refl, each_none R xs (λ i y at. none (suc i) y at), refl)

each_one : {X : Type 0} (R : X → List PlainEvent → Type 0) (xs : List X) (es : List PlainEvent) (m : ℕ) (y : X) → slice_get xs m ≡ Some y
    → ((i : ℕ) (x : X) → i ≢ m → slice_get xs i ≡ Some x → R x []) → R y es → Each R xs es
each_one R [] es m y at none here = absurd (cc at)
each_one {X} R (x ∷ xs) es zero y at none here =
    let same : y ≡ x = cc at in
    (es, [], subst (λ (z : X). R z es) same here, each_none R xs (λ i z at'. none (suc i) z (λ e. absurd (omega (arith, e))) at'), sym (append-nil es))
each_one R (x ∷ xs) es (suc m) y at none here =
    ([], es, none 0 x (λ e. absurd (omega (arith, e))) refl, each_one R xs es m y at (λ i z other at'. none (suc i) z (λ e. other (omega (arith, e))) at') here, refl)

module _ (w : Scenario) (past : History) (t a : ℕ) (a_lt : a < length w.net.arcs) where
  module _ (legal : LegalUpTo w (number (length w.net.arcs) t (1 + a)) past) where
    has_ended : (i : ℕ) (b : Begin) → i < length (Ends past a) → slice_get (Begins past a) i ≡ Some b → OneOrNone (EndDue w past t b) []
    has_ended i b lt here =
        inr ((λ e due. cc (not_again w past [] t a a_lt (omega (arith, a_lt)) (placed w (number (length w.net.arcs) t (1 + a)) past legal) tt (steady w (number (length w.net.arcs) t (1 + a)) past a a_lt legal) i b (e ∷ []) lt here (inl (e, due, refl)))), refl)

    -- the mPacket that hasn't ended yet
    pub ends_one : (es : History) (b : Begin) → slice_get (Begins past a) (length (Ends past a)) ≡ Some b → OneOrNone (EndDue w past t b) es → HappensIn w past t (Phase.ends a) es
    unfolding HappensIn
    ends_one es b here due =
        let order = (steady w (number (length w.net.arcs) t (1 + a)) past a a_lt legal).ordered in
        each_one (λ b fs. OneOrNone (EndDue w past t b) fs) (Begins past a) es (length (Ends past a)) b here
        (λ i c other at. has_ended i c (omega (arith, within (Begins past a) i c at, order.few_open, other)) at) due

    -- there is none
    pub ends_none : length (Begins past a) ≤ length (Ends past a) → HappensIn w past t (Phase.ends a) []
    unfolding HappensIn
    ends_none all = each_none (λ b fs. OneOrNone (EndDue w past t b) fs) (Begins past a) (λ i c at. has_ended i c (omega (arith, within (Begins past a) i c at, all)) at)

  module _ (legal : LegalUpTo w (number (length w.net.arcs) t (1 + length w.net.arcs + a)) past) where
    not_next : (i : ℕ) (e : Ended) → i ≢ length (Arrivals past a) → slice_get (Ends past a) i ≡ Some e → Arriving w past t a e []
    not_next i e other here =
        inr (
          not_due w past [] t a a_lt (omega (arith, a_lt)) (placed w (number (length w.net.arcs) t (1 + length w.net.arcs + a)) past legal) tt
              (steady w (number (length w.net.arcs) t (1 + length w.net.arcs + a)) past a a_lt legal) i e other here,
          refl,
        )

    -- the next mPacket to arrive
    pub arrives_one : (es : History) (e : Ended) → slice_get (Ends past a) (length (Arrivals past a)) ≡ Some e → Arriving w past t a e es → HappensIn w past t (Phase.arrivals a) es
    unfolding HappensIn
    arrives_one es e here arriving = each_one (Arriving w past t a) (Ends past a) es (length (Arrivals past a)) e here not_next arriving

    -- there is none
    pub arrives_none : length (Ends past a) ≤ length (Arrivals past a) → HappensIn w past t (Phase.arrivals a) []
    unfolding HappensIn
    arrives_none all = each_none (Arriving w past t a) (Ends past a) (λ i e at. not_next i e (λ same. absurd (omega (arith, same, all, within (Ends past a) i e at))) at)

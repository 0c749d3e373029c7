-- The events of an arrival are decided, since an arrival gives one thing at most.
use Rattle.std.proofs.Common.{ℕ, ◌≡◌, List, sym, ◌∙◌, ap, inl, inr, subst, Option, Bool, true, false}
use Rattle.std.specs.Prelude.{option_and_then}
use Rattle.pre_mpacket.specs.Spelling.{mpacket_of}
use Rattle.pre_mpacket.specs.Arrivals.{Given, Gives, IsLost}
use Rattle.pre_history.specs.declared.events.Outcome.{Outcome}
use Rattle.pre_history.specs.Scenario.{Scenario}
use Rattle.pre_history.specs.History.{History, Ended}
use Rattle.pre_history.specs.Octets.{Air}
use Rattle.pre_history.specs.ArrivalResults.{result_of, Result}
use Rattle.pre_history.specs.Rules.{Arriving, EventsOf, WithDelivery}
use Rattle.pre_history.proofs.Deciding.{IsOne}
use Rattle.pre_history.specs.Selected.{is_frame_result}

-- an arrival gives one thing at most, which is a law of mPackets
abbrev pub OneGiven : Type 0
OneGiven = (A : List (Option (List ℕ))) (i : ℕ) (g h : Given) → Gives A i g → Gives A i h → g ≡ h

-- what was lost spells nothing
pub lost_gives_nothing : (A : List (Option (List ℕ))) (i : ℕ) (g : Given) → IsLost A i → Gives A i g → ⊥
lost_gives_nothing A i g lost (m, at, gives) = cc (at, ap (λ o. option_and_then (λ x. option_and_then mpacket_of x) o) lost)

pub result_one : OneGiven → (A : List (Option (List ℕ))) (i : ℕ) → IsOne (Result A i)
result_one one A i r s (inl (lost, is)) (inl (lost', is')) = is ∙ sym is'
result_one one A i r s (inl (lost, is)) (inr (inl (g, gives, is'))) = absurd (lost_gives_nothing A i g lost gives)
result_one one A i r s (inl (lost, is)) (inr (inr (here, none, is'))) = absurd (here lost)
result_one one A i r s (inr (inl (g, gives, is))) (inl (lost, is')) = absurd (lost_gives_nothing A i g lost gives)
result_one one A i r s (inr (inl (g, gives, is))) (inr (inl (g', gives', is'))) = is ∙ (ap result_of (one A i g g' gives gives') ∙ sym is')
result_one one A i r s (inr (inl (g, gives, is))) (inr (inr (here, none, is'))) = absurd (none g gives)
result_one one A i r s (inr (inr (here, none, is))) (inl (lost, is')) = absurd (here lost)
result_one one A i r s (inr (inr (here, none, is))) (inr (inl (g, gives, is'))) = absurd (none g gives)
result_one one A i r s (inr (inr (here, none, is))) (inr (inr (here', none', is'))) = is ∙ sym is'

pub delivery_one : OneGiven → (w : Scenario) (past : History) (t a i : ℕ) (r : Outcome) → IsOne (WithDelivery w past t a i r)
delivery_one one w past t a i r es fs = by_test (is_frame_result r)
  where
    by_test : (is_user : Bool) → EventsOf w past t is_user a i r es → EventsOf w past t is_user a i r fs → es ≡ fs
    by_test true (f, octets, frame, gives, is) (g, octets', frame', gives', is') =
        let same : f ≡ g = cc (frame, frame') in
        let octets_same : Given.frame octets ≡ Given.frame octets' = one (Air w past a) i (Given.frame octets) (Given.frame octets') gives gives' in
        cc (same, octets_same, is, is')
    by_test false is is' = is ∙ sym is'

pub arriving_one : OneGiven → (w : Scenario) (past : History) (t a : ℕ) (e : Ended) → IsOne (Arriving w past t a e)
arriving_one one w past t a e es fs (inl (due, (r, is, gives))) (inl (due', (s, is', gives'))) =
    let same : r ≡ s = result_one one (Air w past a) e.ord r s is is' in
    delivery_one one w past t a e.ord s es fs (subst (λ x. WithDelivery w past t a e.ord x es) same gives) gives'
arriving_one one w past t a e es fs (inl (due, some)) (inr (not_due, none)) = absurd (not_due due)
arriving_one one w past t a e es fs (inr (not_due, none)) (inl (due, some)) = absurd (not_due due)
arriving_one one w past t a e es fs (inr (not_due, none)) (inr (not_due', none')) = none ∙ sym none'

-- What begins on an arc at a tick is what the rule says by the whole history.
use Rattle.std.proofs.Common.{ℕ, zero, suc, ◌≡◌, ◌⊎◌, ◌==◌, ◌+◌, ◌*◌, ◌<◌, true, List, [], ◌∷◌, ◌++◌}
use Rattle.std.proofs.Common.{length, refl, sym, ◌∙◌, ap, inl, inr, arith, subst, Some}
use Rattle.std.specs.Prelude.{◌↔◌, slice_get}
use Rattle.std.proofs.lemmas.List.Elements.{filter_map-append}
use Rattle.pre_history.specs.Scenario.{Scenario}
use Rattle.pre_history.specs.Moments.{Phase, moments}
use Rattle.pre_history.specs.History.{PlainEvent, History, Begin}
use Rattle.pre_history.specs.Selected.{begin_on}
use Rattle.pre_history.specs.Queries.{Begins, Occupied}
use Rattle.pre_history.specs.Starts.{Item, place, Choice, There, StartRule}
use Rattle.pre_history.specs.Rules.{OneOrNone, StartDue, HappensIn}
use Rattle.pre_history.specs.Placed.{number}
use Rattle.pre_history.specs.Legal.{LegalUpTo}
use Rattle.pre_history.proofs.Lists.{any_at, found_at, every_at}
use Rattle.pre_history.proofs.Moments.{starts_place}
use Rattle.pre_history.proofs.Placing.{placed}
use Rattle.pre_history.proofs.Free.{begins_before}
use Rattle.pre_history.proofs.Turns.{tick_lt}
use Rattle.pre_history.proofs.Starts.{rule_one}
use Rattle.pre_history.proofs.Decided.{occupied_decided}
use Rattle.pre_history.specs.Read.{HasBegun, IsIdle}
use Rattle.pre_history.proofs.Places.{all_later_from}
use Rattle.pre_history.proofs.StartsStay.{rule_stays}
use Rattle.pre_history.proofs.Around.{Around, around, begins_within, split_three}
use Rattle.pre_history.proofs.NatTests.{is_eq}

-- where nothing is the first item that is there, none is there
none_there : (w : Scenario) (h : History) (a t : ℕ) → ¬ Occupied w h a t → ((c : Choice) → ¬ StartRule w h a t c) → (n : ℕ) (i : Item) (c : Choice) → place i < n → ¬ There w h a t i c
unfolding StartRule
none_there w h a t free none zero i c lt there = absurd (omega (arith, lt))
none_there w h a t free none (suc n) i c lt there = none c (free, (i, there, λ j d less. none_there w h a t free none n j d (omega (arith, lt, less))))

pub place_bound : (i : Item) → place i < 7
place_bound Item.express = omega arith
place_bound Item.respond = omega arith
place_bound Item.verify = omega arith
place_bound Item.lldp = omega arith
place_bound Item.rest = omega arith
place_bound Item.preemptable = omega arith

module _ (w : Scenario) (n : ℕ) (h : History) (a t : ℕ) (a_lt : a < length w.net.arcs) (legal : LegalUpTo w n h) (lt : number (length w.net.arcs) t (2 + 3 * length w.net.arcs + a) < n) where
  here : Around w n h t (2 + 3 * length w.net.arcs + a) (Phase.starts a)
  here = around w n h t (2 + 3 * length w.net.arcs + a) (Phase.starts a) (omega (arith, a_lt)) (starts_place (length w.net.arcs) a) lt legal

  module _ (o : Around w n h t (2 + 3 * length w.net.arcs + a) (Phase.starts a)) where
    same_rule : (c : Choice) → StartRule w h a t c ↔ StartRule w o.front a t c
    same_rule c =
        subst (λ (x : History). StartRule w x a t c ↔ StartRule w o.front a t c) (sym o.joined)
        (rule_stays w (number (length w.net.arcs) t (2 + 3 * length w.net.arcs + a)) o.front (o.events ++ o.rest) o.legal t
        (all_later_from (length w.net.arcs) t (number (length w.net.arcs) t (2 + 3 * length w.net.arcs + a)) n (o.events ++ o.rest) (omega arith) o.follows) a a_lt c)

    -- a begin of the tick stands among the events of the moment
    now : (i : ℕ) (b : Begin) → slice_get (Begins h a) i ≡ Some b → b.tick ≡ t → (j : ℕ) × (slice_get (Begins o.events a) j ≡ Some b)
    now i b at is = elim (split_three (begin_on a) h o.front o.events o.rest o.joined i b at) [
      | inr (inl found) ↦ found
      | inl old ↦
          let y = every_at (λ (b : Begin). (b.arc ≡ a) × (number (length w.net.arcs) b.tick (2 + 3 * length w.net.arcs + a) < number (length w.net.arcs) t (2 + 3 * length w.net.arcs + a))) (Begins o.front a) i b
          (begins_before (length w.net.arcs) (number (length w.net.arcs) t (2 + 3 * length w.net.arcs + a)) a o.front (placed w (number (length w.net.arcs) t (2 + 3 * length w.net.arcs + a)) o.front o.legal)) old in
          let early = tick_lt (moments (length w.net.arcs)) b.tick t (2 + 3 * length w.net.arcs + a) y.1 in
          absurd (omega (arith, early, is))
      | inr (inr new) ↦
          let y = begins_within (length w.net.arcs) (suc (number (length w.net.arcs) t (2 + 3 * length w.net.arcs + a))) n a o.rest o.later new.0 b new.1 in
          let late = tick_lt (moments (length w.net.arcs)) t b.tick (2 + 3 * length w.net.arcs + a) (omega (arith, y)) in
          absurd (omega (arith, late, is))
    ]

    -- what began by the moment's events
    module _ (c : Choice) (es_is : o.events ≡ PlainEvent.begin (record { tick = t; arc = a; ord = length (Begins o.front a); kind = c.kind; what = c.what; from = c.from }) ∷ []) where
      r : Begin
      r = record { tick = t; arc = a; ord = length (Begins o.front a); kind = c.kind; what = c.what; from = c.from }

      one_begin : Begins o.events a ≡ r ∷ []
      unfolding r
      one_begin = let test : (a == a) ≡ true = is_eq a a refl in ap (λ x. Begins x a) es_is ∙ rw test refl

      has_begun : HasBegun h a t c
      unfolding r
      has_begun =
          let whole : Begins h a ≡ Begins o.front a ++ (Begins o.events a ++ Begins o.rest a)
          = ap (λ x. Begins x a) o.joined ∙ (filter_map-append (begin_on a) o.front (o.events ++ o.rest) ∙ ap (λ x. Begins o.front a ++ x) (filter_map-append (begin_on a) o.events o.rest)) in
          let there' : slice_get (Begins o.front a ++ (Begins o.events a ++ Begins o.rest a)) (length (Begins o.front a)) ≡ Some r
          = subst (λ (xs : List Begin). slice_get (Begins o.front a ++ (xs ++ Begins o.rest a)) (length (Begins o.front a)) ≡ Some r) (sym one_begin) (at_next (Begins o.front a) (Begins o.rest a)) in
          any_at (λ (b : Begin). (b.tick ≡ t) × (b.kind ≡ c.kind) × (b.what ≡ c.what) × (b.from ≡ c.from)) (Begins h a) (length (Begins o.front a)) r (ap (λ l. slice_get l (length (Begins o.front a))) whole ∙ there') (refl, refl, refl, refl)
        where
          at_next : (xs ys : List Begin) → slice_get (xs ++ (r ∷ ys)) (length xs) ≡ Some r
          at_next [] ys = refl
          at_next (x ∷ xs) ys = at_next xs ys

      -- nothing else did
      only : (d : Choice) → HasBegun h a t d → c ≡ d
      unfolding r
      only d (i, b, i_lt, at, (is, kind_is, what_is, from_is)) =
          let f = now i b (found_at (Begins h a) i b i_lt at) is in
          let same : r ≡ b = single f.0 (ap (λ l. slice_get l f.0) (sym one_begin) ∙ f.1) in
          λ i. record { kind = (ap (λ (x : Begin). x.kind) same ∙ kind_is) i; what = (ap (λ (x : Begin). x.what) same ∙ what_is) i; from = (ap (λ (x : Begin). x.from) same ∙ from_is) i }
        where
          single : {b : Begin} (j : ℕ) → slice_get (r ∷ []) j ≡ Some b → r ≡ b
          single zero at = cc at
          single (suc j) at = absurd (cc at)

    none_began : o.events ≡ [] → (c : Choice) → ¬ HasBegun h a t c
    none_began none c (i, b, i_lt, at, (is, kind_is, what_is, from_is)) =
        let f = now i b (found_at (Begins h a) i b i_lt at) is in
        let empty : slice_get (Begins [] a) f.0 ≡ Some b = subst (λ (x : History). slice_get (Begins x a) f.0 ≡ Some b) none f.1 in
        absurd (cc empty)

    decided : ((c : Choice) × (HasBegun h a t c) × StartRule w h a t c × ((d : Choice) → HasBegun h a t d → c ≡ d)) ⊎ (((c : Choice) → ¬ HasBegun h a t c) × ((c : Choice) → ¬ StartRule w h a t c))
    unfolding HappensIn
    decided = go o.happens
      where
        go : OneOrNone (StartDue w o.front t a) o.events
            → ((c : Choice) × (HasBegun h a t c) × StartRule w h a t c × ((d : Choice) → HasBegun h a t d → c ≡ d)) ⊎ (((c : Choice) → ¬ HasBegun h a t c) × ((c : Choice) → ¬ StartRule w h a t c))
        go (inl (e, (c, rule, is_begin), is)) =
            let es_is = is ∙ ap (λ x. x ∷ []) is_begin in
            inl (c, has_begun c es_is, (same_rule c).1 rule, only c es_is)
        go (inr (none, is)) = inr (none_began is, λ c rule. none _ (c, (same_rule c).0 rule, refl))

  pub starts_read : (c : Choice) → HasBegun h a t c ↔ StartRule w h a t c
  starts_read c = elim (decided here) [
    | inl (d, begun, rule, only) ↦ ((λ began. subst (StartRule w h a t) (only c began) rule), λ rules. subst (HasBegun h a t) (rule_one w h a t d c rule rules) begun)
    | inr (none, no_rule) ↦ ((λ began. absurd (none c began)), λ rules. absurd (no_rule c rules))
  ]

  pub idle_read : ((c : Choice) × HasBegun h a t c) ⊎ (((c : Choice) → ¬ HasBegun h a t c) × IsIdle w h a t)
  idle_read = elim (decided here) [
    | inl (d, begun, rule, only) ↦ inl (d, begun)
    | inr (none, no_rule) ↦ inr (
      none,
      elim (occupied_decided w h a t) [
        | inl busy ↦ inl busy
        | inr free ↦ inr (λ i c. none_there w h a t free no_rule 7 i c (place_bound i))
      ],
    )
  ]

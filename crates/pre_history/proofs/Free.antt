-- On an arc that isn't occupied each mPacket has ended, and the gap after it is over.
use Rattle.std.proofs.Common.{ℕ, zero, suc, ◌≡◌, ◌==◌, ◌+◌, ◌*◌, ◌<◌, ◌≤◌, Bool, true, false, List, [], ◌∷◌}
use Rattle.std.proofs.Common.{refl, sym, ◌∙◌, ap, inl, inr, arith, subst, Option, Some, None, map, filter}
use Rattle.std.specs.Prelude.{if◌then◌else◌, slice_get, MatchOption, ⊤}
use Rattle.std.specs.List.{AllByRecursion as Every}
use Rattle.std.proofs.lemmas.Bool.{cases_lt}
use Rattle.std.proofs.lemmas.Bool.Decides.{nat_tests}
use Rattle.pre_history.specs.Scenario.{Scenario, arc}
use Rattle.pre_history.specs.History.{PlainEvent, History, Begin, Ended, Arrive}
use Rattle.pre_history.specs.Selected.{begin_on, ended_on, arrive_on}
use Rattle.pre_history.specs.Queries.{Begins, Ends, Arrivals, Packets, packet, end_of, IsUnderWay, Occupied}
use Rattle.pre_history.specs.Placed.{number, IsBefore, AllBefore}
use Rattle.pre_history.proofs.Lists.{any_at, every_selected}
use Rattle.pre_history.proofs.NatTests.{is_eq}

no_eq : (m n : ℕ) → m < n → (m == n) ≡ false
no_eq m n lt = grind (arith, nat_tests)

-- where ordinals are places, the end with an ordinal stands at that place
pub first_numbered : (xs : List Ended) (n i t : ℕ) → t ≡ n + i → ((j : ℕ) (e : Ended) → slice_get xs j ≡ Some e → e.ord ≡ n + j) → slice_get (filter (λ e. e.ord == t) xs) 0 ≡ slice_get xs i
first_numbered [] n i t is places = refl
first_numbered (x ∷ xs) n zero t is places =
    let here : x.ord ≡ n + 0 = places 0 x refl in
    let test : (x.ord == t) ≡ true = is_eq x.ord t (here ∙ sym is) in
    rw test refl
first_numbered (x ∷ xs) n (suc i) t is places =
    let here : x.ord ≡ n + 0 = places 0 x refl in
    let test : (x.ord == t) ≡ false = no_eq x.ord t (omega (arith, here, is)) in
    rw test (first_numbered xs (suc n) i t (omega (arith, is)) (λ j e at. let there' : e.ord ≡ n + suc j = places (suc j) e at in omega (arith, there')))

pub packet_at : (h : History) (a i : ℕ) (b : Begin) → slice_get (Begins h a) i ≡ Some b → slice_get (Packets h a) i ≡ Some (packet h a b)
unfolding Packets
packet_at h a i b at = go (Begins h a) i at
  where
    go : (bs : List Begin) (i : ℕ) → slice_get bs i ≡ Some b → slice_get (map (packet h a) bs) i ≡ Some (packet h a b)
    go [] i at = absurd (cc at)
    go (c ∷ bs) zero at = ap (λ (x : Begin). Some (packet h a x)) (cc at)
    go (c ∷ bs) (suc i) at = go bs i at

pub free_end : (w : Scenario) (h : History) (a t i : ℕ) (b : Begin) → ((j : ℕ) (e : Ended) → slice_get (Ends h a) j ≡ Some e → e.ord ≡ j) → b.ord ≡ i
    → slice_get (Begins h a) i ≡ Some b → b.tick < t → ¬ Occupied w h a t → (e : Ended) × (slice_get (Ends h a) i ≡ Some e) × (e.tick + 12 * (arc w a).cost ≤ t)
free_end w h a t i b places ord at lt free = go (end_of h a b.ord) refl
  where
    same : end_of h a b.ord ≡ slice_get (Ends h a) i
    same = first_numbered (Ends h a) 0 i b.ord (omega (arith, ord)) (λ j e here. let is : e.ord ≡ j = places j e here in omega (arith, is))

    go : (o : Option Ended) → end_of h a b.ord ≡ o → (e : Ended) × (slice_get (Ends h a) i ≡ Some e) × (e.tick + 12 * (arc w a).cost ≤ t)
    go None is = absurd (free (any_at (IsUnderWay w h a t) (Packets h a) i (packet h a b) (packet_at h a i b at) (lt, subst (λ o. MatchOption o ⊤ (λ e. t < e.tick + 12 * (arc w a).cost)) (sym is) tt)))
    go (Some e) is = elim (cases_lt t (e.tick + 12 * (arc w a).cost)) [
      | inr over ↦ (e, sym same ∙ is, over)
      | inl within' ↦ absurd (free (any_at (IsUnderWay w h a t) (Packets h a) i (packet h a b) (packet_at h a i b at) (lt, subst (λ o. MatchOption o ⊤ (λ e. t < e.tick + 12 * (arc w a).cost)) (sym is) within')))
    ]

-- ---- what is selected on an arc stands at its moments

module _ (arcs n a : ℕ) where
  begin_before : (e : PlainEvent) (b : Begin) → IsBefore arcs n e → begin_on a e ≡ Some b → (b.arc ≡ a) × (number arcs b.tick (2 + 3 * arcs + a) < n)
  begin_before (PlainEvent.begin c) b (m, lt, (c_lt, at)) is = go (c.arc == a) refl is
    where
      go : (same : Bool) → (c.arc == a) ≡ same → (if same then Some c else None) ≡ Some b → (b.arc ≡ a) × (number arcs b.tick (2 + 3 * arcs + a) < n)
      go false off is = absurd (cc is)
      go true on is =
          let arc_is : c.arc ≡ a = grind (arith, nat_tests) in
          let same : c ≡ b = cc is in
          subst (λ (x : Begin). (x.arc ≡ a) × (number arcs x.tick (2 + 3 * arcs + a) < n)) same (arc_is, omega (arith, at, lt, arc_is))
  begin_before (PlainEvent.set s c v) b before is = absurd (cc is)
  begin_before (PlainEvent.ended c) b before is = absurd (cc is)
  begin_before (PlainEvent.arrive c) b before is = absurd (cc is)
  begin_before (PlainEvent.deliver c) b before is = absurd (cc is)
  begin_before (PlainEvent.active s c v) b before is = absurd (cc is)
  begin_before (PlainEvent.enter c) b before is = absurd (cc is)
  begin_before (PlainEvent.dropped c) b before is = absurd (cc is)
  begin_before (PlainEvent.count s c) b before is = absurd (cc is)
  begin_before (PlainEvent.end c) b before is = absurd (cc is)

  end_before : (e : PlainEvent) (b : Ended) → IsBefore arcs n e → ended_on a e ≡ Some b → (b.arc ≡ a) × (number arcs b.tick (1 + a) < n)
  end_before (PlainEvent.ended c) b (m, lt, (c_lt, at)) is = go (c.arc == a) refl is
    where
      go : (same : Bool) → (c.arc == a) ≡ same → (if same then Some c else None) ≡ Some b → (b.arc ≡ a) × (number arcs b.tick (1 + a) < n)
      go false off is = absurd (cc is)
      go true on is =
          let arc_is : c.arc ≡ a = grind (arith, nat_tests) in
          let same : c ≡ b = cc is in
          subst (λ (x : Ended). (x.arc ≡ a) × (number arcs x.tick (1 + a) < n)) same (arc_is, omega (arith, at, lt, arc_is))
  end_before (PlainEvent.set s c v) b before is = absurd (cc is)
  end_before (PlainEvent.begin c) b before is = absurd (cc is)
  end_before (PlainEvent.arrive c) b before is = absurd (cc is)
  end_before (PlainEvent.deliver c) b before is = absurd (cc is)
  end_before (PlainEvent.active s c v) b before is = absurd (cc is)
  end_before (PlainEvent.enter c) b before is = absurd (cc is)
  end_before (PlainEvent.dropped c) b before is = absurd (cc is)
  end_before (PlainEvent.count s c) b before is = absurd (cc is)
  end_before (PlainEvent.end c) b before is = absurd (cc is)

  arrival_before : (e : PlainEvent) (b : Arrive) → IsBefore arcs n e → arrive_on a e ≡ Some b → (b.arc ≡ a) × (number arcs b.tick (1 + arcs + a) < n)
  arrival_before (PlainEvent.arrive c) b (m, lt, (c_lt, at)) is = go (c.arc == a) refl is
    where
      go : (same : Bool) → (c.arc == a) ≡ same → (if same then Some c else None) ≡ Some b → (b.arc ≡ a) × (number arcs b.tick (1 + arcs + a) < n)
      go false off is = absurd (cc is)
      go true on is =
          let arc_is : c.arc ≡ a = grind (arith, nat_tests) in
          let same : c ≡ b = cc is in
          subst (λ (x : Arrive). (x.arc ≡ a) × (number arcs x.tick (1 + arcs + a) < n)) same (arc_is, omega (arith, at, lt, arc_is))
  arrival_before (PlainEvent.set s c v) b before is = absurd (cc is)
  arrival_before (PlainEvent.begin c) b before is = absurd (cc is)
  arrival_before (PlainEvent.ended c) b before is = absurd (cc is)
  arrival_before (PlainEvent.deliver c) b before is = absurd (cc is)
  arrival_before (PlainEvent.active s c v) b before is = absurd (cc is)
  arrival_before (PlainEvent.enter c) b before is = absurd (cc is)
  arrival_before (PlainEvent.dropped c) b before is = absurd (cc is)
  arrival_before (PlainEvent.count s c) b before is = absurd (cc is)
  arrival_before (PlainEvent.end c) b before is = absurd (cc is)

  pub begins_before : (h : History) → AllBefore arcs n h → Every (λ (b : Begin). (b.arc ≡ a) × (number arcs b.tick (2 + 3 * arcs + a) < n)) (Begins h a)
  begins_before h before = every_selected (begin_on a) (IsBefore arcs n) (λ b. (b.arc ≡ a) × (number arcs b.tick (2 + 3 * arcs + a) < n)) begin_before h before

  pub ends_before : (h : History) → AllBefore arcs n h → Every (λ (e : Ended). (e.arc ≡ a) × (number arcs e.tick (1 + a) < n)) (Ends h a)
  ends_before h before = every_selected (ended_on a) (IsBefore arcs n) (λ e. (e.arc ≡ a) × (number arcs e.tick (1 + a) < n)) end_before h before

  pub arrivals_before : (h : History) → AllBefore arcs n h → Every (λ (x : Arrive). (x.arc ≡ a) × (number arcs x.tick (1 + arcs + a) < n)) (Arrivals h a)
  arrivals_before h before = every_selected (arrive_on a) (IsBefore arcs n) (λ x. (x.arc ≡ a) × (number arcs x.tick (1 + arcs + a) < n)) arrival_before h before

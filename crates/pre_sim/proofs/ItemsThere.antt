-- Which of the items of the start rule are there, one after another.
use Rattle.std.proofs.Common.{ℕ, zero, suc, ◌≡◌, ◌≢◌, ◌⊎◌, ◌+◌, ◌%◌, ◌<◌, ◌≤◌, Bool, true, false, length}
use Rattle.std.proofs.Common.{refl, sym, ◌∙◌, ap, inl, inr, arith, subst, [], ◌∷◌}
use Rattle.std.specs.Bool.{Decides}
use Rattle.std.proofs.lemmas.Bool.{cases_eq, false≢true}
use Rattle.pre_topo.specs.declared.arcs.Mode.{Mode}
use Rattle.pre_topo.specs.declared.arcs.Mode.TheVariants as mode
use Rattle.pre_topo.specs.declared.arcs.Policy.{Policy}
use Rattle.pre_topo.specs.declared.arcs.Policy.TheVariants as policy
use Rattle.pre_mpacket.specs.declared.packets.Kind.TheVariants as kind
use Rattle.pre_history.specs.Scenario.{Scenario, arc}
use Rattle.pre_history.specs.History.{PlainEvent, History}
use Rattle.pre_history.specs.Moments.{Phase}
use Rattle.pre_history.specs.Queries.{Begins, Occupied}
use Rattle.pre_history.specs.LinkState.{Active, ActiveIn}
use Rattle.pre_history.specs.Rules.{HappensIn}
use Rattle.pre_history.specs.Starts.{Item, Choice, place, There, StartRule, IsFront, whole_frame, starts_before}
use Rattle.pre_outgoing.specs.declared.outgoing.Begun.{Begun}
use Rattle.pre_sim.specs.Starting.{NoneBelow, choice_of, begin_event}

-- the item at a place
item_at : ℕ → Item
item_at zero = Item.express
item_at (suc zero) = Item.express
item_at (suc (suc zero)) = Item.respond
item_at (suc (suc (suc zero))) = Item.verify
item_at (suc (suc (suc (suc zero)))) = Item.lldp
item_at (suc (suc (suc (suc (suc zero))))) = Item.rest
item_at (suc (suc (suc (suc (suc (suc n)))))) = Item.preemptable

item_is : (i : Item) → item_at (place i) ≡ i
unfolding item_at
item_is Item.express = refl
item_is Item.respond = refl
item_is Item.verify = refl
item_is Item.lldp = refl
item_is Item.rest = refl
item_is Item.preemptable = refl

some_place : (i : Item) → 1 ≤ place i
some_place Item.express = omega arith
some_place Item.respond = omega arith
some_place Item.verify = omega arith
some_place Item.lldp = omega arith
some_place Item.rest = omega arith
some_place Item.preemptable = omega arith

few_places : (i : Item) → place i < 7
few_places Item.express = omega arith
few_places Item.respond = omega arith
few_places Item.verify = omega arith
few_places Item.lldp = omega arith
few_places Item.rest = omega arith
few_places Item.preemptable = omega arith

module _ (w : Scenario) (h : History) (a t : ℕ) where
  -- there is none before the first one
  pub none_first : NoneBelow w h a t 1
  none_first i c lt there = let some = some_place i in omega (arith, lt, some)

  -- one more isn't there
  pub none_more : (i : Item) (n : ℕ) → place i ≡ n → NoneBelow w h a t n → ((c : Choice) → ¬ There w h a t i c) → NoneBelow w h a t (n + 1)
  none_more i n is below none j c lt there = elim (cases_eq (place j) n) [
    | inl same ↦
        let one : j ≡ i = sym (item_is j) ∙ (ap item_at (same ∙ sym is) ∙ item_is i) in
        none c (subst (λ k. There w h a t k c) one there)
    | inr other ↦ below j c (omega (arith, lt, other)) there
  ]

  -- on an arc that doesn't negotiate there is nothing for the link
  pub none_for_link : (arc w a).mode ≢ mode.Negotiate → NoneBelow w h a t 2 → NoneBelow w h a t 5
  none_for_link off below =
      none_more Item.lldp 4 refl (none_more Item.verify 3 refl (none_more Item.respond 2 refl below (λ c there. off there.0)) (λ c there. off there.0)) (λ c there. off there.0)

  -- the first one that is there begins
  pub first_begins : ¬ Occupied w h a t → (i : Item) (c : Choice) → There w h a t i c → NoneBelow w h a t (place i) → StartRule w h a t c
  unfolding StartRule
  first_begins free i c there none = (free, (i, there, λ j d lt. none j d lt))

  -- nothing begins on an occupied arc, nor where nothing is there
  pub busy_starts : (¬ Occupied w h a t → ⊥) → HappensIn w h t (Phase.starts a) []
  unfolding HappensIn StartRule
  busy_starts busy = inr ((λ e due. busy due.1.0), refl)

  pub idle_starts : NoneBelow w h a t 7 → HappensIn w h t (Phase.starts a) []
  unfolding HappensIn StartRule
  idle_starts none = inr ((λ e due. none due.1.1.0 due.0 (few_places due.1.1.0) due.1.1.1), refl)

  -- what begins by the rule is what happens
  pub first_due : (b : Begun) → StartRule w h a t (choice_of b) → b.ord ≡ length (Begins h a) → HappensIn w h t (Phase.starts a) (begin_event t a b ∷ [])
  unfolding HappensIn
  first_due b rule ord = inl (begin_event t a b, (choice_of b, rule, λ i. PlainEvent.begin (record { tick = t; arc = a; ord = ord i; kind = b.kind; what = b.what; from = b.from })), refl)

  -- ---- whether an arc is active

  pub active_off : (arc w a).mode ≡ mode.Off → Decides false (Active w h a t)
  unfolding Active
  active_off off = ((λ is. absurd (false≢true is)), λ active. absurd (subst (λ (m : Mode). ActiveIn w h a m t) off active))

  pub active_on : (arc w a).mode ≡ mode.On → Decides true (Active w h a t)
  unfolding Active
  active_on on = ((λ is. subst (λ (m : Mode). ActiveIn w h a m t) (sym on) tt), λ active. refl)

  -- ---- a preemptable frame

  -- a front one begins in fragments where the arc is active
  pub preemptable_first : (f : ℕ) → IsFront w h a t 0 (arc w a).express_from f → Active w h a t → There w h a t Item.preemptable (whole_frame f (kind.Start (starts_before w h a t % 4)))
  preemptable_first f front active = (f, kind.Start (starts_before w h a t % 4), front, inl (active, refl), refl)

  -- and else whole, unless it waits
  goes_whole : Decides false (Active w h a t) → ¬ (((arc w a).mode ≡ mode.Negotiate) × ((arc w a).policy ≡ policy.Quiet)) → ((arc w a).mode ≡ mode.Off) ⊎ ((arc w a).policy ≡ policy.Pass)
  goes_whole inactive loud = go (arc w a).mode (arc w a).policy refl refl
    where
      go : (m : Mode) (p : Policy) → (arc w a).mode ≡ m → (arc w a).policy ≡ p → ((arc w a).mode ≡ mode.Off) ⊎ ((arc w a).policy ≡ policy.Pass)
      go mode.Off p is its = inl is
      go mode.On p is its = absurd (false≢true (inactive.1 ((active_on is).0 refl)))
      go mode.Negotiate policy.Pass is its = inr its
      go mode.Negotiate policy.Quiet is its = absurd (loud (is, its))

  pub preemptable_whole : (f : ℕ) → IsFront w h a t 0 (arc w a).express_from f → Decides false (Active w h a t) → ¬ (((arc w a).mode ≡ mode.Negotiate) × ((arc w a).policy ≡ policy.Quiet))
      → There w h a t Item.preemptable (whole_frame f kind.Express)
  preemptable_whole f front inactive loud = (f, kind.Express, front, inr ((λ active. false≢true (inactive.1 active)), goes_whole inactive loud, refl), refl)

  -- none goes on an arc that isn't active and is quiet
  pub none_on_quiet : Decides false (Active w h a t) → (arc w a).mode ≡ mode.Negotiate → (arc w a).policy ≡ policy.Quiet → (c : Choice) → ¬ There w h a t Item.preemptable c
  none_on_quiet inactive negotiates quiet c (f, k, front, inl (active, is), so) = false≢true (inactive.1 active)
  none_on_quiet inactive negotiates quiet c (f, k, front, inr (off, inl never, is), so) = cc (negotiates, never)
  none_on_quiet inactive negotiates quiet c (f, k, front, inr (off, inr pass, is), so) = cc (quiet, pass)

-- what a test that failed decides isn't there
pub no_item : {P : Type 0} (r : Bool) → Decides r P → r ≡ false → ¬ P
no_item r decides off is = false≢true (sym off ∙ decides.1 is)

-- What comes to a ring has an entry in it, and what is told has its delivery.
use Rattle.std.proofs.Common.{ℕ, zero, suc, Bool, true, false, ◌==◌, ◌&&◌, ◌≡◌, List, [], ◌∷◌, refl, sym, ◌∙◌, ap, inl, inr, subst, Option, Some, None}
use Rattle.std.specs.Prelude.{slice_get, filter_map, if◌then◌else◌}
use Rattle.std.specs.List.{cons_option}
use Rattle.std.proofs.lemmas.Bool.{and_from}
use Rattle.pre_history.specs.History.{Delivery, Entry, PlainEvent, History}
use Rattle.pre_history.specs.Selected.{RingEntry, delivery_of, entry_on}
use Rattle.pre_history.specs.Queries.{Deliveries, Entries}
use Rattle.pre_history.specs.Read.{IsTold}
use Rattle.pre_history.proofs.Lists.{found_at}
use Rattle.pre_history.proofs.NatTests.{is_eq}
use Rattle.pre_laws.specs.Routed.{IsEntry}
use Rattle.pre_delay.proofs.Arcs.{Some_of}

some_cons : {X : Type 0} (P : X → Type 0) (o : Option X) (xs : List X) → Some_of P xs → Some_of P (cons_option o xs)
some_cons P None xs some = some
some_cons P (Some x) xs some = inr some

some_selected : {X Y : Type 0} (sel : X → Option Y) (P : Y → Type 0) (xs : List X) (i : ℕ) (x : X) (y : Y) → slice_get xs i ≡ Some x → sel x ≡ Some y → P y → Some_of P (filter_map sel xs)
some_selected sel P [] i x y at is p = absurd (cc at)
some_selected {X} {Y} sel P (z ∷ xs) zero x y at is p =
    let same : z ≡ x = cc at in
    subst (λ (o : Option Y). Some_of P (cons_option o (filter_map sel xs))) (sym (ap sel same ∙ is)) (inl p)
some_selected sel P (z ∷ xs) (suc i) x y at is p = some_cons P (sel z) (filter_map sel xs) (some_selected sel P xs i x y at is p)

-- an entry or a drop stands in its ring
pub entry_in_ring : (h : History) (i : ℕ) (e : Entry) → IsEntry h i e → Some_of (λ (r : RingEntry). r.frame ≡ e.frame) (Entries h e.arc e.prio)
entry_in_ring h i e found = elim found [
  | inl at ↦ some_selected (entry_on e.arc e.prio) (λ (r : RingEntry). r.frame ≡ e.frame) h i (PlainEvent.enter e) (made true) at (here (made true)) refl
  | inr at ↦ some_selected (entry_on e.arc e.prio) (λ (r : RingEntry). r.frame ≡ e.frame) h i (PlainEvent.dropped e) (made false) at (here (made false)) refl
]
  where
    made : Bool → RingEntry
    made b = record { tick = e.tick; frame = e.frame; entered = b }

    here : (r : RingEntry) → (if (e.arc == e.arc) && (e.prio == e.prio) then Some r else None) ≡ Some r
    here r = ap (λ b. if b then Some r else None) (and_from (e.arc == e.arc) (e.prio == e.prio) (is_eq e.arc e.arc refl) (is_eq e.prio e.prio refl))

pub told_delivery : (h : History) (d : Delivery) (P : Delivery → Type 0) → IsTold h (PlainEvent.deliver d) → P d → Some_of P (Deliveries h)
told_delivery h d P (i, e, lt, at, is) p = some_selected delivery_of P h i e d (found_at h i e lt at) (ap delivery_of is) p

use Rattle.std.proofs.Common.{ℕ, zero, suc, ◌≡◌, List, [], ◌∷◌, refl, sym, ◌∙◌, ap, Option, Some, None}
use Rattle.std.specs.Prelude.{slice_get, slice_set}
use Rattle.pre_rings.specs.declared.slots.FrameRef.{FrameRef}
use Rattle.pre_rings.specs.Stores.{HoldsFrame}
use Rattle.pre_send.proofs.tests.frame_in.Goals as goal

get_other : (xs : List (Option (List ℕ))) (i j : ℕ) (y : Option (List ℕ)) → ¬ (j ≡ i) → slice_get (slice_set xs i y) j ≡ slice_get xs j
get_other [] i j y apart = refl
get_other (x ∷ xs) zero zero y apart = absurd (apart refl)
get_other (x ∷ xs) zero (suc j) y apart = refl
get_other (x ∷ xs) (suc i) zero y apart = refl
get_other (x ∷ xs) (suc i) (suc j) y apart = get_other xs i j y (λ e. apart (ap suc e))

-- a slot that was in holds no other frame
others_stay : (old mid new : List (Option (List ℕ))) (slot : ℕ) (octets : List ℕ) → slice_get old slot ≡ Some None → mid ≡ slice_set old slot (Some []) → new ≡ slice_set mid slot (Some octets)
    → (f : FrameRef) → HoldsFrame old f → HoldsFrame new f
others_stay old mid new slot octets free taken filled f (held, at, size) =
    let apart : ¬ (f.slot ≡ slot) = λ e. let both : Some (Some held) ≡ Some None = sym at ∙ (ap (slice_get old) e ∙ free) in absurd (cc both) in (
      held,
      ap (λ l. slice_get l f.slot) filled
          ∙ (get_other mid slot f.slot (Some octets) apart ∙ (ap (λ l. slice_get l f.slot) taken ∙ (get_other old slot f.slot (Some []) apart ∙ at))),
      size,
    )

pub returns-clause-others : goal.returns-clause-others
returns-clause-others c =
    others_stay c.args.store.now c.take_slot.new.self c.fill.new.self c.in_ok-slot.slot c.args.octets.now c.in_ok-slot.ensures.was_in c.in_ok-slot.ensures.taken c.fill.ensures

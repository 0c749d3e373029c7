-- The frame that stands at the front of the memory for one.
use Rattle.std.proofs.Common.{◌≡◌, ◌⊎◌, ℕ, List, length, ap, ◌∙◌, inl, inr, take_all, arith}
use Rattle.pre_history.specs.declared.events.What.{What}
use Rattle.pre_history.specs.declared.events.What.TheVariants as what
use Rattle.pre_incoming.specs.Judging.{frame_at_front}

-- one that is no user frame stands there whole
pub whole : (x : What) (front : List ℕ) → (x ≡ what.Lldp) ⊎ (x ≡ what.Nothing) → frame_at_front x (length front) front ≡ front
whole x front (inl is) = ap (λ y. frame_at_front y (length front) front) is ∙ take_all (length front) front (omega arith)
whole x front (inr is) = ap (λ y. frame_at_front y (length front) front) is ∙ take_all (length front) front (omega arith)

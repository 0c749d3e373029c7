-- What began on an arc, by the item that was there at its tick.
use Rattle.std.proofs.Common.{ℕ, ◌≡◌, ◌+◌, ◌*◌, ◌<◌, length, refl, Some}
use Rattle.std.specs.Prelude.{slice_get}
use Rattle.pre_history.specs.Scenario.{Scenario}
use Rattle.pre_history.specs.History.{History, Begin}
use Rattle.pre_history.specs.Queries.{Begins}
use Rattle.pre_history.specs.Starts.{Item, Choice, There, StartRule}
use Rattle.pre_history.specs.Placed.{number}
use Rattle.pre_history.specs.Legal.{LegalUpTo}
use Rattle.pre_history.proofs.Lists.{every_at, any_at}
use Rattle.pre_history.proofs.Placing.{placed}
use Rattle.pre_history.proofs.Free.{begins_before}
use Rattle.pre_history.proofs.StartsRead.{starts_read}

abbrev pub choice_of : Begin → Choice
choice_of b = record { kind = b.kind; what = b.what; from = b.from }

module _ (w : Scenario) (n : ℕ) (h : History) (legal : LegalUpTo w n h) (a : ℕ) (a_lt : a < length w.net.arcs) where
  pub by_item : (i : ℕ) (b : Begin) → slice_get (Begins h a) i ≡ Some b → (it : Item) × There w h a b.tick it (choice_of b)
  unfolding StartRule
  by_item i b at =
      let y = every_at (λ (b : Begin). (b.arc ≡ a) × (number (length w.net.arcs) b.tick (2 + 3 * length w.net.arcs + a) < n)) (Begins h a) i b (begins_before (length w.net.arcs) n a h (placed w n h legal)) at in
      let rule : StartRule w h a b.tick (choice_of b) = (starts_read w n h a b.tick a_lt legal y.1 (choice_of b)).0
      (any_at (λ (x : Begin). (x.tick ≡ b.tick) × (x.kind ≡ b.kind) × (x.what ≡ b.what) × (x.from ≡ b.from)) (Begins h a) i b at (refl, refl, refl, refl)) in
      (rule.1.0, rule.1.1)

use Rattle.std.proofs.Common.{◌≡◌, ℕ, ◌<◌, ◌≤◌, length, All}
use Rattle.std.specs.Vec.{vec_capacity}
use Rattle.pre_rings.specs.Slots.{times}
use Rattle.pre_rings.proofs.store.free_list.Given as goal

abbrev pub invariant-loop-place : goal.invariant-loop-place
invariant-loop-place l = record {
  passed : (p : ℕ) → p < l.place → times l.free.items p ≡ 1;
  ahead : (p : ℕ) → l.place ≤ p → times l.free.items p ≡ 0;
  within : All (λ q. q < l.slots) l.free.items;
  all : length l.free.items ≡ l.place;
  capacity : l.slots ≤ vec_capacity l.free;
}

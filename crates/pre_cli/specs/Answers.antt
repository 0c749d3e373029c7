-- What a call of a command sees of the outside.
use Rattle.std.specs.Prelude.{ℕ, Option}
use Rattle.pre_base.specs.Shelves.{Told}
use Rattle.pre_base.specs.Sinks.{Taken}

-- the counts of faults of shelf and sink before and after the call, and what the shelf and the sink tell then
pub record Outside : Type 0 where
  pub shelf_before : ℕ
  pub shelf_after : ℕ
  pub sink_before : ℕ
  pub sink_after : ℕ
  pub told_before : Option Told
  pub told_after : Option Told
  pub taken_before : Option Taken
  pub taken_after : Option Taken

-- what a call sees whose shelf and sink count faults and tell like this, and were and are these
abbrev pub outside : {A B : Type 0} → (A → ℕ) → (A → Option Told) → A → A → (B → ℕ) → (B → Option Taken) → B → B → Outside
outside fails tells old new refuses takes before after = record {
  shelf_before = fails old;
  shelf_after = fails new;
  sink_before = refuses before;
  sink_after = refuses after;
  told_before = tells old;
  told_after = tells new;
  taken_before = takes before;
  taken_after = takes after;
}

-- What is under way, once it is told that an express frame waits.
use Rattle.std.specs.Prelude.{◌≡◌, ℕ, Option, Some, None}
use Rattle.pre_send.specs.declared.going.Going.{Going}
use Rattle.pre_send.specs.Tasks.{TaskTold}

-- the first such tick counts
abbrev pub GoingTold : Option ℕ → Going → Going → ℕ → ℕ → ℕ → Type 0
GoingTold (Some t) old new waits cost add_frag = (new.began ≡ old.began) × (new.waits ≡ old.waits) × (new.task ≡ old.task)
GoingTold None old new waits cost add_frag = (new.began ≡ old.began) × (new.waits ≡ Some waits) × TaskTold old.task new.task old.began waits cost add_frag

-- What contracts see of a shelf that tells nothing of content.
use Rattle.std.specs.Prelude.{ℕ}

pub record ShelfCounts : Type 0 where
  pub handed : ℕ
  pub faults : ℕ

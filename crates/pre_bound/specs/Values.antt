-- The numbers of a certificate, by what they are numbers of.
use Rattle.std.specs.Prelude.{ℕ, Bool}

pub record Values : Type 0 where
  -- whether arcs have ranks
  pub ranked : Bool
  -- of an arc: its rank, and octets
  pub rank : ℕ → ℕ
  pub largest : ℕ → ℕ
  -- of an arc and a priority: in ticks, ticks, octets in 1,000,000 ticks, ticks and octets
  pub block : ℕ → ℕ → ℕ
  pub work : ℕ → ℕ → ℕ
  pub rate : ℕ → ℕ → ℕ
  pub delay : ℕ → ℕ → ℕ
  pub size : ℕ → ℕ → ℕ
  -- of a stream and a hop of its route, in octets
  pub burst : ℕ → ℕ → ℕ
  -- of a stream, in ticks
  pub bound : ℕ → ℕ

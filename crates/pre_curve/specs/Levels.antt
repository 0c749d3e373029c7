-- How full a bucket stands that each send fills and time drains.
use Rattle.std.specs.Prelude.{◌≡◌, ℕ, ◌+◌, ◌-◌, ◌*◌, ◌<◌, ◌≤◌, ◌⊎◌, List, length, drop}
use Rattle.pre_curve.specs.Windows.{Offer, octets_of, tick_at}

-- the level is the greatest excess, in millionths of an octet, of the sends from some place on over what the rate gives up
-- to the latest tick, or 0 where there is none
pub record IsLevel (rate : ℕ) (offers : List Offer) (latest level : ℕ) : Type 0 where
  pub above : (i : ℕ) → i < length offers → 1_000_000 * octets_of (drop i offers) ≤ level + rate * (latest - tick_at offers i)
  pub reached : (level ≡ 0) ⊎ ((i : ℕ) × (i < length offers) × (1_000_000 * octets_of (drop i offers) ≡ level + rate * (latest - tick_at offers i)))

-- How often a row sends, and at which ticks.
use Rattle.std.proofs.Common.{ℕ, ◌+◌, ◌-◌, ◌*◌, ◌/◌, ◌<◌, ◌≤◌, arith}
use Rattle.std.proofs.Math.Nat.{div-mul-le_self, mul-le-mul_right}
use Rattle.pre_plant.specs.Scripts.{times}

-- each send is before the stop
pub before_stop : (first period k : ℕ) → first < 9_000_000 → k < times first period → first + k * period < 9_000_000
unfolding times
before_stop first period k low often =
    let whole : (8_999_999 - first) / period * period ≤ 8_999_999 - first = div-mul-le_self (8_999_999 - first) period in
    let part : k * period ≤ (8_999_999 - first) / period * period = mul-le-mul_right period (omega arith) in
    omega arith

pub product_before_stop : (first period k : ℕ) → first < 9_000_000 → k < times first period → k * period < 9_000_000
product_before_stop first period k low often = omega (arith, before_stop first period k low often)

-- The closed forms are the least solutions, and they rise with what they are made of.
use Rattle.std.proofs.Common.{◌≡◌, ℕ, zero, suc, ◌+◌, ◌-◌, ◌*◌, ◌/◌, ◌%◌, ◌<◌, ◌≤◌, arith}
use Rattle.std.proofs.Math.Nat.{le-max_left, le-max_right, max-le, mul-le-mul_right, mul-le-mul_left}
use Rattle.std.proofs.lemmas.Nat.{div_below, div-add-mod', mod_below}
use Rattle.pre_bound.specs.Solutions.{CoversDelay, CoversGrowth, CoversQueue, IsLeast, least_delay, least_growth, least_size}

-- a product that is above a number has a factor above the quotient
above_quotient : (n k m : ℕ) → 0 < k → n < (m + 1) * k → n / k ≤ m
above_quotient n k m h less = let below : n / k < m + 1 = div_below n k (m + 1) h less in omega arith

quotient_above : (n k m : ℕ) → 0 < k → n / k ≤ m → n < (m + 1) * k
quotient_above n k m h le =
    let whole : n / k * k + n % k ≡ n = div-add-mod' n k in
    let rest : n % k < k = mod_below n k h in
    let more : n / k * k ≤ m * k = mul-le-mul_right k le in
    let one : (m + 1) * k ≡ m * k + k = omega arith in
    omega arith

-- what covers some block and work needs time that the higher priorities leave
left_over : (n k m : ℕ) → n < (m + 1) * k → 0 < k
left_over n zero m h = let none : (m + 1) * 0 ≡ 0 = omega arith in absurd (omega arith)
left_over n (suc k) m h = omega arith

-- a delay that covers more than this block and work is at least the least one
pub least_delay-le : (block work rate cost b w d : ℕ) → block ≤ b → work ≤ w → CoversDelay b w rate cost d → least_delay block work rate cost ≤ d
least_delay-le block work rate cost b w d h k covers =
    let left = 1_000_000 - cost * rate in
    let busy : 1_000_000 * (b + w) < (d + 1) * left = covers.busy in
    let less : 1_000_000 * (block + work) < (d + 1) * left = omega arith in
    max-le covers.frame (above_quotient (1_000_000 * (block + work)) left d (left_over (1_000_000 * (b + w)) left d busy) less)

pub least_delay-covers : (block work rate cost : ℕ) → cost * rate < 1_000_000 → CoversDelay block work rate cost (least_delay block work rate cost)
least_delay-covers block work rate cost h =
    let left = 1_000_000 - cost * rate in
    let some : 0 < left = omega arith in
    record {
      busy = quotient_above (1_000_000 * (block + work)) left (least_delay block work rate cost) some
          (le-max_right (84 * cost) (1_000_000 * (block + work) / left));
      frame = le-max_left (84 * cost) (1_000_000 * (block + work) / left);
    }

pub IsLeast-delay : (block work rate cost : ℕ) → cost * rate < 1_000_000 → IsLeast (CoversDelay block work rate cost) (least_delay block work rate cost)
IsLeast-delay block work rate cost h = record {
  meets = least_delay-covers block work rate cost h;
  least = λ d covers. least_delay-le block work rate cost block work d (omega arith) (omega arith) covers;
}

-- a rise of the delay by a product
product_le : (rate d e : ℕ) → d ≤ e → rate * d ≤ rate * e
product_le rate d e h = mul-le-mul_left rate h

pub least_growth-le : (burst rate delay cost b d next : ℕ) → burst ≤ b → delay ≤ d → CoversGrowth b rate d cost next → least_growth burst rate delay cost ≤ next
least_growth-le burst rate delay cost b d next h k covers =
    let less : delay - 84 * cost ≤ d - 84 * cost = omega arith in
    let spread = product_le rate (delay - 84 * cost) (d - 84 * cost) less in
    omega (arith, spread, covers)

pub least_growth-covers : (burst rate delay cost : ℕ) → CoversGrowth burst rate delay cost (least_growth burst rate delay cost)
least_growth-covers burst rate delay cost = let spread = rate * (delay - 84 * cost) in covers spread
  where
    covers : (spread : ℕ) → 1_000_000 * burst + spread ≤ 1_000_000 * ((1_000_000 * burst + spread + 999_999) / 1_000_000)
    covers spread = omega arith

pub IsLeast-growth : (burst rate delay cost : ℕ) → IsLeast (CoversGrowth burst rate delay cost) (least_growth burst rate delay cost)
IsLeast-growth burst rate delay cost = record {
  meets = least_growth-covers burst rate delay cost;
  least = λ next covers. least_growth-le burst rate delay cost burst delay next (omega arith) (omega arith) covers;
}

pub least_size-le : (bursts rate delay b d size : ℕ) → bursts ≤ b → delay ≤ d → CoversQueue b rate d size → least_size bursts rate delay ≤ size
least_size-le bursts rate delay b d size h k covers =
    let more = product_le rate delay d k in
    omega (arith, more, covers)

pub least_size-covers : (bursts rate delay : ℕ) → CoversQueue bursts rate delay (least_size bursts rate delay)
least_size-covers bursts rate delay = covers (rate * delay)
  where
    covers : (more : ℕ) → 1_000_000 * bursts + more < 1_000_000 * ((1_000_000 * bursts + more) / 1_000_000 + 1)
    covers more = omega arith

pub IsLeast-size : (bursts rate delay : ℕ) → IsLeast (CoversQueue bursts rate delay) (least_size bursts rate delay)
IsLeast-size bursts rate delay = record {
  meets = least_size-covers bursts rate delay;
  least = λ size covers. least_size-le bursts rate delay bursts delay size (omega arith) (omega arith) covers;
}

-- a burst grows along its route
pub least_growth-rises : (burst rate delay cost : ℕ) → burst ≤ least_growth burst rate delay cost
least_growth-rises burst rate delay cost = rises (rate * (delay - 84 * cost))
  where
    rises : (spread : ℕ) → burst ≤ (1_000_000 * burst + spread + 999_999) / 1_000_000
    rises spread = omega arith

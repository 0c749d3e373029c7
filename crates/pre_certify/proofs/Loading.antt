-- What an arc that isn't overloaded leaves for the rates of some of its streams.
use Rattle.std.proofs.Common.{◌≡◌, ℕ, ◌*◌, ◌<◌, ◌≤◌, Bool, true, false, cond, List, [], ◌∷◌, refl, arith, length}
use Rattle.std.specs.Prelude.{sum_by, filter, nat_le, nat_lt, ◌&&◌}
use Rattle.std.proofs.Math.Nat.{mul-le-mul_left, mul-le-mul_right}
use Rattle.std.proofs.lemmas.Bool.{leb-false, le-leb, ltb-true, lt-ltb, and_parts, and_from}
use Rattle.pre_topo.specs.declared.network.Network.{Network}
use Rattle.pre_streams.specs.declared.rows.Row.{Row}
use Rattle.pre_bound.specs.Uses.{is_on, is_stream, takes, rate_of, rates_on, cost_at}
use Rattle.pre_bound.specs.Clauses.{Load}
use Rattle.pre_certify.specs.Loads.{is_overloaded, NoOverload}
use Rattle.pre_certify.proofs.Growing.{sum_on-cons}

wider : (p q : Bool) (m : ℕ) → (p ≡ true → q ≡ true) → cond p m 0 ≤ cond q m 0
wider false q m h = omega arith
wider true true m h = omega arith
wider true false m h = absurd (let no = h refl in cc)

sum_on-le : {X : Type 0} (f : X → ℕ) (p q : X → Bool) (xs : List X) → ((x : X) → p x ≡ true → q x ≡ true) → sum_by f (filter p xs) ≤ sum_by f (filter q xs)
sum_on-le f p q [] h = omega arith
sum_on-le f p q (x ∷ xs) h =
    let left = sum_on-cons f p x xs in
    let right = sum_on-cons f q x xs in
    let first = wider (p x) (q x) (f x) (h x) in
    let rest = sum_on-le f p q xs h in
    omega (arith, left, right, first, rest)

-- a narrower range of priorities
narrower : (arc low high : ℕ) (r : Row) → high ≤ 8 → is_on arc low high r ≡ true → is_on arc 0 8 r ≡ true
narrower arc low high r top on =
    let first = and_parts (is_stream r) (nat_le low r.prio && (nat_lt r.prio high && takes arc r)) on in
    let second = and_parts (nat_le low r.prio) (nat_lt r.prio high && takes arc r) first.1 in
    let third = and_parts (nat_lt r.prio high) (takes arc r) second.1 in
    let below : r.prio < high = ltb-true r.prio high third.0 in
    and_from _ _ first.0 (and_from _ _ (le-leb 0 r.prio (omega arith)) (and_from _ _ (lt-ltb r.prio 8 (omega arith)) third.1))

pub part_fits : (net : Network) (rows : List Row) (arc low high : ℕ) → high ≤ 8 → is_overloaded net rows arc ≡ false → cost_at net arc * rates_on arc low high rows < 1_000_000
part_fits net rows arc low high top load =
    let part = sum_on-le rate_of (is_on arc low high) (is_on arc 0 8) rows (λ r on. narrower arc low high r top on) in
    let product = mul-le-mul_left (cost_at net arc) part in
    let less = leb-false 1_000_000 (cost_at net arc * rates_on arc 0 8 rows) load in
    omega (arith, product, less)

pub rates_small : (net : Network) (rows : List Row) (arc low high : ℕ) → high ≤ 8 → 1 ≤ cost_at net arc → is_overloaded net rows arc ≡ false → rates_on arc low high rows < 1_000_000
rates_small net rows arc low high top some load =
    let fits = part_fits net rows arc low high top load in
    let product : 1 * rates_on arc low high rows ≤ cost_at net arc * rates_on arc low high rows = mul-le-mul_right (rates_on arc low high rows) some in
    omega (arith, product, fits)

-- no arc is overloaded
pub loads_fit : (net : Network) (rows : List Row) → NoOverload net rows → (arc : ℕ) → arc < length net.arcs → Load net rows arc
loads_fit net rows load arc inside = leb-false 1_000_000 (cost_at net arc * rates_on arc 0 8 rows) (load arc inside)

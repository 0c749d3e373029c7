-- Where a moment stands in its tick, and idle stretches.
use Rattle.std.proofs.Common.{ℕ, zero, suc, ◌≡◌, ◌≤◌, ◌<◌, ◌+◌, ◌-◌, ◌*◌, ◌/◌, ◌%◌, ◌==◌, nat_le, Bool, true, false, [], length, refl, sym, ap, arith, subst}
use Rattle.std.specs.Prelude.{if◌then◌else◌}
use Rattle.std.proofs.lemmas.List.{append-nil}
use Rattle.std.proofs.lemmas.Nat.{div-mul-add}
use Rattle.std.proofs.Math.Arith.{digits_mod}
use Rattle.std.proofs.lemmas.Bool.Decides.{nat_tests}
use Rattle.pre_history.specs.Scenario.{Scenario}
use Rattle.pre_history.specs.History.{History}
use Rattle.pre_history.specs.Moments.{Phase, moments, phase_at, moment_at}
use Rattle.pre_history.specs.Placed.{HasPlace, number}
use Rattle.pre_history.specs.Rules.{Happens}
use Rattle.pre_history.specs.Legal.{LegalUpTo}

-- place k of tick t
pub moment_in : (arcs t k : ℕ) → k < moments arcs → moment_at arcs (number arcs t k) ≡ record { tick = t; phase = phase_at arcs k }
moment_in arcs t k within =
    let tick : (t * moments arcs + k) / moments arcs ≡ t = div-mul-add t (moments arcs) k within in
    let rest : (t * moments arcs + k) % moments arcs ≡ k = digits_mod t within in
    λ i. record { tick = tick i; phase = phase_at arcs (rest i) }

test_eq : (m n : ℕ) → m ≡ n → (m == n) ≡ true
test_eq m n e = grind (arith, nat_tests)

no_eq : (m n : ℕ) → n < m → (m == n) ≡ false
no_eq m n lt = grind (arith, nat_tests)

no_le : (m n : ℕ) → n < m → nat_le m n ≡ false
no_le m n lt = grind (arith, nat_tests)

is_le : (m n : ℕ) → m ≤ n → nat_le m n ≡ true
is_le m n le = grind (arith, nat_tests)

-- the phase at each place
pub sets_place : (arcs : ℕ) → phase_at arcs 0 ≡ Phase.sets
sets_place arcs = refl

pub ends_place : (arcs a : ℕ) → a < arcs → phase_at arcs (1 + a) ≡ Phase.ends a
ends_place arcs a lt = rw (no_eq (1 + a) 0 (omega arith), is_le (1 + a) arcs (omega (arith, lt))) (ap Phase.ends (omega arith))

pub arrivals_place : (arcs a : ℕ) → a < arcs → phase_at arcs (1 + arcs + a) ≡ Phase.arrivals a
arrivals_place arcs a lt = rw (no_eq (1 + arcs + a) 0 (omega arith), no_le (1 + arcs + a) arcs (omega arith), is_le (1 + arcs + a) (2 * arcs) (omega (arith, lt))) (ap Phase.arrivals (omega arith))

pub expiries_place : (arcs a : ℕ) → a < arcs → phase_at arcs (1 + 2 * arcs + a) ≡ Phase.expiries a
expiries_place arcs a lt =
    rw (no_eq (1 + 2 * arcs + a) 0 (omega arith), no_le (1 + 2 * arcs + a) arcs (omega arith), no_le (1 + 2 * arcs + a) (2 * arcs) (omega arith), is_le (1 + 2 * arcs + a) (3 * arcs) (omega (arith, lt))) (ap Phase.expiries (omega arith))

pub entries_place : (arcs : ℕ) → phase_at arcs (1 + 3 * arcs) ≡ Phase.entries
entries_place arcs =
    rw (no_eq (1 + 3 * arcs) 0 (omega arith), no_le (1 + 3 * arcs) arcs (omega arith), no_le (1 + 3 * arcs) (2 * arcs) (omega arith), no_le (1 + 3 * arcs) (3 * arcs) (omega arith), test_eq (1 + 3 * arcs) (3 * arcs + 1) (omega arith)) refl

pub starts_place : (arcs a : ℕ) → phase_at arcs (2 + 3 * arcs + a) ≡ Phase.starts a
starts_place arcs a =
    rw (no_eq (2 + 3 * arcs + a) 0 (omega arith), no_le (2 + 3 * arcs + a) arcs (omega arith), no_le (2 + 3 * arcs + a) (2 * arcs) (omega arith), no_le (2 + 3 * arcs + a) (3 * arcs) (omega arith), no_eq (2 + 3 * arcs + a) (3 * arcs + 1) (omega arith)) (ap Phase.starts (omega arith))

-- each place has the phase of that place
pub place_of_phase : (arcs k : ℕ) → k < moments arcs → HasPlace arcs k (phase_at arcs k)
place_of_phase arcs k lt = first (k == 0) refl
  where
    fifth : (b : Bool) → (k == 3 * arcs + 1) ≡ b → 3 * arcs < k → HasPlace arcs k (if b then Phase.entries else Phase.starts (k - 2 - 3 * arcs))
    fifth true is above = grind (arith, nat_tests)
    fifth false is above = let other : (k ≡ 3 * arcs + 1) → ⊥ = grind (arith, nat_tests) in (omega (arith, lt, above, other), omega (arith, lt, above, other))

    fourth : (b : Bool) → nat_le k (3 * arcs) ≡ b → 2 * arcs < k → HasPlace arcs k (if b then Phase.expiries (k - 1 - 2 * arcs) else if k == 3 * arcs + 1 then Phase.entries else Phase.starts (k - 2 - 3 * arcs))
    fourth true is above = let le : k ≤ 3 * arcs = grind (arith, nat_tests) in (omega (arith, le, above), omega (arith, le, above))
    fourth false is above = fifth (k == 3 * arcs + 1) refl (grind (arith, nat_tests))

    third : (b : Bool) → nat_le k (2 * arcs) ≡ b → arcs < k
        → HasPlace arcs k (if b then Phase.arrivals (k - 1 - arcs) else if nat_le k (3 * arcs) then Phase.expiries (k - 1 - 2 * arcs) else if k == 3 * arcs + 1 then Phase.entries else Phase.starts (k - 2 - 3 * arcs))
    third true is above = let le : k ≤ 2 * arcs = grind (arith, nat_tests) in (omega (arith, le, above), omega (arith, le, above))
    third false is above = fourth (nat_le k (3 * arcs)) refl (grind (arith, nat_tests))

    second : (b : Bool) → nat_le k arcs ≡ b → 0 < k
        → HasPlace arcs k (if b then Phase.ends (k - 1) else if nat_le k (2 * arcs) then Phase.arrivals (k - 1 - arcs) else if nat_le k (3 * arcs) then Phase.expiries (k - 1 - 2 * arcs) else if k == 3 * arcs + 1 then Phase.entries else Phase.starts (k - 2 - 3 * arcs))
    second true is above = let le : k ≤ arcs = grind (arith, nat_tests) in (omega (arith, le, above), omega (arith, le, above))
    second false is above = third (nat_le k (2 * arcs)) refl (grind (arith, nat_tests))

    first : (b : Bool) → (k == 0) ≡ b
        → HasPlace arcs k (if b then Phase.sets else if nat_le k arcs then Phase.ends (k - 1) else if nat_le k (2 * arcs) then Phase.arrivals (k - 1 - arcs) else if nat_le k (3 * arcs) then Phase.expiries (k - 1 - 2 * arcs) else if k == 3 * arcs + 1 then Phase.entries else Phase.starts (k - 2 - 3 * arcs))
    first true is = grind (arith, nat_tests)
    first false is = second (nat_le k arcs) refl (grind (arith, nat_tests))

-- Where nothing happens at n moments, the same list is legal after them.
pub legal_idle : (w : Scenario) (h : History) (n m : ℕ) → LegalUpTo w m h → ((k : ℕ) → k < n → Happens w h (moment_at (length w.net.arcs) (m + k)) []) → LegalUpTo w (m + n) h
legal_idle w h zero m legal idle = rw (the_same m) legal
  where
    the_same : (x : ℕ) → x + 0 ≡ x
    the_same x = omega arith
legal_idle w h (suc n) m legal idle =
    let before : LegalUpTo w (m + n) h = legal_idle w h n m legal (λ k lt. idle k (omega (arith, lt))) in
    subst (λ x. LegalUpTo w x h) (next m n) (h, [], sym (append-nil h), before, idle n (omega arith))
  where
    next : (x y : ℕ) → suc (x + y) ≡ x + suc y
    next x y = omega arith

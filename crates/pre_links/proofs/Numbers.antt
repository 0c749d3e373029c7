-- Tests of numbers.
use Rattle.std.proofs.Common.{ℕ, ◌≡◌, ◌==◌, ◌<◌, ◌≤◌, nat_le, nat_lt, true, false, arith}
use Rattle.std.specs.Bool.{Decides}
use Rattle.std.proofs.lemmas.Bool.Decides.{nat_tests}

pub is_eq : (m : ℕ) → (m == m) ≡ true
is_eq m = grind (arith, nat_tests)

pub is_by : (m n : ℕ) → m ≤ n → nat_le m n ≡ true
is_by m n le = grind (arith, nat_tests)

pub not_by : (m n : ℕ) → n < m → nat_le m n ≡ false
not_by m n lt = grind (arith, nat_tests)

pub is_before : (m n : ℕ) → m < n → nat_lt m n ≡ true
is_before m n lt = grind (arith, nat_tests)

pub lt_decides : (r v : ℕ) → Decides (nat_lt r v) (r < v)
lt_decides r v = ((λ is. grind (arith, nat_tests)), (λ less. grind (arith, nat_tests)))

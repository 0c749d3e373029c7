-- What tests of numbers answer.
use Rattle.std.proofs.Common.{ℕ, ◌≡◌, ◌≢◌, ◌⊎◌, ◌==◌, ◌&&◌, ◌<◌, ◌≤◌, Bool, true, false, refl, arith}
use Rattle.std.specs.Prelude.{nat_le, nat_lt}
use Rattle.std.proofs.lemmas.Bool.Decides.{nat_tests}

pub is_eq : (m n : ℕ) → m ≡ n → (m == n) ≡ true
is_eq m n e = grind (arith, nat_tests)

pub is_lt : (m n : ℕ) → m < n → nat_lt m n ≡ true
is_lt m n lt = grind (arith, nat_tests)

pub and_false : (b : Bool) → (b && false) ≡ false
and_false true = refl
and_false false = refl

pub not_by : (m n : ℕ) → n < m → nat_le m n ≡ false
not_by m n lt = grind (arith, nat_tests)

pub not_before : (m n : ℕ) → n ≤ m → nat_lt m n ≡ false
not_before m n le = grind (arith, nat_tests)

pub by_then : (m n : ℕ) → nat_le m n ≡ true → m ≤ n
by_then m n is = grind (arith, nat_tests)

pub cases_eq : (m n : ℕ) → (m ≡ n) ⊎ (m ≢ n)
cases_eq m n = grind arith

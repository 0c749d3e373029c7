-- Tests on numbers and on booleans, and sums of numbers.
use Rattle.std.proofs.Common.{ℕ, ◌≡◌, ◌+◌, ◌&&◌, ◌||◌, Bool, true, false, refl, sym, arith}
use Rattle.std.specs.Prelude.{IsTrue}
use Rattle.std.proofs.lemmas.Bool.{false≢true}
-- what a test of two numbers gives, and what it says of them
pub use Rattle.std.proofs.lemmas.Bool.{eq-eqb as is_eq, ne_eqb as not_eq, lt-ltb as is_lt, le-leb as is_le, lt-leb as no_le, eqb-true as same_number, eqb-false as other_number}
-- both tests pass
pub use Rattle.std.proofs.lemmas.Bool.{and_parts as both_true}

-- one of two passes, and it isn't the first
pub or_false : (b : Bool) (c : Bool) → b ≡ false → IsTrue (b || c) → c ≡ true
or_false true c off passes = absurd (false≢true (sym off))
or_false false c off passes = passes

-- what a test against true and false leaves
pub and_or : (x y : Bool) → (x || ((y && true) || false)) ≡ (x || y)
and_or true y = refl
and_or false true = refl
and_or false false = refl

-- equal numbers make equal sums
pub adds : {k l m n : ℕ} → k ≡ l → m ≡ n → k + m ≡ l + n
adds p q = omega (arith, p, q)

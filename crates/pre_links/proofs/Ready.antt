-- Ticks at which a link may be settled.
use Rattle.std.proofs.Common.{ℕ, ◌≤◌, arith, Option, Some, None}
use Rattle.pre_verify.specs.Verifiers.{IsBelow}

pub before_later : (o : Option ℕ) (t u : ℕ) → t ≤ u → IsBelow o t → IsBelow o u
before_later None t u le b = tt
before_later (Some s) t u le b = omega (arith, le, b)

-- A text that is written in two pieces.
use Rattle.std.proofs.Common.{ℕ, List, ◌++◌, Option, Result}
use Rattle.std.specs.Result.{IsErr}
use Rattle.pre_base.specs.Told.{WhereTold}
use Rattle.pre_base.specs.Sinks.{Taken, TakesAll}
use Rattle.pre_base.specs.Sinks.{TakesWhole, TakesFront}
use Rattle.pre_base.proofs.Pieces.{untouched, goes_on, breaks, ends}

pub two_breaks : {U E : Type 0} (a b : Option Taken) (p q : List ℕ) (r : Result U E) → IsErr r → WhereTold a b (TakesFront p) → WhereTold a b (TakesAll r (p ++ q))
two_breaks a b p q r is took = breaks a a b (p ++ q) p q r is (untouched a (p ++ q)) took

pub two_ends : {U E : Type 0} (a b c : Option Taken) (p q : List ℕ) (r : Result U E) → WhereTold a b (TakesWhole p) → WhereTold b c (TakesAll r q) → WhereTold a c (TakesAll r (p ++ q))
two_ends a b c p q r first second = ends a b c (p ++ q) q r (goes_on a a b (p ++ q) p q (untouched a (p ++ q)) first) second

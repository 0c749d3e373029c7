-- A result that is no error.
use Rattle.std.proofs.Common.{Ok, Err, refl}
use Rattle.std.specs.Prelude.{Result, IsErr, OnOk, IfErr}

pub ok_of : {T E : Type 0} {P : Type 0} (r : Result T E) → ¬ IsErr r → OnOk r P → P
ok_of (Ok x) h p = p
ok_of (Err e) h p = absurd (h refl)

pub no_err : {T E : Type 0} (P : E → Type 0) (r : Result T E) → ¬ IsErr r → IfErr r P
no_err P (Ok x) h = tt
no_err P (Err e) h = absurd (h refl)

-- Ticks before a machine is due.
use Rattle.std.specs.Prelude.{ℕ, ◌<◌, ◌≡◌, ⊤, Bool, false, nat_le, Option, None, Some, refl}
use Rattle.std.proofs.Common.{sym, ◌∙◌, arith}
use Rattle.std.proofs.lemmas.Bool.{lt-leb}
use Rattle.pre_base.specs.declared.numbers.Tick.{Tick}

-- the machine is due later than this tick, or never
abbrev pub IsDueAfter : ℕ → Option Tick → Type 0
IsDueAfter t None = ⊤
IsDueAfter t (Some due) = t < due.0

-- whether it is due by this tick
abbrev pub is_over : Option Tick → ℕ → Bool
is_over None t = false
is_over (Some due) t = nat_le due.0 t

-- lemma: before it is due, it isn't due by any of two ticks
pub is_over-before : (due : Option Tick) (s t : ℕ) → s < t → IsDueAfter t due → is_over due t ≡ is_over due s
is_over-before None s t later before = refl
is_over-before (Some due) s t later before = lt-leb due.0 t before ∙ sym (lt-leb due.0 s (omega (arith, later, before)))

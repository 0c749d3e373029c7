-- What contracts see of a wheel.
use Rattle.std.specs.Prelude.{◌≡◌, ℕ, ◌<◌, ◌≤◌, ◌⊎◌, Option, None, Some, refl}
use Rattle.std.specs.FinMap as map
use Rattle.std.specs.Ordering.{nat_cmp}
use Rattle.std.specs.Coded.{Coded, code_by, coded×, coded_ℕ}
use Rattle.pre_base.specs.declared.numbers.Tick.{Tick}

-- how many members there may be, and the tick of each member that has one
pub record Dues : Type 0 where
  pub members : ℕ
  pub due : map.FinMap nat_cmp ℕ

abbrev pub dues_code : Coded Dues
dues_code =
    code_by (ℕ × map.FinMap nat_cmp ℕ) (coded× coded_ℕ (map.code coded_ℕ coded_ℕ)) (λ d. (d.members, d.due)) (λ p. record { members = p.0; due = p.1 }) (λ _. refl)

-- the same wheel once a member has this tick, or none
abbrev pub with_due : Dues → ℕ → Option Tick → Dues
with_due dues member None = record dues { due = map.remove dues.due member }
with_due dues member (Some tick) = record dues { due = map.insert dues.due member tick.0 }

-- a tick comes before another, or is the same and its member no later
abbrev pub ComesFirst : ℕ → ℕ → ℕ → ℕ → Type 0
ComesFirst tick member other_tick other = (tick < other_tick) ⊎ ((tick ≡ other_tick) × (member ≤ other))

-- the member has this tick, and no entry comes before it
pub record IsFirstDue (dues : Dues) (member tick : ℕ) : Type 0 where
  pub there : map.get dues.due member ≡ Some tick
  pub first : (other other_tick : ℕ) → map.get dues.due other ≡ Some other_tick → ComesFirst tick member other_tick other

-- no member has a tick
abbrev pub IsEmpty : Dues → Type 0
IsEmpty dues = (member : ℕ) → map.get dues.due member ≡ None

use Rattle.std.proofs.Common.{◌≡◌, ℕ, ◌<◌, Option, None, Some, arith, inl, inr}
use Rattle.std.specs.Option.{option_map}
use Rattle.std.specs.FinMap as map
use Rattle.pre_base.specs.declared.numbers.Tick.{Tick}
use Rattle.pre_wheel.specs.Dues.{Dues, IsFirstDue, IsEmpty}
use Rattle.pre_wheel.specs.Until.{IsDueAfter}
use Rattle.pre_wheel.proofs.laws.skipping_law.Goals as goal

before_least : (dues : Dues) (first tick member t : ℕ) (due : Option Tick) → IsFirstDue dues first tick → map.get dues.due member ≡ option_map (λ d. d.0) due → t < tick → IsDueAfter t due
before_least dues first tick member t None least there h = tt
before_least dues first tick member t (Some d) least there h =
    elim (least.first member d.0 there) [ inl less ↦ omega arith | inr same ↦ omega (arith, same.0) ]

never : (dues : Dues) (member t : ℕ) (due : Option Tick) → IsEmpty dues → map.get dues.due member ≡ option_map (λ d. d.0) due → IsDueAfter t due
never dues member t None empty there = tt
never dues member t (Some d) empty there = let none = empty member in absurd (cc)

pub returns-clause-least : goal.returns-clause-least
returns-clause-least c = before_least

pub returns-clause-none : goal.returns-clause-none
returns-clause-none c = never

use Rattle.std.proofs.Common.{ℕ, zero, suc, ◌⊎◌, List, [], ◌∷◌, inl, inr, arith}
use Rattle.std.specs.Prelude.{Contains}
use Rattle.std.proofs.lemmas.Bool.Decides.{eqb_tells}
use Rattle.std.proofs.lemmas.Map.Made.{Contains-tail}
use Rattle.pre_mpacket.proofs.CutSizes.{cut_one, cut_some}
use Rattle.pre_mpacket.proofs.laws.one_size.Goals as goal

-- whether a list contains a number is decided
contained : (xs : List ℕ) (x : ℕ) → Contains xs x ⊎ ¬ Contains xs x
contained [] x = inr (λ h. omega (arith, h.1))
contained (y ∷ ys) x =
    elim (eqb_tells y x) [
      | inl same ↦ inl (zero, omega arith, same.1)
      | inr other ↦ elim (contained ys x) [
        | inl h ↦ inl (suc h.0, omega (arith, h.1), h.2)
        | inr none ↦ inr (λ h. none (Contains-tail y ys x other.1 h))
      ]
    ]

pub returns-clause-some : goal.returns-clause-some
returns-clause-some c = λ waiting. cut_some (λ t. Contains waiting t) (contained waiting)

pub returns-clause-one : goal.returns-clause-one
returns-clause-one c = λ waiting. cut_one (λ t. Contains waiting t)

-- Where it is decided at which ticks an express frame waits, a fragment has one size and no other.
use Rattle.std.proofs.Common.{ℕ, zero, suc, ◌≡◌, ◌⊎◌, ◌≤◌, ◌<◌, ◌+◌, ◌-◌, ◌*◌, refl, sym, ◌∙◌, ap, inl, inr, subst, lit<}
use Rattle.std.proofs.Math.Nat.{le_antisymm, not-suc-le-zero, le_of_suc-le-suc, lt_of_lt_of_le, not-le_of_lt, sub-pos_iff_lt}
use Rattle.std.proofs.lemmas.Bool.{cases_lt}
use Rattle.pre_mpacket.specs.Pieces.{Begun, least_fragment, IsBoundary, CutRule}

pub cut_one : (Waits : ℕ → Type 0) (b : Begun) (m n : ℕ) → CutRule Waits b m → CutRule Waits b n → m ≡ n
cut_one Waits b m n (inl (d, cut, least, is)) (inl (d', cut', least', is')) =
    is ∙ (ap (λ x. x + 4) (le_antisymm (least d' cut') (least' d cut)) ∙ sym is')
cut_one Waits b m n (inl (d, cut, least, is)) (inr (none, is')) = absurd (none d cut)
cut_one Waits b m n (inr (none, is)) (inl (d', cut', least', is')) = absurd (none d' cut')
cut_one Waits b m n (inr (none, is)) (inr (none', is')) = is ∙ sym is'

-- of what is decided there is a least number, or none below n
least_below : (P : ℕ → Type 0) → ((d : ℕ) → P d ⊎ ¬ P d) → (n : ℕ) → ((d : ℕ) × P d × ((e : ℕ) → P e → d ≤ e)) ⊎ ((e : ℕ) → e < n → ¬ P e)
least_below P decided zero = inr (λ e lt p. not-suc-le-zero lt)
least_below P decided (suc n) =
    elim (least_below P decided n) [
      | inl found ↦ inl found
      | inr none ↦ elim (decided n) [
        | inl p ↦ inl (n, p, λ e q. elim (cases_lt e n) [ inl lt ↦ absurd (none e lt q) | inr le ↦ le ])
        | inr not ↦ inr (λ e lt q. elim (cases_lt e n) [ inl lt' ↦ none e lt' q | inr le ↦ not (subst P (le_antisymm (le_of_suc-le-suc lt) le) q) ])
      ]
    ]

at_most : (m n : ℕ) → (m ≤ n) ⊎ ¬ (m ≤ n)
at_most m n = elim (cases_lt n m) [ inl lt ↦ inr (not-le_of_lt lt) | inr le ↦ inl le ]

boundary_decided : (Waits : ℕ → Type 0) → ((t : ℕ) → Waits t ⊎ ¬ Waits t) → (b : Begun) (d : ℕ) → IsBoundary Waits b d ⊎ ¬ IsBoundary Waits b d
boundary_decided Waits decided b d =
    elim (at_most (least_fragment b.add_frag) d) [
      | inr short ↦ inr (λ cut. short cut.0)
      | inl long ↦ elim (at_most 64 (b.unsent - d)) [
        | inr few ↦ inr (λ cut. few cut.1)
        | inl left ↦ elim (decided (b.tick + b.octet_ticks * (8 + d))) [
          | inr none ↦ inr (λ cut. none cut.2)
          | inl waits ↦ inl (long, left, waits)
        ]
      ]
    ]

pub cut_some : (Waits : ℕ → Type 0) → ((t : ℕ) → Waits t ⊎ ¬ Waits t) → (b : Begun) → (size : ℕ) × CutRule Waits b size
cut_some Waits decided b =
    elim (least_below (IsBoundary Waits b) (boundary_decided Waits decided b) b.unsent) [
      | inl found ↦ (found.0 + 4, inl (found.0, found.1, found.2, refl))
      | inr none ↦ (b.unsent, inr ((λ d cut. none d (sub-pos_iff_lt.0 (lt_of_lt_of_le (lit< tt) cut.1)) cut), refl))
    ]

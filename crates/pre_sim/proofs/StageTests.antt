-- The stage of an arc at the places of a tick.
use Rattle.std.proofs.Common.{ℕ, ◌≡◌, ◌≢◌, ◌+◌, ◌*◌, ◌<◌, ◌≤◌, Bool, false, sym, ◌∙◌, ap, inl, inr, arith}
use Rattle.std.specs.Prelude.{nat_le, if◌then◌else◌}
use Rattle.std.proofs.lemmas.Bool.{cases_lt}
use Rattle.pre_sim.specs.Stages.{Stage, untouched, set_up, settled, entered, stage_at}
use Rattle.pre_sim.specs.Stands.{sets_turn, sends_turn}
use Rattle.pre_sim.proofs.NumberTests.{is_le, no_le, not_eq}

-- a bound that the next number passes too, or doesn't
same_bound : (k m : ℕ) → k ≢ m → nat_le (k + 1) m ≡ nat_le k m
same_bound k m other = elim (cases_lt m k) [
  | inl lt ↦ no_le (k + 1) m (omega (arith, lt)) ∙ sym (no_le k m lt)
  | inr le ↦ is_le (k + 1) m (omega (arith, le, other)) ∙ sym (is_le k m le)
]

module _ (A t k a : ℕ) where
  abbrev after_sets : Bool → Bool → Bool → Stage
  after_sets x y z = if x then set_up t else if y then settled t else if z then entered t else untouched (t + 1)

  -- past the first place
  later_stage : 1 ≤ k → stage_at A t k a ≡ after_sets (nat_le k (1 + 2 * A + a)) (nat_le k (1 + 3 * A)) (nat_le k (2 + 3 * A + a))
  later_stage some = ap (λ b. if b then untouched t else after_sets (nat_le k (1 + 2 * A + a)) (nat_le k (1 + 3 * A)) (nat_le k (2 + 3 * A + a))) (not_eq k 0 (omega (arith, some)))

  pub is_set_up : 1 ≤ k → k ≤ 1 + 2 * A + a → stage_at A t k a ≡ set_up t
  is_set_up some le = later_stage some ∙ ap (λ x. after_sets x (nat_le k (1 + 3 * A)) (nat_le k (2 + 3 * A + a))) (is_le k (1 + 2 * A + a) le)

  pub is_settled : 1 + 2 * A + a < k → k ≤ 1 + 3 * A → stage_at A t k a ≡ settled t
  is_settled lt le =
      later_stage (omega (arith, lt))
      ∙ (ap (λ x. after_sets x (nat_le k (1 + 3 * A)) (nat_le k (2 + 3 * A + a))) (no_le k (1 + 2 * A + a) lt) ∙ ap (λ y. after_sets false y (nat_le k (2 + 3 * A + a))) (is_le k (1 + 3 * A) le))

  pub is_entered : a < A → 1 + 3 * A < k → k ≤ 2 + 3 * A + a → stage_at A t k a ≡ entered t
  is_entered a_lt lt le =
      later_stage (omega (arith, lt))
      ∙ (ap (λ x. after_sets x (nat_le k (1 + 3 * A)) (nat_le k (2 + 3 * A + a))) (no_le k (1 + 2 * A + a) (omega (arith, lt, a_lt)))
      ∙ (ap (λ y. after_sets false y (nat_le k (2 + 3 * A + a))) (no_le k (1 + 3 * A) lt) ∙ ap (λ z. after_sets false false z) (is_le k (2 + 3 * A + a) le)))

  pub is_over : a < A → 2 + 3 * A + a < k → stage_at A t k a ≡ untouched (t + 1)
  is_over a_lt lt =
      later_stage (omega (arith, lt))
      ∙ (ap (λ x. after_sets x (nat_le k (1 + 3 * A)) (nat_le k (2 + 3 * A + a))) (no_le k (1 + 2 * A + a) (omega (arith, lt, a_lt)))
      ∙ (ap (λ y. after_sets false y (nat_le k (2 + 3 * A + a))) (no_le k (1 + 3 * A) (omega (arith, lt))) ∙ ap (λ z. after_sets false false z) (no_le k (2 + 3 * A + a) lt)))

  -- the stage changes at four places alone
  pub same_stage : 1 ≤ k → k ≢ 1 + 2 * A + a → k ≢ 1 + 3 * A → k ≢ 2 + 3 * A + a → stage_at A t (k + 1) a ≡ stage_at A t k a
  same_stage some one two three =
      ap (λ b. if b then untouched t else after_sets (nat_le (k + 1) (1 + 2 * A + a)) (nat_le (k + 1) (1 + 3 * A)) (nat_le (k + 1) (2 + 3 * A + a))) (not_eq (k + 1) 0 (omega arith))
      ∙ (ap (λ x. after_sets x (nat_le (k + 1) (1 + 3 * A)) (nat_le (k + 1) (2 + 3 * A + a))) (same_bound k (1 + 2 * A + a) one)
      ∙ (ap (λ y. after_sets (nat_le k (1 + 2 * A + a)) y (nat_le (k + 1) (2 + 3 * A + a))) (same_bound k (1 + 3 * A) two)
      ∙ (ap (λ z. after_sets (nat_le k (1 + 2 * A + a)) (nat_le k (1 + 3 * A)) z) (same_bound k (2 + 3 * A + a) three) ∙ sym (later_stage some))))

-- after the last place of a tick each arc is at the next tick
pub next_tick : (A t a : ℕ) → a < A → stage_at A t (2 + 4 * A) a ≡ stage_at A (t + 1) 0 a
next_tick A t a a_lt = is_over A t (2 + 4 * A) a a_lt (omega (arith, a_lt))

-- before the entries what is set at the tick is over, and what is sent isn't
pub set_over : (A t : ℕ) → sets_turn t (1 + 3 * A) ≡ t + 1
set_over A t = ap (λ (b : Bool). if b then t else t + 1) (not_eq (1 + 3 * A) 0 (omega arith))

pub sends_here : (A t : ℕ) → sends_turn A t (1 + 3 * A) ≡ t
sends_here A t = ap (λ (b : Bool). if b then t else t + 1) (is_le (1 + 3 * A) (1 + 3 * A) (omega arith))

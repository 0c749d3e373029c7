-- What a legal history has told by a moment stands at ticks up to it.
use Rattle.std.proofs.Common.{ℕ, ◌≡◌, ◌+◌, ◌*◌, ◌<◌, ◌≤◌, length, arith, inl, inr, Some}
use Rattle.std.specs.Prelude.{slice_get}
use Rattle.std.proofs.Math.Nat.{mul-le-mul_right}
use Rattle.std.proofs.lemmas.Bool.{cases_lt}
use Rattle.pre_history.specs.Scenario.{Scenario}
use Rattle.pre_history.specs.History.{History, Begin, Arrive}
use Rattle.pre_history.specs.Queries.{Begins, Arrivals}
use Rattle.pre_history.specs.Moments.{moments}
use Rattle.pre_history.specs.Placed.{number}
use Rattle.pre_history.specs.Legal.{LegalUpTo}
use Rattle.pre_history.proofs.Lists.{every_at}
use Rattle.pre_history.proofs.Placing.{placed}
use Rattle.pre_history.proofs.Free.{begins_before, arrivals_before}
use Rattle.pre_history.proofs.Turns.{tick_le}

-- a moment at a later place that is earlier is of an earlier tick
sooner : (size s t j k : ℕ) → k ≤ j → s * size + j < t * size + k → s < t
sooner size s t j k le lt = elim (cases_lt s t) [
  | inl done ↦ done
  | inr more ↦ let reach : t * size ≤ s * size = mul-le-mul_right size more in absurd (omega (arith, reach, le, lt))
]

module _ (w : Scenario) (t k : ℕ) (h : History) (a : ℕ) (legal : LegalUpTo w (number (length w.net.arcs) t k) h) where
  pub begun_early : k ≤ 2 + 3 * length w.net.arcs + a → (i : ℕ) (b : Begin) → slice_get (Begins h a) i ≡ Some b → b.tick < t
  begun_early le i b at =
      let p = every_at (λ (b : Begin). (b.arc ≡ a) × (number (length w.net.arcs) b.tick (2 + 3 * length w.net.arcs + a) < number (length w.net.arcs) t k)) (Begins h a) i b
      (begins_before (length w.net.arcs) (number (length w.net.arcs) t k) a h (placed w (number (length w.net.arcs) t k) h legal)) at in
      sooner (moments (length w.net.arcs)) b.tick t (2 + 3 * length w.net.arcs + a) k le p.1

  -- an arrival at a later place is of an earlier tick
  pub arrived_early : k ≤ 1 + length w.net.arcs + a → (i : ℕ) (x : Arrive) → slice_get (Arrivals h a) i ≡ Some x → x.tick < t
  arrived_early le i x at =
      let p = every_at (λ (x : Arrive). (x.arc ≡ a) × (number (length w.net.arcs) x.tick (1 + length w.net.arcs + a) < number (length w.net.arcs) t k)) (Arrivals h a) i x
      (arrivals_before (length w.net.arcs) (number (length w.net.arcs) t k) a h (placed w (number (length w.net.arcs) t k) h legal)) at in
      sooner (moments (length w.net.arcs)) x.tick t (1 + length w.net.arcs + a) k le p.1

  pub arrived_by : k < moments (length w.net.arcs) → (i : ℕ) (x : Arrive) → slice_get (Arrivals h a) i ≡ Some x → x.tick ≤ t
  arrived_by lt i x at =
      let p = every_at (λ (x : Arrive). (x.arc ≡ a) × (number (length w.net.arcs) x.tick (1 + length w.net.arcs + a) < number (length w.net.arcs) t k)) (Arrivals h a) i x
      (arrivals_before (length w.net.arcs) (number (length w.net.arcs) t k) a h (placed w (number (length w.net.arcs) t k) h legal)) at in
      tick_le (moments (length w.net.arcs)) x.tick t (1 + length w.net.arcs + a) k lt (omega (arith, p.1))

-- the arrivals of earlier ticks are over at each moment of a tick, and those of a tick at its first expiries
pub before : (arcs i t k : ℕ) → i < t → number arcs i (1 + 2 * arcs + 0) ≤ number arcs t k
before arcs i t k lt = let reach : (i + 1) * moments arcs ≤ t * moments arcs = mul-le-mul_right (moments arcs) (omega (arith, lt)) in omega (arith, reach)

pub behind : (arcs i t k : ℕ) → 1 + 2 * arcs ≤ k → i < t + 1 → number arcs i (1 + 2 * arcs + 0) ≤ number arcs t k
behind arcs i t k from lt = let reach : i * moments arcs ≤ t * moments arcs = mul-le-mul_right (moments arcs) (omega (arith, lt)) in omega (arith, reach, from)

-- The count of faults over several steps.
use Rattle.std.proofs.Common.{ℕ, ◌≤◌, arith}
use Rattle.pre_sim.specs.declared.runs.Step.{Step}
use Rattle.pre_sim.specs.declared.runs.Step.TheVariants.{More, Ended, Alias, Stopped}
use Rattle.pre_sim.specs.Steps.{StepCause}

pub cause_then : (s : Step) (a b c : ℕ) → a ≤ b → StepCause s b c → StepCause s a c
cause_then More a b c p q = omega (arith, p, q)
cause_then Ended a b c p q = omega (arith, p, q)
cause_then (Alias arc ordinal) a b c p q = omega (arith, p, q)
cause_then Stopped a b c p q = (omega (arith, p, q.0), omega (arith, p, q.1))

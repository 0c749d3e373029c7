use Rattle.std.proofs.Common.{◌≡◌, ℕ, ◌≤◌, []}
use Rattle.pre_rings.specs.Ports.{frames_at}
use Rattle.pre_rings.proofs.rings.PortRings.highest.Given as goal

abbrev pub invariant-loop-number : goal.invariant-loop-number
invariant-loop-number l = (q : ℕ) → l.number ≤ q → q ≤ l.fn.high → frames_at l.self q ≡ []

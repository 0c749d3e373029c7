use Rattle.std.proofs.Common.{◌≡◌, map}
use Rattle.pre_streams.proofs.raw_rows.parted.Given as goal

abbrev pub invariant-loop-flow : goal.invariant-loop-flow
invariant-loop-flow l = (l.rows ≡ map (λ s. s.flow) l.yielded) × (l.curves ≡ map (λ s. s.curve) l.yielded)

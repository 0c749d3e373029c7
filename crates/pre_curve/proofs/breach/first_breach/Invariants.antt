use Rattle.std.proofs.Common.{◌≡◌, take}
use Rattle.pre_curve.specs.Windows.{offers_of}
use Rattle.pre_curve.specs.Meters.{Stands}
use Rattle.pre_curve.proofs.breach.first_breach.Given as goal

abbrev pub invariant-loop-place : goal.invariant-loop-place
invariant-loop-place l = (l.meter.curve ≡ l.curve) × Stands l.meter (take l.place (offers_of l.sends))

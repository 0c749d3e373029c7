use Rattle.std.proofs.Common.{◌≡◌, ℕ, ◌<◌, false, take, get_or, is_some}
use Rattle.pre_streams.specs.declared.raw.RawFlow.{RawFlow}
use Rattle.pre_streams.specs.FileRules.{hop_fault}
use Rattle.pre_streams.proofs.BadRoutes.{ArePlaces}
use Rattle.pre_streams.proofs.checks.bad_route.Given as goal

abbrev pub invariant-loop-place : goal.invariant-loop-place
invariant-loop-place l = record {
  firsts : ArePlaces l.firsts (take l.place l.rows);
  good : (k : ℕ) (e : RawFlow) → k < l.place → is_some (hop_fault l.net l.rows (get_or l.rows k e)) ≡ false;
}

use Rattle.std.proofs.Common.{◌≡◌, ◌*◌, length}
use Rattle.pre_certify.specs.Tables.{AreWithin}
use Rattle.pre_rounds.specs.Tables.{bursts_in, HaveDelays}
use Rattle.pre_rounds.proofs.settle.put_delays.Given as goal

abbrev pub invariant-loop-place : goal.invariant-loop-place
invariant-loop-place l = record {
  within : AreWithin l.delays;
  long : length l.delays ≡ length l.net.arcs * 8;
  delays : HaveDelays l.net l.rows (bursts_in l.bursts) l.delays l.place;
}

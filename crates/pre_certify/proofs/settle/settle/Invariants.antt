use Rattle.std.proofs.Common.{◌≡◌, ◌*◌, length}
use Rattle.pre_certify.specs.Tables.{delays_in, AreWithin}
use Rattle.pre_certify.specs.Turns.{ranks_in, SettledBefore}
use Rattle.pre_certify.proofs.settle.settle.Given as goal

abbrev pub invariant-loop-turn : goal.invariant-loop-turn
invariant-loop-turn l = record {
  within : AreWithin l.delays;
  long : length l.delays ≡ length l.net.arcs * 8;
  before : SettledBefore l.net l.rows (ranks_in l.ranks) (delays_in l.delays) l.turn;
}

use Rattle.std.proofs.Common.{◌≡◌, ◌-◌, ◌*◌, ◌<◌, length}
use Rattle.pre_certify.specs.Tables.{AreWithin}
use Rattle.pre_rounds.specs.Rounds.{round_bursts}
use Rattle.pre_rounds.specs.Passing.{some_differs}
use Rattle.pre_rounds.specs.Settling.{GoOnBefore, IsFirstPort}
use Rattle.pre_rounds.specs.Tables.{IsRound}
use Rattle.pre_rounds.proofs.settle.settle.Given as goal

abbrev pub invariant-loop-round : goal.invariant-loop-round
invariant-loop-round l = record {
  round : IsRound l.net l.rows l.round l.bursts;
  before : GoOnBefore l.net l.rows l.round;
  within : AreWithin l.delays;
  long : length l.delays ≡ length l.net.arcs * 8;
  last : 0 < l.round → IsFirstPort l.net l.rows (some_differs l.rows (round_bursts l.net l.rows (l.round - 1)) (round_bursts l.net l.rows l.round)) l.arc.0 l.prio;
}

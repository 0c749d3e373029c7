use Rattle.std.proofs.Common.{◌≤◌, drop}
use Rattle.pre_base.specs.Told.{WhereTold}
use Rattle.pre_base.specs.Sinks.{TakesBut}
use Rattle.pre_script.specs.Text.{loss_lines}
use Rattle.pre_script.proofs.writing.put_losses.Given as goal

abbrev pub invariant-loop-loss : goal.invariant-loop-loss
invariant-loop-loss g l = record {
  taken : WhereTold (g.S.Sink.tells l.fn.sink) (g.S.Sink.tells l.sink) (TakesBut (loss_lines l.net (drop l.loss-index l.losses)) (loss_lines l.net l.losses));
  later : g.S.Sink.faults l.fn.sink ≤ g.S.Sink.faults l.sink;
}

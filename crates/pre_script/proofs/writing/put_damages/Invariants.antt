use Rattle.std.proofs.Common.{◌≤◌, drop}
use Rattle.pre_base.specs.Told.{WhereTold}
use Rattle.pre_base.specs.Sinks.{TakesBut}
use Rattle.pre_script.specs.Text.{damage_lines}
use Rattle.pre_script.proofs.writing.put_damages.Given as goal

abbrev pub invariant-loop-damage : goal.invariant-loop-damage
invariant-loop-damage g l = record {
  taken : WhereTold (g.S.Sink.tells l.fn.sink) (g.S.Sink.tells l.sink) (TakesBut (damage_lines l.net (drop l.damage-index l.damages)) (damage_lines l.net l.damages));
  later : g.S.Sink.faults l.fn.sink ≤ g.S.Sink.faults l.sink;
}

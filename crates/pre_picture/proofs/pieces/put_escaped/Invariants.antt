use Rattle.std.proofs.Common.{◌≤◌, drop}
use Rattle.pre_base.specs.Told.{WhereTold}
use Rattle.pre_base.specs.Sinks.{TakesBut}
use Rattle.pre_picture.specs.Escapes.{escaped}
use Rattle.pre_picture.proofs.pieces.put_escaped.Given as goal

abbrev pub invariant-loop-octet : goal.invariant-loop-octet
invariant-loop-octet g l = record {
  taken : WhereTold (g.S.Sink.tells l.fn.sink) (g.S.Sink.tells l.sink) (TakesBut (escaped (drop l.octet-index l.octets)) (escaped l.octets));
  later : g.S.Sink.faults l.fn.sink ≤ g.S.Sink.faults l.sink;
}

use Rattle.std.proofs.Common.{◌≤◌, drop, map}
use Rattle.pre_base.specs.Told.{WhereTold}
use Rattle.pre_base.specs.Sinks.{TakesBut}
use Rattle.pre_text.specs.Writing.{further, line_of}
use Rattle.pre_text.specs.Spelled.{spelled}
use Rattle.pre_text.proofs.writing.put_line.Given as goal

abbrev pub invariant-loop-word : goal.invariant-loop-word
invariant-loop-word g l = record {
  taken : WhereTold (g.S.Sink.tells l.fn.sink) (g.S.Sink.tells l.sink) (TakesBut (further (map spelled (drop l.word-index l.words))) (line_of (spelled l.fn.first) (map spelled l.words)));
  later : g.S.Sink.faults l.fn.sink ≤ g.S.Sink.faults l.sink;
}

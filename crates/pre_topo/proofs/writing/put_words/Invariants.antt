use Rattle.std.proofs.Common.{◌≤◌, drop}
use Rattle.std.specs.List.{flat_map}
use Rattle.pre_base.specs.Told.{WhereTold}
use Rattle.pre_base.specs.Sinks.{TakesBut}
use Rattle.pre_text.specs.Spelled.{spelled}
use Rattle.pre_topo.proofs.writing.put_words.Given as goal

abbrev pub invariant-loop-word : goal.invariant-loop-word
invariant-loop-word g l = record {
  taken : WhereTold (g.S.Sink.tells l.fn.sink) (g.S.Sink.tells l.sink) (TakesBut (flat_map spelled (drop l.word-index l.words)) (flat_map spelled l.words));
  later : g.S.Sink.faults l.fn.sink ≤ g.S.Sink.faults l.sink;
}

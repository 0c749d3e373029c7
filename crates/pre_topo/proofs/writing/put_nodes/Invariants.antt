use Rattle.std.proofs.Common.{◌≤◌, drop}
use Rattle.pre_base.specs.Told.{WhereTold}
use Rattle.pre_base.specs.Sinks.{TakesBut}
use Rattle.pre_topo.specs.Text.{nodes_text}
use Rattle.pre_topo.proofs.writing.put_nodes.Given as goal

abbrev pub invariant-loop-node : goal.invariant-loop-node
invariant-loop-node g l = record {
  taken : WhereTold (g.S.Sink.tells l.fn.sink) (g.S.Sink.tells l.sink) (TakesBut (nodes_text (drop l.node-index l.nodes)) (nodes_text l.nodes));
  later : g.S.Sink.faults l.fn.sink ≤ g.S.Sink.faults l.sink;
}

use Rattle.std.proofs.Common.{◌≤◌, drop}
use Rattle.std.specs.List.{flat_map}
use Rattle.pre_base.specs.Told.{WhereTold}
use Rattle.pre_base.specs.Sinks.{TakesBut}
use Rattle.pre_picture.specs.Pieces.{shown}
use Rattle.pre_picture.proofs.pieces.put_pieces.Given as goal

abbrev pub invariant-loop-piece : goal.invariant-loop-piece
invariant-loop-piece g l = record {
  taken : WhereTold (g.S.Sink.tells l.fn.sink) (g.S.Sink.tells l.sink) (TakesBut (flat_map shown (drop l.piece-index l.pieces)) (flat_map shown l.pieces));
  later : g.S.Sink.faults l.fn.sink ≤ g.S.Sink.faults l.sink;
}

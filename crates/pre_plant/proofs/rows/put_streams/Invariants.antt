use Rattle.std.proofs.Common.{◌≡◌, ◌++◌, map}
use Rattle.pre_streams.specs.Made.{row_parts}
use Rattle.pre_plant.specs.Lists.{list_of}
use Rattle.pre_plant.specs.Rows.{stream_row}
use Rattle.pre_plant.proofs.rows.put_streams.Given as goal

abbrev pub invariant-loop-stream : goal.invariant-loop-stream
invariant-loop-stream l = map row_parts l.rows ≡ map row_parts l.fn.rows ++ list_of l.stream (stream_row l.draws)

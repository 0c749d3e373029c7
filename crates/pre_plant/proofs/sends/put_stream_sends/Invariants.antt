use Rattle.std.proofs.Common.{◌≡◌, ◌++◌}
use Rattle.pre_plant.specs.Lists.{joined_of}
use Rattle.pre_plant.specs.Scripts.{stream_sends}
use Rattle.pre_plant.proofs.sends.put_stream_sends.Given as goal

abbrev pub invariant-loop-stream : goal.invariant-loop-stream
invariant-loop-stream l = l.sends.items ≡ l.fn.sends.items ++ joined_of l.stream (stream_sends l.draws)

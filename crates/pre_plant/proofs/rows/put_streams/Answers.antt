use Rattle.pre_plant.specs.Rows.{stream_row}
use Rattle.pre_plant.proofs.Pushes.{row_more}
use Rattle.pre_plant.proofs.rows.put_streams.Goals as goal

pub loop-stream-preserved : goal.loop-stream-preserved
loop-stream-preserved c = row_more c.args.rows.now c.loop-stream.rows c.push.new.self c.in_ok-stream_row.field-0
    (stream_row c.args.draws.now) c.loop-stream.stream c.loop-stream.invariant c.in_ok-push.ensures.ok c.in_ok-stream_row.ensures

use Rattle.pre_streams.proofs.Joining.{left_fits, within_place}
use Rattle.pre_streams.proofs.rows.Streams.remove_stream.Goals as goal

pub returns-clause-fits : goal.returns-clause-fits
returns-clause-fits c net fits =
    left_fits net c.args.self.now _ c.from.result c.remove.result fits (within_place c.args.self.now.rows c.from.result c.remove.result c.remove.ensures.item) c.remove.ensures.rest

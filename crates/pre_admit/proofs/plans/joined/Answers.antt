use Rattle.pre_admit.proofs.Answers.{OnErr-map, IfErr-map, placed, taken_out, same_row}
use Rattle.pre_admit.proofs.plans.joined.Goals as goal

pub certified-requires-clause-fits : goal.certified-requires-clause-fits
certified-requires-clause-fits c = c.insert_stream.ensures.fits c.args.net.now c.requires.fits c.requires.row

pub certified-requires-clause-stream : goal.certified-requires-clause-stream
certified-requires-clause-stream c = (c.args.row, placed c.args.streams.now.rows c.insert_stream.new.self.rows c.args.row c.first_flow-place.result c.in-Ok.ensures.ok c.first_flow-place.ensures, c.requires.can.stream)

pub returns-in-Ok-clause-stay : goal.returns-in-Ok-clause-stay
returns-in-Ok-clause-stay c = OnErr-map c.certified.result (taken_out c.args.streams.now.rows c.insert_stream.new.self.rows c.certified.new.streams.rows c.args.row c.first_flow-place.result c.in-Ok.ensures.ok c.first_flow-place.ensures) c.certified.ensures.left

pub returns-in-Ok-clause-back : goal.returns-in-Ok-clause-back
returns-in-Ok-clause-back c =
    IfErr-map c.certified.result (λ e at. same_row c.insert_stream.new.self.rows c.first_flow-place.result e.row c.args.row at (placed c.args.streams.now.rows c.insert_stream.new.self.rows c.args.row c.first_flow-place.result c.in-Ok.ensures.ok c.first_flow-place.ensures)) c.certified.ensures.row

pub returns-in-Err-clause-fits : goal.returns-in-Err-clause-fits
returns-in-Err-clause-fits c = c.insert_stream.ensures.fits c.args.net.now c.requires.fits c.requires.row

use Rattle.pre_certify.specs.Text.{hop_line}
use Rattle.pre_base.proofs.Pieces.{piece_fails}
use Rattle.pre_certify.proofs.text.put_hops.Goals as goal

pub returns-in_err-put_hop-clause-octets : goal.returns-in_err-put_hop-clause-octets
returns-in_err-put_hop-clause-octets g c =
    piece_fails (hop_line c.args.streams.now) c.args.rows.now c.loop-row.row-index (record { stream = record { 0 = 0 }; hop = 0; burst = 0 }) _ _ _ c.from_residual.result c.loop-row-test.true c.from_residual.ensures.0 c.loop-row.invariant.taken c.in_err-put_hop.ensures.octets

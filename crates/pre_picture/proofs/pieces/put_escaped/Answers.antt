use Rattle.pre_picture.specs.Escapes.{escape}
use Rattle.pre_base.proofs.Pieces.{piece_fails}
use Rattle.pre_picture.proofs.pieces.put_escaped.Goals as goal

pub returns-in_err-put_escape-clause-octets : goal.returns-in_err-put_escape-clause-octets
returns-in_err-put_escape-clause-octets g c =
    piece_fails escape c.args.octets.now c.loop-octet.octet-index 0 _ _ _ c.from_residual.result c.loop-octet-test.true c.from_residual.ensures.0 c.loop-octet.invariant.taken c.in_err-put_escape.ensures.octets

use Rattle.pre_picture.specs.declared.pieces.Piece.TheVariants.{Number}
use Rattle.pre_picture.specs.Pieces.{shown}
use Rattle.pre_base.proofs.Pieces.{piece_fails}
use Rattle.pre_picture.proofs.pieces.put_pieces.Goals as goal

pub returns-in_err-put_piece-clause-octets : goal.returns-in_err-put_piece-clause-octets
returns-in_err-put_piece-clause-octets g c =
    piece_fails shown c.args.pieces.now c.loop-piece.piece-index (Number 0) _ _ _ c.from_residual.result c.loop-piece-test.true c.from_residual.ensures.0 c.loop-piece.invariant.taken c.in_err-put_piece.ensures.octets

use Rattle.std.proofs.Common.{refl}
use Rattle.pre_frame.proofs.FrameLaws.{read-at, view-at}
use Rattle.pre_frame.proofs.reading.view_of.Goals as goal

pub returns : goal.returns
returns c =
    view-at c.args.octets.now _ _ c.read_u16-control.result c.read_u16.result c.requires refl refl
    (read-at c.args.octets.now 14 _ c.read_u16-control.ensures) (read-at c.args.octets.now 16 _ c.read_u16.ensures)

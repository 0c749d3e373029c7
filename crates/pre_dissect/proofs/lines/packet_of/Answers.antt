use Rattle.std.proofs.Common.{◌+◌, ap, ◌∙◌, sym, ◌∷◌, [], length, List, ℕ}
use Rattle.std.specs.Fmt.{decimal}
use Rattle.pre_mpacket.specs.Spelling.{plain}
use Rattle.pre_dissect.specs.PacketWords.{packet_words}
use Rattle.pre_dissect.proofs.lines.packet_of.Goals as goal

pub returns-in-Ok : goal.returns-in-Ok
returns-in-Ok c =
    ap packet_words ((c.one_mpacket.ensures.given (plain c.in-Ok.packet) c.args.octets.now).1 c.in-Ok.ensures.spelled)
    ∙ ap (λ (w : List ℕ). w ∷ decimal (length c.in-Ok.packet.mdata.now + length c.in-Ok.packet.check.now) ∷ []) (sym c.kind_of.ensures)

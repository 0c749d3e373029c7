use Rattle.std.proofs.Common.{sym, ◌∙◌, ap, subst}
use Rattle.pre_send.specs.Lendings.{Lends}
use Rattle.pre_send.specs.Packets.{packet_after}
use Rattle.pre_history.specs.Scenario.{arc}
use Rattle.pre_outgoing.proofs.Fields.{holds_of, lends_of}
use Rattle.pre_outgoing.proofs.Leaving.{leaves}
use Rattle.pre_outgoing.proofs.outgoing.Outgoing.packet.Goals as goal

pub mpacket-requires-clause-holds : goal.mpacket-requires-clause-holds
mpacket-requires-clause-holds c = holds_of c.args.self.now.sender c.args.store.now c.requires.held

pub mpacket-requires-clause-other : goal.mpacket-requires-clause-other
mpacket-requires-clause-other c =
    subst (Lends c.args.self.now.sender) (sym c.other-other.ensures.lent) (lends_of c.args.self.now.sender c.args.zeros.now c.args.self.now.advert c.requires.zeros c.other-other.ensures.long)

pub returns-clause-leaves : goal.returns-clause-leaves
returns-clause-leaves c = λ w past t a a_lt legal sends stored due.
    let g = c.mpacket.ensures.given (arc w a).cost (arc w a).add_frag sends.calls sends.stands in
    leaves w past t a c.args.self.now a_lt legal sends c.args.store.now stored due g.0 g.1 g.2 c.args.zeros.now
    (record { kind = c.mpacket.result.0; mdata = c.mpacket.result.1.now; check = c.mpacket.result.2 })
    (g.4 ∙ ap (packet_after g.1 g.0 c.args.store.now) c.other-other.ensures.lent)

use Rattle.pre_send.proofs.Giving.{gives}
use Rattle.pre_send.proofs.senders.Sender.mpacket.Goals as goal

pub returns-clause-given : goal.returns-clause-given
returns-clause-given c = λ cost add_frag calls st.
    gives c.args.self.now cost add_frag calls c.in-Some.going c.args.store.now c.args.other.now _ st c.in-Some.is c.packet.ensures.given

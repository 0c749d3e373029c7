use Rattle.pre_incoming.proofs.TakenApart.{pushed_behind}
use Rattle.pre_incoming.proofs.wires.Wire.push.Goals as goal

pub returns-clause-longer : goal.returns-clause-longer
returns-clause-longer c =
    pushed_behind c.args.self.now (record { flights = c.push_back.new.self; octets = c.extend_from_slice.new.self }) c.args.flight c.args.octets.now c.requires.size c.requires.room
    c.extend_from_slice.ensures c.push_back.ensures.items

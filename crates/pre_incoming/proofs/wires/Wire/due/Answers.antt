use Rattle.std.proofs.Common.{sym}
use Rattle.pre_incoming.proofs.TakenApart.{first_due, none_due}
use Rattle.pre_incoming.proofs.wires.Wire.due.Goals as goal

pub returns-in-Some : goal.returns-in-Some
returns-in-Some c = first_due c.args.self.now c.in-Some.flight.now (sym c.in-Some.ensures)

pub returns-in-None : goal.returns-in-None
returns-in-None c = none_due c.args.self.now (sym c.in-None.ensures)

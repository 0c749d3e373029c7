use Rattle.std.proofs.Common.{refl}
use Rattle.pre_history.specs.Scenario.{arc}
use Rattle.pre_incoming.specs.Flights.{with_octets}
use Rattle.pre_incoming.proofs.Standing.{pushed}
use Rattle.pre_incoming.proofs.incomings.Incoming.push.Goals as goal

pub returns : goal.returns
returns c = λ w h a e a_lt on_arc legal on is.
    let longer = c.push.ensures.longer is.whole in
    pushed w h a e (with_octets c.args.flight c.args.octets.now) c.args.self.now (record { wire = c.push.new.self; receiver = c.args.self.now.receiver }) a_lt on_arc legal on is refl
    longer.1 (c.push.ensures.room (arc w a).delay (arc w a).cost is.room) longer.0

use Rattle.std.proofs.Common.{◌≡◌, Some, refl}
use Rattle.pre_send.proofs.Waiting.{waits_on}
use Rattle.pre_send.proofs.senders.Sender.express_waits.Goals as goal

pub returns-clause-stands : goal.returns-clause-stands
returns-clause-stands c = λ cost add_frag calls st.
    let is : c.args.self.now.going ≡ Some c.in-Some.going = cc (c.take.ensures.value, c.in-Some.is) in
    waits_on c.args.self.now _ cost add_frag calls c.in-Some.going c.told.result c.args.now.0 st is c.told.ensures refl refl refl refl refl

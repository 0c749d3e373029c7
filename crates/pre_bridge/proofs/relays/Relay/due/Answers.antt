use Rattle.std.proofs.Common.{Some, None, sym, subst, ap}
use Rattle.std.specs.Option.{option_map}
use Rattle.pre_bridge.specs.Ingresses.{IsLeastOf, dues_of}
use Rattle.pre_bridge.specs.Inside.{inside, IsLeastDue}
use Rattle.pre_bridge.proofs.Dues.{least_inside}
use Rattle.pre_bridge.proofs.relays.Relay.due.Goals as goal

pub returns-in_err-due : goal.returns-in_err-due
returns-in_err-due c net streams calls s =
    subst (IsLeastDue (inside net streams calls)) (sym (ap (option_map (λ tick. tick.0)) c.from_residual.ensures))
    (least_inside (inside net streams calls) c.args.self.now.ingresses.items None s.queues (λ j n e. (s.order j n e).ordered) (subst (λ l. IsLeastOf (dues_of l) None) c.deref.ensures.value c.in_err-due.ensures))

pub returns : goal.returns
returns c net streams calls s = least_inside (inside net streams calls) c.args.self.now.ingresses.items (Some c.in_ok-due.due) s.queues (λ j n e. (s.order j n e).ordered) (subst (λ l. IsLeastOf (dues_of l) (Some c.in_ok-due.due)) c.deref.ensures.value c.in_ok-due.ensures)

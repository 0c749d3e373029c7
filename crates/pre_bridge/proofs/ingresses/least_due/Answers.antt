use Rattle.std.proofs.Common.{sym, ap, subst, ◌∙◌, take, ◌++◌}
use Rattle.std.specs.Option.{option_to_list}
use Rattle.pre_bridge.specs.Ingresses.{IsLeastOf, due_of, dues_of, lesser}
use Rattle.pre_bridge.proofs.Dues.{least_more, dues-more}
use Rattle.pre_bridge.proofs.ingresses.least_due.Goals as goal

pub loop-ingress-preserved : goal.loop-ingress-preserved
loop-ingress-preserved c =
    let due = due_of c.ingress-item.result.queue.items in
    subst (λ ticks. IsLeastOf ticks c.lesser-least.result) (sym (dues-more c.args.ingresses.now c.loop-ingress.ingress-index c.ingress-item.result c.loop-ingress-test.true c.ingress-item.is))
    (subst (IsLeastOf (dues_of (take c.loop-ingress.ingress-index c.args.ingresses.now) ++ option_to_list due)) (sym (c.lesser-least.ensures ∙ ap (lesser c.loop-ingress.least) c.due.ensures))
    (least_more (dues_of (take c.loop-ingress.ingress-index c.args.ingresses.now)) c.loop-ingress.least due c.loop-ingress.invariant))

use Rattle.std.proofs.Common.{take}
use Rattle.pre_bridge.specs.Ingresses.{IsLeastOf, dues_of}
use Rattle.pre_bridge.proofs.ingresses.least_due.Given as goal

abbrev pub invariant-loop-ingress : goal.invariant-loop-ingress
invariant-loop-ingress l = IsLeastOf (dues_of (take l.ingress-index l.ingresses)) l.least

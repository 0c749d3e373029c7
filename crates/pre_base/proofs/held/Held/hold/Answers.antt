use Rattle.std.proofs.Common.{◌++◌, take, ◌∙◌, ap, arith}
use Rattle.pre_base.specs.Waiting.{Waiting}
use Rattle.pre_base.proofs.Waits.{held_more}
use Rattle.pre_base.proofs.held.Held.hold.Goals as goal

pub returns-clause-octets : goal.returns-clause-octets
returns-clause-octets c =
    held_more c.self.inside.octets c.args.piece.now c.copy_from_slice.new.self c.self.inside.written c.self.inside.end c.min-count.result _ c.self.invariant.0 (omega arith) (omega arith) (omega arith) c.copy_from_slice.ensures.after
    ∙ ap (λ (v : Waiting). v.octets ++ take c.min-count.result c.args.piece.now) c.self.view_is

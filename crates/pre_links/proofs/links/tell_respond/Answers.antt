use Rattle.std.proofs.Common.{◌++◌, sym, subst}
use Rattle.pre_verify.specs.Verifiers as verifiers
use Rattle.pre_links.specs.Standing.{responding}
use Rattle.pre_links.proofs.links.tell_respond.Goals as goal

pub returns-then-responds-clause-stands : goal.returns-then-responds-clause-stands
returns-then-responds-clause-stands c = λ wait calls s. subst (λ b. verifiers.Stands c.responded.new.self wait (calls ++ responding c.args.now.0 b)) (sym c.if-responds.true)
    (c.responded.ensures.stands wait calls s)

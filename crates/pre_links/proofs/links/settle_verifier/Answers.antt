use Rattle.std.proofs.Common.{[], ◌∷◌, ◌++◌, sym, subst, ap, ◌∙◌}
use Rattle.pre_verify.specs.Verifiers as verifiers
use Rattle.pre_verify.specs.Calls.{settled, verified_at}
use Rattle.pre_links.specs.Standing.{settling}
use Rattle.pre_links.proofs.Told.{settling-parts, last_settling}
use Rattle.pre_links.proofs.links.settle_verifier.Goals as goal

pub returns-clause-stands : goal.returns-clause-stands
returns-clause-stands c = λ wait calls s.
    subst (verifiers.Stands _ wait) (sym (settling-parts calls c.args.now.0 c.args.good c.args.responds))
    (c.tell_respond.ensures.stands wait (calls ++ settled c.args.now.0 c.args.good ∷ []) (c.settle.ensures.stands wait calls s))

pub returns-clause-active : goal.returns-clause-active
returns-clause-active c = λ wait calls s.
    let stands = subst (verifiers.Stands _ wait) (sym (settling-parts calls c.args.now.0 c.args.good c.args.responds))
    (c.tell_respond.ensures.stands wait (calls ++ settled c.args.now.0 c.args.good ∷ []) (c.settle.ensures.stands wait calls s)) in
    c.is_verified.ensures wait (calls ++ settling c.args.now.0 c.args.good c.args.responds) stands
    ∙ ap (verified_at (calls ++ settling c.args.now.0 c.args.good c.args.responds)) (last_settling calls c.args.now.0 c.args.good c.args.responds)

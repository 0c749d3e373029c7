use Rattle.std.proofs.Common.{subst}
use Rattle.pre_bound.specs.Uses.{Follows}
use Rattle.pre_certify.proofs.certifier.certificate_of.Goals as goal

pub ranks_of-requires-clause-within : goal.ranks_of-requires-clause-within
ranks_of-requires-clause-within c = λ arc next f.
    (c.order_law.ensures.within c.args.net.now c.args.streams.now arc next c.requires.fits (subst (λ rows. Follows rows arc next) c.as_slice-rows.ensures f)).0

use Rattle.std.proofs.Common.{sym, subst}
use Rattle.pre_certify.specs.Peelings.{PeelsRows, FollowedWithin}
use Rattle.pre_certify.proofs.Certified.{have_ranks}
use Rattle.pre_certify.proofs.certifier.ranks_of.Goals as goal

pub peeled-requires-clause-within : goal.peeled-requires-clause-within
peeled-requires-clause-within c = subst (λ n. FollowedWithin c.args.rows.now n) (sym c.len.ensures) c.requires.within

pub returns-in_ok-plain-in-Ranked-clause-ranks : goal.returns-in_ok-plain-in-Ranked-clause-ranks
returns-in_ok-plain-in-Ranked-clause-ranks c =
    have_ranks c.args.net.now c.args.rows.now c.len.result c.in-Ranked.ranks c.as_slice-in-Ranked.result.now c.in_ok-plain-in-Ranked.field-0
    (subst (λ p. PeelsRows c.args.rows.now c.len.result p) c.in-Ranked.is c.in_ok-ranks.ensures) c.len.ensures c.as_slice-in-Ranked.ensures c.in_ok-plain-in-Ranked.ensures

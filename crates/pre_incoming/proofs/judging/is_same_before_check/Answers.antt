use Rattle.std.proofs.Common.{◌≡◌, ◌≢◌, rules, refl}
use Rattle.pre_incoming.proofs.Compared.{long_when, same_when, before_when}
use Rattle.pre_incoming.proofs.judging.is_same_before_check.Goals as goal

pub returns-then-octets-front-clause-same : goal.returns-then-octets-front-clause-same
returns-then-octets-front-clause-same c = (λ no. cc no, λ is. absurd (c.if-octets-front.true (long_when c.args.octets.now c.args.front.now c.requires.size is)))

pub returns-then-ne-clause-same : goal.returns-then-ne-clause-same
returns-then-ne-clause-same c =
    let other : c.split_at.result.0.now ≢ c.split_at_mut-before.result.0.now = search rules in
    (λ no. cc no, λ is. absurd (other (before_when c.args.octets.now c.args.front.now c.requires.size c.if-octets-front.false _ _ c.split_at.ensures.front c.split_at_mut-before.ensures.front is)))

pub returns-clause-same : goal.returns-clause-same
returns-clause-same c =
    let same : c.split_at.result.0.now ≡ c.split_at_mut-before.result.0.now = search rules in
    (λ yes. same_when c.args.octets.now c.args.front.now c.requires.size c.if-octets-front.false _ _ c.split_at.ensures.front c.split_at_mut-before.ensures.front c.requires.check same, λ is. refl)

use Rattle.std.proofs.Common.{[], refl, sym, subst, arith}
use Rattle.pre_verify.specs.Verifiers as verifiers
use Rattle.pre_links.proofs.links.Link.idle.Goals as goal

pub returns-clause-stands : goal.returns-clause-stands
unfolding Rattle.pre_history.specs.Queries.Packets
returns-clause-stands c = λ w a same. record {
  calls = [];
  stands = subst (λ n. verifiers.Stands c.new.result n []) (sym same) c.new.ensures.stands;
  good = λ t lt. absurd (omega (arith, lt));
  verifies = refl;
  responds = λ r. ((λ (i, x, lt, is, p). absurd (omega (arith, lt))), (λ p. absurd (omega (arith, p.0))));
  setting = refl;
  active = ((λ e. absurd (cc e)), (λ x. absurd x));
  lldp = ((λ e. absurd (cc e)), (λ (x, lt, cause, since). absurd (omega (arith, lt))));
  responded = λ t (i, b, lt, is, p). absurd (omega (arith, lt));
}

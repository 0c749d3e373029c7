use Rattle.std.proofs.Common.{◌≡◌, ◌↔◌, IsTrue, rules, sym, ◌∙◌}
use Rattle.pre_incoming.proofs.Fronts.{whole}
use Rattle.pre_incoming.proofs.judging.is_expected.Goals as goal

pub returns-in-Lldp : goal.returns-in-Lldp
returns-in-Lldp c =
    let equal : IsTrue c.eq.result ↔ (c.args.octets.now ≡ c.args.front.now) = search rules in
    let at_front = whole c.args.what c.args.front.now c.in-Lldp.is in
    record {
      same = (λ yes. at_front ∙ sym (equal.0 yes), λ is. equal.1 (sym is ∙ at_front));
      front = search rules;
    }

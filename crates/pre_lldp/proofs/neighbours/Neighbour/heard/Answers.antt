use Rattle.std.proofs.Common.{Some, sym, ap, ◌∙◌}
use Rattle.pre_lldp.specs.Neighbours.{says_enabled}
use Rattle.pre_lldp.specs.Ages.{expiry, Heard}
use Rattle.pre_lldp.specs.LldpLayout.{advert_in}
use Rattle.pre_lldp.specs.Views.{fields_in}
use Rattle.pre_lldp.proofs.Hearing.{last_heard-push}
use Rattle.pre_lldp.proofs.neighbours.Neighbour.heard.Goals as goal

pub returns : goal.returns
returns c = λ unit calls s.
    let heard : Heard = record { tick = c.args.now.0; says = advert_in (fields_in c.args.pdu.now) } in
    let last = last_heard-push calls heard in
    record {
      unit_is = s.unit_is;
      expires = c.expiry_of-self.ensures ∙ ap (λ u. expiry u (Some heard)) s.unit_is ∙ sym (ap (expiry unit) last);
      enabled = c.is_enabled-self.ensures ∙ sym (ap says_enabled last);
    }

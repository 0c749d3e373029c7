use Rattle.std.proofs.Common.{◌≡◌, ap, ◌∙◌, refl, rules}
use Rattle.pre_history.specs.Scenario.{arc}
use Rattle.pre_history.specs.Octets as octets
use Rattle.pre_lldp.specs.LldpLayout.{lldp_frame}
use Rattle.pre_incoming.specs.Inputs.{scenario_of}
use Rattle.pre_dissect.proofs.adverts.advert_at.Goals as goal

pub returns : goal.returns
returns c = λ lt.
    let w = scenario_of c.args.inputs.now in
    let setting = c.setting_of-setting.ensures w refl in
    let link : c.in-Some.link.now ≡ arc w c.args.arc.0 = search rules in
    let enabled = c.is_on.ensures ∙ ap octets.is_on setting in
    let ttl = c.ttl_under.ensures w refl ∙ ap (octets.ttl_under w) setting in
    c.write_lldp.ensures ∙ (λ i. lldp_frame (link i).from.0 c.args.arc.0 (record { enabled = enabled i; active = c.args.active; add_frag = (link i).add_frag; ttl = ttl i }))

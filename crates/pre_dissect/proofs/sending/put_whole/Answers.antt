use Rattle.std.proofs.Common.{◌∙◌, sym}
use Rattle.pre_incoming.specs.Inputs.{scenario_of}
use Rattle.pre_history.specs.Octets.{BareOctets}
use Rattle.pre_dissect.proofs.Sent.{at_front, bare_long, lldp_is, bare_is}
use Rattle.pre_dissect.proofs.sending.put_whole.Goals as goal

pub returns-in-Lldp-clause-whole : goal.returns-in-Lldp-clause-whole
returns-in-Lldp-clause-whole c = λ whole is.
    at_front c.args.advert.now c.copy_from_slice.new.self _ c.copy_from_slice.ensures.after c.told-advert
    ∙ sym (lldp_is (scenario_of c.args.inputs.now) c.args.advert.now whole c.args.what c.in-Lldp.is is)

pub returns-in-Nothing-clause-whole : goal.returns-in-Nothing-clause-whole
returns-in-Nothing-clause-whole c = λ whole is.
    at_front BareOctets c.copy_from_slice-in-Nothing.new.self _ (c.copy_from_slice-in-Nothing.ensures.after ∙ c.bare_octets.ensures) bare_long
    ∙ sym (bare_is (scenario_of c.args.inputs.now) c.args.advert.now whole c.args.what c.in-Nothing.is is)

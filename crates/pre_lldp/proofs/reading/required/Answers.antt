use Rattle.std.proofs.Common.{sym}
use Rattle.pre_lldp.specs.Parts.{part}
use Rattle.pre_lldp.proofs.Whole.{required_goes, required_lacks, required_exits, required_fits}
use Rattle.pre_lldp.proofs.reading.required.Goals as goal

pub returns-in_err-tlv-clause-leads : goal.returns-in_err-tlv-clause-leads
returns-in_err-tlv-clause-leads c =
    required_exits _ c.from_residual.result c.args.place c.args.octets.now c.in_err-tlv.field-0.0 c.from_residual.ensures.1 (sym c.in_err-tlv.ensures)

pub returns-in-Some-clause-leads : goal.returns-in-Some-clause-leads
returns-in-Some-clause-leads c =
    required_goes c.args.place c.args.octets.now (part c.in-Some.tlv) c.in-Some.rest.now c.requires (sym (rw c.in-Some.is at c.in_ok-tlv.ensures))

pub returns-in-Some-clause-value : goal.returns-in-Some-clause-value
returns-in-Some-clause-value c =
    (required_fits c.args.place c.args.octets.now (part c.in-Some.tlv) c.in-Some.rest.now c.requires (sym (rw c.in-Some.is at c.in_ok-tlv.ensures))).0

pub returns-in-Some-clause-shorter : goal.returns-in-Some-clause-shorter
returns-in-Some-clause-shorter c =
    (required_fits c.args.place c.args.octets.now (part c.in-Some.tlv) c.in-Some.rest.now c.requires (sym (rw c.in-Some.is at c.in_ok-tlv.ensures))).1

pub returns-in-None-clause-leads : goal.returns-in-None-clause-leads
returns-in-None-clause-leads c = required_lacks c.args.place c.args.octets.now c.requires (sym (rw c.in-None.is at c.in_ok-tlv.ensures))

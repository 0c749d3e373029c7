use Rattle.std.proofs.Common.{refl, sym, ap, ◌∙◌, subst}
use Rattle.std.specs.Prelude.{IsSome}
use Rattle.pre_lldp.specs.PduReading.{pdu_of}
use Rattle.pre_lldp.specs.LldpLayout.{advert_of, advert_in, if_read}
use Rattle.pre_lldp.specs.Views.{fields_in, read_fields}
use Rattle.pre_links.proofs.Arriving.{hears_lldp}
use Rattle.pre_links.proofs.partners.Partner.lldp.Goals as goal

pub returns-in-Ok-clause-hears : goal.returns-in-Ok-clause-hears
unfolding advert_of
returns-in-Ok-clause-hears c = λ w h b b_lt legal s ended gives some.
    let read = ap if_read (ap pdu_of (sym c.lldpdu.ensures) ∙ sym c.read_lldpdu.ensures.read ∙ ap read_fields c.in-Ok.is) in
    hears_lldp w c.args.now.0 h b b_lt legal c.args.self.now _ c.args.frame.now (advert_in (fields_in c.in-Ok.pdu)) ended refl refl s (c.heard.ensures w.net.timing.unit s.calls s.stands) gives read

pub returns-in_default-clause-hears : goal.returns-in_default-clause-hears
unfolding advert_of
returns-in_default-clause-hears c = λ w h b b_lt legal s ended gives some.
    let read = ap if_read (ap pdu_of (sym c.lldpdu.ensures) ∙ sym c.read_lldpdu.ensures.read ∙ ap read_fields c.in_default.is) in
    let nothing = subst IsSome read some in
    absurd (cc nothing)

pub returns-in-Ok-clause-faulty : goal.returns-in-Ok-clause-faulty
unfolding advert_of
returns-in-Ok-clause-faulty c = λ none.
    let read = ap if_read (ap pdu_of (sym c.lldpdu.ensures) ∙ sym c.read_lldpdu.ensures.read ∙ ap read_fields c.in-Ok.is) in
    let some = sym none ∙ read in
    absurd (cc some)

use Rattle.std.proofs.Common.{◌+◌, ◌*◌, length, sym, ap, ◌∙◌, arith}
use Rattle.pre_history.specs.Octets.{is_on}
use Rattle.pre_links.proofs.Asked.{good_by, on_is}
use Rattle.pre_links.proofs.links.is_good.Goals as goal

pub returns-then-is_on : goal.returns-then-is_on
returns-then-is_on c = λ w h a a_lt legal s same.
    let by = good_by w c.args.now.0 (1 + 2 * length w.net.arcs + a) h a c.args.partner.now legal (omega (arith, a_lt)) s in
    let counts = c.good.ensures w.net.timing.unit s.calls s.stands in (
      (λ is. by.1 (sym same ∙ on_is c.args.setting (sym c.is_on.ensures ∙ c.if-is_on.true), counts.0 is)),
      (λ good. counts.1 (by.0 good).1),
    )

pub returns-else-is_on : goal.returns-else-is_on
returns-else-is_on c = λ w h a a_lt legal s same.
    let by = good_by w c.args.now.0 (1 + 2 * length w.net.arcs + a) h a c.args.partner.now legal (omega (arith, a_lt)) s in (
      (λ is. absurd (cc (is, c.if-is_on.false))),
      (λ good. c.is_on.ensures ∙ ap is_on (same ∙ (by.0 good).0)),
    )

use Rattle.std.proofs.Common.{◌<◌, ◌∙◌, sym, subst, arith, List, ℕ, get_or, rules}
use Rattle.pre_frame.specs.FrameFields.{Fields, HasFrameSize, EndsWithFcs, IsTagged, IsFrame}
use Rattle.pre_frame.proofs.FrameLaws.{EndsWithFcs-from_frame, IsTagged-from_frame, IsFrame-alone, IsFrame-at}
use Rattle.pre_frame.proofs.reading.read_frame.Goals as goal

pub returns-then-ne-clause-every : goal.returns-then-ne-clause-every
returns-then-ne-clause-every c = λ fields is. let ends = EndsWithFcs-from_frame fields c.args.octets.now is in search (rules, ends)

pub returns-then-ne-2-clause-every : goal.returns-then-ne-2-clause-every
returns-then-ne-2-clause-every c = λ fields is. let tagged = IsTagged-from_frame fields c.args.octets.now is in search (rules, tagged)

pub returns-clause-view : goal.returns-clause-view
returns-clause-view c =
    let octets : List ℕ = c.args.octets.now in
    let size : HasFrameSize octets = (omega arith, omega arith) in
    let small : (i : ℕ) → get_or octets i 0 < 256 = λ i. omega (arith, c.type_inv.octets i) in
    let ends : EndsWithFcs octets = search rules in
    let tagged : IsTagged octets = search rules in
    subst (λ (fields : Fields). IsFrame fields octets) (sym c.view_of.ensures) (IsFrame-at octets small size ends tagged)

pub returns-clause-every : goal.returns-clause-every
returns-clause-every c = λ fields is. c.view_of.ensures ∙ IsFrame-alone fields c.args.octets.now is

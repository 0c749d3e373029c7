use Rattle.std.proofs.Common.{◌≡◌, List, ℕ, Bool, Option, Result, ap, sym, ◌∙◌, arith, rules}
use Rattle.std.specs.Prelude.{is_some}
use Rattle.pre_lldp.specs.declared.reading.LldpFault.{LldpFault}
use Rattle.pre_lldp.specs.Tlvs.{Tlv}
use Rattle.pre_lldp.specs.PduReading.{next_at}
use Rattle.pre_lldp.specs.Parts.{part}
use Rattle.pre_lldp.proofs.Whole.{capabilities_fit, rest_shorter, so_far_none, so_far_other, so_far_found, so_far_ends, so_far_exits, read-at}
use Rattle.pre_lldp.proofs.reading.capabilities.Goals as goal

pub loop-tlv-init : goal.loop-tlv-init
loop-tlv-init c = so_far_none c.args.octets.now

known : {r : Result (Option (Tlv × List ℕ)) LldpFault} (k : Bool) (caps : Option ℕ) (rest : List ℕ) → k ≡ is_some caps → r ≡ next_at 3 k rest → next_at 3 (is_some caps) rest ≡ r
known k caps rest e h = ap (λ b. next_at 3 b rest) (sym e) ∙ sym h

pub returns-in_err-tlv : goal.returns-in_err-tlv
returns-in_err-tlv c =
    so_far_exits c.args.octets.now c.loop-tlv.rest.now c.loop-tlv.caps c.from_residual.result c.in_err-tlv.field-0.0 c.loop-tlv.invariant c.from_residual.ensures.1
    (known c.is_some.result c.loop-tlv.caps c.loop-tlv.rest.now c.is_some.ensures c.in_err-tlv.ensures)

pub loop-tlv-preserved : goal.loop-tlv-preserved
loop-tlv-preserved c =
    so_far_other c.args.octets.now c.loop-tlv.rest.now c.in-Some.behind.now c.loop-tlv.caps (part c.in-Some.tlv) c.loop-tlv.invariant
    (known c.is_some.result c.loop-tlv.caps c.loop-tlv.rest.now c.is_some.ensures (rw c.in-Some.is at c.in_ok-tlv.ensures)) (sym c.if-is_capabilities.ensures)

pub loop-tlv-preserved-then-is_capabilities : goal.loop-tlv-preserved-then-is_capabilities
loop-tlv-preserved-then-is_capabilities c =
    so_far_found c.args.octets.now c.loop-tlv.rest.now c.in-Some.behind.now c.loop-tlv.caps (part c.in-Some.tlv) c.read_u16.result c.loop-tlv.invariant
    (known c.is_some.result c.loop-tlv.caps c.loop-tlv.rest.now c.is_some.ensures (rw c.in-Some.is at c.in_ok-tlv.ensures)) (sym c.if-is_capabilities.ensures)
    (read-at c.in-Some.tlv.value.now 4 c.read_u16.result c.read_u16.ensures)

pub slice_bounds-read_u16-count : goal.slice_bounds-read_u16-count
slice_bounds-read_u16-count c =
    let long = capabilities_fit c.is_some.result c.loop-tlv.rest.now (part c.in-Some.tlv) c.in-Some.behind.now (sym (rw c.in-Some.is at c.in_ok-tlv.ensures)) (sym c.if-is_capabilities.ensures) in
    omega arith

pub slice_bounds-read_u16-start : goal.slice_bounds-read_u16-start
slice_bounds-read_u16-start c =
    let long = capabilities_fit c.is_some.result c.loop-tlv.rest.now (part c.in-Some.tlv) c.in-Some.behind.now (sym (rw c.in-Some.is at c.in_ok-tlv.ensures)) (sym c.if-is_capabilities.ensures) in
    omega arith

pub read_u16-requires : goal.read_u16-requires
read_u16-requires c =
    let long = capabilities_fit c.is_some.result c.loop-tlv.rest.now (part c.in-Some.tlv) c.in-Some.behind.now (sym (rw c.in-Some.is at c.in_ok-tlv.ensures)) (sym c.if-is_capabilities.ensures) in
    search (rules, long)

pub loop-tlv-smaller-then-is_capabilities : goal.loop-tlv-smaller-then-is_capabilities
loop-tlv-smaller-then-is_capabilities c =
    rest_shorter c.is_some.result c.loop-tlv.rest.now (part c.in-Some.tlv) c.in-Some.behind.now (sym (rw c.in-Some.is at c.in_ok-tlv.ensures))

pub loop-tlv-smaller : goal.loop-tlv-smaller
loop-tlv-smaller c = rest_shorter c.is_some.result c.loop-tlv.rest.now (part c.in-Some.tlv) c.in-Some.behind.now (sym (rw c.in-Some.is at c.in_ok-tlv.ensures))

pub returns : goal.returns
returns c =
    so_far_ends c.args.octets.now c.loop-tlv.rest.now c.loop-tlv.caps c.loop-tlv.invariant
    (known c.is_some.result c.loop-tlv.caps c.loop-tlv.rest.now c.is_some.ensures (rw c.in_default.is at c.in_ok-tlv.ensures))

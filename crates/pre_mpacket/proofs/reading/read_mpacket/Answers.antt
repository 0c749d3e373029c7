use Rattle.std.proofs.Common.{Err}
use Rattle.pre_mpacket.specs.declared.reading.MFault.TheVariants as fault
use Rattle.pre_mpacket.proofs.Faulted.{tells_fault, tells_spelled_due, tells_fault_due, no_fault, tells_short, tells_preamble, tells_passed, tells_read, starts_other}
use Rattle.pre_mpacket.proofs.Spelled.{spelled_one}
use Rattle.pre_mpacket.proofs.reading.read_mpacket.Goals as goal

pub returns-then-octets-lt-SHORTEST-clause-fault_due : goal.returns-then-octets-lt-SHORTEST-clause-fault_due
returns-then-octets-lt-SHORTEST-clause-fault_due c =
    tells_fault_due (Err fault.Short) c.args.octets.now (tells_short c.args.octets.now c.if-octets-lt-SHORTEST.true)

pub returns-then-not-starts_with-clause-fault : goal.returns-then-not-starts_with-clause-fault
returns-then-not-starts_with-clause-fault c =
    tells_fault (Err fault.Preamble) c.args.octets.now (tells_preamble c.args.octets.now c.if-octets-lt-SHORTEST.false
    (starts_other c.args.octets.now c.starts_with.result c.starts_with.ensures.value c.if-not-starts_with.true))

pub returns-then-not-starts_with-clause-fault_due : goal.returns-then-not-starts_with-clause-fault_due
returns-then-not-starts_with-clause-fault_due c =
    tells_fault_due (Err fault.Preamble) c.args.octets.now (tells_preamble c.args.octets.now c.if-octets-lt-SHORTEST.false
    (starts_other c.args.octets.now c.starts_with.result c.starts_with.ensures.value c.if-not-starts_with.true))

pub returns-in_err-kind-clause-spelled_due : goal.returns-in_err-kind-clause-spelled_due
returns-in_err-kind-clause-spelled_due c =
    tells_spelled_due c.from_residual.result c.args.octets.now
    (tells_passed c.args.octets.now c.starts_with.result c.kind_at.result c.in_err-kind.field-0.0 c.from_residual.result c.if-octets-lt-SHORTEST.false
    c.starts_with.ensures.value c.if-not-starts_with.false c.kind_at.ensures c.in_err-kind.was c.from_residual.ensures.1)

pub returns-in_err-kind-clause-fault : goal.returns-in_err-kind-clause-fault
returns-in_err-kind-clause-fault c =
    tells_fault c.from_residual.result c.args.octets.now
    (tells_passed c.args.octets.now c.starts_with.result c.kind_at.result c.in_err-kind.field-0.0 c.from_residual.result c.if-octets-lt-SHORTEST.false
    c.starts_with.ensures.value c.if-not-starts_with.false c.kind_at.ensures c.in_err-kind.was c.from_residual.ensures.1)

pub returns-in_err-kind-clause-fault_due : goal.returns-in_err-kind-clause-fault_due
returns-in_err-kind-clause-fault_due c =
    tells_fault_due c.from_residual.result c.args.octets.now
    (tells_passed c.args.octets.now c.starts_with.result c.kind_at.result c.in_err-kind.field-0.0 c.from_residual.result c.if-octets-lt-SHORTEST.false
    c.starts_with.ensures.value c.if-not-starts_with.false c.kind_at.ensures c.in_err-kind.was c.from_residual.ensures.1)

pub returns-clause-spelled : goal.returns-clause-spelled
returns-clause-spelled c =
    (tells_read c.args.octets.now c.starts_with.result c.in_ok-kind.kind c.split_at.result.0.now c.split_at.result.1.now c.if-octets-lt-SHORTEST.false
    c.starts_with.ensures.value c.if-not-starts_with.false c.in_ok-kind.ensures c.split_at.ensures.front c.split_at.ensures.back)

pub returns-clause-spelled_due : goal.returns-clause-spelled_due
returns-clause-spelled_due c =
    λ m t. spelled_one _ m c.args.octets.now (tells_read c.args.octets.now c.starts_with.result c.in_ok-kind.kind c.split_at.result.0.now c.split_at.result.1.now c.if-octets-lt-SHORTEST.false
    c.starts_with.ensures.value c.if-not-starts_with.false c.in_ok-kind.ensures c.split_at.ensures.front c.split_at.ensures.back) t

pub returns-clause-fault_due : goal.returns-clause-fault_due
returns-clause-fault_due c =
    λ e first. absurd (no_fault _ c.args.octets.now (tells_read c.args.octets.now c.starts_with.result c.in_ok-kind.kind c.split_at.result.0.now c.split_at.result.1.now c.if-octets-lt-SHORTEST.false
    c.starts_with.ensures.value c.if-not-starts_with.false c.in_ok-kind.ensures c.split_at.ensures.front c.split_at.ensures.back) e first.here)

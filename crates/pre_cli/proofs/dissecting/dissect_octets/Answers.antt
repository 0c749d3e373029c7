use Rattle.std.proofs.Common.{Err, subst}
use Rattle.pre_dissect.specs.declared.faults.DissectFault.{DissectFault}
use Rattle.pre_dissect.specs.Answers.{Leaves}
use Rattle.pre_cli.specs.declared.statuses.Status.{Status}
use Rattle.pre_cli.specs.Runs.{FlushEnds}
use Rattle.pre_cli.proofs.DissectLemmas.{all_leaves, fault_leaves, torn_leaves}
use Rattle.pre_cli.proofs.dissecting.dissect_octets.Goals as goal

pub returns-in-Ok-clause-leaves : goal.returns-in-Ok-clause-leaves
returns-in-Ok-clause-leaves g c =
    all_leaves c.flushed.result c.args.octets.now (g.S.Sink.tells c.args.sink.now) (g.S.Sink.tells c.dissect.new.sink) (g.S.Sink.tells c.flushed.new.sink)
    (g.S.Sink.faults c.dissect.new.sink) (g.S.Sink.faults c.flushed.new.sink) c.in-Ok.ensures.leaves c.flushed.ensures.ends

pub returns-in-Err-Pcap-clause-leaves : goal.returns-in-Err-Pcap-clause-leaves
returns-in-Err-Pcap-clause-leaves g c =
    let between = g.S.Sink.tells c.dissect.new.sink in
    let after = g.S.Sink.tells c.flushed-in-Err-Pcap.new.sink in
    let before = g.S.Sink.faults c.dissect.new.sink in
    let now = g.S.Sink.faults c.flushed-in-Err-Pcap.new.sink in
    fault_leaves c.flushed-in-Err-Pcap.result c.in-Err-Pcap.fault c.args.octets.now (g.S.Sink.tells c.args.sink.now) between after before now
    (subst (λ (x : DissectFault). Leaves {T = Unit {0}} (Err x) c.args.octets.now (g.S.Sink.tells c.args.sink.now) between) c.in-Err-Pcap.field-0-is c.in-Err-Pcap.ensures.leaves)
    (subst (λ (s : Status). FlushEnds s c.flushed-in-Err-Pcap.result between after before now) c.fault_status.ensures c.flushed-in-Err-Pcap.ensures.ends)

pub returns-in-Err-Failed-clause-leaves : goal.returns-in-Err-Failed-clause-leaves
returns-in-Err-Failed-clause-leaves g c =
    torn_leaves c.args.octets.now (g.S.Sink.tells c.args.sink.now) (g.S.Sink.tells c.dissect.new.sink)
    (subst (λ (x : DissectFault). Leaves {T = Unit {0}} (Err x) c.args.octets.now (g.S.Sink.tells c.args.sink.now) (g.S.Sink.tells c.dissect.new.sink)) c.in-Err-Failed.field-0-is c.in-Err-Failed.ensures.leaves)

use Rattle.std.proofs.Common.{◌≤◌, ◌+◌, ◌<◌, ◌^◌}
use Rattle.pre_pcap.specs.Captures.{octets_left}
use Rattle.pre_dissect.proofs.Dissected.{SoFar}
use Rattle.pre_dissect.proofs.dissecting.dissect.Given as goal

abbrev pub invariant-loop-receiver : goal.invariant-loop-receiver
invariant-loop-receiver g l = record {
  so_far : SoFar l.octets l.capture l.receiver l.place (g.S.Sink.tells l.fn.sink) (g.S.Sink.tells l.sink);
  later : g.S.Sink.faults l.fn.sink ≤ g.S.Sink.faults l.sink;
  room : l.place + octets_left l.capture < 2 ^ 64;
}

abbrev pub decreases-loop-receiver : goal.decreases-loop-receiver
decreases-loop-receiver g l = octets_left l.capture

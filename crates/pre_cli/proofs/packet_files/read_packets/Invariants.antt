use Rattle.std.proofs.Common.{◌≡◌, [], length}
use Rattle.pre_text.specs.Lines.{numbered_lines}
use Rattle.pre_cli.specs.PacketFiles.{after_lines}
use Rattle.pre_cli.proofs.packet_files.read_packets.Given as goal

abbrev pub invariant-loop-line : goal.invariant-loop-line
invariant-loop-line l = after_lines l.found l.lines ≡ after_lines [] (numbered_lines l.text)

abbrev pub decreases-loop-line : goal.decreases-loop-line
decreases-loop-line l = length l.lines

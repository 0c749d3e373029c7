use Rattle.std.proofs.Common.{◌∙◌, ℕ, List, Result, sym, ap}
use Rattle.pre_cli.specs.PacketFiles.{after_line, after_lines, then_lines, arrivals_of}
use Rattle.pre_cli.proofs.PacketLines.{line_goes, all_read}
use Rattle.pre_cli.proofs.packet_files.read_packets.Goals as goal

pub loop-line-preserved : goal.loop-line-preserved
loop-line-preserved c =
    let line : ℕ × List ℕ = (c.in-Some.line.number, c.in-Some.line.octets.now) in
    let went = line_goes c.read_line.new.found (after_line c.loop-line.found line) c.in-Ok.ensures in
    ap (λ (r : Result (List (List ℕ)) ℕ). then_lines r (λ more. after_lines more c.next_line.new.self)) (sym went)
    ∙ (ap (after_lines c.loop-line.found) (sym c.in-Some.ensures.next) ∙ c.loop-line.invariant)

pub returns : goal.returns
returns c = all_read c.loop-line.found (arrivals_of c.args.text.now) (sym (ap (after_lines c.loop-line.found) c.in_default.ensures.next.0) ∙ c.loop-line.invariant)

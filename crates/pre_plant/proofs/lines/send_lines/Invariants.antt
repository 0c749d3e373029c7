use Rattle.std.proofs.Common.{◌≡◌, map, take, length}
use Rattle.std.specs.List.{range_with_len}
use Rattle.pre_plant.proofs.lines.send_lines.Given as goal

abbrev pub invariant-loop-send : goal.invariant-loop-send
invariant-loop-send l = record {
  sends : map (λ s. s.send) l.lines ≡ take l.send-index l.sends;
  lines : map (λ s. s.line) l.lines ≡ range_with_len 1 l.send-index;
  line : l.line ≡ l.send-index;
  long : length l.lines ≡ l.send-index;
}

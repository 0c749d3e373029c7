use Rattle.std.proofs.Common.{◌≡◌, ℕ, ◌+◌, ◌%◌, ◌<◌, get_or}
use Rattle.pre_frame.proofs.building.count_up.Given as goal

abbrev pub invariant-loop-octet : goal.invariant-loop-octet
invariant-loop-octet l = record {
  next : l.next ≡ (l.fn.number.0 + (4 + l.octet-index)) % 256;
  so_far : (k : ℕ) → k < l.octet-index → get_or l.octets k 0 ≡ (l.fn.number.0 + (4 + k)) % 256;
}

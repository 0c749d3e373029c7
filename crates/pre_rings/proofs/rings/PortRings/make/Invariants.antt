use Rattle.std.proofs.Common.{◌≡◌, [], map, take}
use Rattle.circular_buffer.specs.Buffer.{buffer}
use Rattle.pre_rings.specs.declared.slots.FrameRef.{FrameRef}
use Rattle.pre_rings.proofs.rings.PortRings.make.Given as goal

abbrev pub invariant-loop-cap : goal.invariant-loop-cap
invariant-loop-cap l = l.rings.items ≡ map (λ n. buffer {X = FrameRef} [] n) (take l.cap-index l.cap-items)

use Rattle.std.proofs.Common.{◌≡◌, ◌+◌, length}
use Rattle.pre_certify.specs.Paths.{IsBackPath}
use Rattle.pre_certify.proofs.cycles.closed_path.Given as goal

abbrev pub invariant-loop-turn : goal.invariant-loop-turn
invariant-loop-turn l = record { back : IsBackPath l.rows l.ranks l.last l.path; long : length l.path ≡ l._turn + 1 }

use Rattle.std.proofs.Common.{◌≡◌, take}
use Rattle.pre_cli.specs.Curves.{sends_in}
use Rattle.pre_cli.proofs.curves.sends_in.Given as goal

abbrev pub invariant-loop-line : goal.invariant-loop-line
invariant-loop-line l = l.sends.items ≡ sends_in (take l.line-index l.lines)

use Rattle.std.proofs.Common.{◌≡◌, take}
use Rattle.pre_cli.specs.Curves.{lines_of}
use Rattle.pre_cli.proofs.curves.lines_of.Given as goal

abbrev pub invariant-loop-line : goal.invariant-loop-line
invariant-loop-line l = l.lines.items ≡ lines_of (take l.line-index l.sends) l.number

use Rattle.pre_cli.specs.Curves.{RowsFind}
use Rattle.pre_cli.proofs.curves.unruly_line.Given as goal

abbrev pub invariant-loop-number : goal.invariant-loop-number
invariant-loop-number l = RowsFind l.rows l.sends l.number l.least

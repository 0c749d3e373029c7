use Rattle.pre_rings.specs.Stores.{HoldsFrame}
use Rattle.pre_send.specs.Endings.{HoldsAll}
use Rattle.pre_send.proofs.tests.goes_on.Given as goal

abbrev pub invariant-loop-now : goal.invariant-loop-now
invariant-loop-now l = HoldsAll l.sender l.store × HoldsFrame l.store l.express

use Rattle.pre_laws.proofs.FirstOctets.{begins_once, not_last}
use Rattle.pre_laws.proofs.Once.{entries_once, entries_grounded}
use Rattle.pre_laws.proofs.RingsOnce.{ring_once, begun_came, come_once}
use Rattle.pre_laws.proofs.laws.frames_take_arcs_once.Goals as goal

pub returns-clause-entries : goal.returns-clause-entries
returns-clause-entries c = entries_once

pub returns-clause-comes : goal.returns-clause-comes
returns-clause-comes c = entries_grounded

pub returns-clause-first : goal.returns-clause-first
returns-clause-first c = λ w routed n h legal a a_lt i j b d f at at' is is' from from'. begins_once w routed n h legal a a_lt i j b d f (at, is) (at', is') from from'

pub returns-clause-last : goal.returns-clause-last
returns-clause-last c = λ w routed n h legal a a_lt i j b d f e lt at at' is is' over. not_last w routed n h legal a a_lt i j b d f e lt (at, is) (at', is') over

pub returns-clause-rings : goal.returns-clause-rings
returns-clause-rings c = ring_once

pub returns-clause-before : goal.returns-clause-before
returns-clause-before c = begun_came

pub returns-clause-comings : goal.returns-clause-comings
returns-clause-comings c = come_once

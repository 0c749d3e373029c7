use Rattle.std.proofs.Common.{Some, ap}
use Rattle.pre_mpacket.specs.Arrivals.{is_fragment}
use Rattle.pre_mpacket.proofs.Spelled.{spelled_given}
use Rattle.pre_mpacket.proofs.Opened.{opens_start, opens_continuation}
use Rattle.pre_mpacket.proofs.OneOpen.{opens_other}
use Rattle.pre_mpacket.proofs.laws.next_open.Goals as goal

pub returns-clause-start : goal.returns-clause-start
returns-clause-start c = λ A octets all m f d n s is. opens_start A (Some octets) m (spelled_given m octets s) (ap is_fragment is) f d n all is

pub returns-clause-continuation : goal.returns-clause-continuation
returns-clause-continuation c = λ A octets all m f i d n s is. opens_continuation A (Some octets) m (spelled_given m octets s) (ap is_fragment is) f i d n all is

pub returns-clause-other : goal.returns-clause-other
returns-clause-other c = opens_other

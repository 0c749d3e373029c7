use Rattle.std.proofs.Common.{Some, ap}
use Rattle.pre_mpacket.specs.Arrivals.{is_fragment}
use Rattle.pre_mpacket.proofs.Spelled.{spelled_given}
use Rattle.pre_mpacket.proofs.Opened.{joins_start, joins_continuation}
use Rattle.pre_mpacket.proofs.laws.next_joins.Goals as goal

pub returns-clause-start : goal.returns-clause-start
returns-clause-start c = λ A octets all m f s is. joins_start A (Some octets) m (spelled_given m octets s) (ap is_fragment is) f all is

pub returns-clause-continuation : goal.returns-clause-continuation
returns-clause-continuation c = λ A octets all m f i s is. joins_continuation A (Some octets) m (spelled_given m octets s) (ap is_fragment is) f i all is

use Rattle.pre_history.proofs.ArrivalsRead.{results_read, deliveries_read}
use Rattle.pre_history.proofs.DeliveriesRead.{delivery_source}
use Rattle.pre_history.proofs.laws.arrivals_are_read.Goals as goal

pub returns-clause-results : goal.returns-clause-results
returns-clause-results c = results_read

pub returns-clause-delivered : goal.returns-clause-delivered
returns-clause-delivered c = deliveries_read

pub returns-clause-only : goal.returns-clause-only
returns-clause-only c = delivery_source

use Rattle.pre_memory.proofs.Stations.{on, first, apart}
use Rattle.pre_memory.proofs.laws.routes_pass_bridges.Goals as goal

pub returns : goal.returns
returns c = record {
  on = λ net streams fits. on net streams fits (c.route_law.ensures.along net streams fits);
  first = first;
  apart = apart;
}

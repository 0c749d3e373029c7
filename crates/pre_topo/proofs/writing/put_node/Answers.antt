use Rattle.std.proofs.Common.{rules}
use Rattle.pre_topo.specs.Text.{node_text}
use Rattle.pre_topo.proofs.writing.put_node.Goals as goal

pub returns-clause-octets : goal.returns-clause-octets
unfolding node_text
returns-clause-octets g c = search rules

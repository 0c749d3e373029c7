use Rattle.pre_certify.proofs.Certified.{rows_within, says_written, cost_some}
use Rattle.pre_certify.proofs.certifier.written.Goals as goal

pub invariant_of-result : goal.invariant_of-result
invariant_of-result c = record {
  within = rows_within c.args.net.now c.args.rows.now c.args.ranks.now c.args.delays.now c.in_ok-arcs.arcs c.in_ok-ports.ports c.in_ok-hops.hops c.in_ok-bounds.bounds
      c.requires.load c.requires.ranks c.requires.table (cost_some c.args.net.now) c.requires.bursts c.requires.bounds c.in_ok-arcs.ensures c.in_ok-ports.ensures c.in_ok-hops.ensures c.in_ok-bounds.ensures;
}

pub returns : goal.returns
returns c = says_written c.args.net.now c.args.rows.now c.args.ranks.now c.args.delays.now _ c.requires.ranked c.in_ok-arcs.ensures c.in_ok-ports.ensures c.in_ok-hops.ensures c.in_ok-bounds.ensures

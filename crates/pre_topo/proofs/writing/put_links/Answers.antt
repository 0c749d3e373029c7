use Rattle.std.proofs.Common.{rules}
use Rattle.pre_topo.proofs.Written.{link_fails, link_goes_on}
use Rattle.pre_topo.proofs.writing.put_links.Goals as goal

pub returns-in_err-put_link-clause-octets : goal.returns-in_err-put_link-clause-octets
returns-in_err-put_link-clause-octets g c =
    link_fails c.args.nodes.now c.args.arcs.now c.loop-rest.rest.now _ _ _ _ c.in-len2-up.len_at_least c.loop-rest.invariant.taken c.from_residual.result c.from_residual.ensures.0 c.in_err-put_link.ensures.octets

pub loop-rest-preserved : goal.loop-rest-preserved
loop-rest-preserved g c = record {
  taken = link_goes_on c.args.nodes.now c.args.arcs.now c.loop-rest.rest.now _ _ _ _ c.in-len2-up.len_at_least c.loop-rest.invariant.taken c.in_ok-put_link.ensures.octets;
  later = search rules;
}

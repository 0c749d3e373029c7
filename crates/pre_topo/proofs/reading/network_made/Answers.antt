use Rattle.std.proofs.Common.{◌≡◌, List, sym, ◌∙◌, None, arith, subst}
use Rattle.pre_topo.specs.declared.arcs.Arc.{Arc}
use Rattle.pre_topo.specs.declared.nodes.Node.{Node}
use Rattle.pre_topo.specs.FileRules.{rows_fault, sums_fault}
use Rattle.pre_topo.specs.Made.{nodes_made, arcs_made}
use Rattle.pre_topo.proofs.Faultless.{faultless}
use Rattle.pre_topo.proofs.MadeNodes.{within}
use Rattle.pre_topo.proofs.MadeNetwork.{bounded, network_is}
use Rattle.pre_topo.proofs.reading.network_made.Goals as goal

pub arcs_made-requires-clause-top : goal.arcs_made-requires-clause-top
arcs_made-requires-clause-top c =
    let none : rows_fault c.args.raw.now ≡ None = sym c.in_ok-fault.ensures ∙ c.in_default.is in
    (faultless c.args.raw.now none).express

pub arcs_made-requires-clause-range : goal.arcs_made-requires-clause-range
arcs_made-requires-clause-range c =
    let none : rows_fault c.args.raw.now ≡ None = sym c.in_ok-fault.ensures ∙ c.in_default.is in
    rw c.as_slice-raw_links.ensures (faultless c.args.raw.now none).links.range

pub sums_fault-requires : goal.sums_fault-requires
sums_fault-requires c =
    let none : rows_fault c.args.raw.now ≡ None = sym c.in_ok-fault.ensures ∙ c.in_default.is in
    let arcs : c.as_slice-2.result.now ≡ arcs_made c.args.raw.now.express_from c.args.raw.now.nodes c.args.raw.now.links = cc (c.in_ok-arcs.ensures) in
    rw arcs (bounded c.args.raw.now none)

pub overflow_cast-result : goal.overflow_cast-result
overflow_cast-result c =
    let none : rows_fault c.args.raw.now ≡ None = sym c.in_ok-fault.ensures ∙ c.in_default.is in
    let range = within 1 7 c.args.raw.now.express_from (faultless c.args.raw.now none).express in
    omega (arith, range.1)

pub invariant_of-result : goal.invariant_of-result
invariant_of-result c =
    let none : rows_fault c.args.raw.now ≡ None = sym c.in_ok-fault.ensures ∙ c.in_default.is in
    let nodes : c.in_ok-nodes.nodes ≡ nodes_made c.args.raw.now.nodes = cc (c.in_ok-nodes.ensures) in
    let arcs : c.in_ok-arcs.arcs ≡ arcs_made c.args.raw.now.express_from c.args.raw.now.nodes c.args.raw.now.links = cc (c.in_ok-arcs.ensures) in
    let fits : sums_fault (nodes_made c.args.raw.now.nodes) (arcs_made c.args.raw.now.express_from c.args.raw.now.nodes c.args.raw.now.links) ≡ None =
    subst (λ (as_ : List Arc). sums_fault (nodes_made c.args.raw.now.nodes) as_ ≡ None) (c.as_slice-2.ensures ∙ arcs)
    (subst (λ (ns : List Node). sums_fault ns c.as_slice-2.result.now ≡ None) (c.as_slice.ensures ∙ nodes)
    (sym c.sums_fault.ensures ∙ c.in_default-sums_fault.is)) in
    record { rules = rw (c.natural.ensures, c.timing_made.ensures, nodes, arcs) (network_is c.args.raw.now none fits) }

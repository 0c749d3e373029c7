use Rattle.std.proofs.Common.{◌≡◌, ◌∙◌, ap, length}
use Rattle.pre_check.specs.Tests.{rank_rises, load_fits, burst_begins, block_covers, work_covers, delay_covers, growth_covers, size_covers, ring_fits, bound_covers, largest_covers}
use Rattle.pre_check.specs.Breaches.{later, fails_from, port_lines, hop_lines, bound_lines}
use Rattle.pre_check.proofs.Breaking.{at_line, at_second}
use Rattle.pre_check.proofs.breaches.breaches.Goals as goal

pub returns : goal.returns
returns c =
    let net = c.args.net.now in
    let rows = c.args.rows.now in
    let arcs = c.args.arcs.now in
    let ports = c.args.ports.now in
    let hops = c.args.hops.now in
    let bounds = c.args.bounds.now in
    let port : c.later-port_lines.result ≡ port_lines arcs = c.later-port_lines.ensures in
    let hop : c.later-hop_lines.result ≡ hop_lines arcs ports = c.later-hop_lines.ensures ∙ ap (λ n. later n (length ports)) port in
    let bound : c.later-bound_lines.result ≡ bound_lines arcs ports hops = c.later-bound_lines.ensures ∙ ap (λ n. later n (length hops)) hop in
    let e1 : c.line_at.result ≡ fails_from (hop_lines arcs ports) (rank_rises rows arcs) hops = at_line _ _ _ _ (rank_rises rows arcs) hops c.line_at.ensures c.rank_order.ensures hop in
    let e2 : c.line_at-2.result ≡ fails_from 2 (load_fits net rows) arcs = at_second _ _ (load_fits net rows) arcs c.line_at-2.ensures c.load.ensures in
    let e3 : c.line_at-3.result ≡ fails_from (hop_lines arcs ports) (burst_begins rows) hops = at_line _ _ _ _ (burst_begins rows) hops c.line_at-3.ensures c.first_burst.ensures hop in
    let e4 : c.line_at-4.result ≡ fails_from (port_lines arcs) (block_covers net rows arcs) ports = at_line _ _ _ _ (block_covers net rows arcs) ports c.line_at-4.ensures c.block.ensures port in
    let e5 : c.line_at-5.result ≡ fails_from (port_lines arcs) (work_covers net rows hops) ports = at_line _ _ _ _ (work_covers net rows hops) ports c.line_at-5.ensures c.work.ensures port in
    let e6 : c.line_at-6.result ≡ fails_from (port_lines arcs) (delay_covers net) ports = at_line _ _ _ _ (delay_covers net) ports c.line_at-6.ensures c.delay.ensures port in
    let e7 : c.line_at-7.result ≡ fails_from (hop_lines arcs ports) (growth_covers net rows ports hops) hops = at_line _ _ _ _ (growth_covers net rows ports hops) hops c.line_at-7.ensures c.growth.ensures hop in
    let e8 : c.line_at-8.result ≡ fails_from (port_lines arcs) (size_covers rows hops) ports = at_line _ _ _ _ (size_covers rows hops) ports c.line_at-8.ensures c.size.ensures port in
    let e9 : c.line_at-9.result ≡ fails_from (port_lines arcs) (ring_fits net) ports = at_line _ _ _ _ (ring_fits net) ports c.line_at-9.ensures c.ring.ensures port in
    let e10 : c.line_at-10.result ≡ fails_from (bound_lines arcs ports hops) (bound_covers net rows ports) bounds = at_line _ _ _ _ (bound_covers net rows ports) bounds c.line_at-10.ensures c.bound.ensures bound in
    let e11 : c.line_at-11.result ≡ fails_from 2 (largest_covers net rows) arcs = at_second _ _ (largest_covers net rows) arcs c.line_at-11.ensures c.largest.ensures in
    cc

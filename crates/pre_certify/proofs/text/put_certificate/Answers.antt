use Rattle.std.proofs.Common.{◌++◌, rules}
use Rattle.pre_base.specs.Told.{WhereTold}
use Rattle.pre_base.specs.Sinks.{TakesWhole, TakesFront}
use Rattle.pre_base.proofs.Pieces.{untouched, goes_on, breaks, ends}
use Rattle.pre_certify.specs.Text.{first_line, arc_lines, port_lines, hop_lines, bound_lines, last_line, certificate_text}
use Rattle.pre_certify.proofs.text.put_certificate.Goals as goal

pub returns-in_err-put_first-clause-octets : goal.returns-in_err-put_first-clause-octets
returns-in_err-put_first-clause-octets g c =
    let net = c.args.net.now in
    let k = c.args.c.now in
    let rows = c.args.streams.now.rows in
    let whole = certificate_text net rows k in
    let before = g.S.Sink.tells c.args.sink.now in
    let f : WhereTold before (g.S.Sink.tells c.put_first.new.sink) (TakesFront (first_line k.arcs)) = search rules in
    breaks before before (g.S.Sink.tells c.put_first.new.sink) whole (first_line k.arcs) ((arc_lines net k.arcs) ++ ((port_lines net k.ports) ++ ((hop_lines rows k.hops) ++ ((bound_lines rows k.bounds) ++ last_line)))) c.from_residual.result c.from_residual.ensures.0 (untouched before whole) f

pub returns-in_err-put_arcs-clause-octets : goal.returns-in_err-put_arcs-clause-octets
returns-in_err-put_arcs-clause-octets g c =
    let net = c.args.net.now in
    let k = c.args.c.now in
    let rows = c.args.streams.now.rows in
    let whole = certificate_text net rows k in
    let before = g.S.Sink.tells c.args.sink.now in
    let t0 : WhereTold before (g.S.Sink.tells c.put_first.new.sink) (TakesWhole (first_line k.arcs)) = search rules in
    let s0 = goes_on before before (g.S.Sink.tells c.put_first.new.sink) whole (first_line k.arcs) ((arc_lines net k.arcs) ++ ((port_lines net k.ports) ++ ((hop_lines rows k.hops) ++ ((bound_lines rows k.bounds) ++ last_line)))) (untouched before whole) t0 in
    let f : WhereTold (g.S.Sink.tells c.put_first.new.sink) (g.S.Sink.tells c.put_arcs.new.sink) (TakesFront (arc_lines net k.arcs)) = search rules in
    breaks before (g.S.Sink.tells c.put_first.new.sink) (g.S.Sink.tells c.put_arcs.new.sink) whole (arc_lines net k.arcs) ((port_lines net k.ports) ++ ((hop_lines rows k.hops) ++ ((bound_lines rows k.bounds) ++ last_line))) c.from_residual-in_err-put_arcs.result c.from_residual-in_err-put_arcs.ensures.0 s0 f

pub returns-in_err-put_ports-clause-octets : goal.returns-in_err-put_ports-clause-octets
returns-in_err-put_ports-clause-octets g c =
    let net = c.args.net.now in
    let k = c.args.c.now in
    let rows = c.args.streams.now.rows in
    let whole = certificate_text net rows k in
    let before = g.S.Sink.tells c.args.sink.now in
    let t0 : WhereTold before (g.S.Sink.tells c.put_first.new.sink) (TakesWhole (first_line k.arcs)) = search rules in
    let s0 = goes_on before before (g.S.Sink.tells c.put_first.new.sink) whole (first_line k.arcs) ((arc_lines net k.arcs) ++ ((port_lines net k.ports) ++ ((hop_lines rows k.hops) ++ ((bound_lines rows k.bounds) ++ last_line)))) (untouched before whole) t0 in
    let t1 : WhereTold (g.S.Sink.tells c.put_first.new.sink) (g.S.Sink.tells c.put_arcs.new.sink) (TakesWhole (arc_lines net k.arcs)) = search rules in
    let s1 = goes_on before (g.S.Sink.tells c.put_first.new.sink) (g.S.Sink.tells c.put_arcs.new.sink) whole (arc_lines net k.arcs) ((port_lines net k.ports) ++ ((hop_lines rows k.hops) ++ ((bound_lines rows k.bounds) ++ last_line))) s0 t1 in
    let f : WhereTold (g.S.Sink.tells c.put_arcs.new.sink) (g.S.Sink.tells c.put_ports.new.sink) (TakesFront (port_lines net k.ports)) = search rules in
    breaks before (g.S.Sink.tells c.put_arcs.new.sink) (g.S.Sink.tells c.put_ports.new.sink) whole (port_lines net k.ports) ((hop_lines rows k.hops) ++ ((bound_lines rows k.bounds) ++ last_line)) c.from_residual-in_err-put_ports.result c.from_residual-in_err-put_ports.ensures.0 s1 f

pub returns-in_err-put_hops-clause-octets : goal.returns-in_err-put_hops-clause-octets
returns-in_err-put_hops-clause-octets g c =
    let net = c.args.net.now in
    let k = c.args.c.now in
    let rows = c.args.streams.now.rows in
    let whole = certificate_text net rows k in
    let before = g.S.Sink.tells c.args.sink.now in
    let t0 : WhereTold before (g.S.Sink.tells c.put_first.new.sink) (TakesWhole (first_line k.arcs)) = search rules in
    let s0 = goes_on before before (g.S.Sink.tells c.put_first.new.sink) whole (first_line k.arcs) ((arc_lines net k.arcs) ++ ((port_lines net k.ports) ++ ((hop_lines rows k.hops) ++ ((bound_lines rows k.bounds) ++ last_line)))) (untouched before whole) t0 in
    let t1 : WhereTold (g.S.Sink.tells c.put_first.new.sink) (g.S.Sink.tells c.put_arcs.new.sink) (TakesWhole (arc_lines net k.arcs)) = search rules in
    let s1 = goes_on before (g.S.Sink.tells c.put_first.new.sink) (g.S.Sink.tells c.put_arcs.new.sink) whole (arc_lines net k.arcs) ((port_lines net k.ports) ++ ((hop_lines rows k.hops) ++ ((bound_lines rows k.bounds) ++ last_line))) s0 t1 in
    let t2 : WhereTold (g.S.Sink.tells c.put_arcs.new.sink) (g.S.Sink.tells c.put_ports.new.sink) (TakesWhole (port_lines net k.ports)) = search rules in
    let s2 = goes_on before (g.S.Sink.tells c.put_arcs.new.sink) (g.S.Sink.tells c.put_ports.new.sink) whole (port_lines net k.ports) ((hop_lines rows k.hops) ++ ((bound_lines rows k.bounds) ++ last_line)) s1 t2 in
    let f : WhereTold (g.S.Sink.tells c.put_ports.new.sink) (g.S.Sink.tells c.put_hops.new.sink) (TakesFront (hop_lines rows k.hops)) = search rules in
    breaks before (g.S.Sink.tells c.put_ports.new.sink) (g.S.Sink.tells c.put_hops.new.sink) whole (hop_lines rows k.hops) ((bound_lines rows k.bounds) ++ last_line) c.from_residual-in_err-put_hops.result c.from_residual-in_err-put_hops.ensures.0 s2 f

pub returns-in_err-put_bounds-clause-octets : goal.returns-in_err-put_bounds-clause-octets
returns-in_err-put_bounds-clause-octets g c =
    let net = c.args.net.now in
    let k = c.args.c.now in
    let rows = c.args.streams.now.rows in
    let whole = certificate_text net rows k in
    let before = g.S.Sink.tells c.args.sink.now in
    let t0 : WhereTold before (g.S.Sink.tells c.put_first.new.sink) (TakesWhole (first_line k.arcs)) = search rules in
    let s0 = goes_on before before (g.S.Sink.tells c.put_first.new.sink) whole (first_line k.arcs) ((arc_lines net k.arcs) ++ ((port_lines net k.ports) ++ ((hop_lines rows k.hops) ++ ((bound_lines rows k.bounds) ++ last_line)))) (untouched before whole) t0 in
    let t1 : WhereTold (g.S.Sink.tells c.put_first.new.sink) (g.S.Sink.tells c.put_arcs.new.sink) (TakesWhole (arc_lines net k.arcs)) = search rules in
    let s1 = goes_on before (g.S.Sink.tells c.put_first.new.sink) (g.S.Sink.tells c.put_arcs.new.sink) whole (arc_lines net k.arcs) ((port_lines net k.ports) ++ ((hop_lines rows k.hops) ++ ((bound_lines rows k.bounds) ++ last_line))) s0 t1 in
    let t2 : WhereTold (g.S.Sink.tells c.put_arcs.new.sink) (g.S.Sink.tells c.put_ports.new.sink) (TakesWhole (port_lines net k.ports)) = search rules in
    let s2 = goes_on before (g.S.Sink.tells c.put_arcs.new.sink) (g.S.Sink.tells c.put_ports.new.sink) whole (port_lines net k.ports) ((hop_lines rows k.hops) ++ ((bound_lines rows k.bounds) ++ last_line)) s1 t2 in
    let t3 : WhereTold (g.S.Sink.tells c.put_ports.new.sink) (g.S.Sink.tells c.put_hops.new.sink) (TakesWhole (hop_lines rows k.hops)) = search rules in
    let s3 = goes_on before (g.S.Sink.tells c.put_ports.new.sink) (g.S.Sink.tells c.put_hops.new.sink) whole (hop_lines rows k.hops) ((bound_lines rows k.bounds) ++ last_line) s2 t3 in
    let f : WhereTold (g.S.Sink.tells c.put_hops.new.sink) (g.S.Sink.tells c.put_bounds.new.sink) (TakesFront (bound_lines rows k.bounds)) = search rules in
    breaks before (g.S.Sink.tells c.put_hops.new.sink) (g.S.Sink.tells c.put_bounds.new.sink) whole (bound_lines rows k.bounds) last_line c.from_residual-in_err-put_bounds.result c.from_residual-in_err-put_bounds.ensures.0 s3 f

pub returns-clause-octets : goal.returns-clause-octets
returns-clause-octets g c =
    let net = c.args.net.now in
    let k = c.args.c.now in
    let rows = c.args.streams.now.rows in
    let whole = certificate_text net rows k in
    let before = g.S.Sink.tells c.args.sink.now in
    let t0 : WhereTold before (g.S.Sink.tells c.put_first.new.sink) (TakesWhole (first_line k.arcs)) = search rules in
    let s0 = goes_on before before (g.S.Sink.tells c.put_first.new.sink) whole (first_line k.arcs) ((arc_lines net k.arcs) ++ ((port_lines net k.ports) ++ ((hop_lines rows k.hops) ++ ((bound_lines rows k.bounds) ++ last_line)))) (untouched before whole) t0 in
    let t1 : WhereTold (g.S.Sink.tells c.put_first.new.sink) (g.S.Sink.tells c.put_arcs.new.sink) (TakesWhole (arc_lines net k.arcs)) = search rules in
    let s1 = goes_on before (g.S.Sink.tells c.put_first.new.sink) (g.S.Sink.tells c.put_arcs.new.sink) whole (arc_lines net k.arcs) ((port_lines net k.ports) ++ ((hop_lines rows k.hops) ++ ((bound_lines rows k.bounds) ++ last_line))) s0 t1 in
    let t2 : WhereTold (g.S.Sink.tells c.put_arcs.new.sink) (g.S.Sink.tells c.put_ports.new.sink) (TakesWhole (port_lines net k.ports)) = search rules in
    let s2 = goes_on before (g.S.Sink.tells c.put_arcs.new.sink) (g.S.Sink.tells c.put_ports.new.sink) whole (port_lines net k.ports) ((hop_lines rows k.hops) ++ ((bound_lines rows k.bounds) ++ last_line)) s1 t2 in
    let t3 : WhereTold (g.S.Sink.tells c.put_ports.new.sink) (g.S.Sink.tells c.put_hops.new.sink) (TakesWhole (hop_lines rows k.hops)) = search rules in
    let s3 = goes_on before (g.S.Sink.tells c.put_ports.new.sink) (g.S.Sink.tells c.put_hops.new.sink) whole (hop_lines rows k.hops) ((bound_lines rows k.bounds) ++ last_line) s2 t3 in
    let t4 : WhereTold (g.S.Sink.tells c.put_hops.new.sink) (g.S.Sink.tells c.put_bounds.new.sink) (TakesWhole (bound_lines rows k.bounds)) = search rules in
    let s4 = goes_on before (g.S.Sink.tells c.put_hops.new.sink) (g.S.Sink.tells c.put_bounds.new.sink) whole (bound_lines rows k.bounds) last_line s3 t4 in
    ends before (g.S.Sink.tells c.put_bounds.new.sink) (g.S.Sink.tells c.put_line.new.sink) whole last_line c.put_line.result s4 c.put_line.ensures.octets

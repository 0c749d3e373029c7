use Rattle.std.proofs.Common.{subst}
use Rattle.pre_base.specs.Told.{WhereTold}
use Rattle.pre_base.specs.Sinks.{TakesFront}
use Rattle.pre_bound.specs.declared.rows.PortRow.{PortRow}
use Rattle.pre_certify.specs.Text.{port_line}
use Rattle.pre_base.proofs.Pieces.{piece_fails}
use Rattle.pre_certify.proofs.text.put_ports.Goals as goal

pub returns-in_err-put_port-clause-octets : goal.returns-in_err-put_port-clause-octets
returns-in_err-put_port-clause-octets g c =
    let before = g.S.Sink.tells c.loop-row.sink in
    let after = g.S.Sink.tells c.put_port.new.sink in
    piece_fails (port_line c.args.net.now) c.args.rows.now c.loop-row.row-index c.row-item.result _ before after c.from_residual.result c.loop-row-test.true c.from_residual.ensures.0 c.loop-row.invariant.taken
    (subst (λ (row : PortRow). WhereTold before after (TakesFront (port_line c.args.net.now row))) c.row-item.is c.in_err-put_port.ensures.octets)

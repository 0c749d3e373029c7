use Rattle.std.proofs.Common.{arith}
use Rattle.pre_lldp.proofs.Front.{Required, read_exits, no_chassis, no_port, no_time, no_options, read_whole}
use Rattle.pre_lldp.proofs.reading.fields_at_front.Goals as goal

pub returns-in_err-chassis : goal.returns-in_err-chassis
returns-in_err-chassis c =
    read_exits c.from_residual.result c.args.octets.now c.in_err-chassis.field-0.0 c.from_residual.ensures.1
    (no_chassis c.args.octets.now c.in_err-chassis.field-0.0 c.in_err-chassis.ensures.leads)

pub returns-in_err-port : goal.returns-in_err-port
returns-in_err-port c =
    read_exits c.from_residual-in_err-port.result c.args.octets.now c.in_err-port.field-0.0 c.from_residual-in_err-port.ensures.1
    (no_port c.args.octets.now c.in_ok-chassis.chassis.now c.in_ok-chassis.rest.now c.in_err-port.field-0.0 c.in_ok-chassis.ensures.leads c.in_ok-chassis.ensures.shorter c.in_err-port.ensures.leads)

pub returns-in_err-time : goal.returns-in_err-time
returns-in_err-time c =
    read_exits c.from_residual-in_err-time.result c.args.octets.now c.in_err-time.field-0.0 c.from_residual-in_err-time.ensures.1
    (no_time c.args.octets.now c.in_ok-chassis.chassis.now c.in_ok-port.port.now c.in_ok-chassis.rest.now c.in_ok-port.rest.now c.in_err-time.field-0.0
    c.in_ok-chassis.ensures.leads c.in_ok-chassis.ensures.shorter c.in_ok-port.ensures.leads c.in_ok-port.ensures.shorter c.in_err-time.ensures.leads)

pub returns-in_err-caps : goal.returns-in_err-caps
returns-in_err-caps c =
    let required : Required c.args.octets.now c.in_ok-chassis.chassis.now c.in_ok-port.port.now c.in_ok-time.time.now c.in_ok-time.rest.now = record {
      rest1 = c.in_ok-chassis.rest.now;
      rest2 = c.in_ok-port.rest.now;
      leads1 = c.in_ok-chassis.ensures.leads;
      shorter1 = c.in_ok-chassis.ensures.shorter;
      leads2 = c.in_ok-port.ensures.leads;
      shorter2 = c.in_ok-port.ensures.shorter;
      leads3 = c.in_ok-time.ensures.leads;
      shorter3 = c.in_ok-time.ensures.shorter;
    } in
    read_exits c.from_residual-in_err-caps.result c.args.octets.now c.in_err-caps.field-0.0 c.from_residual-in_err-caps.ensures.1
    (no_options c.args.octets.now c.in_ok-chassis.chassis.now c.in_ok-port.port.now c.in_ok-time.time.now c.in_ok-time.rest.now c.in_err-caps.field-0.0 required c.in_err-caps.ensures)

pub returns : goal.returns
returns c =
    let required : Required c.args.octets.now c.in_ok-chassis.chassis.now c.in_ok-port.port.now c.in_ok-time.time.now c.in_ok-time.rest.now = record {
      rest1 = c.in_ok-chassis.rest.now;
      rest2 = c.in_ok-port.rest.now;
      leads1 = c.in_ok-chassis.ensures.leads;
      shorter1 = c.in_ok-chassis.ensures.shorter;
      leads2 = c.in_ok-port.ensures.leads;
      shorter2 = c.in_ok-port.ensures.shorter;
      leads3 = c.in_ok-time.ensures.leads;
      shorter3 = c.in_ok-time.ensures.shorter;
    } in
    read_whole c.args.octets.now c.in_ok-chassis.chassis.now c.in_ok-port.port.now c.in_ok-time.time.now c.in_ok-time.rest.now c.in_ok-caps.caps c.read_u16.result
    required c.in_ok-caps.ensures (omega (arith, c.read_u16.ensures))

use Rattle.pre_base.proofs.Pieces.{ends}
use Rattle.pre_script.specs.Text.{set_lines, timed_lines}
use Rattle.pre_script.proofs.Timed.{sets_break, send_breaks, all_sent}
use Rattle.pre_script.proofs.writing.put_timed.Goals as goal

pub returns-in_err-rest-clause-octets : goal.returns-in_err-rest-clause-octets
returns-in_err-rest-clause-octets g c =
    let whole = timed_lines c.args.net.now c.args.streams.now c.args.sends.now c.args.sets.now in
    sets_break c.args.net.now c.args.streams.now c.args.sends.now c.loop-line.rest.now whole c.loop-line.line-index (record { send = record { tick = record { 0 = 0 }; stream = record { 0 = 0 }; size = 0 }; line = 0 })
    _ _ _ c.from_residual.result c.loop-line-test.true c.from_residual.ensures.0 c.loop-line.invariant.taken c.in_err-rest.ensures.octets

pub returns-in_err-put_send-clause-octets : goal.returns-in_err-put_send-clause-octets
returns-in_err-put_send-clause-octets g c =
    let whole = timed_lines c.args.net.now c.args.streams.now c.args.sends.now c.args.sets.now in
    send_breaks c.args.net.now c.args.streams.now c.args.sends.now c.loop-line.rest.now whole c.loop-line.line-index (record { send = record { tick = record { 0 = 0 }; stream = record { 0 = 0 }; size = 0 }; line = 0 })
    _ _ _ _ c.from_residual-in_err-put_send.result c.loop-line-test.true c.from_residual-in_err-put_send.ensures.0 c.loop-line.invariant.taken c.in_ok-rest.ensures.octets c.in_err-put_send.ensures.octets

pub returns-clause-octets : goal.returns-clause-octets
returns-clause-octets g c =
    let whole = timed_lines c.args.net.now c.args.streams.now c.args.sends.now c.args.sets.now in
    let sent = all_sent c.args.net.now c.args.streams.now c.args.sends.now c.loop-line.rest.now whole c.loop-line.line-index _ _ c.loop-line-test.false c.loop-line.invariant.taken in
    ends _ _ _ whole (set_lines c.args.net.now c.loop-line.rest.now) c.put_sets.result sent c.put_sets.ensures.octets

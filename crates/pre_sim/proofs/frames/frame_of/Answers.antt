use Rattle.std.proofs.Common.{◌≡◌, subst}
use Rattle.pre_history.specs.Scenario.{Scenario, send}
use Rattle.pre_sim.specs.Arriving.{IsStored}
use Rattle.pre_sim.specs.Parts.{scenario_of}
use Rattle.pre_sim.proofs.SentFrames.{octets_taken, frame_is}
use Rattle.pre_sim.proofs.frames.frame_of.Goals as goal

pub returns-clause-frame : goal.returns-clause-frame
returns-clause-frame c =
    let w : Scenario = scenario_of c.args.plan.now in
    let v : Scenario = record { net = c.inputs.result.net.now; streams = c.inputs.result.streams.now; script = c.inputs.result.script.now } in
    let same : v ≡ w = λ i. record { net = c.inputs.ensures.net i; streams = c.inputs.ensures.streams i; script = c.inputs.ensures.script i } in
    let k = c.args.number in
    let n = c.put_frame-size.result in
    let size : n ≡ (send w k).send.size = subst (λ (x : Scenario). n ≡ (send x k).send.size) same c.put_frame-size.ensures.size in
    let octets = octets_taken v w same k n _ c.put_frame-size.new.into c.put_frame-size.ensures.size c.put_frame-size.ensures.range.0 c.put_frame-size.ensures.octets in
    frame_is w k n c.stored-slot.result c.row_of-row.result.now c.args.store.now c.stored-slot.new.store c.requires.known c.row_of-row.ensures.here size c.put_frame-size.ensures.range.0
    (subst (λ xs. IsStored c.args.store.now xs c.stored-slot.result c.stored-slot.new.store) octets c.stored-slot.ensures)

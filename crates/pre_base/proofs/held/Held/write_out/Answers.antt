use Rattle.std.proofs.Common.{◌-◌, ◌∙◌, ap, drop, take}
use Rattle.pre_base.specs.Waiting.{Waiting}
use Rattle.pre_base.proofs.Waits.{fewer, when_err}
use Rattle.pre_base.proofs.held.Held.write_out.Goals as goal

pub returns-in_err-write_rest-clause-err : goal.returns-in_err-write_rest-clause-err
returns-in_err-write_rest-clause-err g c =
    let h = c.self.inside in
    let now = c.write_rest.new.written in
    when_err c.from_residual.result (
      now - h.written,
      fewer (take h.end h.octets) h.written now c.write_rest.ensures.onward ∙ ap (λ (v : Waiting). drop (now - h.written) v.octets) c.self.view_is,
      ap (λ (v : Waiting). v.room) c.self.view_is,
    )

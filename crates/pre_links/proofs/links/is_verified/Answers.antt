use Rattle.std.proofs.Common.{sym}
use Rattle.pre_verify.specs.Calls.{last_tick}
use Rattle.pre_links.proofs.Told.{verified_state, other_state}
use Rattle.pre_links.proofs.links.is_verified.Goals as goal

pub returns-in-Verified : goal.returns-in-Verified
returns-in-Verified c = λ wait calls s. sym (verified_state wait calls (last_tick calls) c.state.result (c.state.ensures wait calls s) c.in-Verified.is)

pub returns-in_default : goal.returns-in_default
returns-in_default c = λ wait calls s. sym (other_state wait calls (last_tick calls) c.state.result (c.state.ensures wait calls s) c.in_default.not-Verified)

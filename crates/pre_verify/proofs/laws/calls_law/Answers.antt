use Rattle.std.proofs.Common.{sym}
use Rattle.pre_verify.specs.Calls.{good_of, verifies_of, responds_of}
use Rattle.pre_verify.proofs.Standing.{wanted_at-is}
use Rattle.pre_verify.proofs.laws.calls_law.Goals as goal

pub returns : goal.returns
returns c = record {
  latest = λ v wait calls s. s.latest;
  wanting = λ v wait calls t s le. sym (wanted_at-is v wait calls t s le);
  verified = λ calls t. (
    (c.link_state.ensures.verified (good_of calls) (verifies_of calls) (responds_of calls) t).1,
    (c.link_state.ensures.verified (good_of calls) (verifies_of calls) (responds_of calls) t).0,
  );
  wanted = λ wait calls t. (
    (c.link_state.ensures.wanted (good_of calls) (verifies_of calls) (responds_of calls) wait t).1,
    (c.link_state.ensures.wanted (good_of calls) (verifies_of calls) (responds_of calls) wait t).0,
  );
}

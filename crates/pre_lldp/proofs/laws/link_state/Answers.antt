use Rattle.pre_lldp.proofs.Runs.{since, run_start-is, verified, is_verified-from, wanted, is_verify_wanted-from}
use Rattle.pre_lldp.proofs.laws.link_state.Goals as goal

pub returns : goal.returns
returns c = record {
  run = λ good u t. (λ h. run_start-is good t u h, λ e. since good t u e);
  verified = λ good verifies responds t. (λ h. is_verified-from good verifies responds t h, λ e. verified good verifies responds t e);
  wanted = λ good verifies responds wait t. (λ h. is_verify_wanted-from good verifies responds wait t h, λ e. wanted good verifies responds wait t e);
}

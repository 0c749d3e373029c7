use Rattle.pre_admit.proofs.Certificates.{is_local}
use Rattle.pre_admit.proofs.laws.locality_law.Goals as goal

pub returns : goal.returns
returns c net streams row old new fits prios says says_too = is_local net streams row old new fits prios says says_too

use Rattle.std.proofs.Common.{arith}
use Rattle.pre_history.proofs.Places.{later_read}
use Rattle.pre_history.proofs.SizesStay.{size_stays_to}
use Rattle.pre_history.proofs.RunsStay.{interrupted_stays}
use Rattle.pre_history.proofs.LinksStay.{good_at, owed_stays, verify_wanted_stays, lldp_wanted_stays}
use Rattle.pre_history.proofs.laws.wants_stay.Goals as goal

pub returns-clause-sizes : goal.returns-clause-sizes
returns-clause-sizes c = size_stays_to

pub returns-clause-interrupted : goal.returns-clause-interrupted
returns-clause-interrupted c = λ w h g a t left later. interrupted_stays h g t (later_read w t g later) a w left

pub returns-clause-responds : goal.returns-clause-responds
returns-clause-responds c = λ w n h g a t a_lt legal later. owed_stays w n h g legal t (later_read w t g later) a a_lt

pub returns-clause-verifies : goal.returns-clause-verifies
returns-clause-verifies c = λ w n h g a t a_lt talks legal later. verify_wanted_stays w n h g legal t (later_read w t g later) a a_lt talks

pub returns-clause-lldp : goal.returns-clause-lldp
returns-clause-lldp c = λ w n h g a t a_lt legal later. lldp_wanted_stays w n h g legal t (later_read w t g later) a a_lt

pub returns-clause-good : goal.returns-clause-good
returns-clause-good c = λ w n h g a t a_lt legal later. good_at w n h g legal t (later_read w t g later) a a_lt t (omega arith)

use Rattle.std.proofs.Common.{arith, length}
use Rattle.pre_history.proofs.Cut.{within_wider}
use Rattle.pre_history.proofs.Places.{later_read}
use Rattle.pre_history.proofs.Later.{waiting_later}
use Rattle.pre_history.proofs.LaterEnds.{occupied_later}
use Rattle.pre_history.proofs.Unread.{active_later}
use Rattle.pre_history.specs.Moments.{Phase}
use Rattle.pre_history.specs.Placed.{moment_of}
use Rattle.pre_history.proofs.laws.queries_stay.Goals as goal

pub returns-clause-later : goal.returns-clause-later
returns-clause-later c = λ w t m n g from within. (n, within_wider (length w.net.arcs) (moment_of w t (Phase.starts 0)) m n n g from (omega arith) within)

pub returns-clause-waiting : goal.returns-clause-waiting
returns-clause-waiting c = λ w h g a p t later. waiting_later h g a p t (later_read w t g later)

pub returns-clause-occupied : goal.returns-clause-occupied
returns-clause-occupied c = λ w h g a t later. occupied_later w h g a t (later_read w t g later)

pub returns-clause-active : goal.returns-clause-active
returns-clause-active c = λ w n h g a t a_lt legal later. active_later c.later_arrivals.ensures w n h g a t a_lt legal (later_read w t g later)

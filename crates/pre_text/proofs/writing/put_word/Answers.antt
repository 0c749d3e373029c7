use Rattle.std.proofs.Common.{[], ◌∷◌, ◌++◌}
use Rattle.pre_base.proofs.Pieces.{untouched, goes_on, breaks, ends}
use Rattle.pre_text.proofs.writing.put_word.Goals as goal

pub returns-in_err-write_all-in-Ends-2-clause-octets :
    goal.returns-in_err-write_all-in-Ends-2-clause-octets
returns-in_err-write_all-in-Ends-2-clause-octets g c =
    let from = c.in-Ends.from.now in
    let to = c.in-Ends.to.now in
    let whole = from ++ 62 ∷ to in
    let first = goes_on _ _ _ whole from (62 ∷ to) (untouched _ whole) c.in_ok-write_all-in-Ends.ensures.octets in
    rw c.in-Ends.is (breaks _ _ _ whole (62 ∷ []) to c.from_residual-in_err-write_all-in-Ends-2.result c.from_residual-in_err-write_all-in-Ends-2.ensures.0 first c.in_err-write_all-in-Ends-2.ensures.octets)

pub returns-in_ok-write_all-in-Ends-2-clause-octets :
    goal.returns-in_ok-write_all-in-Ends-2-clause-octets
returns-in_ok-write_all-in-Ends-2-clause-octets g c =
    let from = c.in-Ends.from.now in
    let to = c.in-Ends.to.now in
    let whole = from ++ 62 ∷ to in
    let first = goes_on _ _ _ whole from (62 ∷ to) (untouched _ whole) c.in_ok-write_all-in-Ends.ensures.octets in
    let second = goes_on _ _ _ whole (62 ∷ []) to first c.in_ok-write_all-in-Ends-2.ensures.octets in
    rw c.in-Ends.is (ends _ _ _ whole to c.write_all-in-Ends-3.result second c.write_all-in-Ends-3.ensures.octets)

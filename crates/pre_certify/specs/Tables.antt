-- The delays of all ports in one list, eight for an arc.
use Rattle.std.specs.Prelude.{ℕ, ◌+◌, ◌*◌, ◌≤◌, List, slice_index}
use Rattle.pre_bound.specs.Limits.{limit}
use Rattle.pre_bound.specs.Along.{Delays}

abbrev pub delays_in : List ℕ → Delays
delays_in table arc prio = slice_index table (arc * 8 + prio)

-- no number passes the limit
abbrev pub AreWithin : List ℕ → Type 0
AreWithin table = (i : ℕ) → slice_index table i ≤ limit

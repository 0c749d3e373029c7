-- Routes of one VID that differ.
use Rattle.std.specs.Prelude.{◌≡◌, ◌≢◌, ℕ, List, take, slice_get, Any}
use Rattle.pre_base.specs.declared.numbers.NodeId.{NodeId}
use Rattle.pre_streams.specs.declared.rows.Row.{Row}

-- two routes differ first at this place: where one is longer, that is the shorter one's length
abbrev pub DifferAt : List NodeId → List NodeId → ℕ → Type 0
DifferAt a b hop = (take hop a ≡ take hop b) × (slice_get a hop ≢ slice_get b hop)

-- the row takes this one's route, where it has its VID
abbrev pub SharesNodes : Row → Row → Type 0
SharesNodes row r = r.vid ≡ row.vid → r.route ≡ row.route

-- the row has this one's VID, and another route
abbrev pub DiffersAt : Row → Row → ℕ → Type 0
DiffersAt row r hop = (r.vid ≡ row.vid) × DifferAt r.route row.route hop

-- one of the rows has its VID, and another route
abbrev pub HasOtherRoute : List Row → Row → ℕ → Type 0
HasOtherRoute rows row hop = Any (λ r. DiffersAt row r hop) rows

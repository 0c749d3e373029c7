-- Where a VID's route goes on, and what a row is named.
use Rattle.std.specs.Prelude.{◌≡◌, ℕ, List, Option, None, Some, slice_get, Any, position}
use Rattle.std.specs.Str.{bytes_eq}
use Rattle.pre_base.specs.declared.numbers.NodeId.{NodeId}
use Rattle.pre_base.specs.declared.numbers.ArcId.{ArcId}
use Rattle.pre_streams.specs.declared.rows.Row.{Row}

-- the row's route takes this arc from the node
abbrev pub TakesArc : NodeId → ArcId → Row → Type 0
TakesArc node arc r = (i : ℕ) × (slice_get r.route i ≡ Some node) × (slice_get r.arcs i ≡ Some arc)

-- the row has this VID, and its route takes this arc from the node
abbrev pub TakesArcBy : NodeId → ℕ → ArcId → Row → Type 0
TakesArcBy node vid arc r = (r.vid ≡ vid) × TakesArc node arc r

-- a row of this VID takes this arc from the node
abbrev pub VidTakesArc : List Row → NodeId → ℕ → ArcId → Type 0
VidTakesArc rows node vid arc = Any (TakesArcBy node vid arc) rows

-- what is next from a node by a VID: an arc that a row of the VID takes from there, and none where no row takes one
abbrev pub IsNextArc : List Row → NodeId → ℕ → Option ArcId → Type 0
IsNextArc rows node vid None = (arc : ArcId) → ¬ VidTakesArc rows node vid arc
IsNextArc rows node vid (Some arc) = VidTakesArc rows node vid arc

-- the place of the first row of this name
abbrev pub place_of_row : List Row → List ℕ → Option ℕ
place_of_row rows word = position (λ r. bytes_eq r.name word) rows

-- The picture of bounds: for each stream its bound as a bar, with the delays of its deliveries as points on it.
use Rattle.std.specs.Prelude.{ℕ, ◌+◌, ◌-◌, ◌*◌, ◌==◌, List, [], ◌∷◌, ◌++◌, length, slice_get, codes, max, nat_lt, Option, Some, None, take, if◌then◌else◌}
use Rattle.std.specs.Fmt.{decimal}
use Rattle.std.specs.List.{flat_map}
use Rattle.pre_base.specs.declared.numbers.StreamId.{StreamId}
use Rattle.pre_streams.specs.declared.rows.Row.{Row}
use Rattle.pre_picture.specs.declared.scales.Scale.{Scale}
use Rattle.pre_picture.specs.declared.traces.Seen.{Seen}
use Rattle.pre_picture.specs.Escapes.{escaped}
use Rattle.pre_picture.specs.Pieces.{rect, circle, text}
use Rattle.pre_picture.specs.Charts.{text_of, head, tail, axis}
use Rattle.pre_picture.specs.Scales.{place}
use Rattle.pre_picture.specs.Delays.{delay_at, greatest_delay}

-- a point of this delay, where there is one
abbrev pub point : Scale → ℕ → Option ℕ → List ℕ
point s y None = []
point s y (Some delay) = circle (codes "delay") (place s delay) (y + 95) 45

abbrev pub point_at : List Seen → Row → Scale → ℕ → Seen → List ℕ
point_at events row s y e = point s y (delay_at events row e)

abbrev pub points : List Seen → Row → Scale → ℕ → List ℕ
points events row s y = flat_map (point_at events row s y) events

-- how far the longest delay is below the bound, or above it, and that none was delivered where there is no delay
abbrev pub slack_text : (y bound longest : ℕ) → List ℕ
slack_text y bound longest =
    if longest == 0 then text_of (codes "right") 9800 (y + 140) (codes "none delivered")
    else if nat_lt bound longest then text (codes "right") 9800 (y + 140) (decimal longest) (codes " above ") (decimal bound)
    else text (codes "right") 9800 (y + 140) (decimal (bound - longest)) (codes " of ") (decimal bound)

abbrev pub bar_of : Scale → (y bound : ℕ) → List ℕ
bar_of s y bound = rect (codes "bound") s.left y (place s bound - s.left) 190

abbrev pub row_name : Row → ℕ → List ℕ
row_name row y = text_of (codes "name") 1900 (y + 140) (escaped row.name)

unfoldable pub row_front : Row → Scale → (y bound : ℕ) → List ℕ
row_front row s y bound = row_name row y ++ bar_of s y bound

unfoldable pub row_text : List Seen → Row → Scale → (y bound : ℕ) → List ℕ
row_text events row s y bound = row_front row s y bound ++ (points events row s y ++ slack_text y bound (greatest_delay events row))

abbrev pub row_of : List Seen → Option Row → Scale → (y bound : ℕ) → List ℕ
row_of events None s y bound = []
row_of events (Some row) s y bound = row_text events row s y bound

-- one below another
abbrev pub rows_of : List Seen → List Row → Scale → ℕ → List (StreamId × ℕ) → List ℕ
rows_of events rows s y [] = []
rows_of events rows s y (b ∷ bounds) = row_of events (slice_get rows b.0.0) s y b.1 ++ rows_of events rows s (y + 300) bounds

-- the greatest of the bounds and of the delays of their streams
abbrev pub reach : List Seen → Option Row → ℕ → ℕ
reach events None bound = bound
reach events (Some row) bound = max bound (greatest_delay events row)

abbrev pub reach_of : List Seen → List Row → List (StreamId × ℕ) → ℕ
reach_of events rows [] = 0
reach_of events rows (b ∷ bounds) = max (reach events (slice_get rows b.0.0) b.1) (reach_of events rows bounds)

abbrev pub bounds_scale : ℕ → Scale
bounds_scale to = record { from = 0; to = to; left = 2000; width = 5900 }

unfoldable pub columns : List ℕ
columns = text_of (codes "right") 1450 500 (codes "ticks") ++ text_of (codes "right") 9800 500 (codes "slack of bound")

unfoldable pub captions : List ℕ
captions = text_of (codes "note") 2000 200 (codes "bars are bounds; a point is a frame, by the ticks from its send to its delivery") ++ columns

unfoldable pub bounds_front : Scale → ℕ → List ℕ
bounds_front s height = head (620 + height) ++ (captions ++ axis s 560 height)

abbrev pub bounds_of : List Seen → List Row → List (StreamId × ℕ) → Scale → List ℕ
bounds_of events rows bounds s = bounds_front s (300 * length bounds) ++ (rows_of events rows s 620 bounds ++ tail)

-- the picture of these bounds of rows, and of the events of a trace
abbrev pub whole_text : List Row → List (StreamId × ℕ) → List Seen → List ℕ
whole_text rows bounds events = bounds_of events rows bounds (bounds_scale (reach_of events rows bounds))

-- that of the first 512 bounds, which is as many as there may be
unfoldable pub bounds_text : List Row → List (StreamId × ℕ) → List Seen → List ℕ
bounds_text rows bounds events = whole_text rows (take 512 bounds) events

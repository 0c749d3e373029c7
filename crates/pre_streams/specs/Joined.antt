-- Rows with one stream more.
use Rattle.std.specs.Prelude.{◌≢◌, ℕ, ◌<◌, ◌≤◌, List, All, IsSome, count_by, is_some, is_none}
use Rattle.std.specs.List.{insert, position_or_len}
use Rattle.pre_streams.specs.declared.rows.Row.{Row}
use Rattle.pre_streams.specs.Fits.{SharesRoute}

-- the place of the first flow, and the number of the rows where there is none
abbrev pub first_flow : List Row → ℕ
first_flow rows = position_or_len (λ r. is_none r.curve) rows

-- the rows with this one behind the streams, before the flows
abbrev pub with_stream : List Row → Row → List Row
with_stream rows row = insert rows (first_flow rows) row

-- The row can join these: it is a stream, none of them has its name, each with its VID takes its route, and there is room
-- for it.
pub record CanJoin (rows : List Row) (row : Row) : Type 0 where
  pub stream : IsSome row.curve
  pub name : All (λ r. r.name ≢ row.name) rows
  pub route : All (λ r. SharesRoute r row) rows
  pub streams_count : count_by (λ r. is_some r.curve) rows < 256
  pub flows_count : count_by (λ r. is_none r.curve) rows ≤ 256

-- The rows that raw rows without a fault make.
use Rattle.std.specs.Prelude.{ℕ, List, map, Option, option_map, slice_get}
use Rattle.std.specs.List.{enumerate_from}
use Rattle.pre_base.specs.declared.numbers.NodeId.{NodeId}
use Rattle.pre_base.specs.declared.numbers.ArcId.{ArcId}
use Rattle.pre_curve.specs.declared.curves.Curve.{Curve}
use Rattle.pre_table.specs.Values.{natural}
use Rattle.pre_topo.specs.declared.network.Network.{Network}
use Rattle.pre_streams.specs.declared.raw.RawStreams.{RawStreams}
use Rattle.pre_streams.specs.declared.raw.RawCurve.{RawCurve}
use Rattle.pre_streams.specs.declared.raw.RawFlow.{RawFlow}
use Rattle.pre_streams.specs.declared.rows.Row.{Row}
use Rattle.pre_streams.specs.NamedRoutes.{arcs_along, route_made}

-- what a row says, its curve as burst and rate
pub record RowParts : Type 0 where
  pub name : List ℕ
  pub vid : ℕ
  pub prio : ℕ
  pub route : List NodeId
  pub arcs : List ArcId
  pub max : ℕ
  pub curve : Option (ℕ × ℕ)

abbrev pub curve_parts : Curve → ℕ × ℕ
curve_parts c = (c.burst, c.rate)

abbrev pub row_parts : Row → RowParts
row_parts r = record { name = r.name; vid = r.vid; prio = r.prio; route = r.route; arcs = r.arcs; max = r.max; curve = option_map curve_parts r.curve }

abbrev pub curve_made : RawCurve → ℕ × ℕ
curve_made c = (natural c.burst, natural c.rate)

abbrev pub row_made : Network → Option RawCurve → RawFlow → RowParts
row_made net curve r = record {
  name = r.name;
  vid = natural r.vid;
  prio = natural r.prio;
  route = route_made net r.route;
  arcs = arcs_along net (route_made net r.route);
  max = natural r.max;
  curve = option_map curve_made curve;
}

-- each row with the curve at its place, where there is one
abbrev pub rows_made : Network → RawStreams → List RowParts
rows_made net raw = map (λ r. row_made net (slice_get raw.curves r.0) r.1) (enumerate_from 0 raw.rows)

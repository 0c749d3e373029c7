-- The rows of the built-in streams `pair`.
use Rattle.std.specs.Prelude.{◌≡◌, ℕ, List, [], ◌∷◌, codes, Option, Some, None}
use Rattle.pre_base.specs.declared.numbers.NodeId.{NodeId}
use Rattle.pre_base.specs.declared.numbers.ArcId.{ArcId}
use Rattle.pre_curve.specs.declared.curves.Curve.{Curve}
use Rattle.pre_streams.specs.declared.rows.Row.{Row}

abbrev pub pair_route : List NodeId
pair_route = record { 0 = 0 } ∷ record { 0 = 1 } ∷ []

abbrev pub pair_hops : List ArcId
pair_hops = record { 0 = 0 } ∷ []

-- the curve of x
pub record IsPairCurve (c : Curve) : Type 0 where
  pub burst : c.burst ≡ 2000
  pub rate : c.rate ≡ 100000

-- a row from a to b
abbrev pub pair_row : List ℕ → ℕ → ℕ → Option Curve → Row
pair_row name vid prio curve = record { name = name; vid = vid; prio = prio; route = pair_route; arcs = pair_hops; max = 1522; curve = curve }

-- the stream x and the flow y
abbrev pub pair_rows : Curve → List Row
pair_rows curve = pair_row (codes "x") 10 6 (Some curve) ∷ pair_row (codes "y") 20 0 None ∷ []

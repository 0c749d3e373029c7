-- The limit of each number of a certificate.
use Rattle.std.specs.Prelude.{ℕ, ◌≤◌, ◌^◌, List, All, unwrap_or}
use Rattle.pre_base.specs.declared.numbers.StreamId.{StreamId}
use Rattle.pre_bound.specs.declared.rows.ArcRow.{ArcRow}
use Rattle.pre_bound.specs.declared.rows.PortRow.{PortRow}
use Rattle.pre_bound.specs.declared.rows.HopRow.{HopRow}

-- the greatest number that a certificate may say
abbrev pub limit : ℕ
limit = 10 ^ 12

-- the numbers of an arc's row
pub record ArcIsWithin (row : ArcRow) : Type 0 where
  pub rank : unwrap_or row.rank 0 ≤ limit
  pub largest : row.largest ≤ limit

-- the numbers of a port's row
pub record PortIsWithin (row : PortRow) : Type 0 where
  pub block : row.block ≤ limit
  pub work : row.work ≤ limit
  pub rate : row.rate ≤ limit
  pub delay : row.delay ≤ limit
  pub size : row.size ≤ limit

-- the numbers of a certificate's rows
pub record IsWithin (arcs : List ArcRow) (ports : List PortRow) (hops : List HopRow) (bounds : List (StreamId × ℕ)) : Type 0 where
  pub each_arc : All ArcIsWithin arcs
  pub each_port : All PortIsWithin ports
  pub each_hop : All (λ row. row.burst ≤ limit) hops
  pub each_bound : All (λ row. row.1 ≤ limit) bounds

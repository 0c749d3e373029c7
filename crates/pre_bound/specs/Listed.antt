-- A certificate as the list of its numbers, and when it is good.
use Rattle.std.specs.Prelude.{◌≡◌, ℕ, ◌/◌, ◌%◌, List, map, Some, None, if◌then◌else◌, All, IsSome, IsTrue}
use Rattle.pre_base.specs.declared.numbers.StreamId.{StreamId}
use Rattle.pre_topo.specs.declared.network.Network.{Network}
use Rattle.pre_streams.specs.declared.rows.Row.{Row}
use Rattle.pre_streams.specs.declared.rows.Streams.{Streams}
use Rattle.pre_bound.specs.declared.rows.ArcRow.{ArcRow}
use Rattle.pre_bound.specs.declared.rows.PortRow.{PortRow}
use Rattle.pre_bound.specs.declared.rows.HopRow.{HopRow}
use Rattle.pre_bound.specs.declared.certificate.Certificate.{Certificate}
use Rattle.pre_bound.specs.Values.{Values}
use Rattle.pre_bound.specs.Good.{AreGood, AreInOrder}
use Rattle.pre_bound.specs.Places.{arcs_of, ports_of, streams_of, hops_of}

abbrev pub arc_row : Values → ℕ → ArcRow
arc_row v arc = record { arc = record { 0 = arc }; rank = if v.ranked then Some (v.rank arc) else None; largest = v.largest arc }

abbrev pub port_row : Values → ℕ → PortRow
port_row v place = record {
  arc = record { 0 = place / 8 };
  prio = place % 8;
  block = v.block (place / 8) (place % 8);
  work = v.work (place / 8) (place % 8);
  rate = v.rate (place / 8) (place % 8);
  delay = v.delay (place / 8) (place % 8);
  size = v.size (place / 8) (place % 8);
}

abbrev pub hop_row : Values → ℕ × ℕ → HopRow
hop_row v e = record { stream = record { 0 = e.0 }; hop = e.1; burst = v.burst e.0 e.1 }

abbrev pub bound_row : Values → ℕ × Row → StreamId × ℕ
bound_row v e = (record { 0 = e.0 }, v.bound e.0)

-- the certificate says these numbers, in the rows that are due
pub record Says (net : Network) (rows : List Row) (c : Certificate) (v : Values) : Type 0 where
  pub arcs : c.arcs ≡ map (arc_row v) (arcs_of net rows)
  pub ports : c.ports ≡ map (port_row v) (ports_of net rows)
  pub hops : c.hops ≡ map (hop_row v) (hops_of rows)
  pub bounds : c.bounds ≡ map (bound_row v) (streams_of rows)

-- a good certificate: it has the rows that are due, its arcs have ranks or none has one, and the numbers meet the eleven
-- clauses, that on the order of ranks where there are ranks
pub record GoodCertificate (net : Network) (streams : Streams) (c : Certificate) : Type 0 where
  pub values : Values
  pub says : Says net streams.rows c values
  pub order : IsTrue values.ranked → AreInOrder streams.rows values
  pub good : AreGood net streams.rows values

-- each arc has a rank
abbrev pub HasRanks : Certificate → Type 0
HasRanks c = All (λ row. IsSome row.rank) c.arcs

-- the streams have a good certificate with ranks
abbrev pub HasGood : Network → Streams → Type 0
HasGood net streams = (c : Certificate) × GoodCertificate net streams c × HasRanks c

-- The least good certificate.
use Rattle.std.specs.Prelude.{◌≡◌, ℕ, ◌≤◌, List, map, slice_index, is_some, unwrap_or}
use Rattle.pre_topo.specs.declared.network.Network.{Network}
use Rattle.pre_streams.specs.declared.rows.Streams.{Streams}
use Rattle.pre_bound.specs.declared.rows.PortRow.{PortRow}
use Rattle.pre_bound.specs.declared.certificate.Certificate.{Certificate}
use Rattle.pre_bound.specs.Listed.{GoodCertificate}

-- each number is at most the one at its place
abbrev pub AtMost : List ℕ → List ℕ → Type 0
AtMost xs ys = (i : ℕ) → slice_index xs i ≤ slice_index ys i

-- a number of each port row is at most the one in the same row
abbrev pub PortsAtMost : (PortRow → ℕ) → Certificate → Certificate → Type 0
PortsAtMost number c other = AtMost (map number c.ports) (map number other.ports)

-- each number of a certificate is at most the number at the same place of the other
pub record NumbersAtMost (c other : Certificate) : Type 0 where
  pub ranks : AtMost (map (λ row. unwrap_or row.rank 0) c.arcs) (map (λ row. unwrap_or row.rank 0) other.arcs)
  pub largest : AtMost (map (λ row. row.largest) c.arcs) (map (λ row. row.largest) other.arcs)
  pub blocks : PortsAtMost (λ row. row.block) c other
  pub works : PortsAtMost (λ row. row.work) c other
  pub rates : PortsAtMost (λ row. row.rate) c other
  pub delays : PortsAtMost (λ row. row.delay) c other
  pub sizes : PortsAtMost (λ row. row.size) c other
  pub bursts : AtMost (map (λ row. row.burst) c.hops) (map (λ row. row.burst) other.hops)
  pub bounds : AtMost (map (λ row. row.1) c.bounds) (map (λ row. row.1) other.bounds)

-- the one has ranks exactly where the other has them
abbrev pub RankedAlike : Certificate → Certificate → Type 0
RankedAlike c other = map (λ row. is_some row.rank) c.arcs ≡ map (λ row. is_some row.rank) other.arcs

-- a good certificate, each number of which is at most that of every good certificate of the network and streams that has
-- ranks exactly where it has them
pub record Least (net : Network) (streams : Streams) (c : Certificate) : Type 0 where
  pub good : GoodCertificate net streams c
  pub least : (other : Certificate) → GoodCertificate net streams other → RankedAlike c other → NumbersAtMost c other

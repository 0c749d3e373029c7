-- A plan: streams that fit a network, and their least certificate with ranks.
use Rattle.pre_topo.specs.declared.network.Network.{Network}
use Rattle.pre_streams.specs.declared.rows.Streams.{Streams}
use Rattle.pre_streams.specs.Fits.{Fits}
use Rattle.pre_bound.specs.declared.certificate.Certificate.{Certificate}
use Rattle.pre_bound.specs.Listed.{HasRanks}
use Rattle.pre_bound.specs.Least.{Least}
use Rattle.pre_certify.specs.Computed.{SaysSettled}

pub record IsCertified (net : Network) (streams : Streams) (c : Certificate) : Type 0 where
  pub least : Least net streams c
  pub ranked : HasRanks c
  pub settled : SaysSettled net streams.rows c

pub record IsPlan (net : Network) (streams : Streams) (c : Certificate) : Type 0 where
  pub fits : Fits net streams
  pub certified : IsCertified net streams c

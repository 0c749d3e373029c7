-- The picture of the bounds of a certificate, and of the delays of a run beside them.
use Rattle.std.specs.Prelude.{ℕ, List}
use Rattle.pre_topo.specs.declared.network.Network.{Network}
use Rattle.pre_streams.specs.declared.rows.Streams.{Streams}
use Rattle.pre_bound.specs.declared.certificate.Certificate.{Certificate}
use Rattle.pre_picture.specs.declared.traces.Seen.{Seen}
use Rattle.pre_picture.specs.Bounds.{bounds_text}

abbrev pub bounds_picture : (Network × (Streams × Certificate)) × List Seen → List ℕ
bounds_picture x = bounds_text x.0.1.0.rows x.0.1.1.bounds x.1

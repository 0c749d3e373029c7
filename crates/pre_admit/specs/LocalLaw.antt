-- A stream more leaves what it doesn't touch.
use Rattle.pre_topo.specs.declared.network.Network.{Network}
use Rattle.pre_streams.specs.declared.rows.Row.{Row}
use Rattle.pre_streams.specs.declared.rows.Streams.{Streams}
use Rattle.pre_streams.specs.Fits.{Fits}
use Rattle.pre_streams.specs.Joined.{with_stream}
use Rattle.pre_bound.specs.declared.certificate.Certificate.{Certificate}
use Rattle.pre_bound.specs.Settled.{PriosBelow}
use Rattle.pre_certify.specs.Computed.{SaysSettled}
use Rattle.pre_admit.specs.Local.{IsLocal}

-- certificates that say settled delays of the rows, and of the rows with a stream more, differ in what it touches alone
abbrev pub LeavesTheRest : Type 0
LeavesTheRest = (net : Network) (streams : Streams) (row : Row) (old new : Certificate) → Fits net streams → PriosBelow streams.rows
    → SaysSettled net streams.rows old → SaysSettled net (with_stream streams.rows row) new → IsLocal streams.rows row old new

-- What mPackets take of a wire.
use Rattle.std.specs.Prelude.{ℕ, ◌+◌}
use Rattle.pre_base.specs.declared.limits.TheConstants.{HEAD}
use Rattle.pre_history.specs.History.{Ended}

-- the octets of an mPacket with those of its preamble and its delimiter
abbrev pub octets_of : Ended → ℕ
octets_of e = e.size + HEAD

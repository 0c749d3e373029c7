-- What a new stream leaves as it was.
use Rattle.std.specs.Prelude.{◌≡◌, List, Some, slice_get, All, Contains}
use Rattle.pre_streams.specs.declared.rows.Row.{Row}
use Rattle.pre_bound.specs.declared.certificate.Certificate.{Certificate}
use Rattle.pre_admit.specs.Touched.{Touched, IsApart}

-- Outside the touched ports the certificates have the same rows of ports, with their blocks, works, rates, delays and sizes;
-- and each stream apart from them keeps its bound.
pub record IsLocal (rows : List Row) (row : Row) (old new : Certificate) : Type 0 where
  pub ports : All (λ port. ¬ Touched rows row port.arc.0 port.prio → Contains new.ports port) old.ports
  pub alone : All (λ port. ¬ Touched rows row port.arc.0 port.prio → Contains old.ports port) new.ports
  pub bounds : All (λ b. (r : Row) → slice_get rows b.0.0 ≡ Some r → IsApart rows row r → Contains new.bounds b) old.bounds

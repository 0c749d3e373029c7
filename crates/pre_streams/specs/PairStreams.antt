-- What `pair` gives.
use Rattle.std.specs.Prelude.{◌≡◌}
use Rattle.pre_curve.specs.declared.curves.Curve.{Curve}
use Rattle.pre_streams.specs.declared.rows.Streams.{Streams}
use Rattle.pre_streams.specs.Pair.{IsPairCurve, pair_rows}

abbrev pub IsPair : Streams → Type 0
IsPair streams = (curve : Curve) × IsPairCurve curve × (streams.rows ≡ pair_rows curve)

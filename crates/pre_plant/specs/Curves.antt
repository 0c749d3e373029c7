-- That the sends of a script keep to the curves of their streams.
use Rattle.std.specs.Prelude.{◌≡◌, ℕ, ◌==◌, List, filter, map, slice_get, Some}
use Rattle.pre_base.specs.declared.numbers.Send.{Send}
use Rattle.pre_curve.specs.declared.curves.Curve.{Curve}
use Rattle.pre_curve.specs.Windows.{offers_of, Obeys}
use Rattle.pre_streams.specs.declared.rows.Row.{Row}
use Rattle.pre_script.specs.declared.scripts.SendLine.{SendLine}

-- the sends of the row of this number, in order
abbrev pub sends_of : List SendLine → ℕ → List Send
sends_of sends i = map (λ s. s.send) (filter (λ s. s.send.stream.0 == i) sends)

-- the sends of each stream obey its curve, in every window
abbrev pub CurvesHold : List Row → List SendLine → Type 0
CurvesHold rows sends = (i : ℕ) (r : Row) (c : Curve) → slice_get rows i ≡ Some r → r.curve ≡ Some c → Obeys (offers_of (sends_of sends i)) c

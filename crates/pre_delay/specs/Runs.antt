-- What is needed of the files of a run.
use Rattle.std.specs.Prelude.{ℕ, ◌==◌, ◌<◌, ◌≤◌, ◌≡◌, List, length, map, filter, slice_get, Some, All, AllPairs}
use Rattle.pre_base.specs.declared.limits.TheConstants.{LEAST_FRAME}
use Rattle.pre_base.specs.declared.numbers.Send.{Send}
use Rattle.pre_curve.specs.declared.curves.Curve.{Curve}
use Rattle.pre_curve.specs.Windows.{Obeys, offers_of}
use Rattle.pre_streams.specs.declared.rows.Row.{Row}
use Rattle.pre_streams.specs.Rows.{IsRow}
use Rattle.pre_script.specs.Fits.{SendsInOrder}
use Rattle.pre_bound.specs.Settled.{PriosBelow}
use Rattle.pre_history.specs.Scenario.{Scenario, row, send}
use Rattle.pre_delay.specs.Ports.{stream_of}

-- the sends of the stream of that number, in order
abbrev pub sends_of : Scenario → ℕ → List Send
sends_of w i = map (λ s. s.send) (filter (λ s. s.send.stream.0 == i) w.script.sends)

-- the frame is of a row, and of a size that the row allows
pub record IsFrame (w : Scenario) (f : ℕ) : Type 0 where
  pub listed : slice_get w.streams.rows (stream_of w f) ≡ Some (row w f)
  pub least : LEAST_FRAME ≤ (send w f).send.size
  pub most : (send w f).send.size ≤ (row w f).max

-- The rules of the files, as far as delays need them, and the sends of each stream obey its curve.
pub record IsRun (w : Scenario) : Type 0 where
  pub rows : All (IsRow w.net) w.streams.rows
  pub prios : PriosBelow w.streams.rows
  pub frames : (f : ℕ) → f < length w.script.sends → IsFrame w f
  pub order : AllPairs SendsInOrder w.script.sends
  pub curves : (i : ℕ) (r : Row) (c : Curve) → slice_get w.streams.rows i ≡ Some r → r.curve ≡ Some c → Obeys (offers_of (sends_of w i)) c

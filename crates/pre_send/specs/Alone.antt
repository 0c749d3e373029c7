-- What may stand beside a fragment under way.
use Rattle.std.specs.Prelude.{Bool, true, false, ◌&&◌, Option, Some, None, is_some}
use Rattle.pre_send.specs.declared.pieces.Piece.{Piece}
use Rattle.pre_send.specs.declared.going.Task.{Task}
use Rattle.pre_send.specs.declared.going.Task.TheVariants as task
use Rattle.pre_send.specs.declared.going.Going.{Going}

abbrev pub is_fragment : Task → Bool
is_fragment (task.Fragment x) = true
is_fragment _ = false

abbrev pub sends_fragment : Option Going → Bool
sends_fragment None = false
sends_fragment (Some g) = is_fragment g.task

-- a fragment is under way, and another frame is interrupted
abbrev pub has_both : Option Going → Option Piece → Bool
has_both going kept = sends_fragment going && is_some kept

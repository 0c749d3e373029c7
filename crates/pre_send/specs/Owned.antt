-- The frames that a sender has: the one under way, and the one that is interrupted.
use Rattle.std.specs.Prelude.{List, [], ◌∷◌, ◌++◌, Option, Some, None}
use Rattle.pre_rings.specs.declared.slots.FrameRef.{FrameRef}
use Rattle.pre_send.specs.declared.choices.Choice.{Choice}
use Rattle.pre_send.specs.declared.choices.Choice.TheVariants as choice
use Rattle.pre_send.specs.declared.pieces.Piece.{Piece}
use Rattle.pre_send.specs.declared.going.Task.{Task}
use Rattle.pre_send.specs.declared.going.Task.TheVariants as task
use Rattle.pre_send.specs.declared.going.Going.{Going}
use Rattle.pre_send.specs.declared.senders.Sender.{Sender}

abbrev pub frames_of_task : Task → List FrameRef
frames_of_task (task.Frame f) = f ∷ []
frames_of_task (task.Fragment x) = x.frame ∷ []
frames_of_task _ = []

abbrev pub frames_going : Option Going → List FrameRef
frames_going None = []
frames_going (Some g) = frames_of_task g.task

abbrev pub frames_kept : Option Piece → List FrameRef
frames_kept None = []
frames_kept (Some x) = x.frame ∷ []

unfoldable pub frames_of : Sender → List FrameRef
frames_of s = frames_going s.going ++ frames_kept s.kept

-- the frame of a choice
abbrev pub frames_chosen : Choice → List FrameRef
frames_chosen (choice.Express f) = f ∷ []
frames_chosen (choice.Whole f) = f ∷ []
frames_chosen (choice.First f) = f ∷ []
frames_chosen _ = []

-- the frame that ended
abbrev pub frames_done : Option FrameRef → List FrameRef
frames_done None = []
frames_done (Some f) = f ∷ []

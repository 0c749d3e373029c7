-- The picture that the words ask for, and its causes.
use Rattle.std.specs.Prelude.{◌≡◌, ℕ, List, [], ◌∷◌, codes, nat_le, nat_lt, Option, Some, None, if◌then◌else◌}
use Rattle.std.specs.Str.{bytes_eq}
use Rattle.pre_text.specs.Words.{number_of}
use Rattle.pre_cli.specs.declared.statuses.Status.{Status}
use Rattle.pre_cli.specs.declared.statuses.Status.TheVariants as status
use Rattle.pre_cli.specs.Answers.{Outside}
use Rattle.pre_cli.specs.Words.{JudgeWords, judge_words}
use Rattle.pre_draw.specs.Bounds.{bounds_picture}
use Rattle.pre_draw.specs.declared.commands.Asked.{Asked}
use Rattle.pre_draw.specs.declared.commands.Asked.TheVariants as asked
use Rattle.pre_draw.specs.Drawing.{DrawingCause, DrawingLeaves}
use Rattle.pre_draw.specs.Queues.{queue_picture, queued_in}
use Rattle.pre_draw.specs.Runs.{run_picture}
use Rattle.pre_draw.specs.Traces.{told_in, judged_told_in}

-- the picture that the words ask for, with its words, or none that is known
pub data Command : Type 0 where
  runs : List ℕ → List ℕ → Option (ℕ × ℕ) → Command
  queues : JudgeWords → List ℕ → List ℕ → ℕ → Command
  bounds : JudgeWords → List ℕ → Command
  unknown : Command

-- two plain numbers, the first of which isn't above the second
abbrev pub range_of : Option ℕ → Option ℕ → Option (ℕ × ℕ)
range_of (Some from) (Some to) = if nat_le from to then Some (from, to) else None
range_of _ _ = None

abbrev pub running : List ℕ → List ℕ → Option (ℕ × ℕ) → Command
running net trace None = unknown
running net trace (Some range) = runs net trace (Some range)

-- what a command's name and the words behind it ask for, by their number
abbrev pub with_two : List ℕ → List ℕ → List ℕ → Command
with_two name net trace = if bytes_eq name (codes "run") then runs net trace None else unknown

abbrev pub with_four : List ℕ → List ℕ → List ℕ → List ℕ → List ℕ → Command
with_four name a b c d =
    if bytes_eq name (codes "run") then running a b (range_of (number_of c) (number_of d))
    else if bytes_eq name (codes "bounds") then bounds (judge_words a b c) d
    else unknown

-- a priority is a plain number below 8
abbrev pub queueing : JudgeWords → List ℕ → List ℕ → Option ℕ → Command
queueing words trace arc None = unknown
queueing words trace arc (Some prio) = if nat_lt prio 8 then queues words trace arc prio else unknown

abbrev pub with_six : List ℕ → JudgeWords → List ℕ → List ℕ → List ℕ → Command
with_six name words trace arc prio = if bytes_eq name (codes "queue") then queueing words trace arc (number_of prio) else unknown

abbrev pub command_of : List (List ℕ) → Command
command_of (name ∷ net ∷ trace ∷ []) = with_two name net trace
command_of (name ∷ a ∷ b ∷ c ∷ d ∷ []) = with_four name a b c d
command_of (name ∷ net ∷ streams ∷ certificate ∷ trace ∷ arc ∷ prio ∷ []) = with_six name (judge_words net streams certificate) trace arc prio
command_of words = unknown

-- the same command as the program holds it
abbrev pub command_asked : Asked → Command
command_asked (asked.Run net trace range) = runs net.now trace.now range
command_asked (asked.Queue words prio) = queues (judge_words words.net.now words.streams.now words.certificate.now) words.trace.now words.arc.now prio
command_asked (asked.Bounds net streams certificate trace) = bounds (judge_words net.now streams.now certificate.now) trace.now
command_asked asked.Unknown = unknown

-- the cause of each answer, by the command
abbrev pub CauseBy : Command → Status → Outside → Type 0
CauseBy (runs net trace range) s o = DrawingCause (told_in net trace) s o
CauseBy (queues words trace arc prio) s o = DrawingCause (queued_in words trace arc) s o
CauseBy (bounds words trace) s o = DrawingCause (judged_told_in words trace) s o
CauseBy unknown s o = s ≡ status.Words

abbrev pub CauseOf : Status → List (List ℕ) → Outside → Type 0
CauseOf s words o = CauseBy (command_of words) s o

-- and what the sink took
abbrev pub LeavesBy : Command → Status → Outside → Type 0
LeavesBy (runs net trace range) s o = DrawingLeaves (told_in net trace) (run_picture range) s o
LeavesBy (queues words trace arc prio) s o = DrawingLeaves (queued_in words trace arc) (queue_picture arc prio) s o
LeavesBy (bounds words trace) s o = DrawingLeaves (judged_told_in words trace) bounds_picture s o
LeavesBy unknown s o = o.taken_after ≡ o.taken_before

abbrev pub LeavesOf : Status → List (List ℕ) → Outside → Type 0
LeavesOf s words o = LeavesBy (command_of words) s o

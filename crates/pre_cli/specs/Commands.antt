-- The command that the words ask for, and its causes.
use Rattle.std.specs.Prelude.{◌≡◌, ℕ, List, [], ◌∷◌, codes, nat_lt, Option, Some, None, if◌then◌else◌}
use Rattle.std.specs.Str.{bytes_eq}
use Rattle.pre_text.specs.Words.{number_of}
use Rattle.pre_cli.specs.declared.statuses.Status.{Status}
use Rattle.pre_cli.specs.declared.statuses.Status.TheVariants as status
use Rattle.pre_cli.specs.declared.commands.Asked.{Asked}
use Rattle.pre_cli.specs.declared.commands.Asked.TheVariants as asked
use Rattle.pre_cli.specs.Words.{JudgeWords, judge_words, AdmitWords, admit_words, ReplayWords, replay_words, CaptureWords, capture_words}
use Rattle.pre_cli.specs.Answers.{Outside}
use Rattle.pre_cli.specs.Replaying.{ReplayingCause, ReplayingLeaves}
use Rattle.pre_cli.specs.Readings.{AnswerCause, AnswerLeaves}
use Rattle.pre_cli.specs.Judging.{judging, Accepts, AcceptsFront, Migrates, MigratesFront}
use Rattle.pre_cli.specs.Admitting.{admitting, AdmitsAll, AdmitsFront}
use Rattle.pre_cli.specs.Drilling.{DrillingCause, DrillingLeaves}
use Rattle.pre_cli.specs.Capturing.{CapturingCause, CapturingLeaves}
use Rattle.pre_cli.specs.Dissecting.{DissectingCause, DissectingLeaves}
use Rattle.pre_cli.specs.Listed.{ListingCause, ListingLeaves}
use Rattle.pre_cli.specs.Certifying.{CertifyingCause, CertifyingLeaves}

-- the command that the words ask for, with its words, or none that is known
pub data Command : Type 0 where
  certifies : List ℕ → List ℕ → Command
  lists : List ℕ → Command
  judges : JudgeWords → Command
  migrates : JudgeWords → Command
  admits : AdmitWords → Command
  replays : ReplayWords → Command
  drills : ℕ → Command
  captures : CaptureWords → Command
  dissects : List ℕ → Command
  unknown : Command

-- a drill has a plain number up to 999,999,999
abbrev pub drilling : Option ℕ → Command
drilling (Some number) = if nat_lt number 1_000_000_000 then drills number else unknown
drilling None = unknown

-- what a command's name and the words behind it ask for, by their number
abbrev pub with_one : List ℕ → List ℕ → Command
with_one name word =
    if bytes_eq name (codes "mpackets") then lists word
    else if bytes_eq name (codes "drill") then drilling (number_of word)
    else if bytes_eq name (codes "dissect") then dissects word
    else unknown

abbrev pub with_two : List ℕ → List ℕ → List ℕ → Command
with_two name net streams = if bytes_eq name (codes "certify") then certifies net streams else unknown

abbrev pub with_three : List ℕ → List ℕ → List ℕ → List ℕ → Command
with_three name net streams third =
    if bytes_eq name (codes "judge") then judges (judge_words net streams third)
    else if bytes_eq name (codes "migrate") then migrates (judge_words net streams third)
    else if bytes_eq name (codes "admit") then admits (admit_words net streams third)
    else unknown

abbrev pub with_four : List ℕ → List ℕ → List ℕ → List ℕ → List ℕ → Command
with_four name net streams third fourth =
    if bytes_eq name (codes "replay") then replays (replay_words net streams third fourth) else if bytes_eq name (codes "capture") then captures (capture_words net streams third fourth) else unknown

abbrev pub command_of : List (List ℕ) → Command
command_of (name ∷ word ∷ []) = with_one name word
command_of (name ∷ net ∷ streams ∷ []) = with_two name net streams
command_of (name ∷ net ∷ streams ∷ third ∷ []) = with_three name net streams third
command_of (name ∷ net ∷ streams ∷ third ∷ fourth ∷ []) = with_four name net streams third fourth
command_of words = unknown

-- the same command as the program holds it
abbrev pub command_asked : Asked → Command
command_asked (asked.Certifies net streams) = certifies net.now streams.now
command_asked (asked.Lists file) = lists file.now
command_asked (asked.Judges net streams certificate) = judges (judge_words net.now streams.now certificate.now)
command_asked (asked.Migrates net streams certificate) = migrates (judge_words net.now streams.now certificate.now)
command_asked (asked.Admits net streams more) = admits (admit_words net.now streams.now more.now)
command_asked (asked.Replays net streams certificate script) = replays (replay_words net.now streams.now certificate.now script.now)
command_asked (asked.Drills number) = drills number
command_asked (asked.Captures net streams script arc) = captures (capture_words net.now streams.now script.now arc.now)
command_asked (asked.Dissects file) = dissects file.now
command_asked asked.Unknown = unknown

-- the cause of each answer, by the command
abbrev pub CauseBy : Command → Status → Outside → Type 0
CauseBy (certifies net streams) s o = CertifyingCause s net streams o
CauseBy (lists name) s o = ListingCause s name o
CauseBy (judges words) s o = AnswerCause (judging words) s o
CauseBy (migrates words) s o = AnswerCause (judging words) s o
CauseBy (admits words) s o = AnswerCause (admitting words) s o
CauseBy (replays words) s o = ReplayingCause words s o
CauseBy (drills number) s o = DrillingCause number s o.sink_before o.sink_after
CauseBy (captures words) s o = CapturingCause words s o
CauseBy (dissects name) s o = DissectingCause s name o
CauseBy unknown s o = s ≡ status.Words

abbrev pub CauseOf : Status → List (List ℕ) → Outside → Type 0
CauseOf s words o = CauseBy (command_of words) s o

-- and what the sink took
abbrev pub LeavesBy : Command → Status → Outside → Type 0
LeavesBy (certifies net streams) s o = CertifyingLeaves s net streams o
LeavesBy (lists name) s o = ListingLeaves s name o o.taken_before o.taken_after
LeavesBy (judges words) s o = AnswerLeaves (judging words) Accepts AcceptsFront s o
LeavesBy (migrates words) s o = AnswerLeaves (judging words) Migrates MigratesFront s o
LeavesBy (admits words) s o = AnswerLeaves (admitting words) AdmitsAll AdmitsFront s o
LeavesBy (replays words) s o = ReplayingLeaves words s o
LeavesBy (drills number) s o = DrillingLeaves number s o.taken_before o.taken_after
LeavesBy (captures words) s o = CapturingLeaves words s o
LeavesBy (dissects name) s o = DissectingLeaves s name o
LeavesBy unknown s o = o.taken_after ≡ o.taken_before

abbrev pub LeavesOf : Status → List (List ℕ) → Outside → Type 0
LeavesOf s words o = LeavesBy (command_of words) s o

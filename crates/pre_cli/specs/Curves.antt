-- Whether the sends of a script keep to the curves of their streams, and the least line with which they don't.
use Rattle.std.specs.Prelude.{◌≡◌, ℕ, ◌==◌, ◌<◌, ◌≤◌, nat_lt, List, filter, map, slice_get, Option, Some, None, if◌then◌else◌, AllPairs}
use Rattle.pre_base.specs.declared.numbers.Send.{Send}
use Rattle.pre_curve.specs.declared.curves.Curve.{Curve}
use Rattle.pre_curve.specs.Windows.{offers_of, Obeys, ObeysAt, BreaksAt}
use Rattle.pre_streams.specs.declared.rows.Row.{Row}
use Rattle.pre_script.specs.declared.scripts.SendLine.{SendLine}

-- of the script's sends those of the row of this number, in order
abbrev pub lines_of : List SendLine → ℕ → List SendLine
lines_of sends i = filter (λ s. s.send.stream.0 == i) sends

abbrev pub sends_in : List SendLine → List Send
sends_in lines = map (λ s. s.send) lines

-- they obey a curve in each window
abbrev pub LinesObey : List SendLine → Curve → Type 0
LinesObey lines c = Obeys (offers_of (sends_in lines)) c

-- The send of this line closes a window in which they break it.
pub record BreakAt (lines : List SendLine) (c : Curve) (line : ℕ) : Type 0 where
  pub place : ℕ
  pub send : SendLine
  pub there : slice_get lines place ≡ Some send
  pub is_line : send.line ≡ line
  pub breaks : BreaksAt (offers_of (sends_in lines)) c place

-- the sends of the row of this number obey its curve, where it has one
abbrev pub RowObeys : List Row → List SendLine → ℕ → Type 0
RowObeys rows sends i = (r : Row) (c : Curve) → slice_get rows i ≡ Some r → r.curve ≡ Some c → LinesObey (lines_of sends i) c

-- one of them closes a window in which they break it, and is of this line
abbrev pub RowBreaks : List Row → List SendLine → ℕ → ℕ → Type 0
RowBreaks rows sends i line = (r : Row) × (c : Curve) × (slice_get rows i ≡ Some r) × (r.curve ≡ Some c) × BreakAt (lines_of sends i) c line

-- the sends of each stream obey its curve
abbrev pub CurvesHold : List Row → List SendLine → Type 0
CurvesHold rows sends = (i : ℕ) → RowObeys rows sends i

-- The send of this line closes a window in which the sends of a stream break its curve, and no send of a lesser line does.
pub record IsUnruly (rows : List Row) (sends : List SendLine) (line : ℕ) : Type 0 where
  pub stream : ℕ
  pub breaks : RowBreaks rows sends stream line
  pub least : (i other : ℕ) → RowBreaks rows sends i other → line ≤ other

-- ---- parts of that test

-- sends stand in the order of their lines
abbrev pub LinesRise : List SendLine → Type 0
LinesRise sends = AllPairs (λ a b. a.line < b.line) sends

-- The send of this line is the first one that closes such a window.
pub record FirstBreak (lines : List SendLine) (c : Curve) (line : ℕ) : Type 0 where
  pub place : ℕ
  pub send : SendLine
  pub there : slice_get lines place ≡ Some send
  pub is_line : send.line ≡ line
  pub breaks : BreaksAt (offers_of (sends_in lines)) c place
  pub first : (j : ℕ) → j < place → ObeysAt (offers_of (sends_in lines)) c j

-- these sends obey the curve, or this is the line of the first one with which they break it
abbrev pub LinesFind : List SendLine → Curve → Option ℕ → Type 0
LinesFind lines c None = LinesObey lines c
LinesFind lines c (Some line) = FirstBreak lines c line

-- the lesser of two lines, where there are two
abbrev pub earlier : Option ℕ → Option ℕ → Option ℕ
earlier None found = found
earlier (Some first) None = Some first
earlier (Some first) (Some second) = Some (if nat_lt second first then second else first)

-- a row's curve holds, or this is the least line with which its sends break it
abbrev pub RowFinds : List Row → List SendLine → ℕ → Option ℕ → Type 0
RowFinds rows sends i None = RowObeys rows sends i
RowFinds rows sends i (Some line) = RowBreaks rows sends i line × ((other : ℕ) → RowBreaks rows sends i other → line ≤ other)

-- the same of the rows before a place, with the least line
abbrev pub RowsFind : List Row → List SendLine → ℕ → Option ℕ → Type 0
RowsFind rows sends count None = (i : ℕ) → i < count → RowObeys rows sends i
RowsFind rows sends count (Some line) = ((i : ℕ) × (i < count) × RowBreaks rows sends i line) × ((i other : ℕ) → i < count → RowBreaks rows sends i other → line ≤ other)

-- and of all rows
abbrev pub Finds : List Row → List SendLine → Option ℕ → Type 0
Finds rows sends None = CurvesHold rows sends
Finds rows sends (Some line) = IsUnruly rows sends line

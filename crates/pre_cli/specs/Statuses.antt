-- The number and the text of each status.
use Rattle.std.specs.Prelude.{ℕ, List, [], ◌∷◌, ◌++◌, codes}
use Rattle.std.specs.Fmt.{decimal}
use Rattle.std.specs.List.{flat_map}
use Rattle.pre_base.specs.declared.numbers.ArcId.{ArcId}
use Rattle.pre_base.specs.declared.numbers.FileRow.{FileRow}
use Rattle.pre_base.specs.declared.numbers.FileRow.TheVariants as place
use Rattle.pre_certify.specs.declared.unfit.Unfit.{Unfit}
use Rattle.pre_certify.specs.declared.unfit.Unfit.TheVariants as unfit
use Rattle.pre_cli.specs.declared.statuses.FileWord.{FileWord}
use Rattle.pre_cli.specs.declared.statuses.FileWord.TheVariants as file
use Rattle.pre_cli.specs.declared.statuses.Status.{Status}
use Rattle.pre_cli.specs.declared.statuses.Status.TheVariants as status

-- want of memory is no cause of its own
abbrev pub unfit_number : Unfit → ℕ
unfit_number unfit.Memory = 10
unfit_number _ = 6

abbrev pub number_of : Status → ℕ
number_of status.Done = 0
number_of status.Words = 1
number_of status.ReadFault = 2
number_of status.WriteFault = 3
number_of (status.Form kind line rule) = 4
number_of (status.Rules kind row rule) = 5
number_of (status.Unfit cause) = unfit_number cause
number_of (status.Rejected clause row) = 7
number_of (status.Unruly line) = 8
number_of (status.Alias arc ordinal) = 9
number_of status.Memory = 10
number_of (status.Unsettled arc prio) = 12
number_of status.NoArc = 13

abbrev pub file_word : FileWord → List ℕ
file_word file.Net = codes "net"
file_word file.Streams = codes "streams"
file_word file.Cert = codes "cert"
file_word file.Script = codes "script"
file_word file.Mpackets = codes "mpackets"
file_word file.Pcap = codes "pcap"
file_word file.Trace = codes "trace"
file_word file.More = codes "more"

-- a number behind a space
abbrev pub behind_space : ℕ → List ℕ
behind_space n = 32 ∷ decimal n

-- the place of a row in its file, behind a space
abbrev pub row_words : FileRow → List ℕ
row_words place.Top = codes " top"
row_words place.Timing = codes " timing"
row_words (place.Node i) = codes " node" ++ behind_space i
row_words (place.Link i) = codes " link" ++ behind_space i
row_words (place.Stream i) = codes " stream" ++ behind_space i
row_words (place.Flow i) = codes " flow" ++ behind_space i

-- arcs by their numbers, each behind a space
abbrev pub arc_numbers : List ArcId → List ℕ
arc_numbers arcs = flat_map (λ arc. behind_space arc.0) arcs

-- why there is no certificate, behind a space: arcs, a priority and the room that a ring needs
abbrev pub unfit_words : Unfit → List ℕ
unfit_words (unfit.Overload arc) = codes " overload" ++ behind_space arc.0
unfit_words (unfit.Cycle arcs) = codes " cycle" ++ arc_numbers arcs
unfit_words (unfit.Large arc prio) = codes " large" ++ (behind_space arc.0 ++ behind_space prio)
unfit_words (unfit.Ring arc prio need) = codes " ring" ++ (behind_space arc.0 ++ (behind_space prio ++ behind_space need))
unfit_words unfit.Memory = codes " memory"

-- and as a whole text, where want of memory is no cause
abbrev pub unfit_text : Unfit → List ℕ
unfit_text (unfit.Overload arc) = codes "unfit" ++ unfit_words (unfit.Overload arc)
unfit_text (unfit.Cycle arcs) = codes "unfit" ++ unfit_words (unfit.Cycle arcs)
unfit_text (unfit.Large arc prio) = codes "unfit" ++ unfit_words (unfit.Large arc prio)
unfit_text (unfit.Ring arc prio need) = codes "unfit" ++ unfit_words (unfit.Ring arc prio need)
unfit_text unfit.Memory = codes "memory"

-- the answer for wrong words
unfoldable pub usage : List ℕ
usage = codes "usage: preempt certify, judge, migrate, replay, mpackets, drill, admit, capture or dissect"

abbrev pub text_of : Status → List ℕ
text_of status.Done = []
text_of status.Words = usage
text_of status.ReadFault = codes "read fault"
text_of status.WriteFault = codes "write fault"
text_of (status.Form kind line rule) = (codes "form " ++ file_word kind) ++ (behind_space line ++ behind_space rule)
text_of (status.Rules kind row rule) = (codes "rules " ++ file_word kind) ++ (row_words row ++ behind_space rule)
text_of (status.Unfit cause) = unfit_text cause
text_of (status.Rejected clause row) = codes "rejected" ++ (behind_space clause ++ behind_space row)
text_of (status.Unruly line) = codes "unruly" ++ behind_space line
text_of (status.Alias arc ordinal) = codes "alias" ++ (behind_space arc.0 ++ behind_space ordinal)
text_of status.Memory = codes "memory"
text_of (status.Unsettled arc prio) = codes "unsettled" ++ (behind_space arc.0 ++ behind_space prio)
text_of status.NoArc = codes "no arc"

-- The picture of a run: a lane for each arc that carries something, with a bar for each mPacket.
use Rattle.std.specs.Prelude.{ℕ, ◌+◌, ◌-◌, ◌*◌, ◌/◌, ◌==◌, ◌&&◌, Bool, false, List, [], ◌∷◌, ◌++◌, length}
use Rattle.std.specs.Prelude.{filter, slice_get, codes, max, nat_le, Option, Some, None}
use Rattle.std.specs.Prelude.{if◌then◌else◌}
use Rattle.std.specs.Option.{option_map_or}
use Rattle.std.specs.Fmt.{decimal}
use Rattle.std.specs.List.{flat_map, list_any, range_with_len}
use Rattle.pre_mpacket.specs.declared.packets.Kind.{Kind}
use Rattle.pre_mpacket.specs.declared.packets.Kind.TheVariants as kind
use Rattle.pre_history.specs.declared.events.What.{What}
use Rattle.pre_history.specs.declared.events.What.TheVariants as what
use Rattle.pre_history.specs.declared.events.Outcome.{Outcome}
use Rattle.pre_history.specs.declared.events.Outcome.TheVariants as outcome
use Rattle.pre_topo.specs.declared.network.Network.{Network}
use Rattle.pre_topo.specs.Named.{node_name}
use Rattle.pre_picture.specs.declared.scales.Scale.{Scale}
use Rattle.pre_picture.specs.declared.traces.Seen.{Seen}
use Rattle.pre_picture.specs.declared.traces.Seen.TheVariants.{Arrive, Deliver}
use Rattle.pre_picture.specs.declared.bars.Stop.{Stop}
use Rattle.pre_picture.specs.declared.bars.Bar.{Bar}
use Rattle.pre_picture.specs.Bars.{bars}
use Rattle.pre_picture.specs.Escapes.{escaped}
use Rattle.pre_picture.specs.Pieces.{joined, rect, circle, text}
use Rattle.pre_picture.specs.Charts.{text_of, head, tail, axis}
use Rattle.pre_picture.specs.Scales.{covers, place}

-- the tick at which a bar ends: that of its `ended` line, or the last one that is drawn
abbrev pub stop_tick : Option Stop → ℕ → ℕ
stop_tick None last = last
stop_tick (Some s) last = s.tick

abbrev pub end_of : Scale → Bar → ℕ
end_of s b = stop_tick b.stop s.to

-- a part of the bar lies in what is drawn
abbrev pub overlaps : Scale → Bar → Bool
overlaps s b = nat_le b.begin s.to && nat_le s.from (end_of s b)

abbrev pub in_lane : Scale → ℕ → Bar → Bool
in_lane s arc b = (b.arc == arc) && overlaps s b

-- the arcs with such a bar, by number
abbrev pub carries : Scale → List Bar → ℕ → Bool
carries s packets arc = list_any (in_lane s arc) packets

unfoldable pub carrying : Scale → List Bar → List ℕ
carrying s packets = filter (carries s packets) (range_with_len 0 256)

-- what an mPacket is: express, a fragment, link discovery, or a question or answer of verification
abbrev pub class_by : Kind → What → List ℕ
class_by kind.Verify w = codes "ask"
class_by kind.Respond w = codes "ask"
class_by kind.Express what.Lldp = codes "lldp"
class_by kind.Express (what.Frame n) = codes "express"
class_by kind.Express what.Nothing = codes "express"
class_by (kind.Start c) w = codes "part"
class_by (kind.Continue c f) w = codes "part"

-- its frame's number, V, R, or L for link discovery
abbrev pub what_name : What → List ℕ
what_name (what.Frame n) = decimal n.0
what_name what.Lldp = codes "L"
what_name what.Nothing = []

abbrev pub name_by : Kind → What → List ℕ
name_by kind.Verify w = codes "V"
name_by kind.Respond w = codes "R"
name_by kind.Express w = what_name w
name_by (kind.Start c) w = what_name w
name_by (kind.Continue c f) w = what_name w

-- a name of a bar that begins here and is so wide, where there is room
abbrev pub name_on : (x y width : ℕ) → List ℕ → List ℕ
name_on x y width name = if nat_le 300 width then text_of (codes "on") (x + width / 2) (y + 138) name else []

abbrev pub width_of : Scale → Bar → ℕ
width_of s b = place s (end_of s b) - place s b.begin

abbrev pub bar_box : Scale → ℕ → Bar → List ℕ
bar_box s y b = rect (class_by b.kind b.what) (place s b.begin) y (max (width_of s b) 10) 190

abbrev pub bar_name : Scale → ℕ → Bar → List ℕ
bar_name s y b = name_on (place s b.begin) y (width_of s b) (name_by b.kind b.what)

-- a bar from the place of its begin to the place of its end
unfoldable pub bar_text : Scale → ℕ → Bar → List ℕ
bar_text s y b = bar_box s y b ++ bar_name s y b

abbrev pub bar_in : Scale → ℕ → ℕ → Bar → List ℕ
bar_in s y arc b = if in_lane s arc b then bar_text s y b else []

-- an arrival that was lost or gave nothing, at its tick
abbrev pub outcome_text : Outcome → (x y : ℕ) → List ℕ
outcome_text outcome.Lost x y = text_of (codes "lost") x (y + 180) (codes "&#215;")
outcome_text outcome.Nothing x y = text_of (codes "nothing") x (y + 180) (codes "!")
outcome_text other x y = []

-- a mark in the lane of this arc, where its tick is drawn
abbrev pub marked : Scale → Bool → ℕ → List ℕ → List ℕ
marked s here tick mark = if here && covers s tick then mark else []

abbrev pub mark_text : Scale → ℕ → ℕ → Bool → Seen → List ℕ
mark_text s y arc here (Arrive tick a result) = marked s (a == arc) tick (outcome_text result (place s tick) y)
mark_text s y arc here (Deliver tick frame control) = marked s here tick (circle (codes "here") (place s tick) (y + 95) 50)
mark_text s y arc here other = []

-- whether the last arrival was on the arc
abbrev pub here_after : ℕ → Bool → Seen → Bool
here_after arc here (Arrive tick a result) = a == arc
here_after arc here other = here

-- the arrivals of an arc that gave nothing, and the deliveries behind an arrival on it
abbrev pub marks : Scale → ℕ → ℕ → Bool → List Seen → List ℕ
marks s y arc here [] = []
marks s y arc here (e ∷ events) = mark_text s y arc here e ++ marks s y arc (here_after arc here e) events

-- the names of an arc's ends
unfoldable pub lane_name : Network → ℕ → ℕ → List ℕ
lane_name net y arc =
    option_map_or (λ a. text (codes "name") 1900 (y + 140) (escaped (node_name net a.from.0)) (codes " &gt; ") (escaped (node_name net a.to.0))) (slice_get net.arcs arc) []

abbrev pub lane_bars : Scale → ℕ → ℕ → List Bar → List ℕ
lane_bars s y arc packets = flat_map (bar_in s y arc) packets

abbrev pub base_line : Scale → ℕ → List ℕ
base_line s y = rect (codes "base") s.left (y + 190) s.width 8

unfoldable pub lane_base : Network → Scale → ℕ → ℕ → List ℕ
lane_base net s y arc = lane_name net y arc ++ base_line s y

unfoldable pub lane : Network → Scale → List Bar → List Seen → ℕ → ℕ → List ℕ
lane net s packets events y arc = lane_base net s y arc ++ (lane_bars s y arc packets ++ marks s y arc false events)

-- the lanes, one below another
abbrev pub lanes : Network → Scale → List Bar → List Seen → ℕ → List ℕ → List ℕ
lanes net s packets events y [] = []
lanes net s packets events y (arc ∷ arcs) = lane net s packets events y arc ++ lanes net s packets events (y + 330) arcs

-- BEGIN legend
unfoldable pub legend : List ℕ
legend = joined (
    codes "<rect class=\"express\" x=\"2000\" y=\"60\" width=\"260\" height=\"150\"/><text class=\"note\" x=\"2320\" y=\"180\">express</text>\n"
    ∷ codes "<rect class=\"part\" x=\"3150\" y=\"60\" width=\"260\" height=\"150\"/><text class=\"note\" x=\"3470\" y=\"180\">preemptable</text>\n"
    ∷ codes "<rect class=\"lldp\" x=\"4420\" y=\"60\" width=\"260\" height=\"150\"/><text class=\"note\" x=\"4740\" y=\"180\">LLDP</text>\n"
    ∷ codes "<rect class=\"ask\" x=\"5300\" y=\"60\" width=\"260\" height=\"150\"/><text class=\"note\" x=\"5620\" y=\"180\">verify, respond</text>\n"
    ∷ codes "<circle class=\"here\" cx=\"7100\" cy=\"135\" r=\"50\"/><text class=\"note\" x=\"7200\" y=\"180\">delivered</text>\n"
    ∷ codes "<text class=\"lost\" x=\"8150\" y=\"215\">&#215;</text><text class=\"note\" x=\"8250\" y=\"180\">lost</text>\n"
    ∷ codes "<text class=\"nothing\" x=\"8750\" y=\"215\">!</text><text class=\"note\" x=\"8830\" y=\"180\">gave nothing</text>\n"
    ∷ codes "<text class=\"right\" x=\"1450\" y=\"500\">tick</text>\n"
    ∷ [])

-- END legend

unfoldable pub run_front : Scale → ℕ → List ℕ
run_front s height = head (620 + height) ++ (legend ++ axis s 560 height)

-- the lanes of these arcs
abbrev pub arcs_text : Network → Scale → List Bar → List Seen → List ℕ → List ℕ
arcs_text net s packets events arcs = run_front s (330 * length arcs) ++ (lanes net s packets events 620 arcs ++ tail)

-- the picture of the events on a scale of ticks: a lane for each arc that carries something there
unfoldable pub run_of : Network → Scale → List Bar → List Seen → List ℕ
run_of net s packets events = arcs_text net s packets events (carrying s packets)

abbrev pub run_text : Network → Scale → List Seen → List ℕ
run_text net s events = run_of net s (bars events) events

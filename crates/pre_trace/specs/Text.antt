-- The text of a history: one line for each event.
use Rattle.std.specs.Prelude.{ℕ, Bool, true, false, ◌+◌, List, [], ◌∷◌, ◌++◌, codes}
use Rattle.std.specs.Fmt.{decimal}
use Rattle.pre_text.specs.Writing.{hex, line_of}
use Rattle.pre_topo.specs.declared.network.Network.{Network}
use Rattle.pre_topo.specs.Named.{node_name, arc_name}
use Rattle.pre_script.specs.declared.scripts.Setting.{Setting}
use Rattle.pre_script.specs.declared.scripts.Setting.TheVariants as setting
use Rattle.pre_mpacket.specs.declared.packets.Kind.{Kind}
use Rattle.pre_mpacket.specs.declared.packets.Kind.TheVariants as kind
use Rattle.pre_history.specs.declared.events.What.{What}
use Rattle.pre_history.specs.declared.events.What.TheVariants as what
use Rattle.pre_history.specs.declared.events.Outcome.{Outcome}
use Rattle.pre_history.specs.declared.events.Outcome.TheVariants as outcome
use Rattle.pre_history.specs.History.{PlainEvent, History}

abbrev pub setting_word : Setting → List ℕ
setting_word setting.On = codes "on"
setting_word setting.Off = codes "off"
setting_word setting.Gone = codes "gone"

-- E, V or R; S and the frame count; C, the frame count, a point and the fragment count
abbrev pub kind_word : Kind → List ℕ
kind_word kind.Express = codes "E"
kind_word (kind.Start c) = 83 ∷ (48 + c) ∷ []
kind_word (kind.Continue c f) = 67 ∷ (48 + c) ∷ 46 ∷ (48 + f) ∷ []
kind_word kind.Verify = codes "V"
kind_word kind.Respond = codes "R"

abbrev pub what_word : What → List ℕ
what_word (what.Frame n) = decimal n.0
what_word what.Lldp = codes "lldp"
what_word what.Nothing = codes "-"

abbrev pub outcome_word : Outcome → List ℕ
outcome_word outcome.Lost = codes "lost"
outcome_word outcome.Frame = codes "frame"
outcome_word outcome.Lldp = codes "lldp"
outcome_word outcome.Part = codes "part"
outcome_word outcome.Verify = codes "verify"
outcome_word outcome.Respond = codes "respond"
outcome_word outcome.Nothing = codes "nothing"

abbrev pub yes_word : Bool → List ℕ
yes_word true = codes "yes"
yes_word false = codes "no"

abbrev pub line : Network → PlainEvent → List ℕ
line net (PlainEvent.set tick arc value) = line_of (decimal tick) (codes "set" ∷ arc_name net arc ∷ setting_word value ∷ [])
line net (PlainEvent.begin b) = line_of (decimal b.tick) (codes "begin" ∷ arc_name net b.arc ∷ decimal b.ord ∷ kind_word b.kind ∷ what_word b.what ∷ decimal b.from ∷ [])
line net (PlainEvent.ended e) = line_of (decimal e.tick) (codes "ended" ∷ arc_name net e.arc ∷ decimal e.ord ∷ decimal e.size ∷ hex e.check ∷ [])
line net (PlainEvent.arrive x) = line_of (decimal x.tick) (codes "arrive" ∷ arc_name net x.arc ∷ decimal x.ord ∷ outcome_word x.result ∷ [])
line net (PlainEvent.deliver d) = line_of (decimal d.tick) (codes "deliver" ∷ node_name net d.node ∷ decimal d.frame ∷ hex d.octets ∷ [])
line net (PlainEvent.active tick arc value) = line_of (decimal tick) (codes "active" ∷ arc_name net arc ∷ yes_word value ∷ [])
line net (PlainEvent.enter e) = line_of (decimal e.tick) (codes "enter" ∷ arc_name net e.arc ∷ decimal e.prio ∷ decimal e.frame ∷ [])
line net (PlainEvent.dropped e) = line_of (decimal e.tick) (codes "dropped" ∷ arc_name net e.arc ∷ decimal e.prio ∷ decimal e.frame ∷ [])
line net (PlainEvent.count arc c) = line_of (codes "count") (arc_name net arc ∷ decimal c.err ∷ decimal c.smd ∷ decimal c.ok ∷ decimal c.rx ∷ decimal c.tx ∷ [])
line net (PlainEvent.end e) = line_of (decimal e.until) (codes "end" ∷ decimal e.sent ∷ decimal e.delivered ∷ decimal e.dropped ∷ [])

abbrev pub text : Network → History → List ℕ
text net [] = []
text net (e ∷ h) = line net e ++ text net h

-- What events tell of the mPackets of one arc.
use Rattle.std.specs.Prelude.{ℕ, ◌≡◌, ◌+◌, ◌*◌, ◌^◌, ◌<◌, ◌≤◌, Bool, List, length, None}
use Rattle.pre_lldp.specs.LldpLayout.{lldp_frame}
use Rattle.pre_history.specs.declared.events.What.{What}
use Rattle.pre_history.specs.declared.events.What.TheVariants as what
use Rattle.pre_history.specs.Scenario.{Scenario, arc, row, send, FrameOf}
use Rattle.pre_frame.specs.Layout.{IsFrameSize}
use Rattle.pre_mpacket.specs.Spelling.{HasCounts}
use Rattle.pre_history.specs.History.{Begin, Ended, PlainEvent, History}
use Rattle.pre_history.specs.Selected.{active_on, begin_on, ended_on}
use Rattle.pre_history.specs.Queries.{SettingOf}
use Rattle.pre_history.specs.Octets.{BareOctets, WholeOf, is_on, ttl_under}
use Rattle.pre_dissect.specs.declared.changes.Change.{Change}
use Rattle.pre_dissect.specs.declared.changes.Change.TheVariants as change
use Rattle.pre_dissect.specs.declared.newest.Newest.{Newest}
use Rattle.pre_dissect.specs.declared.newest.Ending.{Ending}

-- This is what the event tells of the arc: nothing, the begin of an mPacket, whether the arc is active, or the end of an mPacket.
abbrev pub IsChange : ℕ → PlainEvent → Change → Type 0
IsChange a e change.Nothing = (begin_on a e ≡ None) × (ended_on a e ≡ None) × ((t : ℕ) → active_on a t e ≡ None)
IsChange a e (change.Begun tick n) = e ≡ PlainEvent.begin (record { tick = tick.0; arc = a; ord = n.ord; kind = n.kind; what = n.what; from = n.from })
IsChange a e (change.Active value) = (tick : ℕ) × (e ≡ PlainEvent.active tick a value)
IsChange a e (change.Ended x) = (ord : ℕ) × (e ≡ PlainEvent.ended (record { tick = x.tick.0; arc = a; ord = ord; size = x.size; check = x.check }))

-- the LLDP frame that begins on the arc at the tick, by whether the arc is active then
abbrev pub advert_frame : Scenario → ℕ → ℕ → Bool → List ℕ
advert_frame w a t active = lldp_frame (arc w a).from.0 a (record {
  enabled = is_on (SettingOf w a t);
  active = active;
  add_frag = (arc w a).add_frag;
  ttl = ttl_under w (SettingOf w a t);
})

-- The frame is one of the script, of a row that has a route and a VID, and has the size of a frame.
pub record IsKnown (w : Scenario) (f : ℕ) : Type 0 where
  pub known : f < length w.script.sends
  pub row_known : (send w f).send.stream.0 < length w.streams.rows
  pub route : 2 ≤ length (row w f).route
  pub vid : (1 ≤ (row w f).vid) × ((row w f).vid ≤ 4094)
  pub size : IsFrameSize (send w f).send.size

-- the octets of which an mPacket carries some, by the LLDP frame if it is one
abbrev pub IsWholeOf : Scenario → List ℕ → What → List ℕ → Type 0
IsWholeOf w advert (what.Frame f) whole = IsKnown w f.0 × (whole ≡ FrameOf w f.0)
IsWholeOf w advert what.Lldp whole = whole ≡ advert
IsWholeOf w advert what.Nothing whole = whole ≡ BareOctets

-- The mPacket is that which began so, and it ended so on the arc, by the history.
pub record IsEnding (w : Scenario) (h : History) (a : ℕ) (n : Newest) (advert : List ℕ) (x : Ending) (b : Begin) (e : Ended) : Type 0 where
  pub known : a < length w.net.arcs
  pub on : b.arc ≡ a
  pub ord : n.ord ≡ b.ord
  pub kind : n.kind ≡ b.kind
  pub carries : n.what ≡ b.what
  pub from : n.from ≡ b.from
  pub counts : HasCounts n.kind
  pub whole : IsWholeOf w advert n.what (WholeOf w h b)
  pub tick : x.tick.0 ≡ e.tick
  pub size : x.size ≡ e.size
  pub check : x.check ≡ e.check
  pub least : 64 ≤ e.size
  pub most : b.from + e.size ≤ length (WholeOf w h b)
  pub up_to : e.tick ≤ w.script.until.0
  pub due : e.tick + (arc w a).delay < 4 * 10 ^ 18

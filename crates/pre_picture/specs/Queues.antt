-- The picture of a queue: the wire octets that wait for a port, over time, and the size that they may come to.
use Rattle.std.specs.Prelude.{◌≡◌, ℕ, ◌+◌, ◌-◌, ◌^◌, ◌==◌, ◌&&◌, Bool, false, List, [], ◌∷◌, ◌++◌, codes}
use Rattle.std.specs.Prelude.{max, min, Option, Some, None, unwrap_or, if◌then◌else◌}
use Rattle.std.specs.BTreeMap.{BTreeMap, get}
use Rattle.std.specs.Option.{option_map_or}
use Rattle.std.specs.Fmt.{decimal}
use Rattle.std.specs.Ordering.{nat_cmp}
use Rattle.pre_mpacket.specs.declared.packets.Kind.{Kind}
use Rattle.pre_mpacket.specs.declared.packets.Kind.TheVariants as kind
use Rattle.pre_history.specs.declared.events.What.{What}
use Rattle.pre_history.specs.declared.events.What.TheVariants as what
use Rattle.pre_picture.specs.declared.scales.Scale.{Scale}
use Rattle.pre_picture.specs.declared.traces.Seen.{Seen}
use Rattle.pre_picture.specs.declared.traces.Seen.TheVariants.{Begin, Enter}
use Rattle.pre_picture.specs.declared.bars.Stop.{Stop}
use Rattle.pre_picture.specs.declared.bars.Bar.{Bar}
use Rattle.pre_picture.specs.declared.delays.Entry.{Entry}
use Rattle.pre_picture.specs.declared.queues.Port.{Port}
use Rattle.pre_picture.specs.Bars.{bars}
use Rattle.pre_picture.specs.Charts.{text_of, head, tail, axis}
use Rattle.pre_picture.specs.Delays.{first_entry}
use Rattle.pre_picture.specs.Pieces.{rect, text}
use Rattle.pre_picture.specs.Scales.{place}
use Rattle.pre_picture.specs.Traces.{tick_of, last_tick}

-- ---- frames

-- a frame that this mPacket carried whole, and its wire octets: its own, and 20 for preamble, delimiter and gap
abbrev pub carried : Kind → What → Option Stop → Option (ℕ × ℕ)
carried kind.Express (what.Frame n) (Some s) = Some (n.0, s.size + 20)
carried k w stop = None

abbrev pub size_here : ℕ → Option (ℕ × ℕ) → Option ℕ → Option ℕ
size_here f None later = later
size_here f (Some frame) later = if frame.0 == f then Some frame.1 else later

-- the wire octets of a frame, by an mPacket that carried it whole and ended, where there is one
abbrev pub size_among : List Bar → ℕ → Option ℕ
size_among [] f = None
size_among (b ∷ packets) f = size_here f (carried b.kind b.what b.stop) (size_among packets f)

abbrev pub KnowsSizes : BTreeMap ℕ ℕ → List Bar → Type 0
KnowsSizes sizes packets = (f : ℕ) → get nat_cmp sizes f ≡ size_among packets f

-- a frame of which none ended counts for nothing
abbrev pub size_of : List Seen → ℕ → ℕ
size_of events f = unwrap_or (size_among (bars events) f) 0

-- ---- the queue of a port

abbrev pub has_prio : Option Entry → ℕ → Bool
has_prio entry prio = option_map_or (λ e. e.prio == prio) entry false

-- the octets that come to the queue with an event
abbrev pub came : List Seen → Port → Seen → ℕ
came events port (Enter tick arc prio frame) = if (arc == port.arc) && (prio == port.prio) then size_of events frame else 0
came events port other = 0

-- the frame that an express mPacket carries
abbrev pub frame_of : Kind → What → Option ℕ
frame_of kind.Express (what.Frame n) = Some n.0
frame_of k w = None

abbrev pub left_by : List Seen → Port → Option ℕ → ℕ
left_by events port None = 0
left_by events port (Some f) = if has_prio (first_entry events f) port.prio then size_of events f else 0

-- those that leave it, as a frame of its priority begins
abbrev pub went : List Seen → Port → Seen → ℕ
went events port (Begin tick arc ord kind what) = if arc == port.arc then left_by events port (frame_of kind what) else 0
went events port other = 0

-- how much waits behind an event, as far as a number of 64 bits goes
abbrev pub level_after : List Seen → Port → ℕ → Seen → ℕ
level_after events port level e = min (level + came events port e) (2 ^ 64 - 1) - went events port e

-- the most that waits behind events
abbrev pub peak_from : List Seen → Port → ℕ → List Seen → ℕ
peak_from events port level [] = 0
peak_from events port level (e ∷ more) = max (level_after events port level e) (peak_from events port (level_after events port level e) more)

abbrev pub peak : List Seen → Port → ℕ
peak events port = peak_from events port 0 events

-- ---- the picture

-- ticks along the top; octets upwards, up to the size or to what waits at most
abbrev pub ticks_scale : ℕ → Scale
ticks_scale to = record { from = 0; to = to; left = 2000; width = 7400 }

abbrev pub octets_scale : ℕ → Scale
octets_scale to = record { from = 0; to = to; left = 0; width = 2400 }

-- so many octets from one tick to another
abbrev pub step_text : (across up : Scale) → (since until level : ℕ) → List ℕ
step_text across up since until level =
    if level == 0 then []
    else rect (codes "queue") (place across since) (3100 - place up level) (place across until - place across since) (place up level)

-- The steps of events, where the last change before them was at this tick and left so many octets: one for each change.
abbrev pub steps : List Seen → Port → (across up : Scale) → (since level : ℕ) → List Seen → List ℕ
steps events port across up since level [] = step_text across up since across.to level
steps events port across up since level (e ∷ more) =
    if level_after events port level e == level then steps events port across up since level more
    else step_text across up since (tick_of e) level ++ steps events port across up (tick_of e) (level_after events port level e) more

abbrev pub line_at : Scale → ℕ → List ℕ
line_at up size = rect (codes "size") 2000 (3100 - place up size) 7400 12

abbrev pub size_number : Scale → ℕ → List ℕ
size_number up size = text_of (codes "name") 1900 (3150 - place up size) (decimal size)

-- the certified size as a line, with its number
unfoldable pub size_line : Scale → ℕ → List ℕ
size_line up size = line_at up size ++ size_number up size

unfoldable pub base : List ℕ
base = rect (codes "base") 2000 3100 7400 8 ++ text_of (codes "name") 1900 3150 (decimal 0)

abbrev pub queue_note : ℕ → List ℕ
queue_note most = text (codes "note") 2000 200 (codes "wire octets that wait, at most ") (decimal most) (codes "; the line is the certified size")

unfoldable pub queue_captions : ℕ → List ℕ
queue_captions most = queue_note most ++ text_of (codes "right") 1450 500 (codes "tick")

unfoldable pub queue_field : Scale → List ℕ
queue_field across = axis across 560 2540 ++ base

unfoldable pub queue_front : Scale → ℕ → List ℕ
queue_front across most = head 3300 ++ (queue_captions most ++ queue_field across)

unfoldable pub queue_end : Scale → ℕ → List ℕ
queue_end up size = size_line up size ++ tail

abbrev pub queue_of : List Seen → Port → (size most : ℕ) → (across up : Scale) → List ℕ
queue_of events port size most across up = queue_front across most ++ (steps events port across up 0 0 events ++ queue_end up size)

-- the picture of a port's queue, of this certified size
unfoldable pub queue_text : Port → ℕ → List Seen → List ℕ
queue_text port size events = queue_of events port size (peak events port) (ticks_scale (last_tick events)) (octets_scale (max size (peak events port)))

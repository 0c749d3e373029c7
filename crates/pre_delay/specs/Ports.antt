-- What comes to a port of a network, and how long and how many wait at it.
use Rattle.std.specs.Prelude.{ℕ, ◌+◌, ◌*◌, ◌<◌, ◌≤◌, ◌≡◌, ◌==◌, true, List, length, map, filter, sum_by, Some, slice_get}
use Rattle.std.specs.List.{AllByRecursion as Every}
use Rattle.pre_base.specs.declared.limits.TheConstants.{GAP, OVERHEAD}
use Rattle.pre_streams.specs.declared.rows.Row.{Row}
use Rattle.pre_history.specs.declared.events.What.TheVariants as what
use Rattle.pre_history.specs.Scenario.{Scenario, FrameOf, arc, send}
use Rattle.pre_history.specs.History.{Begin, History}
use Rattle.pre_history.specs.Selected.{RingEntry}
use Rattle.pre_history.specs.Queries.{Begins, Entries, Waiting}
use Rattle.pre_bound.specs.Uses.{hop_of, is_on, rate_of}
use Rattle.pre_bound.specs.Values.{Values}
use Rattle.pre_curve.specs.Windows.{Offer}
use Rattle.pre_delay.specs.Ticks.{ObeysTicks}

-- the number of a frame's row
abbrev pub stream_of : Scenario → ℕ → ℕ
stream_of w f = (send w f).send.stream.0

-- the octets of a frame with preamble and gap
abbrev pub wire_of : Scenario → ℕ → ℕ
wire_of w f = length (FrameOf w f) + OVERHEAD

abbrev pub wire : Scenario → RingEntry → ℕ
wire w r = wire_of w r.frame

-- of these entries, drops among them, the frames of the stream of that number, as the wire carries them
abbrev pub offers_among : Scenario → ℕ → List RingEntry → List Offer
offers_among w i entries = map (λ r. record { tick = r.tick; octets = wire w r }) (filter (λ r. stream_of w r.frame == i) entries)

-- The frames of the stream of that number that come to a ring, entered or dropped, are within a burst and a rate.
abbrev pub StreamObeys : Scenario → History → (a p i burst rate : ℕ) → Type 0
StreamObeys w h a p i burst rate = ObeysTicks burst rate (offers_among w i (Entries h a p))

-- So are those of each stream of this and the higher priorities, by the certified bursts at this hop.
abbrev pub PortObeys : Scenario → History → Values → (a p : ℕ) → Type 0
PortObeys w h v a p =
    (q i : ℕ) (r : Row) → p ≤ q → slice_get w.streams.rows i ≡ Some r → is_on a q (q + 1) r ≡ true → StreamObeys w h a q i (v.burst i (hop_of a r)) (rate_of r)

-- The ticks below `done` are over. A frame that entered leaves within the delay: once it has begun its octets and gap are over by
-- then, and it has begun where the delay is over by the last of these ticks, but for the gap.
pub record IsOnTime (w : Scenario) (h : History) (a done delay : ℕ) (r : RingEntry) : Type 0 where
  pub left : (i : ℕ) (b : Begin) → slice_get (Begins h a) i ≡ Some b → b.what ≡ what.Frame (record { 0 = r.frame }) → b.tick + (arc w a).cost * wire w r ≤ r.tick + delay
  pub begun : r.tick + delay < done + GAP * (arc w a).cost → (i : ℕ) × (b : Begin) × (slice_get (Begins h a) i ≡ Some b) × (b.what ≡ what.Frame (record { 0 = r.frame }))

-- the wire octets of the frames that wait in a ring at a tick
abbrev pub waiting_octets : Scenario → History → (a p t : ℕ) → ℕ
waiting_octets w h a p t = sum_by (wire_of w) (Waiting h a p t)

-- A port: what enters it leaves within the delay, what waits is within the size at each tick, and nothing is dropped.
pub record PortIsTimely (w : Scenario) (h : History) (done : ℕ) (v : Values) (a p : ℕ) : Type 0 where
  pub begun_in_time : (j : ℕ) (r : RingEntry) → slice_get (Entries h a p) j ≡ Some r → IsOnTime w h a done (v.delay a p) r
  pub queue_within_size : (t : ℕ) → t < done → waiting_octets w h a p t ≤ v.size a p
  pub none_dropped : Every (λ (r : RingEntry). r.entered ≡ true) (Entries h a p)

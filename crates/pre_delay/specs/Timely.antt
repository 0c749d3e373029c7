-- What is true of a whole run under a good certificate.
use Rattle.std.specs.Prelude.{ℕ, ◌+◌, ◌/◌, ◌<◌, ◌≤◌, ◌≡◌, true, length, slice_get, Some, Any}
use Rattle.std.specs.List.{AllByRecursion as Every}
use Rattle.pre_streams.specs.declared.rows.Row.{Row}
use Rattle.pre_history.specs.Scenario.{Scenario, FrameOf, IsExpressFrame, send}
use Rattle.pre_history.specs.History.{Delivery, History}
use Rattle.pre_history.specs.Moments.{moments}
use Rattle.pre_history.specs.Selected.{RingEntry}
use Rattle.pre_history.specs.Queries.{Deliveries, Entries}
use Rattle.pre_history.specs.Legal.{Spared}
use Rattle.pre_bound.specs.Uses.{TakesAt, is_stream, has_port, rate_of}
use Rattle.pre_bound.specs.Values.{Values}
use Rattle.pre_delay.specs.Ports.{IsOnTime, StreamObeys, stream_of, waiting_octets}

-- how many ticks are over in a history that is legal up to this moment
abbrev pub ticks_over : Scenario → ℕ → ℕ
ticks_over w n = n / moments (length w.net.arcs)

-- what comes to each hop of each stream is within the certified burst of that hop and the stream's rate
abbrev pub EntriesObey : Scenario → History → Values → Type 0
EntriesObey w h v =
    (i : ℕ) (r : Row) → slice_get w.streams.rows i ≡ Some r → is_stream r ≡ true → (hop a : ℕ) → TakesAt r hop a → StreamObeys w h a r.prio i (v.burst i hop) (rate_of r)

-- An express frame that is delivered is so at most its stream's bound after its send.
abbrev pub DeliveryWithinBound : Scenario → History → Values → Type 0
DeliveryWithinBound w h v =
    (j : ℕ) (d : Delivery) → slice_get (Deliveries h) j ≡ Some d → IsExpressFrame w d.frame → d.tick ≤ (send w d.frame).send.tick.0 + v.bound (stream_of w d.frame)

-- An express frame that no loss or damage line names is delivered, with its octets, where its bound is over.
abbrev pub SparedFramesArrive : Scenario → History → (done : ℕ) → Values → Type 0
SparedFramesArrive w h done v =
    (f : ℕ) → f < length w.script.sends → IsExpressFrame w f → Spared w h f → (send w f).send.tick.0 + v.bound (stream_of w f) < done
    → Any (λ (d : Delivery). (d.frame ≡ f) × (d.octets ≡ FrameOf w f)) (Deliveries h)

-- The ticks below `done` are over, and the certificate says these numbers. The run is timely: entries obey, frames begin in time
-- at each port, queues are within their sizes and drop nothing, what is delivered is within its bound, and spared frames arrive.
pub record Timely (w : Scenario) (h : History) (done : ℕ) (v : Values) : Type 0 where
  pub entries_obey : EntriesObey w h v
  pub begun_in_time : (a p j : ℕ) (r : RingEntry) → has_port w.streams.rows a p ≡ true → slice_get (Entries h a p) j ≡ Some r → IsOnTime w h a done (v.delay a p) r
  pub queue_within_size : (a p t : ℕ) → has_port w.streams.rows a p ≡ true → t < done → waiting_octets w h a p t ≤ v.size a p
  pub none_dropped : (a p : ℕ) → has_port w.streams.rows a p ≡ true → Every (λ (r : RingEntry). r.entered ≡ true) (Entries h a p)
  pub delivery_within_bound : DeliveryWithinBound w h v
  pub spared_frames_arrive : SparedFramesArrive w h done v

-- The capture of an arc in a history: a record of each mPacket that ended on it and isn't lost, as it arrives.
use Rattle.std.specs.Prelude.{ℕ, ◌+◌, List, ◌∷◌, [], ◌++◌, filter_map, flat_map, option_map, Option, Some, None, slice_get}
use Rattle.pre_pcap.specs.Written.{Stamped, record_octets, capture_octets}
use Rattle.pre_history.specs.Scenario.{Scenario, arc}
use Rattle.pre_history.specs.History.{Begin, Ended, PlainEvent, History}
use Rattle.pre_history.specs.Queries.{Begins, Ends}
use Rattle.pre_history.specs.Octets.{Arrived}

-- the octets of these records, one behind another
abbrev pub octets_of : List Stamped → List ℕ
octets_of all = flat_map (λ one. record_octets one.tick one.octets) all

module _ (w : Scenario) (h : History) (a : ℕ) where
  -- what is recorded of an mPacket that began so and ended so: the octets that arrive, at the tick at which its delay is over
  abbrev pub recorded_of : Option Begin → Ended → Option Stamped
  recorded_of None e = None
  recorded_of (Some b) e = option_map (λ octets. record { tick = e.tick + (arc w a).delay; octets = octets }) (Arrived w h (record { begin = b; ended = Some e }))

  -- of one that ended so; none where the script loses it
  abbrev pub recorded : Ended → Option Stamped
  recorded e = recorded_of (slice_get (Begins h a) e.ord) e

  -- of all that ended on the arc, in order
  abbrev pub Recorded : List Stamped
  Recorded = filter_map recorded (Ends h a)

  -- the capture file
  abbrev pub CaptureOf : List ℕ
  CaptureOf = capture_octets Recorded

-- one record, or none
abbrev pub records_of : Option Stamped → List Stamped
records_of None = []
records_of (Some one) = one ∷ []

-- what one more event adds to the records of the arc
abbrev pub Added : Scenario → History → ℕ → PlainEvent → List Stamped
Added w h a e = filter_map (recorded w (h ++ e ∷ []) a) (Ends (e ∷ []) a)

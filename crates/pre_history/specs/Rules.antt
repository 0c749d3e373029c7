-- Which events a moment has, after those of all earlier moments.
use Rattle.std.specs.Prelude.{ℕ, ◌+◌, ◌-◌, ◌*◌, ◌≡◌, ◌≢◌, ◌⊎◌, ◌==◌, Bool, true, false, if◌then◌else◌}
use Rattle.std.specs.Prelude.{List, [], ◌∷◌, ◌++◌, length, map, filter, take, drop, Option, Some, None}
use Rattle.std.specs.Bool.{Decides}
use Rattle.pre_topo.specs.declared.arcs.Mode.TheVariants as mode
use Rattle.pre_crc.specs.Checks.{Mcrc}
use Rattle.pre_mpacket.specs.Arrivals.{Given, Gives}
use Rattle.pre_history.specs.declared.events.Outcome.{Outcome}
use Rattle.pre_history.specs.Scenario.{Scenario, arc}
use Rattle.pre_history.specs.Moments.{Phase, Moment}
use Rattle.pre_history.specs.History.{Begin, Ended, PlainEvent, History}
use Rattle.pre_history.specs.Selected.{is_frame_result}
use Rattle.pre_history.specs.Queries.{Begins, Ends}
use Rattle.pre_history.specs.Octets.{WholeOf, Air}
use Rattle.pre_history.specs.ArrivalResults.{Result}
use Rattle.pre_history.specs.LinkState.{Active, ActiveBefore}
use Rattle.pre_history.specs.Starts.{Choice, StartRule, SizeOf}
use Rattle.pre_history.specs.Comings.{frame_at, next_arc, Comings, EntriesOf}

-- The events are the one that is due, or none where none is.
abbrev pub OneOrNone : (PlainEvent → Type 0) → List PlainEvent → Type 0
OneOrNone Due es = ((e : PlainEvent) × Due e × (es ≡ e ∷ [])) ⊎ ((e : PlainEvent) → ¬ Due e) × (es ≡ [])

-- The events are those of each x, one after another.
abbrev pub Each : {X : Type 0} → (X → List PlainEvent → Type 0) → List X → List PlainEvent → Type 0
Each R [] es = es ≡ []
Each R (x ∷ xs) es = (front : List PlainEvent) × (rest : List PlainEvent) × R x front × Each R xs rest × (es ≡ front ++ rest)

-- the octets of a list from its last four on
abbrev pub last_four : List ℕ → List ℕ
last_four octets = drop (length octets - 4) octets

-- A whole frame and a last fragment end with the frame's last four octets, another fragment with the mCRC of all so far.
abbrev pub CheckOf : Scenario → History → Begin → ℕ → List ℕ
CheckOf w past b size =
    if b.from + size == length (WholeOf w past b) then last_four (WholeOf w past b)
    else Mcrc (take (b.from + size - 4) (WholeOf w past b))

-- the `set` lines of the tick
abbrev pub SetsAt : Scenario → ℕ → List PlainEvent
SetsAt w t = map (λ x. PlainEvent.set x.tick.0 x.arc.0 x.value) (filter (λ x. x.tick.0 == t) w.script.sets)

-- the delivery of a frame at a node, where its route goes no further
abbrev pub delivered : (t node f : ℕ) (octets : List ℕ) (next : Option ℕ) → List PlainEvent
delivered t node f octets None = PlainEvent.deliver (record { tick = t; node = node; frame = f; octets = octets }) ∷ []
delivered t node f octets (Some b) = []

-- the `active` event of an arc at a tick, by whether it is Active now and was before
abbrev pub change : (t a : ℕ) → (now before : Bool) → List PlainEvent
change t a true false = PlainEvent.active t a true ∷ []
change t a false true = PlainEvent.active t a false ∷ []
change t a true true = []
change t a false false = []

-- the `arrive` event of mPacket i
abbrev pub arrival : (t a i : ℕ) → Outcome → PlainEvent
arrival t a i r = PlainEvent.arrive (record { tick = t; arc = a; ord = i; result = r })

module _ (w : Scenario) (past : History) (t : ℕ) where
  -- The mPacket ends at this tick: this is its `ended` event.
  abbrev pub EndDue : Begin → PlainEvent → Type 0
  EndDue b e =
      (size : ℕ) × SizeOf w past b.kind b size × (b.tick + (arc w b.arc).cost * (size + 8) ≡ t)
      × (e ≡ PlainEvent.ended (record { tick = t; arc = b.arc; ord = b.ord; size = size; check = CheckOf w past b size }))

  -- the events of an arrival with this result: itself, and a delivery where a user frame is at its route's end
  abbrev pub EventsOf : (is_user : Bool) → ℕ → ℕ → Outcome → List PlainEvent → Type 0
  EventsOf true a i r es =
      (f : ℕ) × (octets : List ℕ) × (frame_at past a i ≡ Some f) × Gives (Air w past a) i (Given.frame octets)
      × (es ≡ arrival t a i r ∷ delivered t (arc w a).to.0 f octets (next_arc w a f))
  EventsOf false a i r es = es ≡ arrival t a i r ∷ []

  abbrev pub WithDelivery : ℕ → ℕ → Outcome → List PlainEvent → Type 0
  WithDelivery a i r es = EventsOf (is_frame_result r) a i r es

  -- an mPacket that ended arrives with its result where its delay is over at this tick, and has no event elsewhere
  abbrev pub Arriving : ℕ → Ended → List PlainEvent → Type 0
  Arriving a e es =
      ((e.tick + (arc w a).delay ≡ t) × ((result : Outcome) × Result (Air w past a) e.ord result × WithDelivery a e.ord result es))
      ⊎ (e.tick + (arc w a).delay ≢ t) × (es ≡ [])

  -- An `active` event of a `negotiate` arc stands where Active differs from the tick before.
  abbrev pub Expiry : ℕ → List PlainEvent → Type 0
  Expiry a es =
      ((arc w a).mode ≡ mode.Negotiate) × ((now before : Bool) × Decides now (Active w past a t) × Decides before (ActiveBefore w past a t)
      × (es ≡ change t a now before))
      ⊎ ((arc w a).mode ≢ mode.Negotiate) × (es ≡ [])

  -- What the arc's StartRule says begins: this is its `begin` event.
  abbrev pub StartDue : ℕ → PlainEvent → Type 0
  StartDue a e =
      (c : Choice) × StartRule w past a t c
      × (e ≡ PlainEvent.begin (record { tick = t; arc = a; ord = length (Begins past a); kind = c.kind; what = c.what; from = c.from }))

  -- the events of each phase of the tick
  unfoldable pub HappensIn : Phase → List PlainEvent → Type 0
  HappensIn Phase.sets es = es ≡ SetsAt w t
  HappensIn (Phase.ends a) es = Each (λ b fs. OneOrNone (EndDue b) fs) (Begins past a) es
  HappensIn (Phase.arrivals a) es = Each (Arriving a) (Ends past a) es
  HappensIn (Phase.expiries a) es = Expiry a es
  HappensIn Phase.entries es = es ≡ EntriesOf w t past (Comings w past t)
  HappensIn (Phase.starts a) es = OneOrNone (StartDue a) es

-- the events of a moment
abbrev pub Happens : Scenario → History → Moment → List PlainEvent → Type 0
Happens w past m es = HappensIn w past m.tick m.phase es

-- What the end of an arc makes of the mPacket that is due, in the terms of a history.
use Rattle.std.specs.Prelude.{◌≡◌, ◌<◌, ℕ, suc, true, List, [], ◌∷◌, ◌++◌, length, take, slice_get, Option, Some, None}
use Rattle.pre_base.specs.declared.numbers.FrameNo.{FrameNo}
use Rattle.pre_lldp.specs.LldpLayout.{is_lldp_frame}
use Rattle.pre_history.specs.declared.events.What.TheVariants as what
use Rattle.pre_mpacket.specs.Arrivals.{Given, Gives}
use Rattle.pre_frame.specs.Layout.{IsFrameSize}
use Rattle.pre_history.specs.declared.events.Outcome.{Outcome}
use Rattle.pre_history.specs.declared.events.Outcome.TheVariants as outcome
use Rattle.pre_history.specs.Scenario.{Scenario, arc, FrameOf}
use Rattle.pre_history.specs.Moments.{Phase}
use Rattle.pre_history.specs.History.{Begin, PlainEvent, History}
use Rattle.pre_history.specs.Queries.{Begins, Ends, Arrivals}
use Rattle.pre_history.specs.Octets.{Air, WholeOf}
use Rattle.pre_history.specs.Comings.{frame_at, next_arc}
use Rattle.pre_history.specs.Rules.{HappensIn, arrival, delivered}
use Rattle.pre_history.specs.Placed.{moment_of}
use Rattle.pre_history.specs.Legal.{LegalBefore, ArrivesAsAlias}
use Rattle.pre_incoming.specs.declared.landings.Landing.{Landing}
use Rattle.pre_incoming.specs.declared.landings.Landed.{Landed}
use Rattle.pre_incoming.specs.declared.landings.Landed.TheVariants as landed
use Rattle.pre_incoming.specs.declared.incomings.Incoming.{Incoming}
use Rattle.pre_incoming.specs.Wires.{Receives}

-- the result of an arrival that gives this; an alias has none, since a history stops before it
abbrev pub result_of : Landed → Outcome
result_of landed.Lost = outcome.Lost
result_of (landed.Frame f) = outcome.Frame
result_of landed.Lldp = outcome.Lldp
result_of landed.Part = outcome.Part
result_of landed.Verify = outcome.Verify
result_of landed.Respond = outcome.Respond
result_of landed.Nothing = outcome.Nothing
result_of landed.Alias = outcome.Nothing

-- A frame stands at the front of the memory for one, and a user frame is one of the script's.
abbrev pub HoldsFrame : Scenario → ℕ → List ℕ → Landed → Type 0
HoldsFrame w size into (landed.Frame f) = (f.0 < length w.script.sends) × IsFrameSize size × (take size into ≡ FrameOf w f.0)
HoldsFrame w size into landed.Lldp = IsFrameSize size
HoldsFrame w size into other = Unit {0}

module _ (w : Scenario) (h : History) (t a : ℕ) where
  -- the delivery of a user frame where its route ends here
  abbrev pub delivery : Landed → List PlainEvent
  delivery (landed.Frame f) = delivered t (arc w a).to.0 f.0 (FrameOf w f.0) (next_arc w a f.0)
  delivery other = []

  -- the events of a landing: its arrival, and perhaps a delivery
  abbrev pub events : Landing → List PlainEvent
  events x = arrival t a x.ord (result_of x.given) ∷ delivery x.given

  -- The moment has these events; with them the history is legal and has no alias, and the end of the arc stands for it.
  pub record GoesOn (es : List PlainEvent) (new : Incoming) : Type 0 where
    pub happens : HappensIn w h t (Phase.arrivals a) es
    pub legal : LegalBefore w (h ++ es) (suc (moment_of w t (Phase.arrivals a)))
    pub receives : Receives w (h ++ es) a new

  -- It is the next mPacket to arrive, and it has ended.
  pub record IsNext (x : Landing) : Type 0 where
    pub place : x.ord ≡ length (Arrivals h a)
    pub over : length (Arrivals h a) < length (Ends h a)

  -- It gives the user frame of which it carries octets.
  pub record GivesUser (ord : ℕ) (octets : List ℕ) (f : FrameNo) : Type 0 where
    pub named : frame_at h a ord ≡ Some f.0
    pub gives : Gives (Air w h a) ord (Given.frame octets)

  -- It gives the LLDP frame that it carries.
  pub record GivesLldp (ord : ℕ) (octets : List ℕ) : Type 0 where
    pub begin : Begin
    pub begun : slice_get (Begins h a) ord ≡ Some begin
    pub carries : begin.what ≡ what.Lldp
    pub as_sent : octets ≡ WholeOf w h begin
    pub is_lldp : is_lldp_frame octets ≡ true
    pub gives : Gives (Air w h a) ord (Given.frame octets)

  -- what is known of a frame that is given
  abbrev pub IsGiven : ℕ → List ℕ → Landed → Type 0
  IsGiven ord octets (landed.Frame f) = GivesUser ord octets f
  IsGiven ord octets landed.Lldp = GivesLldp ord octets
  IsGiven ord octets other = Unit {0}

  -- An alias stops the history; anything else happens at the moment.
  abbrev pub LandsAs : Landing → List ℕ → Incoming → Landed → Type 0
  LandsAs x into new landed.Alias = ArrivesAsAlias w h t a x.ord
  LandsAs x into new given = IsNext x × GoesOn (events x) new × IsGiven x.ord (take x.size into) given

  -- What lands, or that nothing is due; `into` is the memory for a frame.
  abbrev pub Lands : Option Landing → List ℕ → Incoming → Type 0
  Lands None into new = GoesOn [] new
  Lands (Some x) into new = LandsAs x into new x.given

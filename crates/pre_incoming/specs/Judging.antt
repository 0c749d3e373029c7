-- What an arrival comes to, by what was sent as that mPacket.
use Rattle.std.specs.Prelude.{◌≡◌, ◌≢◌, ◌⊎◌, ◌+◌, ℕ, ◌-◌, nat_lt, nat_le, ◌&&◌, if◌then◌else◌, List, length, take, drop, Option, Some, None}
use Rattle.pre_mpacket.specs.declared.packets.Kind.{Kind}
use Rattle.pre_mpacket.specs.declared.packets.Kind.TheVariants as kind
use Rattle.pre_mpacket.specs.Arrivals.{Given}
use Rattle.pre_base.specs.declared.limits.TheConstants.{GREATEST_FRAME, HEAD, LEAST_FRAME}
use Rattle.pre_frame.specs.Layout.{with_check}
use Rattle.pre_receive.specs.Takings.{Taking, gave, gave_nothing}
use Rattle.pre_history.specs.declared.events.What.{What}
use Rattle.pre_history.specs.declared.events.What.TheVariants as what
use Rattle.pre_history.specs.Scenario.{Scenario, FrameOf}
use Rattle.pre_incoming.specs.Flights.{OnWire}
use Rattle.pre_incoming.specs.declared.landings.Landed.{Landed}
use Rattle.pre_incoming.specs.declared.landings.Landed.TheVariants as landed

-- the octets of an mPacket behind its head, where they have the size of a frame
abbrev pub behind_head : List ℕ → Option (List ℕ)
behind_head octets = if nat_le (HEAD + LEAST_FRAME) (length octets) && nat_le (length octets) (HEAD + GREATEST_FRAME) then Some (drop HEAD octets) else None

module _ (w : Scenario) where
  abbrev pub expected_of : What → List ℕ → Option (List ℕ)
  expected_of (what.Frame f) octets = if nat_lt f.0 (length w.script.sends) then Some (FrameOf w f.0) else None
  expected_of what.Lldp octets = behind_head octets
  expected_of what.Nothing octets = None

  -- the frame that an mPacket gives where it arrives as it was sent, if it has the frame's last octets
  abbrev pub expected : OnWire → Option (List ℕ)
  expected p = if p.is_last then expected_of p.what p.octets else None

-- the frame of this size of which octets stand at the front of the memory for one: of a user frame those before the check
abbrev pub frame_at_front : What → ℕ → List ℕ → List ℕ
frame_at_front (what.Frame f) size front = with_check (take (size - 4) front)
frame_at_front what.Lldp size front = take size front
frame_at_front what.Nothing size front = take size front

-- where a frame is given, this is the expected one
abbrev pub IsExpected : Option (List ℕ) → List ℕ → Landed → Type 0
IsExpected expects frame (landed.Frame f) = expects ≡ Some frame
IsExpected expects frame landed.Lldp = expects ≡ Some frame
IsExpected expects frame other = Unit {0}

-- what is given with the last octets of this
abbrev pub carried : What → Landed
carried (what.Frame f) = landed.Frame f
carried what.Lldp = landed.Lldp
carried what.Nothing = landed.Alias

-- Where a receiver answers so to an mPacket of this kind that carries octets of this, the arrival comes to this: a frame is to be
-- the expected one, and a verify or respond is to be sent as one.
abbrev pub Judged : Kind → What → Option (List ℕ) → Taking → Landed → Type 0
Judged k x expects (gave (Given.frame octets)) r = ((expects ≡ Some octets) × (r ≡ carried x)) ⊎ ((expects ≢ Some octets) × (r ≡ landed.Alias))
Judged k x expects (gave Given.verify) r = ((k ≡ kind.Verify) × (r ≡ landed.Verify)) ⊎ ((k ≢ kind.Verify) × (r ≡ landed.Alias))
Judged k x expects (gave Given.respond) r = ((k ≡ kind.Respond) × (r ≡ landed.Respond)) ⊎ ((k ≢ kind.Respond) × (r ≡ landed.Alias))
Judged k x expects (gave Given.part) r = r ≡ landed.Part
Judged k x expects (gave_nothing c) r = r ≡ landed.Nothing

-- What the relation says of single queries: what is left over, what is planned, and what begins.
use Rattle.std.specs.Prelude.{◌≡◌, ◌↔◌, ◌+◌, ◌*◌, ◌%◌, ℕ, List, length, Option, Some, None}
use Rattle.pre_send.specs.Calls.{Chosen, express, whole, first, rest, verify, respond, lldp}
use Rattle.pre_send.specs.Sendings.{Sending, Part}
use Rattle.pre_history.specs.Scenario.{Scenario, FrameOf}
use Rattle.pre_history.specs.History.{History}
use Rattle.pre_history.specs.Queries.{Rest, Interrupted}
use Rattle.pre_history.specs.Starts.{Choice, whole_frame, rest_begins, without_octets, lldp_begins}
use Rattle.pre_mpacket.specs.declared.packets.Kind.TheVariants as kind

-- what is left of a frame, when so many began as first fragments
abbrev pub rest_as : ℕ → Part → Rest
rest_as began x = record { frame = x.frame.frame.0; from = x.place; frame_count = (began + 3) % 4; fragment_count = x.continuations % 4 }

-- what the sender keeps is what is interrupted
abbrev pub LeavesOver : Scenario → History → ℕ → ℕ → Option Part → ℕ → Type 0
LeavesOver w h a t None began = (r : Rest) → ¬ Interrupted w h a t r
LeavesOver w h a t (Some x) began = (r : Rest) → Interrupted w h a t r ↔ (r ≡ rest_as began x)

-- by its plan the mPacket ends at the tick with this size
abbrev pub IsPlanned : ℕ → Sending → ℕ → ℕ → Type 0
IsPlanned cost p t size = (size ≡ p.size) × (p.told.began + cost * (8 + p.size) ≡ t)

-- an LLDP frame is the one that the history says
abbrev pub OtherIs : Chosen → List ℕ → List ℕ → Type 0
OtherIs lldp other octets = other ≡ octets
OtherIs _ other octets = Unit {0}

module _ (w : Scenario) where
  -- what begins is what the sender was told, where this is left of a frame and so many began as first fragments
  abbrev pub Picks : Chosen → Option Part → ℕ → Choice → Type 0
  Picks (express f) left began c = (c ≡ whole_frame f.frame.0 kind.Express) × (f.size ≡ length (FrameOf w f.frame.0))
  Picks (whole f) left began c = (c ≡ whole_frame f.frame.0 kind.Express) × (f.size ≡ length (FrameOf w f.frame.0))
  Picks (first f) left began c = (c ≡ whole_frame f.frame.0 (kind.Start (began % 4))) × (f.size ≡ length (FrameOf w f.frame.0))
  Picks rest left began c = (x : Part) × (left ≡ Some x) × (c ≡ rest_begins (rest_as began x))
  Picks verify left began c = c ≡ without_octets kind.Verify
  Picks respond left began c = c ≡ without_octets kind.Respond
  Picks lldp left began c = c ≡ lldp_begins

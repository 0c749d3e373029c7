-- What goes on the wire at the end of an mPacket.
use Rattle.std.specs.Prelude.{ℕ, ◌≡◌, ◌<◌, ◌+◌, List, ◌++◌, length, set, true, Option, Some, None}
use Rattle.pre_rings.specs.declared.slots.FrameRef.{FrameRef}
use Rattle.pre_mpacket.specs.Spelling.{PlainPacket, head_of}
use Rattle.pre_send.specs.Endings.{plans_end}
use Rattle.pre_send.specs.Owned.{frames_of}
use Rattle.pre_history.specs.Scenario.{Scenario}
use Rattle.pre_history.specs.History.{History}
use Rattle.pre_history.specs.Legal.{LegalUpTo}
use Rattle.pre_history.specs.Placed.{number}
use Rattle.pre_outgoing.specs.declared.outgoing.Outgoing.{Outgoing}
use Rattle.pre_outgoing.specs.Sends.{Sends, Leaves, AreStored}
use Rattle.pre_sim.specs.declared.ends.Leaving.{Leaving}
use Rattle.pre_sim.specs.Keeps.{Store}

-- with the slot of the frame in again, where there is one
abbrev pub without : Store → Option FrameRef → Store
without store None = store
without store (Some f) = set store f.slot None

-- this is the mPacket that leaves, wherever a history leads to its end
abbrev pub LeavesAs : Store → Outgoing → PlainPacket → Type 0
LeavesAs store o m =
    (w : Scenario) (past : History) (t a : ℕ) → a < length w.net.arcs → LegalUpTo w (number (length w.net.arcs) t (1 + a)) past → Sends w past a t true o
    → AreStored w store (frames_of o.sender) → plans_end o.sender ≡ Some t → Leaves w past t a m

-- Its octets are those of the mPacket that leaves.
pub record IsLeaving (store : Store) (o : Outgoing) (l : Leaving) (sent : List ℕ) : Type 0 where
  pub mdata : List ℕ
  pub octets : sent ≡ head_of l.kind ++ mdata ++ l.check
  pub count : length sent ≡ l.count
  pub leaves : LeavesAs store o (record { kind = l.kind; mdata = mdata; check = l.check })

-- For which arrivals so far a receiver stands.
use Rattle.std.specs.Prelude.{◌≡◌, ℕ, List, Option}
use Rattle.pre_mpacket.specs.declared.packets.Kind.{Kind}
use Rattle.pre_mpacket.specs.declared.packets.Kind.TheVariants as kind
use Rattle.pre_mpacket.specs.Arrivals.{Given}
use Rattle.pre_receive.specs.declared.outcomes.Outcome.{Outcome}
use Rattle.pre_receive.specs.declared.outcomes.Outcome.TheVariants as outcome
use Rattle.pre_receive.specs.declared.receivers.Receiver.{Receiver}
use Rattle.pre_receive.specs.Takings.{Taking, gave, gave_nothing}
use Rattle.pre_receive.specs.Held.{HoldsOpened}
use Rattle.pre_receive.specs.Counts.{Count}
use Rattle.pre_receive.specs.Steps.{ExpressTo, BareTo, JoinedTo, ContinuedTo}

pub record Stands (r : Receiver) (A : List (Option (List ℕ))) : Type 0 where
  pub holds : HoldsOpened r.opened r.octets.items A
  pub counts : Count A r.counters

-- an outcome as an answer, where the receiver keeps this frame that was sent whole, and this one that was joined
abbrev pub taking : List ℕ → List ℕ → Outcome → Taking
taking whole joined outcome.Express = gave (Given.frame whole)
taking whole joined outcome.Joined = gave (Given.frame joined)
taking whole joined outcome.Verify = gave Given.verify
taking whole joined outcome.Respond = gave Given.respond
taking whole joined outcome.Part = gave Given.part
taking whole joined (outcome.Nothing c) = gave_nothing c

-- An mPacket of this kind comes to this outcome; what was open stays where it is no fragment.
abbrev pub SortedTo : Kind → Outcome → List ℕ → List ℕ → Receiver → Receiver → Type 0
SortedTo kind.Express o mdata check old new = ExpressTo o mdata check new.whole.items × (new.opened ≡ old.opened) × (new.octets.items ≡ old.octets.items)
SortedTo kind.Verify o mdata check old new = BareTo outcome.Verify o mdata check × (new.opened ≡ old.opened) × (new.octets.items ≡ old.octets.items)
SortedTo kind.Respond o mdata check old new = BareTo outcome.Respond o mdata check × (new.opened ≡ old.opened) × (new.octets.items ≡ old.octets.items)
SortedTo (kind.Start c) o mdata check old new = JoinedTo o c 0 mdata check new.opened new.octets.items
SortedTo (kind.Continue c n) o mdata check old new = ContinuedTo o c n mdata check old.opened old.octets.items new.opened new.octets.items

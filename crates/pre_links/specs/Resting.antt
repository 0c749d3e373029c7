-- When nothing of a link is due at a tick.
use Rattle.std.specs.Prelude.{ℕ, ◌+◌, ◌%◌, ◌≡◌, ◌≢◌, ◌<◌, false, List, length, Some}
use Rattle.pre_topo.specs.Arcs.{reverse_of}
use Rattle.pre_lldp.specs.Ages.{Heard, last_heard, expiry}
use Rattle.pre_lldp.specs.Neighbours as neighbours
use Rattle.pre_history.specs.Scenario.{Scenario}
use Rattle.pre_history.specs.History.{History}
use Rattle.pre_history.specs.LinkState.{RespondOwed}
use Rattle.pre_history.specs.Moments.{Phase}
use Rattle.pre_history.specs.Placed.{moment_of}
use Rattle.pre_history.specs.Legal.{LegalUpTo}
use Rattle.pre_links.specs.Listening.{Hears}
use Rattle.pre_links.specs.Standing.{IsUpTo, LinkStands, may_verify}
use Rattle.pre_links.specs.declared.links.Link.{Link}
use Rattle.pre_links.specs.declared.partners.Partner.{Partner}

-- No respond is owed.
abbrev pub OwesNone : Link → Partner → Type 0
OwesNone link partner =
    (w : Scenario) (h : History) (a t : ℕ) → a < length w.net.arcs → LegalUpTo w (moment_of w t (Phase.starts a)) h → LinkStands w h a (t + 1) link → Hears w h (reverse_of a) partner
    → ¬ RespondOwed w h a t

-- What was heard of the partner doesn't run out at this very tick.
abbrev pub KeepsAt : ℕ → Partner → Type 0
KeepsAt t partner = (unit : ℕ) (calls : List Heard) → neighbours.Stands partner.neighbour unit calls → expiry unit (last_heard calls) ≢ Some t

-- Nothing of the link is due at the tick after t, up to which it is settled: no interval is over, what was heard of the partner
-- doesn't run out, and no respond, verify or LLDP frame may begin.
pub record LinkRests (interval t : ℕ) (partner : Partner) (link : Link) : Type 0 where
  pub upto : IsUpTo link t
  pub between : (t + 1) % interval ≢ 0
  pub age : KeepsAt (t + 1) partner
  pub respond : OwesNone link partner
  pub verify : may_verify link (t + 1) ≡ false
  pub lldp : link.wants_lldp ≡ false

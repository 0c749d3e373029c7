-- What the sending end of an arc that negotiates stands for in a history: the state of its link at the ticks that are settled.
use Rattle.std.specs.Prelude.{ℕ, ◌+◌, ◌%◌, ◌≡◌, ◌≢◌, ◌<◌, ◌≤◌, ◌↔◌, ◌&&◌, not, Bool, true, false, List}
use Rattle.std.specs.Prelude.{[], ◌∷◌, length, Option, Some, None, Any, map, filter, option_map}
use Rattle.std.specs.Bool.{Decides}
use Rattle.pre_lldp.specs.LinkState as link
use Rattle.pre_verify.specs.Calls.{Call, settled, responded, good_of, verifies_of, responds_of}
use Rattle.pre_verify.specs.Verifiers as verifiers
use Rattle.pre_mpacket.specs.declared.packets.Kind.TheVariants as kind
use Rattle.pre_history.specs.declared.events.Outcome.TheVariants as outcome
use Rattle.pre_history.specs.declared.events.What.TheVariants as what
use Rattle.pre_history.specs.Scenario.{Scenario}
use Rattle.pre_history.specs.History.{History, PlainEvent}
use Rattle.pre_history.specs.Selected.{is_verify}
use Rattle.pre_history.specs.Queries.{Packet, Packets, Begins, SettingOf}
use Rattle.pre_history.specs.LinkState.{Good, Received, Began, LldpBegan, IsWanting, SettingBefore, ActiveBefore}
use Rattle.pre_history.specs.Starts.{Choice}
use Rattle.pre_history.specs.Placed.{moment_of}
use Rattle.pre_history.specs.Moments.{Phase}
use Rattle.pre_links.specs.Listening.{IsLatest}
use Rattle.pre_links.specs.declared.links.Link.{Link}

-- Moment m is at or behind the first expiries of each tick below n, so that all arrivals at these ticks stand before it.
abbrev pub AreOver : Scenario → (n m : ℕ) → Type 0
AreOver w n m = (t : ℕ) → t < n → moment_of w t (Phase.expiries 0) ≤ m

-- the `begin` event of what begins next on the arc
abbrev pub begin_of : History → (a t : ℕ) → Choice → PlainEvent
begin_of h a t c = PlainEvent.begin (record { tick = t; arc = a; ord = length (Begins h a); kind = c.kind; what = c.what; from = c.from })

-- an mPacket as a verify
abbrev pub verify_in : Packet → link.Verify
verify_in p = record { began = p.begin.tick; ended = option_map (λ e. e.tick) p.ended }

-- the verifies begun on the arc, with their ends
abbrev pub Verifies : History → ℕ → List link.Verify
Verifies h a = map verify_in (filter (λ p. is_verify p.begin.kind) (Packets h a))

module _ (w : Scenario) (h : History) (a n : ℕ) where
  -- There was a wanting tick below n, and no LLDP frame began at it or since.
  abbrev pub LldpDue : Type 0
  LldpDue = (x : ℕ) × (x < n) × IsWanting w h a x × ((i : ℕ) → x ≤ i → ¬ LldpBegan h a i)

  -- The ticks below n are settled: the link stands for what was received by them, and for what began and ended so far.
  pub record LinkStands (state : Link) : Type 0 where
    pub calls : List Call
    pub stands : verifiers.Stands state.verifier w.net.timing.verify calls
    pub good : (t : ℕ) → t < n → Decides (good_of calls t) (Good w h a t)
    pub verifies : verifies_of calls ≡ Verifies h a
    pub responds : (r : ℕ) → Any (λ x. x ≡ r) (responds_of calls) ↔ ((r < n) × Received h a outcome.Respond r)
    pub setting : state.setting ≡ SettingBefore w h a n
    pub active : Decides state.active (ActiveBefore w h a n)
    pub lldp : Decides state.wants_lldp LldpDue
    pub responded : IsLatest (Began h a kind.Respond) (option_map (λ t. t.0) state.responded)

-- the `active` event of a change, where there is one
abbrev pub told : (t a : ℕ) → Option Bool → List PlainEvent
told t a None = []
told t a (Some active) = PlainEvent.active t a active ∷ []

-- The tick can be settled: no later one was handed in, and neither it nor a later one was settled.
abbrev pub IsReady : Link → ℕ → Type 0
IsReady state t = (state.verifier.latest.0 ≤ t) × verifiers.IsBelow (option_map (λ s. s.0) state.verifier.settled) t

-- No later tick was handed in or settled.
abbrev pub IsUpTo : Link → ℕ → Type 0
IsUpTo state t = (state.verifier.latest.0 ≤ t) × verifiers.IsBelow (option_map (λ s. s.0) state.verifier.settled) (t + 1)

-- A verify may begin: one is wanted, and none is under way.
abbrev pub may_verify : Link → ℕ → Bool
may_verify state t = verifiers.is_wanting state.verifier t && not (verifiers.is_under_way state.verifier)

-- what a verifier is told at a tick: whether it is good, and the respond received at it
abbrev pub responding : ℕ → Bool → List Call
responding t true = responded t ∷ []
responding t false = []

abbrev pub settling : ℕ → (good responds : Bool) → List Call
settling t good responds = settled t good ∷ responding t responds

-- what may begin without the link being told
pub record IsOther (c : Choice) : Type 0 where
  pub no_verify : c.kind ≢ kind.Verify
  pub no_respond : c.kind ≢ kind.Respond
  pub no_lldp : c.what ≢ what.Lldp

-- After tick t and before tick m nothing changes for the link: it is as good as at t, no respond is received, the setting
-- stays, and no interval is over.
pub record IsQuiet (w : Scenario) (h : History) (a t m : ℕ) : Type 0 where
  pub good : (i : ℕ) → t < i → i < m → Good w h a i ↔ Good w h a t
  pub responds : (i : ℕ) → t < i → i < m → ¬ Received h a outcome.Respond i
  pub settings : (i : ℕ) → t < i → i < m → SettingOf w a i ≡ SettingOf w a t
  pub intervals : (i : ℕ) → t < i → i < m → i % w.net.timing.interval ≢ 0

-- Which histories are legal.
use Rattle.std.specs.Prelude.{ℕ, zero, suc, ◌+◌, ◌*◌, ◌<◌, ◌≤◌, ◌≡◌, ◌≢◌, ◌⊎◌, ◌==◌, ◌&&◌, nat_le}
use Rattle.std.specs.Prelude.{if◌then◌else◌, List, [], ◌∷◌, ◌++◌, length, count_by, Some, slice_get, All, IsTrue, IsFalse}
use Rattle.pre_mpacket.specs.declared.packets.Kind.{Kind}
use Rattle.pre_mpacket.specs.declared.packets.Kind.TheVariants as kind
use Rattle.pre_mpacket.specs.Arrivals.{Given, Gives, is_continue}
use Rattle.pre_mpacket.specs.Counters.{CountersOf}
use Rattle.pre_history.specs.declared.events.What.TheVariants as what
use Rattle.pre_history.specs.Scenario.{Scenario, arc}
use Rattle.pre_history.specs.Moments.{Phase, moments, moment_at}
use Rattle.pre_history.specs.Placed.{moment_of}
use Rattle.pre_history.specs.History.{Begin, Ended, Counts, End, PlainEvent, History}
use Rattle.pre_history.specs.Selected.{is_dropped, what_is}
use Rattle.pre_history.specs.Queries.{Begins, Ends, Arrivals, Deliveries}
use Rattle.pre_history.specs.Octets.{WholeOf, Air, names_loss, names_damage}
use Rattle.pre_history.specs.Rules.{Happens}

module _ (w : Scenario) where
  -- The events of all moments before moment n are those of the rules, and there are no others.
  abbrev pub LegalUpTo : ℕ → History → Type 0
  LegalUpTo zero h = h ≡ []
  LegalUpTo (suc n) h = (past : History) × (es : List PlainEvent) × (h ≡ past ++ es) × LegalUpTo n past × Happens w past (moment_at (length w.net.arcs) n) es

-- mPacket i of the arc is of this kind
abbrev pub IsOfKind : History → ℕ → ℕ → Kind → Type 0
IsOfKind h a i k = (b : Begin) × (slice_get (Begins h a) i ≡ Some b) × (b.kind ≡ k)

module _ (w : Scenario) (h : History) where
  -- mPacket i of the arc ended, and is the last one of a frame with these octets
  abbrev pub IsLastOf : ℕ → ℕ → List ℕ → Type 0
  IsLastOf a i octets =
      (b : Begin) × (e : Ended) × (slice_get (Begins h a) i ≡ Some b) × (slice_get (Ends h a) i ≡ Some e)
      × (b.what ≢ what.Nothing) × (octets ≡ WholeOf w h b) × (b.from + e.size ≡ length octets)

  -- Arrival i of the arc gives a verify, respond or frame that isn't the one sent.
  abbrev pub Alias : ℕ → ℕ → Type 0
  Alias a i =
      (Gives (Air w h a) i Given.verify × ¬ IsOfKind h a i kind.Verify)
      ⊎ (Gives (Air w h a) i Given.respond × ¬ IsOfKind h a i kind.Respond)
      ⊎ ((octets : List ℕ) × Gives (Air w h a) i (Given.frame octets) × ¬ IsLastOf a i octets)

  -- The history is legal before moment n, and none of its arrivals is an alias.
  abbrev pub LegalBefore : ℕ → Type 0
  LegalBefore n = LegalUpTo w n h × ((a i : ℕ) → i < length (Arrivals h a) → ¬ Alias a i)

  -- mPacket i of the arc is due to arrive at the tick, as an alias.
  abbrev pub ArrivesAsAlias : (t a i : ℕ) → Type 0
  ArrivesAsAlias t a i = (e : Ended) × (slice_get (Ends h a) i ≡ Some e) × (e.tick + (arc w a).delay ≡ t) × Alias a i

  -- The history is legal before the arrivals of the arc at a tick up to `until`, and then mPacket i arrives as the first alias.
  abbrev pub FirstAliasAt : (t a i : ℕ) → Type 0
  FirstAliasAt t a i = (t ≤ w.script.until.0) × (a < length w.net.arcs) × LegalBefore (moment_of w t (Phase.arrivals a)) × ArrivesAsAlias t a i

  -- the counters of the arc: those of what arrived, and the continuations begun
  abbrev pub CountsOf : ℕ → Counts → Type 0
  CountsOf a c = CountersOf (Air w h a) (length (Arrivals h a)) c.err c.smd c.ok c.rx × (c.tx ≡ count_by (λ b. is_continue b.kind) (Begins h a))

-- the `count` line of an arc, where a counter isn't 0
abbrev pub count_line : ℕ → Counts → List PlainEvent
count_line a c = if (c.err == 0) && (c.smd == 0) && (c.ok == 0) && (c.rx == 0) && (c.tx == 0) then [] else PlainEvent.count a c ∷ []

module _ (w : Scenario) (h : History) where
  -- the `count` lines of the arcs below n, by arc
  abbrev pub CountLines : ℕ → List PlainEvent → Type 0
  CountLines zero es = es ≡ []
  CountLines (suc a) es = (before : List PlainEvent) × (c : Counts) × CountLines a before × CountsOf w h a c × (es ≡ before ++ count_line a c)

  abbrev pub closing : End
  closing = record {
    until = w.script.until.0;
    sent = count_by (λ s. nat_le s.send.tick.0 w.script.until.0) w.script.sends;
    delivered = length (Deliveries h);
    dropped = count_by is_dropped h;
  }

-- the first moment after the tick `until`
abbrev pub last_moment : Scenario → ℕ
last_moment w = (w.script.until.0 + 1) * moments (length w.net.arcs)

-- All events but the closing ones are legal up to the end of tick `until`, and the closing ones are the counts and the end.
abbrev pub Legal : Scenario → History → Type 0
Legal w h =
    (body : History) × (counts : List PlainEvent) × LegalBefore w body (last_moment w)
    × CountLines w body (length w.net.arcs) counts × (h ≡ body ++ counts ++ PlainEvent.end (closing w body) ∷ [])

-- No mPacket that carries octets of the frame is named by a loss or damage line.
abbrev pub Spared : Scenario → History → ℕ → Type 0
Spared w h f =
    (a : ℕ) → All (λ b. IsTrue (what_is b.what f) → All (λ l. IsFalse (names_loss b l)) w.script.losses × All (λ d. IsFalse (names_damage b d)) w.script.damages) (Begins h a)

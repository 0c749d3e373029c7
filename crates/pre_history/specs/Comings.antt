-- Which frames come to a ring at a tick, and what becomes of each.
use Rattle.std.specs.Prelude.{ℕ, zero, suc, ◌+◌, ◌==◌, ◌&&◌, if◌then◌else◌, List, [], ◌∷◌, ◌++◌, length, map}
use Rattle.std.specs.Prelude.{filter_map, flat_map, Option, None, slice_get, option_map, option_and_then, unwrap_or}
use Rattle.pre_script.specs.declared.scripts.SendLine.{SendLine}
use Rattle.pre_history.specs.Scenario.{Scenario, row, latency, capacity}
use Rattle.pre_history.specs.History.{Arrive, Entry, PlainEvent, History}
use Rattle.pre_history.specs.Selected.{frame_in, is_frame_result}
use Rattle.pre_history.specs.Queries.{Begins, Arrivals, Waiting}

-- the numbers below n, in order
abbrev pub below : ℕ → List ℕ
below zero = []
below (suc n) = below n ++ n ∷ []

-- the element after the first x
abbrev pub after : ℕ → List ℕ → Option ℕ
after x [] = None
after x (y ∷ ys) = if y == x then slice_get ys 0 else after x ys

-- a frame and the arc whose ring it comes to
pub record Coming : Type 0 where
  pub arc : ℕ
  pub frame : ℕ

module _ (w : Scenario) where
  -- the arcs of the frame's route
  abbrev pub hops : ℕ → List ℕ
  hops f = map (λ a. a.0) (row w f).arcs

  -- the arc that the frame takes next, where its route goes on
  abbrev pub next_arc : ℕ → ℕ → Option ℕ
  next_arc a f = after a (hops f)

  -- the first arc of its route
  abbrev pub first_arc : ℕ → ℕ
  first_arc f = unwrap_or (slice_get (hops f) 0) 0

  -- the sends of the tick, from frame number f on, each at the first arc of its route
  abbrev pub sends_from : ℕ → ℕ → List SendLine → List Coming
  sends_from t f [] = []
  sends_from t f (s ∷ ss) =
      if s.send.tick.0 == t then record { arc = first_arc f; frame = f } ∷ sends_from t (f + 1) ss
      else sends_from t (f + 1) ss

-- the frame of which mPacket i of the arc carries octets
abbrev pub frame_at : History → ℕ → ℕ → Option ℕ
frame_at past a i = option_and_then (λ b. frame_in b.what) (slice_get (Begins past a) i)

module _ (w : Scenario) (past : History) (t : ℕ) where
  -- what an arrival hands to the relay of its bridge, where the latency is over now
  abbrev pub relayed : ℕ → Arrive → Option Coming
  relayed a x =
      if is_frame_result x.result && (x.tick + latency w a == t)
      then option_and_then (λ f. option_map (λ b. record { arc = b; frame = f }) (next_arc w a f)) (frame_at past a x.ord)
      else None

  -- the frames that come to a ring: relayed ones by arriving arc, then sends by frame number
  abbrev pub Comings : List Coming
  Comings = flat_map (λ a. filter_map (relayed a) (Arrivals past a)) (below (length w.net.arcs)) ++ sends_from w t 0 w.script.sends

module _ (w : Scenario) (t : ℕ) where
  abbrev pub entry_for : Coming → Entry
  entry_for c = record { tick = t; arc = c.arc; prio = (row w c.frame).prio; frame = c.frame }

  -- A frame is dropped where its ring holds its capacity, after the entries before it.
  abbrev pub entry_event : History → Coming → PlainEvent
  entry_event h c =
      if length (Waiting h c.arc (row w c.frame).prio t) == capacity w c.arc (row w c.frame).prio
      then PlainEvent.dropped (entry_for c) else PlainEvent.enter (entry_for c)

  -- each of these comes to its ring, one after another
  abbrev pub EntriesOf : History → List Coming → List PlainEvent
  EntriesOf h [] = []
  EntriesOf h (c ∷ cs) = entry_event h c ∷ EntriesOf (h ++ entry_event h c ∷ []) cs

-- What is known of a port in a legal history.
use Rattle.std.specs.Prelude.{ℕ, ◌+◌, ◌-◌, ◌*◌, ◌<◌, ◌≤◌, ◌≡◌, ◌==◌, ◌&&◌, true, false, filter, length, Some, slice_get, sum_by}
use Rattle.pre_base.specs.declared.numbers.FrameNo.{FrameNo}
use Rattle.pre_history.specs.declared.events.What.TheVariants as what
use Rattle.pre_history.specs.Scenario.{Scenario, FrameOf, arc, row}
use Rattle.pre_history.specs.History.{Begin, History}
use Rattle.pre_history.specs.Placed.{number}
use Rattle.pre_history.specs.Selected.{RingEntry}
use Rattle.pre_history.specs.Queries.{Begins, Entries}
use Rattle.pre_history.specs.Legal.{LegalUpTo}
use Rattle.pre_streams.specs.declared.rows.Row.{Row}
use Rattle.pre_bound.specs.Uses.{TakesAt, hop_of, is_on, is_stream, rate_of, takes}
use Rattle.pre_bound.specs.Values.{Values}
use Rattle.pre_bound.specs.Clauses.{Block, Work, Delay, Load, Largest}
use Rattle.pre_delay.specs.Ticks.{is_from_to}
use Rattle.pre_delay.specs.Ports.{stream_of, wire}

-- what comes to the ring of the stream of that number is within a burst and a rate
abbrev pub RingObeys : Scenario → History → (a p i burst rate : ℕ) → Type 0
RingObeys w h a p i burst rate =
    (from to : ℕ) → from ≤ to → 1_000_000 * sum_by (wire w) (filter (λ r. is_from_to from to r.tick && (stream_of w r.frame == i)) (Entries h a p)) ≤ 1_000_000 * burst + rate * (to - from)

-- of each stream of this and the higher priorities on the arc
abbrev pub RingsObey : Scenario → History → Values → (a p : ℕ) → Type 0
RingsObey w h v a p =
    (q i : ℕ) (r : Row) → p ≤ q → slice_get w.streams.rows i ≡ Some r → is_on a q (q + 1) r ≡ true → RingObeys w h a q i (v.burst i (hop_of a r)) (rate_of r)

-- of each stream at each hop
abbrev pub HopsObey : Scenario → History → Values → Type 0
HopsObey w h v =
    (i : ℕ) (r : Row) → slice_get w.streams.rows i ≡ Some r → is_stream r ≡ true → (hop a : ℕ) → TakesAt r hop a → RingObeys w h a r.prio i (v.burst i hop) (rate_of r)

-- what the rules of the files give of a frame whose route has the arc
pub record IsKnown (w : Scenario) (a f : ℕ) : Type 0 where
  pub listed : slice_get w.streams.rows (stream_of w f) ≡ Some (row w f)
  pub takes : takes a (row w f) ≡ true
  pub least : 64 ≤ length (FrameOf w f)
  pub size : length (FrameOf w f) ≤ (row w f).max
  pub stream : (arc w a).express_from ≤ (row w f).prio → is_stream (row w f) ≡ true
  pub flow : (row w f).prio < (arc w a).express_from → (is_stream (row w f) ≡ false) × ((row w f).max ≤ (arc w a).largest)

-- A port of an express priority on an arc of which the starts of the ticks before this one are told, and no others; the clauses
-- of its certificate hold, and what comes to the rings of this and the higher priorities obeys the certified bursts.
pub record IsPort (w : Scenario) (n : ℕ) (h : History) (a p done : ℕ) (v : Values) : Type 0 where
  pub legal : LegalUpTo w n h
  pub within : a < length w.net.arcs
  pub express : (arc w a).express_from ≤ p
  pub below : p < 8
  pub over : (x : ℕ) → x < done → number (length w.net.arcs) x (2 + 3 * length w.net.arcs + a) < n
  pub unstarted : (x : ℕ) → number (length w.net.arcs) x (2 + 3 * length w.net.arcs + a) < n → x < done
  pub few : length w.net.arcs ≤ 65536
  pub known : (q j : ℕ) (r : RingEntry) → slice_get (Entries h a q) j ≡ Some r → r.entered ≡ true → IsKnown w a r.frame
  pub carried : (i : ℕ) (b : Begin) (f : FrameNo) → slice_get (Begins h a) i ≡ Some b → b.what ≡ what.Frame f → IsKnown w a f.0
  pub largest : Largest w.net w.streams.rows v a
  pub block : Block w.net w.streams.rows v a p
  pub work : Work w.net w.streams.rows v a p
  pub delay : Delay w.net v a p
  pub load : Load w.net w.streams.rows a
  pub obeys : RingsObey w h v a p

-- what comes to the ring at a tick: it is known, and of the ring's priority
pub record ComesTo (w : Scenario) (a p tick : ℕ) (r : RingEntry) : Type 0 where
  pub now : r.tick ≡ tick
  pub entered : r.entered ≡ true
  pub prio : p ≡ (row w r.frame).prio
  pub known : IsKnown w a r.frame

-- Before the entries of a tick all that they depend on is told.
use Rattle.std.proofs.Common.{ℕ, ◌≡◌, ◌≤◌, ◌<◌, ◌+◌, ◌*◌, ◌==◌, ◌&&◌, Bool, true, false, ap, arith, subst, Some, None}
use Rattle.std.specs.Prelude.{if◌then◌else◌}
use Rattle.std.specs.Option.{option_map_or}
use Rattle.pre_history.specs.Moments.{moments}
use Rattle.pre_history.specs.History.{PlainEvent, History, Begin, Entry}
use Rattle.pre_history.specs.Selected.{RingEntry, begin_on, entry_on}
use Rattle.pre_history.specs.Placed.{number, IsBefore, AllBefore}
use Rattle.pre_sim.specs.Sends.{BeforeEntries}
use Rattle.pre_sim.proofs.Lists.{every_selected}
use Rattle.pre_history.proofs.Turns.{tick_lt}

begin_before : (arcs t a : ℕ) (e : PlainEvent) (b : Begin) → IsBefore arcs (number arcs t (1 + 3 * arcs)) e → begin_on a e ≡ Some b → b.tick < t
begin_before arcs t a (PlainEvent.begin c) b (m, lt, (c_lt, at)) is = go (c.arc == a) is
  where
    go : (same : Bool) → (if same then Some c else None) ≡ Some b → b.tick < t
    go false is = absurd (cc is)
    go true is =
        let same : c ≡ b = cc is in
        subst (λ (x : Begin). x.tick < t) same (tick_lt (moments arcs) c.tick t (1 + 3 * arcs) (omega (arith, at, lt)))
begin_before arcs t a e b before is = absurd (cc is)

ring_by : (arcs t a p : ℕ) (entered : Bool) (c : Entry) (r : RingEntry) → c.tick < t
    → (if (c.arc == a) && (c.prio == p) then Some (record { tick = c.tick; frame = c.frame; entered = entered }) else None) ≡ Some r → r.tick ≤ t
ring_by arcs t a p entered c r lt is = go ((c.arc == a) && (c.prio == p)) is
  where
    go : (same : Bool) → (if same then Some (record { tick = c.tick; frame = c.frame; entered = entered }) else None) ≡ Some r → r.tick ≤ t
    go false is = absurd (cc is)
    go true is =
        let same : c.tick ≡ r.tick = ap (λ o. option_map_or (λ (x : RingEntry). x.tick) o 0) is in
        omega (arith, same, lt)

entry_by : (arcs t a p : ℕ) (e : PlainEvent) (r : RingEntry) → IsBefore arcs (number arcs t (1 + 3 * arcs)) e → entry_on a p e ≡ Some r → r.tick ≤ t
entry_by arcs t a p (PlainEvent.enter c) r (m, lt, at) is = ring_by arcs t a p true c r (tick_lt (moments arcs) c.tick t (1 + 3 * arcs) (omega (arith, at, lt))) is
entry_by arcs t a p (PlainEvent.dropped c) r (m, lt, at) is = ring_by arcs t a p false c r (tick_lt (moments arcs) c.tick t (1 + 3 * arcs) (omega (arith, at, lt))) is
entry_by arcs t a p e r before is = absurd (cc is)

pub early_before : (arcs t : ℕ) (h : History) → AllBefore arcs (number arcs t (1 + 3 * arcs)) h → BeforeEntries t h
early_before arcs t h before = record {
  begins = λ a. every_selected (begin_on a) (IsBefore arcs (number arcs t (1 + 3 * arcs))) (λ b. b.tick < t) (begin_before arcs t a) h before;
  entries = λ a p. every_selected (entry_on a p) (IsBefore arcs (number arcs t (1 + 3 * arcs))) (λ r. r.tick ≤ t) (entry_by arcs t a p) h before;
}

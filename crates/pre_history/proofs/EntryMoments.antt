-- Entries of a history up to a moment stand at the entries of ticks before it.
use Rattle.std.proofs.Common.{ℕ, ◌≡◌, ◌==◌, ◌&&◌, ◌+◌, ◌*◌, ◌<◌, Bool, true, false, arith, subst, Some, None}
use Rattle.std.specs.Prelude.{if◌then◌else◌}
use Rattle.std.specs.List.{AllByRecursion as Every}
use Rattle.pre_history.specs.History.{PlainEvent, History, Entry}
use Rattle.pre_history.specs.Selected.{RingEntry, entry_on}
use Rattle.pre_history.specs.Queries.{Entries}
use Rattle.pre_history.specs.Placed.{number, IsBefore, AllBefore}
use Rattle.pre_history.proofs.Lists.{every_selected}

module _ (arcs n a p : ℕ) where
  came_before : (e : Entry) (b : Bool) (r : RingEntry) (same : Bool) → number arcs e.tick (1 + 3 * arcs) < n
      → (if same then Some (record { tick = e.tick; frame = e.frame; entered = b }) else None) ≡ Some r → number arcs r.tick (1 + 3 * arcs) < n
  came_before e b r false lt is = absurd (cc is)
  came_before e b r true lt is =
      let made : RingEntry = record { tick = e.tick; frame = e.frame; entered = b } in
      let same : made ≡ r = cc is in
      subst (λ (x : RingEntry). number arcs x.tick (1 + 3 * arcs) < n) same lt

  entry_before : (e : PlainEvent) (r : RingEntry) → IsBefore arcs n e → entry_on a p e ≡ Some r → number arcs r.tick (1 + 3 * arcs) < n
  entry_before (PlainEvent.enter e) r (m, lt, at) is = came_before e true r ((e.arc == a) && (e.prio == p)) (omega (arith, at, lt)) is
  entry_before (PlainEvent.dropped e) r (m, lt, at) is = came_before e false r ((e.arc == a) && (e.prio == p)) (omega (arith, at, lt)) is
  entry_before (PlainEvent.set s c v) r before is = absurd (cc is)
  entry_before (PlainEvent.begin c) r before is = absurd (cc is)
  entry_before (PlainEvent.ended c) r before is = absurd (cc is)
  entry_before (PlainEvent.arrive c) r before is = absurd (cc is)
  entry_before (PlainEvent.deliver c) r before is = absurd (cc is)
  entry_before (PlainEvent.active s c v) r before is = absurd (cc is)
  entry_before (PlainEvent.count s c) r before is = absurd (cc is)
  entry_before (PlainEvent.end c) r before is = absurd (cc is)

  pub entries_before : (h : History) → AllBefore arcs n h → Every (λ (r : RingEntry). number arcs r.tick (1 + 3 * arcs) < n) (Entries h a p)
  entries_before h before = every_selected (entry_on a p) (IsBefore arcs n) (λ r. number arcs r.tick (1 + 3 * arcs) < n) entry_before h before

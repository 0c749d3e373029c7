-- What begins on an arc, or why nothing does.
use Rattle.std.proofs.Common.{ℕ, ◌≡◌, ◌≢◌, ◌+◌, ◌*◌, ◌<◌, [], ◌∷◌, length, refl, sym, inl, subst, Some}
use Rattle.std.specs.Prelude.{slice_get, MatchOption, ⊤}
use Rattle.std.specs.List.{AllByRecursion as Every}
use Rattle.pre_topo.specs.declared.arcs.Mode.TheVariants as mode
use Rattle.pre_history.specs.Scenario.{Scenario, arc}
use Rattle.pre_history.specs.Moments.{Phase}
use Rattle.pre_history.specs.History.{PlainEvent, History, Begin}
use Rattle.pre_history.specs.Queries.{Begins, Entries, Packets, packet, end_of, Waiting, LastRun, IsUnderWay, Occupied, Rest, Interrupted}
use Rattle.pre_history.specs.Starts.{Item, Choice, There, StartRule, place}
use Rattle.pre_history.specs.Rules.{StartDue, HappensIn}
use Rattle.pre_history.proofs.Lists.{any_at, found_at, every_at}
use Rattle.pre_history.proofs.Free.{packet_at}
use Rattle.pre_history.proofs.LaterEnds.{packet_back}

module _ (w : Scenario) (h : History) (a t : ℕ) where
  abbrev pub IsBusy : Begin → Type 0
  IsBusy b = (b.tick < t) × MatchOption (end_of h a b.ord) ⊤ (λ e. t < e.tick + 12 * (arc w a).cost)

  pub busy : (i : ℕ) (b : Begin) → slice_get (Begins h a) i ≡ Some b → IsBusy b → Occupied w h a t
  busy i b at is = any_at (IsUnderWay w h a t) (Packets h a) i (packet h a b) (packet_at h a i b at) is

  pub free : Every (λ (b : Begin). ¬ IsBusy b) (Begins h a) → ¬ Occupied w h a t
  free none on =
      let o = packet_back h a on.0 on.1 (found_at (Packets h a) on.0 on.1 on.2 on.3) in
      every_at (λ (b : Begin). ¬ IsBusy b) (Begins h a) on.0 o.0 none o.1 (subst (IsUnderWay w h a t) (sym o.2) on.4)

  pub occupied_quiet : Occupied w h a t → (e : PlainEvent) → ¬ StartDue w h t a e
  unfolding StartRule
  occupied_quiet on e due = due.1.0 on

  -- an arc that doesn't negotiate, to which nothing came and on which nothing began
  pub empty_waits : (p : ℕ) → Entries h a p ≡ [] → Waiting h a p t ≡ []
  unfolding Waiting
  empty_waits p none = rw none refl

  empty_run : Begins h a ≡ [] → LastRun h a t ≡ []
  unfolding Packets
  empty_run none = rw none refl

  nothing_there : (arc w a).mode ≢ mode.Negotiate → ((p : ℕ) → Waiting h a p t ≡ []) → ((left : Rest) → ¬ Interrupted w h a t left) → (i : Item) (c : Choice) → There w h a t i c → ⊥
  nothing_there silent none whole Item.express c (f, (p, from, to, (behind, waits), above), is) = cc (none p, waits)
  nothing_there silent none whole Item.respond c (on, more, is) = silent on
  nothing_there silent none whole Item.verify c (on, more, is) = silent on
  nothing_there silent none whole Item.lldp c (on, more, is) = silent on
  nothing_there silent none whole Item.rest c (left, interrupted, is) = whole left interrupted
  nothing_there silent none whole Item.preemptable c (f, k, (p, from, to, (behind, waits), above), as', is) = cc (none p, waits)

  pub rested_quiet : (arc w a).mode ≢ mode.Negotiate → ((p : ℕ) → Waiting h a p t ≡ []) → ((left : Rest) → ¬ Interrupted w h a t left) → (e : PlainEvent) → ¬ StartDue w h t a e
  unfolding StartRule
  rested_quiet silent none whole e due = nothing_there silent none whole due.1.1.0 due.0 due.1.1.1

  pub empty_quiet : (arc w a).mode ≢ mode.Negotiate → ((p : ℕ) → Entries h a p ≡ []) → Begins h a ≡ [] → (e : PlainEvent) → ¬ StartDue w h t a e
  empty_quiet silent entries begins = rested_quiet silent (λ p. empty_waits p (entries p)) (λ left on. let none = empty_run begins in cc (none, on.2))

  -- the first item that is there begins
  pub begins_now : (i : Item) (c : Choice) → ¬ Occupied w h a t → There w h a t i c → ((j : Item) (d : Choice) → place j < place i → ¬ There w h a t j d)
      → HappensIn w h t (Phase.starts a) (PlainEvent.begin (record { tick = t; arc = a; ord = length (Begins h a); kind = c.kind; what = c.what; from = c.from }) ∷ [])
  unfolding HappensIn StartRule
  begins_now i c idle here before =
      inl (PlainEvent.begin (record { tick = t; arc = a; ord = length (Begins h a); kind = c.kind; what = c.what; from = c.from }), (c, (idle, (i, here, before)), refl), refl)

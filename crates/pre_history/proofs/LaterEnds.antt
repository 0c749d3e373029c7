-- Events that no query at a tick reads leave it as it is whether an arc is occupied.
use Rattle.std.proofs.Common.{ℕ, zero, suc, ◌≡◌, ◌==◌, ◌+◌, ◌*◌, ◌≤◌, ◌<◌, Bool, true, false, List, [], ◌∷◌}
use Rattle.std.proofs.Common.{◌++◌, refl, sym, ◌∙◌, ap, inl, inr, arith, subst, Some, None, filter, map, ◌⊎◌}
use Rattle.std.specs.Prelude.{◌↔◌, if◌then◌else◌, slice_get, MatchOption, ⊤}
use Rattle.std.specs.List.{AllByRecursion as Every}
use Rattle.std.proofs.lemmas.List.Elements.{filter_map-append, filter-append}
use Rattle.pre_history.specs.Scenario.{Scenario, arc}
use Rattle.pre_history.specs.History.{PlainEvent, History, Begin, Ended}
use Rattle.pre_history.specs.Selected.{begin_on, ended_on}
use Rattle.pre_history.specs.Queries.{Begins, Ends, Packet, Packets, packet, IsUnderWay, Occupied}
use Rattle.pre_history.proofs.IsLater.{IsLater, AllLater}
use Rattle.pre_history.proofs.Lists.{any_at, found_at, at_front, every_selected, every_filter, every_at}
use Rattle.pre_history.proofs.Free.{packet_at}

pub begin_later : (a t : ℕ) (e : PlainEvent) (b : Begin) → IsLater t e → begin_on a e ≡ Some b → t ≤ b.tick
begin_later a t (PlainEvent.begin c) b later is = go (c.arc == a) is
  where
    go : (same : Bool) → (if same then Some c else None) ≡ Some b → t ≤ b.tick
    go true at = let same : c ≡ b = cc at in subst (λ (x : Begin). t ≤ x.tick) same later
    go false at = absurd (cc at)
begin_later a t (PlainEvent.set s c v) b later is = absurd (cc is)
begin_later a t (PlainEvent.ended c) b later is = absurd (cc is)
begin_later a t (PlainEvent.arrive c) b later is = absurd (cc is)
begin_later a t (PlainEvent.deliver c) b later is = absurd (cc is)
begin_later a t (PlainEvent.active s c v) b later is = absurd (cc is)
begin_later a t (PlainEvent.enter c) b later is = absurd (cc is)
begin_later a t (PlainEvent.dropped c) b later is = absurd (cc is)
begin_later a t (PlainEvent.count s c) b later is = absurd (cc is)
begin_later a t (PlainEvent.end c) b later is = absurd (cc is)

pub end_later : (a t : ℕ) (e : PlainEvent) (b : Ended) → IsLater t e → ended_on a e ≡ Some b → t < b.tick
end_later a t (PlainEvent.ended c) b later is = go (c.arc == a) is
  where
    go : (same : Bool) → (if same then Some c else None) ≡ Some b → t < b.tick
    go true at = let same : c ≡ b = cc at in subst (λ (x : Ended). t < x.tick) same later
    go false at = absurd (cc at)
end_later a t (PlainEvent.set s c v) b later is = absurd (cc is)
end_later a t (PlainEvent.begin c) b later is = absurd (cc is)
end_later a t (PlainEvent.arrive c) b later is = absurd (cc is)
end_later a t (PlainEvent.deliver c) b later is = absurd (cc is)
end_later a t (PlainEvent.active s c v) b later is = absurd (cc is)
end_later a t (PlainEvent.enter c) b later is = absurd (cc is)
end_later a t (PlainEvent.dropped c) b later is = absurd (cc is)
end_later a t (PlainEvent.count s c) b later is = absurd (cc is)
end_later a t (PlainEvent.end c) b later is = absurd (cc is)

-- an mPacket and its `begin` event
pub packet_back : (h : History) (a k : ℕ) (p : Packet) → slice_get (Packets h a) k ≡ Some p → (b : Begin) × (slice_get (Begins h a) k ≡ Some b) × (packet h a b ≡ p)
unfolding Packets
packet_back h a k p at = go (Begins h a) k at
  where
    go : (bs : List Begin) (k : ℕ) → slice_get (map (packet h a) bs) k ≡ Some p → (b : Begin) × (slice_get bs k ≡ Some b) × (packet h a b ≡ p)
    go [] k at = absurd (cc at)
    go (b ∷ bs) zero at = (b, refl, cc at)
    go (b ∷ bs) (suc k) at = go bs k at

pub split_at : {X : Type 0} (xs ys : List X) (k : ℕ) (x : X) → slice_get (xs ++ ys) k ≡ Some x → (slice_get xs k ≡ Some x) ⊎ ((j : ℕ) × (slice_get ys j ≡ Some x))
split_at [] ys k x at = inr (k, at)
split_at (z ∷ xs) ys zero x at = inl at
split_at (z ∷ xs) ys (suc k) x at = split_at xs ys k x at

module _ (t gap : ℕ) where
  more_ends : (us vs : List Ended) → Every (λ (e : Ended). t < e.tick) vs → MatchOption (slice_get us 0) ⊤ (λ e. t < e.tick + gap) → MatchOption (slice_get (us ++ vs) 0) ⊤ (λ e. t < e.tick + gap)
  more_ends [] [] later under = tt
  more_ends [] (v ∷ vs) (here, more) under = omega (arith, here)
  more_ends (u ∷ us) vs later under = under

  fewer_ends : (us vs : List Ended) → MatchOption (slice_get (us ++ vs) 0) ⊤ (λ e. t < e.tick + gap) → MatchOption (slice_get us 0) ⊤ (λ e. t < e.tick + gap)
  fewer_ends [] vs under = tt
  fewer_ends (u ∷ us) vs under = under

module _ (w : Scenario) (h es : History) (a t : ℕ) (later : AllLater t es) where
  begins_more : Begins (h ++ es) a ≡ Begins h a ++ Begins es a
  begins_more = filter_map-append (begin_on a) h es

  begins_late : Every (λ (b : Begin). t ≤ b.tick) (Begins es a)
  begins_late = every_selected (begin_on a) (IsLater t) (λ b. t ≤ b.tick) (begin_later a t) es later

  ends_with : ℕ → List Ended
  ends_with i = filter (λ (e : Ended). e.ord == i) (Ends es a)

  ends_late : (i : ℕ) → Every (λ (e : Ended). t < e.tick) (ends_with i)
  unfolding ends_with
  ends_late i = every_filter (λ (e : Ended). t < e.tick) (λ e. e.ord == i) (Ends es a) (every_selected (ended_on a) (IsLater t) (λ e. t < e.tick) (end_later a t) es later)

  ends_more : (i : ℕ) → filter (λ (e : Ended). e.ord == i) (Ends (h ++ es) a) ≡ filter (λ (e : Ended). e.ord == i) (Ends h a) ++ ends_with i
  unfolding ends_with
  ends_more i = ap (filter (λ (e : Ended). e.ord == i)) (filter_map-append (ended_on a) h es) ∙ filter-append (λ (e : Ended). e.ord == i) (Ends h a) (Ends es a)

  stays_busy : Occupied w h a t → Occupied w (h ++ es) a t
  stays_busy busy =
      let o = packet_back h a busy.0 busy.1 (found_at (Packets h a) busy.0 busy.1 busy.2 busy.3) in
      let under : IsUnderWay w h a t (packet h a o.0) = subst (IsUnderWay w h a t) (sym o.2) busy.4 in
      let here : slice_get (Begins (h ++ es) a) busy.0 ≡ Some o.0 = ap (λ xs. slice_get xs busy.0) begins_more ∙ at_front (Begins h a) (Begins es a) busy.0 o.0 o.1 in
      any_at (IsUnderWay w (h ++ es) a t) (Packets (h ++ es) a) busy.0 (packet (h ++ es) a o.0) (packet_at (h ++ es) a busy.0 o.0 here) (
        under.0,
        subst (λ (xs : List Ended). MatchOption (slice_get xs 0) ⊤ (λ e. t < e.tick + 12 * (arc w a).cost)) (sym (ends_more o.0.ord))
            (more_ends t (12 * (arc w a).cost) (filter (λ (e : Ended). e.ord == o.0.ord) (Ends h a)) (ends_with o.0.ord) (ends_late o.0.ord) under.1),
      )

  was_busy : Occupied w (h ++ es) a t → Occupied w h a t
  was_busy busy =
      let o = packet_back (h ++ es) a busy.0 busy.1 (found_at (Packets (h ++ es) a) busy.0 busy.1 busy.2 busy.3) in
      let under : IsUnderWay w (h ++ es) a t (packet (h ++ es) a o.0) = subst (IsUnderWay w (h ++ es) a t) (sym o.2) busy.4 in
      elim (split_at (Begins h a) (Begins es a) busy.0 o.0 (ap (λ xs. slice_get xs busy.0) (sym begins_more) ∙ o.1)) [
        | inr new ↦ absurd (let late : t ≤ o.0.tick = every_at (λ (b : Begin). t ≤ b.tick) (Begins es a) new.0 o.0 begins_late new.1 in omega (arith, late, under.0))
        | inl old ↦ any_at (IsUnderWay w h a t) (Packets h a) busy.0 (packet h a o.0) (packet_at h a busy.0 o.0 old) (
          under.0,
          fewer_ends t (12 * (arc w a).cost) (filter (λ (e : Ended). e.ord == o.0.ord) (Ends h a)) (ends_with o.0.ord)
              (subst (λ (xs : List Ended). MatchOption (slice_get xs 0) ⊤ (λ e. t < e.tick + 12 * (arc w a).cost)) (ends_more o.0.ord) under.1),
        )
      ]

  pub occupied_later : Occupied w (h ++ es) a t ↔ Occupied w h a t
  occupied_later = (was_busy, stays_busy)

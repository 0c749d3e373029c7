-- A frame that is sent comes to the first arc of its route, and one that arrived to the next one, when the latency is over.
use Rattle.std.proofs.Common.{ℕ, zero, suc, ◌≡◌, ◌⊎◌, ◌==◌, ◌&&◌, ◌+◌, ◌*◌, ◌<◌, ◌≤◌, Bool, true, false}
use Rattle.std.proofs.Common.{List, [], ◌∷◌, ◌++◌, length, refl, sym, ◌∙◌, ap, inl, inr, arith, subst, Some, None}
use Rattle.std.specs.Prelude.{if◌then◌else◌, slice_get, flat_map, option_map, option_and_then}
use Rattle.pre_script.specs.declared.scripts.SendLine.{SendLine}
use Rattle.pre_history.specs.declared.events.Outcome.TheVariants as outcome
use Rattle.pre_history.specs.Scenario.{Scenario, row, send, no_send, capacity, latency}
use Rattle.pre_history.specs.History.{PlainEvent, History, Entry, Arrive}
use Rattle.pre_history.specs.Selected.{is_frame_result}
use Rattle.pre_history.specs.Queries.{Arrivals, Waiting}
use Rattle.pre_history.specs.Comings.{Coming, entry_event, entry_for, next_arc, first_arc, sends_from, relayed, below, frame_at}
use Rattle.pre_history.specs.Placed.{number}
use Rattle.pre_history.specs.Legal.{LegalUpTo}
use Rattle.pre_history.proofs.Lists.{there, at_front, at_last, in_selected}
use Rattle.pre_history.proofs.Relays.{relays}
use Rattle.pre_history.proofs.InOrder.{steady}
use Rattle.pre_history.specs.Read.{HasEntry}
use Rattle.pre_laws.specs.Routed.{IsEntry}
use Rattle.pre_history.proofs.EntriesRead.{entries_placed}
use Rattle.pre_laws.proofs.Fitting.{read_one}
use Rattle.pre_history.proofs.NatTests.{is_eq}

-- ---- lists

at_back : {X : Type 0} (xs ys : List X) (k : ℕ) (y : X) → slice_get ys k ≡ Some y → (i : ℕ) × (slice_get (xs ++ ys) i ≡ Some y)
at_back [] ys k y at = (k, at)
at_back (x ∷ xs) ys k y at = let o = at_back xs ys k y at in (suc o.0, o.1)

at_middle : {X : Type 0} (xs ys : List X) (x : X) → slice_get (xs ++ x ∷ ys) (length xs) ≡ Some x
at_middle [] ys x = refl
at_middle (y ∷ xs) ys x = at_middle xs ys x

in_flat : {X Y : Type 0} (g : X → List Y) (xs : List X) (i j : ℕ) (x : X) (y : Y) → slice_get xs i ≡ Some x → slice_get (g x) j ≡ Some y → (k : ℕ) × (slice_get (flat_map g xs) k ≡ Some y)
in_flat g [] i j x y at at' = absurd (cc at)
in_flat {X} {Y} g (z ∷ xs) zero j x y at at' = let same : z ≡ x = cc at in (j, at_front (g z) (flat_map g xs) j y (subst (λ (v : X). slice_get (g v) j ≡ Some y) (sym same) at'))
in_flat g (z ∷ xs) (suc i) j x y at at' = let o = in_flat g xs i j x y at at' in at_back (g z) (flat_map g xs) o.0 y o.1

in_below : (n a : ℕ) → a < n → (k : ℕ) × (slice_get (below n) k ≡ Some a)
in_below zero a lt = absurd (omega (arith, lt))
in_below (suc n) a lt = go (order a n (omega (arith, lt))) (λ less. in_below n a less)
  where
    order : (i j : ℕ) → i ≤ j → (i ≡ j) ⊎ (i < j)
    order i j le = grind arith

    go : (a ≡ n) ⊎ (a < n) → (a < n → (k : ℕ) × (slice_get (below n) k ≡ Some a)) → (k : ℕ) × (slice_get (below n ++ n ∷ []) k ≡ Some a)
    go (inl same) rest = (length (below n), at_last (below n) n ∙ ap Some (sym same))
    go (inr less) rest = let o = rest less in (o.0, at_front (below n) (n ∷ []) o.0 a o.1)

in_sends : (w : Scenario) (t f : ℕ) (ss : List SendLine) (j : ℕ) (s : SendLine) → slice_get ss j ≡ Some s → s.send.tick.0 ≡ t → (k : ℕ) × (slice_get (sends_from w t f ss) k ≡ Some (record { arc = first_arc w (f + j); frame = f + j }))
in_sends w t f [] j s at now = absurd (cc at)
in_sends w t f (x ∷ ss) zero s at now =
    let same : x ≡ s = cc at in
    let test : (x.send.tick.0 == t) ≡ true = is_eq x.send.tick.0 t (ap (λ (y : SendLine). y.send.tick.0) same ∙ now) in
    let none : f ≡ f + 0 = omega arith in
    (0, rw test (ap (λ (y : ℕ). Some (record { arc = first_arc w y; frame = y })) none))
in_sends w t f (x ∷ ss) (suc j) s at now = go (x.send.tick.0 == t) (let o = in_sends w t (f + 1) ss j s at now in (o.0, o.1 ∙ ap (λ (y : ℕ). Some (record { arc = first_arc w y; frame = y })) next))
  where
    next : f + 1 + j ≡ f + suc j
    next = omega arith

    go : (b : Bool) → (k : ℕ) × (slice_get (sends_from w t (f + 1) ss) k ≡ Some (record { arc = first_arc w (f + suc j); frame = f + suc j }))
        → (k : ℕ) × (slice_get (if b then record { arc = first_arc w f; frame = f } ∷ sends_from w t (f + 1) ss else sends_from w t (f + 1) ss) k ≡ Some (record { arc = first_arc w (f + suc j); frame = f + suc j }))
    go true o = (suc o.0, o.1)
    go false o = o

-- ---- comings come

entry_told : (w : Scenario) (h : History) (t j : ℕ) (c : Coming) → HasEntry w h t j c → (i : ℕ) × IsEntry h i (entry_for w t c)
entry_told w h t j c (front, before, after, joined, is, none) = (length before, go (length (Waiting before c.arc (row w c.frame).prio t) == capacity w c.arc (row w c.frame).prio) refl)
  where
    here : slice_get h (length before) ≡ Some (entry_event w t before c)
    here = ap (λ l. slice_get l (length before)) joined ∙ at_middle before after (entry_event w t before c)

    go : (b : Bool) → (length (Waiting before c.arc (row w c.frame).prio t) == capacity w c.arc (row w c.frame).prio) ≡ b → IsEntry h (length before) (entry_for w t c)
    go true full = inr (here ∙ ap (λ (b : Bool). Some (if b then PlainEvent.dropped (entry_for w t c) else PlainEvent.enter (entry_for w t c))) full)
    go false room = inl (here ∙ ap (λ (b : Bool). Some (if b then PlainEvent.dropped (entry_for w t c) else PlainEvent.enter (entry_for w t c))) room)

abbrev pub entry_to : (w : Scenario) (t a f : ℕ) → Entry
entry_to w t a f = record { tick = t; arc = a; prio = (row w f).prio; frame = f }

module _ (w : Scenario) (n : ℕ) (h : History) (legal : LegalUpTo w n h) where
  -- what is sent comes to the first arc of its route
  pub sent_comes : (f : ℕ) → f < length w.script.sends → number (length w.net.arcs) (send w f).send.tick.0 (1 + 3 * length w.net.arcs) < n → (i : ℕ) × IsEntry h i (entry_to w (send w f).send.tick.0 (first_arc w f) f)
  sent_comes f lt told =
      let t = (send w f).send.tick.0 in
      let s = there w.script.sends f lt in
      let tick : s.0.send.tick.0 ≡ t = ap (λ (x : SendLine). x.send.tick.0) (sym (read_one w.script.sends f s.0 no_send s.1)) in
      let o = in_sends w t 0 w.script.sends f s.0 s.1 tick in
      let none : 0 + f ≡ f = omega arith in
      let o' : slice_get (sends_from w t 0 w.script.sends) o.0 ≡ Some (record { arc = first_arc w f; frame = f }) = o.1 ∙ ap (λ (y : ℕ). Some (record { arc = first_arc w y; frame = y })) none in
      let k = at_back (flat_map (relays w h t) (below (length w.net.arcs))) (sends_from w t 0 w.script.sends) o.0 (record { arc = first_arc w f; frame = f }) o' in
      entry_told w h t k.0 (record { arc = first_arc w f; frame = f }) (entries_placed w n h t legal told k.0 (record { arc = first_arc w f; frame = f }) k.1)

  -- what arrived as a user frame comes to the next arc of its route
  pub relayed_comes : (a i f b : ℕ) (x : Arrive) → a < length w.net.arcs → slice_get (Arrivals h a) i ≡ Some x → x.result ≡ outcome.Frame → frame_at h a i ≡ Some f → next_arc w a f ≡ Some b
      → number (length w.net.arcs) (x.tick + latency w a) (1 + 3 * length w.net.arcs) < n → (j : ℕ) × IsEntry h j (entry_to w (x.tick + latency w a) b f)
  relayed_comes a i f b x lt at is frame next told =
      let t = x.tick + latency w a in
      let c : Coming = record { arc = b; frame = f } in
      let ord : i ≡ x.ord = sym ((steady w n h a lt legal).ordered.arrival_places i x at) in
      let test : (is_frame_result x.result && (x.tick + latency w a == t)) ≡ true = ap (λ r. is_frame_result r && (x.tick + latency w a == t)) is ∙ is_eq (x.tick + latency w a) t refl in
      let handed : relayed w h t a x ≡ Some c
      = ap (λ (y : Bool). if y then option_and_then {U = Coming} (λ f. option_map (λ b. record { arc = b; frame = f }) (next_arc w a f)) (frame_at h a x.ord) else None) test
      ∙ (ap (λ o. option_and_then {U = Coming} (λ f. option_map (λ b. record { arc = b; frame = f }) (next_arc w a f)) o) (ap (frame_at h a) (sym ord) ∙ frame)
      ∙ ap (λ o. option_map {U = Coming} (λ b. record { arc = b; frame = f }) o) next) in
      let r = in_selected (relayed w h t a) (Arrivals h a) i x c at handed in
      let p = in_below (length w.net.arcs) a lt in
      let k = in_flat (relays w h t) (below (length w.net.arcs)) p.0 r.0 a c p.1 r.1 in
      let here = at_front (flat_map (relays w h t) (below (length w.net.arcs))) (sends_from w t 0 w.script.sends) k.0 c k.1 in
      entry_told w h t k.0 c (entries_placed w n h t legal told k.0 c here)

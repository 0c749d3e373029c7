-- What came to rings at a tick is what comes by the whole history.
use Rattle.std.proofs.Common.{ℕ, zero, suc, ◌≡◌, ◌⊎◌, ◌==◌, ◌&&◌, ◌+◌, ◌*◌, ◌<◌, Bool, true, false, List, []}
use Rattle.std.proofs.Common.{◌∷◌, ◌++◌, length, refl, sym, ◌∙◌, ap, inl, inr, arith, subst, append_assoc, Option, Some, None}
use Rattle.std.proofs.Common.{filter_map, flat_map}
use Rattle.std.specs.Prelude.{if◌then◌else◌, slice_get, option_and_then, option_map, take}
use Rattle.std.specs.List.{AllByRecursion as Every}
use Rattle.std.proofs.lemmas.Bool.Decides.{nat_tests}
use Rattle.std.proofs.lemmas.List.Elements.{filter_map-append}
use Rattle.pre_history.specs.Scenario.{Scenario, latency, row, capacity}
use Rattle.pre_history.specs.Moments.{Phase, moments}
use Rattle.pre_history.specs.History.{PlainEvent, History, Begin, Entry}
use Rattle.pre_history.specs.Selected.{begin_on, arrive_on, frame_in, is_frame_result}
use Rattle.pre_history.specs.Queries.{Begins, Arrivals, Waiting}
use Rattle.pre_history.specs.Comings.{Coming, Comings, EntriesOf, entry_event, entry_for, below, relayed, frame_at, next_arc, sends_from}
use Rattle.pre_history.specs.Rules.{HappensIn}
use Rattle.pre_history.specs.Placed.{number, IsBefore}
use Rattle.pre_history.specs.Legal.{LegalUpTo}
use Rattle.pre_history.proofs.Lists.{there, within, found_at, every_at, at_front, every-append, every_placed, every_weaker, none_selected, no_append}
use Rattle.pre_history.proofs.Chosen.{selected_like}
use Rattle.pre_history.proofs.LaterEnds.{split_at}
use Rattle.std.proofs.lemmas.List.{append-nil}
use Rattle.pre_history.proofs.Moments.{entries_place}
use Rattle.pre_history.proofs.Placing.{placed}
use Rattle.pre_history.proofs.InOrder.{steady}
use Rattle.pre_history.specs.Placed.{IsWithin, AllWithin}
use Rattle.pre_history.specs.Read.{IsTold, IsNoEntry, HasEntries, HasEntry}
use Rattle.pre_history.proofs.Places.{later_tick}
use Rattle.pre_history.proofs.Around.{around, arrivals_within}
use Rattle.pre_history.proofs.NatTests.{and_false}

no_eq : (m n : ℕ) → n < m → (m == n) ≡ false
no_eq m n lt = grind (arith, nat_tests)

flat_map_like : {X Y : Type 0} (f g : X → List Y) (xs : List X) → Every (λ x. f x ≡ g x) xs → flat_map f xs ≡ flat_map g xs
flat_map_like f g [] same = refl
flat_map_like f g (x ∷ xs) (here, more) = cc (here, flat_map_like f g xs more)

every_below : (P : ℕ → Type 0) (n : ℕ) → ((a : ℕ) → a < n → P a) → Every P (below n)
every_below P zero says = tt
every_below P (suc n) says = every-append P (below n) (n ∷ []) (every_below P n (λ a lt. says a (omega (arith, lt)))) (says n (omega arith), tt)

module _ (w : Scenario) (t n : ℕ) (h es : History) (legal : LegalUpTo w (number (length w.net.arcs) t (1 + 3 * length w.net.arcs)) h) (later : AllWithin (length w.net.arcs) (number (length w.net.arcs) t (1 + 3 * length w.net.arcs)) n es) where
  module _ (a : ℕ) (a_lt : a < length w.net.arcs) where
    -- what arrives later is relayed later
    none_relayed : filter_map (relayed w (h ++ es) t a) (Arrivals es a) ≡ []
    none_relayed = none_selected (relayed w (h ++ es) t a) (Arrivals es a) (every_placed (λ x. relayed w (h ++ es) t a x ≡ None) (Arrivals es a) (λ i x at.
        let y = arrivals_within (length w.net.arcs) (number (length w.net.arcs) t (1 + 3 * length w.net.arcs)) n a es later i x at in
        let late : t < x.tick = later_tick (moments (length w.net.arcs)) t x.tick (1 + length w.net.arcs + a) (1 + 3 * length w.net.arcs) (omega (arith, a_lt)) y in
        let no : (is_frame_result x.result && (x.tick + latency w a == t)) ≡ false = ap (λ b. is_frame_result x.result && b) (no_eq (x.tick + latency w a) t (omega (arith, late))) ∙ and_false (is_frame_result x.result) in
        ap (λ b. if b then option_and_then (λ f. option_map (λ b. record { arc = b; frame = f }) (next_arc w a f)) (frame_at (h ++ es) a x.ord) else None) no))

    -- what arrived carries what it began with
    relayed_same : filter_map (relayed w (h ++ es) t a) (Arrivals h a) ≡ filter_map (relayed w h t a) (Arrivals h a)
    relayed_same = selected_like (relayed w (h ++ es) t a) (relayed w h t a) (Arrivals h a) (every_placed (λ x. relayed w (h ++ es) t a x ≡ relayed w h t a x) (Arrivals h a) (λ i x at.
        let o = (steady w (number (length w.net.arcs) t (1 + 3 * length w.net.arcs)) h a a_lt legal).ordered in
        let ord : x.ord ≡ i = o.arrival_places i x at in
        let b = there (Begins h a) x.ord (omega (arith, ord, within (Arrivals h a) i x at, o.arrivals_ended, o.ends_begun)) in
        let begins : slice_get (Begins (h ++ es) a) x.ord ≡ slice_get (Begins h a) x.ord
        = ap (λ l. slice_get l x.ord) (filter_map-append (begin_on a) h es) ∙ (at_front (Begins h a) (Begins es a) x.ord b.0 b.1 ∙ sym b.1) in
        ap (λ (y : Option Begin). if is_frame_result x.result && (x.tick + latency w a == t) then option_and_then (λ f. option_map (λ b. record { arc = b; frame = f }) (next_arc w a f)) (option_and_then (λ b. frame_in b.what) y) else None) begins))

    arc_same : filter_map (relayed w (h ++ es) t a) (Arrivals (h ++ es) a) ≡ filter_map (relayed w h t a) (Arrivals h a)
    arc_same =
        ap (filter_map (relayed w (h ++ es) t a)) (filter_map-append (arrive_on a) h es)
        ∙ (filter_map-append (relayed w (h ++ es) t a) (Arrivals h a) (Arrivals es a)
        ∙ (no_append (filter_map (relayed w (h ++ es) t a) (Arrivals h a)) (filter_map (relayed w (h ++ es) t a) (Arrivals es a)) none_relayed ∙ relayed_same))

  pub comings_stay : Comings w (h ++ es) t ≡ Comings w h t
  comings_stay =
      ap (λ (cs : List Coming). cs ++ sends_from w t 0 w.script.sends)
      (flat_map_like (λ a. filter_map (relayed w (h ++ es) t a) (Arrivals (h ++ es) a)) (λ a. filter_map (relayed w h t a) (Arrivals h a)) (below (length w.net.arcs))
      (every_below (λ a. filter_map (relayed w (h ++ es) t a) (Arrivals (h ++ es) a) ≡ filter_map (relayed w h t a) (Arrivals h a)) (length w.net.arcs) arc_same))

-- no entry of the tick stands before its moment or after it
entry_before : (arcs t : ℕ) (e : PlainEvent) → IsBefore arcs (number arcs t (1 + 3 * arcs)) e → IsNoEntry t e
entry_before arcs t (PlainEvent.enter e) (m, lt, at) = λ same. let is : number arcs e.tick (1 + 3 * arcs) ≡ number arcs t (1 + 3 * arcs) = ap (λ x. number arcs x (1 + 3 * arcs)) same in omega (arith, lt, at, is)
entry_before arcs t (PlainEvent.dropped e) (m, lt, at) = λ same. let is : number arcs e.tick (1 + 3 * arcs) ≡ number arcs t (1 + 3 * arcs) = ap (λ x. number arcs x (1 + 3 * arcs)) same in omega (arith, lt, at, is)
entry_before arcs t (PlainEvent.set s a v) before = tt
entry_before arcs t (PlainEvent.begin b) before = tt
entry_before arcs t (PlainEvent.ended e) before = tt
entry_before arcs t (PlainEvent.arrive x) before = tt
entry_before arcs t (PlainEvent.deliver d) before = tt
entry_before arcs t (PlainEvent.active s a v) before = tt
entry_before arcs t (PlainEvent.count a c) before = tt
entry_before arcs t (PlainEvent.end e) before = tt

entry_after : (arcs t n : ℕ) (e : PlainEvent) → IsWithin arcs (suc (number arcs t (1 + 3 * arcs))) n e → IsNoEntry t e
entry_after arcs t n (PlainEvent.enter e) (m, le, lt, at) = λ same. let is : number arcs e.tick (1 + 3 * arcs) ≡ number arcs t (1 + 3 * arcs) = ap (λ x. number arcs x (1 + 3 * arcs)) same in omega (arith, le, at, is)
entry_after arcs t n (PlainEvent.dropped e) (m, le, lt, at) = λ same. let is : number arcs e.tick (1 + 3 * arcs) ≡ number arcs t (1 + 3 * arcs) = ap (λ x. number arcs x (1 + 3 * arcs)) same in omega (arith, le, at, is)
entry_after arcs t n (PlainEvent.set s a v) after = tt
entry_after arcs t n (PlainEvent.begin b) after = tt
entry_after arcs t n (PlainEvent.ended e) after = tt
entry_after arcs t n (PlainEvent.arrive x) after = tt
entry_after arcs t n (PlainEvent.deliver d) after = tt
entry_after arcs t n (PlainEvent.active s a v) after = tt
entry_after arcs t n (PlainEvent.count a c) after = tt
entry_after arcs t n (PlainEvent.end e) after = tt

pub entries_read : (w : Scenario) (n : ℕ) (h : History) (t : ℕ) → LegalUpTo w n h → number (length w.net.arcs) t (1 + 3 * length w.net.arcs) < n → HasEntries w h t
unfolding HappensIn
entries_read w n h t legal lt =
    let o = around w n h t (1 + 3 * length w.net.arcs) Phase.entries (omega arith) (entries_place (length w.net.arcs)) lt legal in
    let same : Comings w h t ≡ Comings w o.front t = ap (λ x. Comings w x t) o.joined ∙ comings_stay w t n o.front (o.events ++ o.rest) o.legal o.follows in
    let are : o.events ≡ EntriesOf w t o.front (Comings w h t) = o.happens ∙ ap (EntriesOf w t o.front) (sym same) in
    record {
      front = o.front;
      rest = o.rest;
      joined = o.joined ∙ (ap (λ es. o.front ++ (es ++ o.rest)) are ∙ sym (append_assoc o.front (EntriesOf w t o.front (Comings w h t)) o.rest));
      legal = o.legal;
      none_before = every_weaker (IsBefore (length w.net.arcs) (number (length w.net.arcs) t (1 + 3 * length w.net.arcs))) (IsNoEntry t) (entry_before (length w.net.arcs) t) o.front
          (placed w (number (length w.net.arcs) t (1 + 3 * length w.net.arcs)) o.front o.legal);
      none_after = every_weaker (IsWithin (length w.net.arcs) (suc (number (length w.net.arcs) t (1 + 3 * length w.net.arcs))) n) (IsNoEntry t) (entry_after (length w.net.arcs) t n) o.rest o.later;
    }

-- the entries up to a place, and the one at it
entry_placed : (w : Scenario) (t : ℕ) (front : History) (cs : List Coming) (j : ℕ) (c : Coming) → slice_get cs j ≡ Some c
    → (before : History) × (after : History) × (front ++ EntriesOf w t front cs ≡ before ++ (entry_event w t before c ∷ after)) × (before ≡ front ++ EntriesOf w t front (take j cs))
entry_placed w t front [] j c at = absurd (cc at)
entry_placed w t front (d ∷ cs) zero c at =
    let same : d ≡ c = cc at in
    (front, EntriesOf w t (front ++ entry_event w t front d ∷ []) cs, ap (λ x. front ++ (entry_event w t front x ∷ EntriesOf w t (front ++ entry_event w t front d ∷ []) cs)) same, sym (append-nil front))
entry_placed w t front (d ∷ cs) (suc j) c at =
    let e = entry_event w t front d in
    let o = entry_placed w t (front ++ e ∷ []) cs j c at in (
      o.0,
      o.1,
      sym (append_assoc front (e ∷ []) (EntriesOf w t (front ++ e ∷ []) cs)) ∙ o.2,
      o.3 ∙ append_assoc front (e ∷ []) (EntriesOf w t (front ++ e ∷ []) (take j cs)),
    )

pub entries_placed : (w : Scenario) (n : ℕ) (h : History) (t : ℕ) → LegalUpTo w n h → number (length w.net.arcs) t (1 + 3 * length w.net.arcs) < n → (j : ℕ) (c : Coming) → slice_get (Comings w h t) j ≡ Some c → HasEntry w h t j c
entries_placed w n h t legal lt j c at =
    let e = entries_read w n h t legal lt in
    let o = entry_placed w t e.front (Comings w h t) j c at in
    (e.front, o.0, o.1 ++ e.rest, e.joined ∙ (ap (λ x. x ++ e.rest) o.2 ∙ append_assoc o.0 (entry_event w t o.0 c ∷ o.1) e.rest), o.3, e.none_before)

-- an entry comes of something
entry_source : (w : Scenario) (t : ℕ) (front : History) (cs : List Coming) (e : Entry) (i : ℕ) (x : PlainEvent) → slice_get (EntriesOf w t front cs) i ≡ Some x → (x ≡ PlainEvent.enter e) ⊎ (x ≡ PlainEvent.dropped e)
    → (j : ℕ) × (c : Coming) × (slice_get cs j ≡ Some c) × (entry_for w t c ≡ e)
entry_source w t front [] e i x at is = absurd (cc at)
entry_source w t front (c ∷ cs) e zero x at is = (0, c, refl, go (length (Waiting front c.arc (row w c.frame).prio t) == capacity w c.arc (row w c.frame).prio) (cc at) is)
  where
    go : (b : Bool) → (if b then PlainEvent.dropped (entry_for w t c) else PlainEvent.enter (entry_for w t c)) ≡ x → (x ≡ PlainEvent.enter e) ⊎ (x ≡ PlainEvent.dropped e) → entry_for w t c ≡ e
    go true at (inl is) = absurd (cc (at ∙ is))
    go true at (inr is) = cc (at ∙ is)
    go false at (inl is) = cc (at ∙ is)
    go false at (inr is) = absurd (cc (at ∙ is))
entry_source w t front (c ∷ cs) e (suc i) x at is = let o = entry_source w t (front ++ entry_event w t front c ∷ []) cs e i x at is in (suc o.0, o.1, o.2, o.3)

-- each entry of the tick comes of something that comes then
pub entries_come : (w : Scenario) (n : ℕ) (h : History) (t : ℕ) → LegalUpTo w n h → number (length w.net.arcs) t (1 + 3 * length w.net.arcs) < n → (e : Entry) → e.tick ≡ t → IsTold h (PlainEvent.enter e) ⊎ IsTold h (PlainEvent.dropped e)
    → (j : ℕ) × (c : Coming) × (slice_get (Comings w h t) j ≡ Some c) × (entry_for w t c ≡ e)
entries_come w n h t legal lt e now told = elim told [ inl (k, x, k_lt, at, is) ↦ go k x (found_at h k x k_lt at) (inl is) | inr (k, x, k_lt, at, is) ↦ go k x (found_at h k x k_lt at) (inr is) ]
  where
    r : HasEntries w h t
    r = entries_read w n h t legal lt

    not_there : (x : PlainEvent) → IsNoEntry t x → (x ≡ PlainEvent.enter e) ⊎ (x ≡ PlainEvent.dropped e) → ⊥
    not_there x no_entry (inl is) = subst (IsNoEntry t) is no_entry now
    not_there x no_entry (inr is) = subst (IsNoEntry t) is no_entry now

    go : (k : ℕ) (x : PlainEvent) → slice_get h k ≡ Some x → (x ≡ PlainEvent.enter e) ⊎ (x ≡ PlainEvent.dropped e) → (j : ℕ) × (c : Coming) × (slice_get (Comings w h t) j ≡ Some c) × (entry_for w t c ≡ e)
    go k x at is = elim (split_at (r.front ++ EntriesOf w t r.front (Comings w h t)) r.rest k x (ap (λ l. slice_get l k) (sym r.joined) ∙ at)) [
      | inr after ↦ absurd (not_there x (every_at (IsNoEntry t) r.rest after.0 x r.none_after after.1) is)
      | inl here ↦ elim (split_at r.front (EntriesOf w t r.front (Comings w h t)) k x here) [
        | inl before ↦ absurd (not_there x (every_at (IsNoEntry t) r.front k x r.none_before before) is)
        | inr found ↦ entry_source w t r.front (Comings w h t) e found.0 x found.1 is
      ]
    ]

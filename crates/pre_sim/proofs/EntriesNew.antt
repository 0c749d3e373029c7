-- Frames that come to rings for the first time: one after another.
use Rattle.std.proofs.Common.{ℕ, suc, ◌≡◌, ◌≢◌, ◌==◌, ◌&&◌, ◌<◌, Bool, true, false, List, [], ◌∷◌, ◌++◌}
use Rattle.std.proofs.Common.{length, refl, sym, ◌∙◌, ap, arith, subst, Some, None, append_assoc}
use Rattle.std.specs.Prelude.{if◌then◌else◌, slice_index_or}
use Rattle.std.specs.List.{cons_option, AllByRecursion as Every}
use Rattle.std.proofs.lemmas.List.{append-nil}
use Rattle.std.proofs.lemmas.List.Elements.{filter_map-append, recursion_from_All}
use Rattle.pre_history.specs.Scenario.{Scenario, row, capacity}
use Rattle.pre_history.specs.History.{PlainEvent, History, Begin}
use Rattle.pre_history.specs.Selected.{RingEntry, what_is, begin_on, entry_on}
use Rattle.pre_history.specs.Queries.{Begins, Entries, Waiting}
use Rattle.pre_history.specs.Comings.{Coming, EntriesOf, entry_event, entry_for}
use Rattle.pre_history.specs.Deliveries.{ComeOnce}
use Rattle.pre_sim.specs.Sends.{IsNew, AreNew}
use Rattle.pre_sim.proofs.Lists.{every-append, every_front}
use Rattle.pre_sim.proofs.NumberTests.{same_number}

-- ---- of a whole moment

every_apart : (c : Coming) (cs : List Coming) → ((j : ℕ) (d : Coming) → j < length cs → c.arc ≡ (slice_index_or cs j d).arc → c.frame ≢ (slice_index_or cs j d).frame)
    → Every (λ (d : Coming). c.arc ≡ d.arc → c.frame ≢ d.frame) cs
every_apart c [] apart = tt
every_apart c (d ∷ cs) apart = (apart 0 c (omega arith), every_apart c cs (λ j e lt. apart (suc j) e (omega (arith, lt))))

pub are_new : (w : Scenario) (h : History) (cs : List Coming) → ComeOnce w h cs → AreNew w h cs
are_new w h [] is = tt
are_new w h (c ∷ cs) is = (
  record {
    known = is.known 0 c (omega arith);
    onroute = is.onroute 0 c (omega arith);
    unbegun = recursion_from_All (λ (b : Begin). what_is b.what c.frame ≡ false) (Begins h c.arc) (is.unbegun 0 c (omega arith));
    uncome = λ p. recursion_from_All (λ (e : RingEntry). e.frame ≢ c.frame) (Entries h c.arc p) (is.uncome 0 c (omega arith) p);
  },
  every_apart c cs (λ j d lt. is.apart 0 (suc j) d (omega arith) (omega (arith, lt))),
  are_new w h cs (record {
    known = λ i d lt. is.known (suc i) d (omega (arith, lt));
    onroute = λ i d lt. is.onroute (suc i) d (omega (arith, lt));
    unbegun = λ i d lt. is.unbegun (suc i) d (omega (arith, lt));
    uncome = λ i d lt. is.uncome (suc i) d (omega (arith, lt));
    apart = λ i j d lt lt'. is.apart (suc i) (suc j) d (omega (arith, lt)) (omega (arith, lt'));
  }),
)

-- ---- after one of them

-- no event of an entry begins anything
none_begins : (w : Scenario) (t a : ℕ) (c : Coming) (b : Bool) → begin_on a (if b then PlainEvent.dropped (entry_for w t c) else PlainEvent.enter (entry_for w t c)) ≡ None
none_begins w t a c true = refl
none_begins w t a c false = refl

-- it is of the frame and the arc that came
its_entry : (w : Scenario) (t a p f : ℕ) (c : Coming) (b : Bool) → (c.arc ≡ a → c.frame ≢ f)
    → Every (λ (e : RingEntry). e.frame ≢ f) (cons_option (entry_on a p (if b then PlainEvent.dropped (entry_for w t c) else PlainEvent.enter (entry_for w t c))) [])
its_entry w t a p f c true other = go (c.arc == a) ((row w c.frame).prio == p) refl
  where
    go : (x y : Bool) → (c.arc == a) ≡ x → Every (λ (e : RingEntry). e.frame ≢ f) (cons_option (if x && y then Some (record { tick = t; frame = c.frame; entered = false }) else None) [])
    go true true is = (other (same_number c.arc a is), tt)
    go true false is = tt
    go false y is = tt
its_entry w t a p f c false other = go (c.arc == a) ((row w c.frame).prio == p) refl
  where
    go : (x y : Bool) → (c.arc == a) ≡ x → Every (λ (e : RingEntry). e.frame ≢ f) (cons_option (if x && y then Some (record { tick = t; frame = c.frame; entered = true }) else None) [])
    go true true is = (other (same_number c.arc a is), tt)
    go true false is = tt
    go false y is = tt

new_after : (w : Scenario) (t : ℕ) (h : History) (c d : Coming) → (c.arc ≡ d.arc → c.frame ≢ d.frame) → IsNew w h d → IsNew w (h ++ entry_event w t h c ∷ []) d
new_after w t h c d other is =
    let full = length (Waiting h c.arc (row w c.frame).prio t) == capacity w c.arc (row w c.frame).prio in
    let e = entry_event w t h c in
    record {
      known = is.known;
      onroute = is.onroute;
      unbegun = subst (Every (λ (b : Begin). what_is b.what d.frame ≡ false))
          (sym (filter_map-append (begin_on d.arc) h (e ∷ []) ∙ (ap (λ o. Begins h d.arc ++ cons_option o []) (none_begins w t d.arc c full) ∙ append-nil (Begins h d.arc)))) is.unbegun;
      uncome = λ p. subst (Every (λ (x : RingEntry). x.frame ≢ d.frame)) (sym (filter_map-append (entry_on d.arc p) h (e ∷ [])))
          (every-append (λ (x : RingEntry). x.frame ≢ d.frame) (Entries h d.arc p) (Entries (e ∷ []) d.arc p) (is.uncome p) (its_entry w t d.arc p d.frame c full other));
    }

all_new_after : (w : Scenario) (t : ℕ) (h : History) (c : Coming) (ds : List Coming) → Every (λ (d : Coming). c.arc ≡ d.arc → c.frame ≢ d.frame) ds → AreNew w h ds
    → AreNew w (h ++ entry_event w t h c ∷ []) ds
all_new_after w t h c [] other all = tt
all_new_after w t h c (d ∷ ds) (here, more) (is, apart, rest) = (new_after w t h c d here is, apart, all_new_after w t h c ds more rest)

-- ---- some after others

pub new_front : (w : Scenario) (h : History) (cs ds : List Coming) → AreNew w h (cs ++ ds) → AreNew w h cs
new_front w h [] ds all = tt
new_front w h (c ∷ cs) ds (is, apart, rest) = (is, every_front (λ d. c.arc ≡ d.arc → c.frame ≢ d.frame) cs ds apart, new_front w h cs ds rest)

pub new_rest : (w : Scenario) (t : ℕ) (h : History) (cs ds : List Coming) → AreNew w h (cs ++ ds) → AreNew w (h ++ EntriesOf w t h cs) ds
new_rest w t h [] ds all = subst (λ g. AreNew w g ds) (sym (append-nil h)) all
new_rest w t h (c ∷ cs) ds (is, apart, rest) =
    let e = entry_event w t h c in
    subst (λ g. AreNew w g ds) (append_assoc h (e ∷ []) (EntriesOf w t (h ++ e ∷ []) cs)) (new_rest w t (h ++ e ∷ []) cs ds (all_new_after w t h c (cs ++ ds) apart rest))

-- what becomes of some and then of others
pub entries_then : (w : Scenario) (t : ℕ) (h : History) (cs ds : List Coming) → EntriesOf w t h (cs ++ ds) ≡ EntriesOf w t h cs ++ EntriesOf w t (h ++ EntriesOf w t h cs) ds
entries_then w t h [] ds = ap (λ g. EntriesOf w t g ds) (sym (append-nil h))
entries_then w t h (c ∷ cs) ds =
    let e = entry_event w t h c in
    ap (λ es. e ∷ es) (entries_then w t (h ++ e ∷ []) cs ds ∙ ap (λ g. EntriesOf w t (h ++ e ∷ []) cs ++ EntriesOf w t g ds) (append_assoc h (e ∷ []) (EntriesOf w t (h ++ e ∷ []) cs)))

-- Events that no query at a tick reads leave what waits as it is.
use Rattle.std.proofs.Common.{ℕ, ◌≡◌, ◌==◌, ◌&&◌, ◌||◌, nat_lt, nat_le, not, Bool, true, false, List, [], ◌∷◌, ◌++◌, refl, ◌∙◌, ap, Some, None, filter, map}
use Rattle.std.specs.Prelude.{if◌then◌else◌}
use Rattle.std.specs.List.{list_any, cons_option}
use Rattle.std.proofs.Math.Path.{fun_ext}
use Rattle.std.proofs.lemmas.List.{append-nil}
use Rattle.std.proofs.lemmas.List.Folds.{list_any-append}
use Rattle.std.proofs.lemmas.List.Elements.{filter_map-append, filter-append}
use Rattle.pre_history.specs.History.{PlainEvent, History, Begin}
use Rattle.pre_history.specs.Selected.{RingEntry, begin_on, entry_on, what_is}
use Rattle.pre_history.specs.Queries.{Begins, Entries, begun_before, Waiting}
use Rattle.pre_history.proofs.IsLater.{AllLater}
use Rattle.pre_history.proofs.NatTests.{not_by, not_before}

skipped : {X : Type 0} (b : Bool) (x : X) (test : X → Bool) (xs : List X) → test x ≡ false → filter test xs ≡ [] → filter test (cons_option (if b then Some x else None) xs) ≡ []
skipped true x test xs no' rest = rw (no', rest)
skipped false x test xs no' rest = rest

unseen : {X : Type 0} (b : Bool) (x : X) (test : X → Bool) (xs : List X) → test x ≡ false → list_any test xs ≡ false → list_any test (cons_option (if b then Some x else None) xs) ≡ false
unseen true x test xs no' rest = rw (no', rest)
unseen false x test xs no' rest = rest

-- whether the frame's first octet began before the tick, by one event
first_octet : ℕ → ℕ → Begin → Bool
first_octet t f b = nat_lt b.tick t && what_is b.what f && (b.from == 0)

none_begun : (es : List PlainEvent) (a t f : ℕ) → AllLater t es → list_any (first_octet t f) (Begins es a) ≡ false
unfolding first_octet
none_begun [] a t f later = refl
none_begun (PlainEvent.begin b ∷ es) a t f (is, later) = unseen (b.arc == a) b (λ c. nat_lt c.tick t && what_is c.what f && (c.from == 0)) (Begins es a) (rw (not_before b.tick t is) refl) (none_begun es a t f later)
none_begun (e ∷ es) a t f (is, later) = none_begun es a t f later

begun_later : (h es : History) (a t f : ℕ) → AllLater t es → begun_before (h ++ es) a t f ≡ begun_before h a t f
unfolding first_octet
begun_later h es a t f later =
    ap (list_any (first_octet t f)) (filter_map-append (begin_on a) h es)
    ∙ (list_any-append (first_octet t f) (Begins h a) (Begins es a) ∙ (ap (λ x. list_any (first_octet t f) (Begins h a) || x) (none_begun es a t f later) ∙ or_false (list_any (first_octet t f) (Begins h a))))
  where
    or_false : (b : Bool) → (b || false) ≡ b
    or_false true = refl
    or_false false = refl

-- the test of Waiting, whatever had begun
waits : ℕ → (ℕ → Bool) → RingEntry → Bool
waits t begun e = e.entered && nat_le e.tick t && not (begun e.frame)

none_entered : (es : List PlainEvent) (a p t : ℕ) (begun : ℕ → Bool) → AllLater t es → filter (waits t begun) (Entries es a p) ≡ []
unfolding waits
none_entered [] a p t begun later = refl
none_entered (PlainEvent.enter e ∷ es) a p t begun (is, later) =
    skipped ((e.arc == a) && (e.prio == p)) (record { tick = e.tick; frame = e.frame; entered = true }) (waits t begun) (Entries es a p) (rw (not_by e.tick t is) refl) (none_entered es a p t begun later)
none_entered (PlainEvent.dropped e ∷ es) a p t begun (is, later) =
    skipped ((e.arc == a) && (e.prio == p)) (record { tick = e.tick; frame = e.frame; entered = false }) (waits t begun) (Entries es a p) refl (none_entered es a p t begun later)
none_entered (e ∷ es) a p t begun (is, later) = none_entered es a p t begun later

pub waiting_later : (h es : History) (a p t : ℕ) → AllLater t es → Waiting (h ++ es) a p t ≡ Waiting h a p t
unfolding waits Waiting
waiting_later h es a p t later =
    let begun : begun_before (h ++ es) a t ≡ begun_before h a t = fun_ext (λ f. begun_later h es a t f later) in
    let entries : Entries (h ++ es) a p ≡ Entries h a p ++ Entries es a p = filter_map-append (entry_on a p) h es in
    ap (λ b. map (λ (e : RingEntry). e.frame) (filter (waits t b) (Entries (h ++ es) a p))) begun
    ∙ ap (map (λ (e : RingEntry). e.frame))
    (ap (filter (waits t (begun_before h a t))) entries
    ∙ (filter-append (waits t (begun_before h a t)) (Entries h a p) (Entries es a p)
    ∙ (ap (λ xs. filter (waits t (begun_before h a t)) (Entries h a p) ++ xs) (none_entered es a p t (begun_before h a t) later) ∙ append-nil (filter (waits t (begun_before h a t)) (Entries h a p)))))

-- Where a ring has room for all that comes to it at a tick, all of it enters.
use Rattle.std.proofs.Common.{ℕ, suc, Bool, true, false, not, ◌==◌, ◌&&◌, nat_le, nat_lt, ◌≡◌, ◌≢◌, ◌+◌, ◌<◌, ◌≤◌}
use Rattle.std.proofs.Common.{List, [], ◌∷◌, ◌++◌, length, filter, refl, sym, ◌∙◌, ap, inl, inr, arith, map, subst, Option, Some, None}
use Rattle.std.proofs.Common.{length-append}
use Rattle.std.specs.Prelude.{if◌then◌else◌}
use Rattle.std.specs.Option.{option_map}
use Rattle.std.specs.List.{list_any, cons_option}
use Rattle.std.proofs.lemmas.Bool.{and_parts, cases_Bool}
use Rattle.std.proofs.lemmas.Bool.Decides.{nat_tests}
use Rattle.std.proofs.lemmas.List.{append-nil, length-map}
use Rattle.std.proofs.lemmas.List.Elements.{filter-append, filter_map-append}
use Rattle.pre_history.specs.Scenario.{Scenario, row, capacity}
use Rattle.pre_history.specs.History.{PlainEvent, History, Begin}
use Rattle.pre_history.specs.Selected.{RingEntry, begin_on, entry_on, what_is}
use Rattle.pre_history.specs.Queries.{Begins, Entries, Waiting, begun_before}
use Rattle.pre_history.specs.Comings.{Coming, EntriesOf, entry_event, entry_for}
use Rattle.pre_delay.proofs.Apart.{as_comer, comers}

abbrev waits : History → ℕ → ℕ → RingEntry → Bool
waits h a t e = e.entered && nat_le e.tick t && not (begun_before h a t e.frame)

filter-length : {X : Type 0} (p : X → Bool) (xs : List X) → length (filter p xs) ≤ length xs
filter-length p [] = omega arith
filter-length p (x ∷ xs) =
    let rest = filter-length p xs in
    elim (p x) as (λ b. length (if b then x ∷ filter p xs else filter p xs) ≤ suc (length xs)) [
      | true ↦ omega (arith, rest)
      | false ↦ omega (arith, rest)
    ]

waiting_long : (h : History) (a p t : ℕ) → length (Waiting h a p t) ≡ length (filter (waits h a t) (Entries h a p))
unfolding Waiting
waiting_long h a p t = length-map (filter (waits h a t) (Entries h a p)) (λ (e : RingEntry). e.frame)

module _ (w : Scenario) (t : ℕ) where
  no_begin : (a : ℕ) (c : Coming) (b : Bool) → begin_on a (if b then PlainEvent.dropped (entry_for w t c) else PlainEvent.enter (entry_for w t c)) ≡ None
  no_begin a c true = refl
  no_begin a c false = refl

  same_begins : (g : History) (a : ℕ) (c : Coming) → Begins (g ++ entry_event w t g c ∷ []) a ≡ Begins g a
  same_begins g a c =
      filter_map-append (begin_on a) g (entry_event w t g c ∷ [])
      ∙ (ap (λ o. Begins g a ++ cons_option o []) (no_begin a c (length (Waiting g c.arc (row w c.frame).prio t) == capacity w c.arc (row w c.frame).prio)) ∙ append-nil (Begins g a))

  same_waits : (g : History) (a : ℕ) (c : Coming) (rs : List RingEntry) → filter (waits (g ++ entry_event w t g c ∷ []) a t) rs ≡ filter (waits g a t) rs
  same_waits g a c [] = refl
  same_waits g a c (r ∷ rs) =
      let rest = same_waits g a c rs in
      let test : waits (g ++ entry_event w t g c ∷ []) a t r ≡ waits g a t r = ap (λ bs. r.entered && nat_le r.tick t && not (begun_in bs r.frame)) (same_begins g a c) in
      ap (λ b. if b then r ∷ filter (waits (g ++ entry_event w t g c ∷ []) a t) rs else filter (waits (g ++ entry_event w t g c ∷ []) a t) rs) test
      ∙ ap (λ ys. if waits g a t r then r ∷ ys else ys) rest
    where
      begun_in : List Begin → ℕ → Bool
      begun_in bs f = list_any (λ b. nat_lt b.tick t && what_is b.what f && (b.from == 0)) bs

  -- one that comes adds itself at most to what waits
  one_more : (g : History) (a p : ℕ) (c : Coming) → length (Waiting (g ++ entry_event w t g c ∷ []) a p t) ≤ length (Waiting g a p t) + length (cons_option (entry_on a p (entry_event w t g c)) [])
  one_more g a p c =
      let g' = g ++ entry_event w t g c ∷ [] in
      let new = cons_option (entry_on a p (entry_event w t g c)) [] in
      let left = waiting_long g' a p t in
      let right = waiting_long g a p t in
      let list : filter (waits g' a t) (Entries g' a p) ≡ filter (waits g a t) (Entries g a p) ++ filter (waits g a t) new =
      same_waits g a c (Entries g' a p) ∙ (ap (filter (waits g a t)) (filter_map-append (entry_on a p) g (entry_event w t g c ∷ [])) ∙ filter-append (waits g a t) (Entries g a p) new) in
      let long = ap length list ∙ length-append (filter (waits g a t) (Entries g a p)) (filter (waits g a t) new) in
      let few = filter-length (waits g a t) new in
      omega (arith, left, right, long, few)

  other_no : (m n : ℕ) → m ≢ n → (m == n) ≡ false
  other_no m n no' = grind (arith, nat_tests)

  cons_long : {X : Type 0} (o : Option X) (xs : List X) → length (cons_option o xs) ≡ length (cons_option o []) + length xs
  cons_long None xs = omega arith
  cons_long (Some x) xs = omega arith

  module _ (a p : ℕ) where
    -- all that come to the ring have room in it
    abbrev pub HasRoom : History → List Coming → Type 0
    HasRoom g cs = 0 < length (comers w t a p cs) → length (Waiting g a p t) + length (comers w t a p cs) ≤ capacity w a p

    abbrev as_entry : Coming → Bool → RingEntry
    as_entry c b = record { tick = t; frame = c.frame; entered = b }

    abbrev event_of : Coming → Bool → PlainEvent
    event_of c full = if full then PlainEvent.dropped (entry_for w t c) else PlainEvent.enter (entry_for w t c)

    elsewhere : (c : Coming) (full : Bool) → ((c.arc == a) && ((row w c.frame).prio == p)) ≡ false → entry_on a p (event_of c full) ≡ as_comer w t a p c
    elsewhere c true off = ap (λ b. if b then Some (as_entry c false) else None) off ∙ sym (ap (λ b. if b then Some (as_entry c true) else None) off)
    elsewhere c false off = refl

    -- an event of what comes is its entry
    enters_so : (g : History) (c : Coming) (cs : List Coming) → HasRoom g (c ∷ cs) → entry_on a p (entry_event w t g c) ≡ as_comer w t a p c
    enters_so g c cs room =
        elim (cases_Bool ((c.arc == a) && ((row w c.frame).prio == p))) [
          | inr off ↦ elsewhere c (length (Waiting g c.arc (row w c.frame).prio t) == capacity w c.arc (row w c.frame).prio) off
          | inl on ↦
              let here : length (comers w t a p (c ∷ cs)) ≡ suc (length (comers w t a p cs)) = ap (λ b. length (cons_option (if b then Some (as_entry c true) else None) (comers w t a p cs))) on in
              let fits = room (omega (arith, here)) in
              ap (λ b. entry_on a p (event_of c b)) (other_no (length (Waiting g c.arc (row w c.frame).prio t)) (capacity w c.arc (row w c.frame).prio) (λ e.
              let full = moved g c on e in absurd (omega (arith, full, here, fits))))
        ]
      where
        moved : (g : History) (c : Coming) → ((c.arc == a) && ((row w c.frame).prio == p)) ≡ true → length (Waiting g c.arc (row w c.frame).prio t) ≡ capacity w c.arc (row w c.frame).prio → length (Waiting g a p t) ≡ capacity w a p
        moved g c on e =
            let parts = and_parts (c.arc == a) ((row w c.frame).prio == p) on in
            let arc_is : c.arc ≡ a = grind (arith, nat_tests, parts.0) in
            let prio_is : (row w c.frame).prio ≡ p = grind (arith, nat_tests, parts.1) in
            subst (λ q. length (Waiting g a q t) ≡ capacity w a q) prio_is (subst (λ x. length (Waiting g x (row w c.frame).prio t) ≡ capacity w x (row w c.frame).prio) arc_is e)

    -- All of it enters.
    pub all_enter : (g : History) (cs : List Coming) → HasRoom g cs → Entries (EntriesOf w t g cs) a p ≡ comers w t a p cs
    all_enter g [] room = refl
    all_enter g (c ∷ cs) room =
        let rest = all_enter (g ++ entry_event w t g c ∷ []) cs (more g c cs room) in
        ap (λ o. cons_option o (Entries (EntriesOf w t (g ++ entry_event w t g c ∷ []) cs) a p)) (enters_so g c cs room) ∙ ap (λ rs. cons_option (as_comer w t a p c) rs) rest
      where
        more : (g : History) (c : Coming) (cs : List Coming) → HasRoom g (c ∷ cs) → HasRoom (g ++ entry_event w t g c ∷ []) cs
        more g c cs room some =
            let long = cons_long (as_comer w t a p c) (comers w t a p cs) in
            let fits = room (omega (arith, long, some)) in
            let one = one_more g a p c in
            let same = ap (λ o. length (cons_option o [])) (enters_so g c cs room) in
            omega (arith, long, fits, one, same)

    -- What comes to the ring is told of it, whether it enters or is dropped.
    abbrev pub entering : RingEntry → RingEntry
    entering r = record { tick = r.tick; frame = r.frame; entered = true }

    told_one : (c : Coming) (full : Bool) → option_map entering (entry_on a p (event_of c full)) ≡ as_comer w t a p c
    told_one c full = go full ((c.arc == a) && ((row w c.frame).prio == p)) refl
      where
        go : (full b : Bool) → ((c.arc == a) && ((row w c.frame).prio == p)) ≡ b → option_map entering (entry_on a p (event_of c full)) ≡ as_comer w t a p c
        go true true on = ap (λ b. option_map entering (if b then Some (as_entry c false) else None)) on ∙ sym (ap (λ b. if b then Some (as_entry c true) else None) on)
        go true false off = ap (λ b. option_map entering (if b then Some (as_entry c false) else None)) off ∙ sym (ap (λ b. if b then Some (as_entry c true) else None) off)
        go false true on = ap (λ b. option_map entering (if b then Some (as_entry c true) else None)) on ∙ sym (ap (λ b. if b then Some (as_entry c true) else None) on)
        go false false off = ap (λ b. option_map entering (if b then Some (as_entry c true) else None)) off ∙ sym (ap (λ b. if b then Some (as_entry c true) else None) off)

    map_cons : (o : Option RingEntry) (rs : List RingEntry) → map entering (cons_option o rs) ≡ cons_option (option_map entering o) (map entering rs)
    map_cons None rs = refl
    map_cons (Some r) rs = refl

    pub told_entries : (g : History) (cs : List Coming) → map entering (Entries (EntriesOf w t g cs) a p) ≡ comers w t a p cs
    told_entries g [] = refl
    told_entries g (c ∷ cs) =
        map_cons (entry_on a p (entry_event w t g c)) (Entries (EntriesOf w t (g ++ entry_event w t g c ∷ []) cs) a p)
        ∙ (ap (λ o. cons_option o (map entering (Entries (EntriesOf w t (g ++ entry_event w t g c ∷ []) cs) a p))) (told_one c (length (Waiting g c.arc (row w c.frame).prio t) == capacity w c.arc (row w c.frame).prio))
        ∙ ap (λ rs. cons_option (as_comer w t a p c) rs) (told_entries (g ++ entry_event w t g c ∷ []) cs))

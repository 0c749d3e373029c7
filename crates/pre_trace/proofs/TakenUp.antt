-- One more event in the figures of a history.
use Rattle.std.proofs.Common.{ℕ, suc, ◌≡◌, ◌≢◌, ◌==◌, ◌||◌, ◌+◌, ◌-◌, ◌<◌, ◌≤◌, ◌^◌, nat_lt, Bool}
use Rattle.std.proofs.Common.{true, false, List, [], ◌∷◌, ◌++◌, length, map, filter, filter_map, fold, take, min, max}
use Rattle.std.proofs.Common.{replicate, refl, sym, ◌∙◌, ap, arith, subst, None, if◌then◌else◌, length-append, All, AllPairs}
use Rattle.std.specs.Prelude.{slice_set, slice_index_or, ◌^◌}
use Rattle.std.proofs.Math.Seq.{get_or-append_seam, take-suc-set}
use Rattle.std.proofs.lemmas.Bool.Decides.{nat_tests}
use Rattle.std.proofs.lemmas.List.Elements.{filter-append, filter_map-append}
use Rattle.std.proofs.lemmas.List.{get_or_append_left, get_or-set_other, get_or-set_same, length-map, length-set, length-take, length-take-le, map-append, replicate-append-replicate}
use Rattle.std.proofs.lemmas.List.{take-append-le, take_all}
use Rattle.std.proofs.lemmas.Option.{slice_get-get_or}
use Rattle.std.specs.List.{IsDistinct, list_any, AllByRecursion as Every}
use Rattle.std.proofs.lemmas.List.Sums.{count_by-le-length, fold-append, length-filter}
use Rattle.std.proofs.lemmas.Map.Steps.{length-le_from_distinct_below}
use Rattle.pre_script.specs.declared.scripts.Script.{Script}
use Rattle.pre_history.specs.Scenario.{no_send}
use Rattle.pre_history.specs.History.{Delivery, PlainEvent, History}
use Rattle.pre_history.specs.Selected.{delivery_of}
use Rattle.pre_history.specs.Queries.{Deliveries}
use Rattle.pre_trace.specs.declared.tallies.Closing.{Closing}
use Rattle.pre_trace.specs.declared.tallies.Closing.TheVariants as closing
use Rattle.pre_trace.specs.declared.tallies.Tally.{Tally}
use Rattle.pre_trace.specs.Figures.{ComeOnce, delay, is_closing, most_closings, of_stream, send_of}
use Rattle.pre_trace.specs.Sums.{AreTallies, Sums, closed, more, no_tally, noted, noted_send, plain_closing, tally_of}

pub replicate_push : {X : Type 0} (n : ℕ) (x : X) → replicate n x ++ x ∷ [] ≡ replicate (n + 1) x
replicate_push n x = replicate-append-replicate n 1 x

no_append : {X : Type 0} (xs : List X) → xs ++ [] ≡ xs
no_append [] = refl
no_append (x ∷ xs) = ap (λ l. x ∷ l) (no_append xs)

same_deliveries : (h : History) (e : PlainEvent) → delivery_of e ≡ None → Deliveries (h ++ e ∷ []) ≡ Deliveries h
same_deliveries h e none =
    filter_map-append delivery_of h (e ∷ []) ∙ (ap (λ l. Deliveries h ++ l) (only none) ∙ no_append (Deliveries h))
  where
    only : delivery_of e ≡ None → filter_map delivery_of (e ∷ []) ≡ []
    only is = rw is refl

abbrev the_tally : Script → List Delivery → ℕ → Tally
the_tally script ds i = record { delivered = length (filter (of_stream script i) ds); greatest = fold max 0 (map (delay script) (filter (of_stream script i) ds)) }

tallies_keep : (script : Script) (tallies : List Tally) (h : History) (e : PlainEvent) → delivery_of e ≡ None → AreTallies script tallies h → AreTallies script tallies (h ++ e ∷ [])
tallies_keep script tallies h e none holds = λ once i lt.
    let same = same_deliveries h e none in
    let before : ComeOnce script h = record {
      known = subst (λ (ds : List Delivery). All (λ d. d.frame < length script.sends) ds) same once.known;
      after = subst (λ (ds : List Delivery). All (λ d. (send_of script d.frame).send.tick.0 ≤ d.tick) ds) same once.after;
      once = subst (λ (ds : List Delivery). AllPairs (λ d e. d.frame ≢ e.frame) ds) same once.once;
    } in
    holds before i lt ∙ ap (λ (ds : List Delivery). the_tally script ds i) (sym same)

same_closings : (h : History) (e : PlainEvent) → is_closing e ≡ false → filter is_closing (h ++ e ∷ []) ≡ filter is_closing h
same_closings h e no' = filter-append is_closing h (e ∷ []) ∙ (ap (λ l. filter is_closing h ++ l) (only no') ∙ no_append (filter is_closing h))
  where
    only : is_closing e ≡ false → filter is_closing (e ∷ []) ≡ []
    only is = rw is refl

more_closings : (h : History) (e : PlainEvent) → is_closing e ≡ true → filter is_closing (h ++ e ∷ []) ≡ filter is_closing h ++ e ∷ []
more_closings h e yes' = filter-append is_closing h (e ∷ []) ∙ ap (λ l. filter is_closing h ++ l) (only yes')
  where
    only : is_closing e ≡ true → filter is_closing (e ∷ []) ≡ e ∷ []
    only is = rw is refl

-- nothing of it is kept
pub other_kept : (script : Script) (tallies : List Tally) (slots : List Closing) (kept : ℕ) (h : History) (e : PlainEvent) → delivery_of e ≡ None → is_closing e ≡ false
    → Sums script tallies slots kept h → Sums script tallies slots kept (h ++ e ∷ [])
other_kept script tallies slots kept h e none no' holds = record {
  tallied = tallies_keep script tallies h e none holds.tallied;
  closings = holds.closings ∙ ap (take most_closings) (sym (same_closings h e no'));
  room = holds.room;
  few = holds.few;
  sends = holds.sends;
}

no_delivery : (c : Closing) → delivery_of (plain_closing c) ≡ None
no_delivery (closing.Count arc err smd ok rx tx) = refl
no_delivery (closing.Finish until sent delivered lost) = refl

is_end : (c : Closing) → is_closing (plain_closing c) ≡ true
is_end (closing.Count arc err smd ok rx tx) = refl
is_end (closing.Finish until sent delivered lost) = refl

-- an event of the end is kept, where there is room
pub closing_kept : (script : Script) (tallies : List Tally) (slots new : List Closing) (kept kept' : ℕ) (h : History) (c : Closing) → (new, kept') ≡ closed slots kept c
    → Sums script tallies slots kept h → Sums script tallies new kept' (h ++ plain_closing c ∷ [])
closing_kept script tallies slots new kept kept' h c is holds = go (nat_lt kept (length slots)) refl is
  where
    front : length (take most_closings (filter is_closing h)) ≡ kept
    front = ap length (sym holds.closings) ∙ (length-map (take kept slots) plain_closing ∙ length-take-le kept slots (omega (arith, holds.room, holds.few)))

    go : (b : Bool) → nat_lt kept (length slots) ≡ b → ◌≡◌ {A = List Closing × ℕ} (new, kept') (if b then (slice_set slots kept c, kept + 1) else (slots, kept))
        → Sums script tallies new kept' (h ++ plain_closing c ∷ [])
    go true test same =
        let lists : new ≡ slice_set slots kept c = ap (λ p. p.0) same in
        let next : kept + 1 ≡ suc kept = omega arith in
        let counts : kept' ≡ suc kept = ap (λ p. p.1) same ∙ next in
        let lt : kept < length slots = grind (arith, nat_tests) in
        let few : length (filter is_closing h) < most_closings = omega (arith, length-take most_closings (filter is_closing h), front, lt, holds.room) in
        let whole : take most_closings (filter is_closing h) ≡ filter is_closing h = take_all most_closings (filter is_closing h) (omega (arith, few)) in
        let more' : take most_closings (filter is_closing h ++ plain_closing c ∷ []) ≡ filter is_closing h ++ plain_closing c ∷ []
        = take_all most_closings (filter is_closing h ++ plain_closing c ∷ []) (omega (arith, few, length-append (filter is_closing h) (plain_closing c ∷ []))) in
        let written : take kept' new ≡ take kept slots ++ c ∷ [] = (λ i. take (counts i) (lists i)) ∙ take-suc-set slots kept c lt in
        record {
          tallied = tallies_keep script tallies h (plain_closing c) (no_delivery c) holds.tallied;
          closings = ap (map plain_closing) written ∙ (map-append plain_closing (take kept slots) (c ∷ [])
              ∙ (ap (λ l. l ++ plain_closing c ∷ []) (holds.closings ∙ whole)
              ∙ (sym more' ∙ ap (take most_closings) (sym (more_closings h (plain_closing c) (is_end c))))));
          room = ap length lists ∙ (length-set slots kept c ∙ holds.room);
          few = omega (arith, counts, lt, holds.room);
          sends = holds.sends;
        }
    go false test same =
        let lists : new ≡ slots = ap (λ p. p.0) same in
        let counts : kept' ≡ kept = ap (λ p. p.1) same in
        let ge : length slots ≤ kept = grind (arith, nat_tests) in
        let many : most_closings ≤ length (filter is_closing h) = omega (arith, length-take most_closings (filter is_closing h), front, ge, holds.room, holds.few) in
        record {
          tallied = tallies_keep script tallies h (plain_closing c) (no_delivery c) holds.tallied;
          closings = (λ i. map plain_closing (take (counts i) (lists i))) ∙ (holds.closings
              ∙ (sym (take-append-le most_closings (filter is_closing h) (plain_closing c ∷ []) many) ∙ ap (take most_closings) (sym (more_closings h (plain_closing c) (is_end c)))));
          room = ap length lists ∙ holds.room;
          few = omega (arith, counts, holds.few);
          sends = holds.sends;
        }

same_add : (script : Script) (ds : List Delivery) (d : Delivery) (i : ℕ) → of_stream script i d ≡ false → the_tally script (ds ++ d ∷ []) i ≡ the_tally script ds i
same_add script ds d i other =
    let one : filter (of_stream script i) (d ∷ []) ≡ [] = rw other refl in
    let kept : filter (of_stream script i) (ds ++ d ∷ []) ≡ filter (of_stream script i) ds = filter-append (of_stream script i) ds (d ∷ [])
    ∙ (ap (λ l. filter (of_stream script i) ds ++ l) one ∙ no_append (filter (of_stream script i) ds)) in
    ap (λ (l : List Delivery). record { delivered = length l; greatest = fold max 0 (map (delay script) l) }) kept

more_add : (script : Script) (ds : List Delivery) (d : Delivery) (i : ℕ) → of_stream script i d ≡ true → length (filter (of_stream script i) ds) + 1 ≤ 2 ^ 64 - 1
    → the_tally script (ds ++ d ∷ []) i ≡ more (the_tally script ds i) (delay script d)
more_add script ds d i here few =
    let F = filter (of_stream script i) ds in
    let one : filter (of_stream script i) (d ∷ []) ≡ d ∷ [] = rw here refl in
    let kept : filter (of_stream script i) (ds ++ d ∷ []) ≡ filter (of_stream script i) ds ++ d ∷ []
    = filter-append (of_stream script i) ds (d ∷ []) ∙ ap (λ l. filter (of_stream script i) ds ++ l) one in
    let count : length (filter (of_stream script i) (ds ++ d ∷ [])) ≡ min (length (filter (of_stream script i) ds) + 1) (2 ^ 64 - 1)
    = omega (arith, ap length kept, length-append (filter (of_stream script i) ds) (d ∷ []), few) in
    let great : fold max 0 (map (delay script) (filter (of_stream script i) (ds ++ d ∷ []))) ≡ max (fold max 0 (map (delay script) (filter (of_stream script i) ds))) (delay script d)
    = ap (λ l. fold max 0 (map (delay script) l)) kept ∙ (ap (fold max 0) (map-append (delay script) (filter (of_stream script i) ds) (d ∷ []))
    ∙ fold-append max 0 (map (delay script) (filter (of_stream script i) ds)) (delay script d ∷ [])) in
    (λ k. record { delivered = count k; greatest = great k })

-- ---- deliveries of different sends are few: no two name one of the script's

differs : (m n : ℕ) → m ≢ n → (m == n) ≡ false
differs m n ne = grind (arith, nat_tests)

others : (d : Delivery) (ds : List Delivery) → All (λ e. d.frame ≢ e.frame) ds → Every (λ y. (d.frame == y) ≡ false) (map (λ e. e.frame) ds)
others d [] all = tt
others d (e ∷ ds) all = (differs d.frame e.frame (all 0 e (omega arith)), others d ds (λ k x lt. all (suc k) x (omega (arith, lt))))

distinct : (ds : List Delivery) → AllPairs (λ d e. d.frame ≢ e.frame) ds → IsDistinct ◌==◌ (map (λ e. e.frame) ds)
unfolding IsDistinct
distinct [] all = tt
distinct (d ∷ ds) all = (others d ds (λ j x lt. all 0 (suc j) x (omega arith) (omega (arith, lt))), distinct ds (λ i j x lt lt'. all (suc i) (suc j) x (omega (arith, lt)) (omega (arith, lt'))))

below : (ds : List Delivery) (n : ℕ) → All (λ d. d.frame < n) ds → (q : ℕ) → list_any (λ x. q == x) (map (λ e. e.frame) ds) ≡ true → q < n
below [] n all q e = absurd (cc e)
below (d ∷ ds) n all q e = go (below ds n (λ k x lt. all (suc k) x (omega (arith, lt))) q) (q == d.frame) refl e
  where
    go : (list_any (λ x. q == x) (map (λ e. e.frame) ds) ≡ true → q < n) → (b : Bool) → (q == d.frame) ≡ b → (b || list_any (λ x. q == x) (map (λ e. e.frame) ds)) ≡ true → q < n
    go rest true is e = let same : q ≡ d.frame = grind (arith, nat_tests) in let lt : d.frame < n = all 0 d (omega arith) in omega (arith, same, lt)
    go rest false is e = rest e

few_deliveries : (script : Script) (ds : List Delivery) (d : Delivery) (i : ℕ) → length script.sends < 2 ^ 64
    → All (λ d. d.frame < length script.sends) (ds ++ d ∷ []) → AllPairs (λ d e. d.frame ≢ e.frame) (ds ++ d ∷ []) → length (filter (of_stream script i) ds) + 1 ≤ 2 ^ 64 - 1
few_deliveries script ds d i room known once =
    let few : length (map (λ (e : Delivery). e.frame) (ds ++ d ∷ [])) ≤ length script.sends
    = length-le_from_distinct_below (map (λ (e : Delivery). e.frame) (ds ++ d ∷ [])) (length script.sends) (distinct (ds ++ d ∷ []) once) (below (ds ++ d ∷ []) (length script.sends) known) in
    let long = length-map (ds ++ d ∷ []) (λ (e : Delivery). e.frame) in
    let part : length (filter (of_stream script i) ds) ≤ length ds = omega (arith, length-filter (of_stream script i) ds, count_by-le-length (of_stream script i) ds) in
    omega (arith, few, long, length-append ds (d ∷ []), part, room)

all_front : {X : Type 0} (P : X → Type 0) (xs ys : List X) → All P (xs ++ ys) → All P xs
all_front P xs ys all = λ i d lt. subst P (get_or_append_left xs ys d i lt) (all i d (omega (arith, lt, length-append xs ys)))

pairs_front : {X : Type 0} (R : X → X → Type 0) (xs ys : List X) → AllPairs R (xs ++ ys) → AllPairs R xs
pairs_front R xs ys all = λ i j d lt lt'. subst (λ x. R x (slice_index_or xs j d)) (get_or_append_left xs ys d i (omega (arith, lt, lt')))
    (subst (λ y. R (slice_index_or (xs ++ ys) i d) y) (get_or_append_left xs ys d j lt') (all i j d lt (omega (arith, lt', length-append xs ys))))

-- a delivery is counted
pub delivery_kept : (script : Script) (tallies new : List Tally) (slots : List Closing) (kept : ℕ) (h : History) (d : Delivery) → new ≡ noted script tallies d.tick d.frame
    → Sums script tallies slots kept h → Sums script new slots kept (h ++ PlainEvent.deliver d ∷ [])
delivery_kept script tallies new slots kept h d is holds = record {
  tallied = λ once.
      let known : d.frame < length script.sends = subst (λ (x : Delivery). x.frame < length script.sends) (get_or-append_seam (Deliveries h) d [] d)
      (subst (λ (ds : List Delivery). All (λ d. d.frame < length script.sends) ds) same once.known (length (Deliveries h)) d (omega (arith, length-append (Deliveries h) (d ∷ [])))) in
      let before : ComeOnce script h = record {
        known = all_front (λ d. d.frame < length script.sends) (Deliveries h) (d ∷ []) (subst (λ (ds : List Delivery). All (λ d. d.frame < length script.sends) ds) same once.known);
        after = all_front (λ d. (send_of script d.frame).send.tick.0 ≤ d.tick) (Deliveries h) (d ∷ [])
            (subst (λ (ds : List Delivery). All (λ d. (send_of script d.frame).send.tick.0 ≤ d.tick) ds) same once.after);
        once = pairs_front (λ d e. d.frame ≢ e.frame) (Deliveries h) (d ∷ []) (subst (λ (ds : List Delivery). AllPairs (λ d e. d.frame ≢ e.frame) ds) same once.once);
      } in
      let at = slice_get-get_or script.sends d.frame no_send known in
      let all_known = subst (λ (ds : List Delivery). All (λ d. d.frame < length script.sends) ds) same once.known in
      let all_once = subst (λ (ds : List Delivery). AllPairs (λ d e. d.frame ≢ e.frame) ds) same once.once in
      go before (λ i. few_deliveries script (Deliveries h) d i holds.sends all_known all_once) (nat_lt (send_of script d.frame).send.stream.0 (length tallies)) refl
      (is ∙ ap (noted_send tallies d.tick) at);
  closings = holds.closings ∙ ap (take most_closings) (sym (same_closings h (PlainEvent.deliver d) refl));
  room = holds.room;
  few = holds.few;
  sends = holds.sends;
}
  where
    same : Deliveries (h ++ PlainEvent.deliver d ∷ []) ≡ Deliveries h ++ d ∷ []
    same = filter_map-append delivery_of h (PlainEvent.deliver d ∷ [])

    go : ComeOnce script h → ((i : ℕ) → length (filter (of_stream script i) (Deliveries h)) + 1 ≤ 2 ^ 64 - 1) → (b : Bool) → nat_lt (send_of script d.frame).send.stream.0 (length tallies) ≡ b
        → new ≡ (if b then slice_set tallies (send_of script d.frame).send.stream.0 (more (slice_index_or tallies (send_of script d.frame).send.stream.0 no_tally) (delay script d)) else tallies)
        → (i : ℕ) → i < length new → slice_index_or new i no_tally ≡ tally_of script (h ++ PlainEvent.deliver d ∷ []) i
    go before few' true test now = λ i lt. at_true i lt ((send_of script d.frame).send.stream.0 == i) refl
      where
        stream_lt : (send_of script d.frame).send.stream.0 < length tallies
        stream_lt = grind (arith, nat_tests)

        at_true : (i : ℕ) → i < length new → (c : Bool) → ((send_of script d.frame).send.stream.0 == i) ≡ c → slice_index_or new i no_tally ≡ tally_of script (h ++ PlainEvent.deliver d ∷ []) i
        at_true i lt true e =
            let at = (send_of script d.frame).send.stream.0 in
            let si : (send_of script d.frame).send.stream.0 ≡ i = grind (arith, nat_tests) in
            let v = more (slice_index_or tallies (send_of script d.frame).send.stream.0 no_tally) (delay script d) in
            ap (λ (l : List Tally). slice_index_or l i no_tally) now
            ∙ (ap (λ k. slice_index_or (slice_set tallies at v) k no_tally) (sym si)
            ∙ (get_or-set_same tallies at v no_tally stream_lt
            ∙ (ap (λ t. more t (delay script d)) (holds.tallied before at stream_lt)
            ∙ (ap (λ k. more (the_tally script (Deliveries h) k) (delay script d)) si
            ∙ (sym (more_add script (Deliveries h) d i e (few' i)) ∙ ap (λ ds. the_tally script ds i) (sym same))))))
        at_true i lt false e =
            let at = (send_of script d.frame).send.stream.0 in
            let v = more (slice_index_or tallies (send_of script d.frame).send.stream.0 no_tally) (delay script d) in
            let other : i ≢ (send_of script d.frame).send.stream.0 = grind (arith, nat_tests) in
            let in_old : i < length tallies = omega (arith, lt, ap length now, length-set tallies at v) in
            ap (λ (l : List Tally). slice_index_or l i no_tally) now
            ∙ (get_or-set_other tallies at i v no_tally other
            ∙ (holds.tallied before i in_old ∙ (sym (same_add script (Deliveries h) d i e) ∙ ap (λ ds. the_tally script ds i) (sym same))))
    go before few' false test now = λ i lt.
        let in_old : i < length tallies = omega (arith, lt, ap length now) in
        let other : ((send_of script d.frame).send.stream.0 == i) ≡ false = grind (arith, nat_tests) in
        ap (λ (l : List Tally). slice_index_or l i no_tally) now
        ∙ (holds.tallied before i in_old ∙ (sym (same_add script (Deliveries h) d i other) ∙ ap (λ ds. the_tally script ds i) (sym same)))

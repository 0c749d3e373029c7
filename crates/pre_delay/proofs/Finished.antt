-- All of a run is timely, also with its closing events.
use Rattle.std.proofs.Common.{ℕ, zero, suc, Bool, true, false, cond, List, ◌==◌, ◌&&◌, not, nat_le, nat_lt, ◌≡◌, ◌+◌, ◌<◌}
use Rattle.std.proofs.Common.{◌≤◌, [], ◌∷◌, ◌++◌, length, filter, map, refl, sym, ◌∙◌, ap, arith, subst, Option, None}
use Rattle.std.specs.Prelude.{slice_get, if◌then◌else◌, All, Any, IsTrue, IsFalse, filter_map, sum_by}
use Rattle.std.specs.List.{list_any, AllByRecursion as Every}
use Rattle.std.proofs.lemmas.List.Elements.{filter_map-append}
use Rattle.std.proofs.lemmas.List.{append_assoc}
use Rattle.pre_history.specs.Scenario.{Scenario, FrameOf}
use Rattle.pre_history.specs.Moments.{moments}
use Rattle.pre_history.specs.History.{PlainEvent, History, Begin, Counts, Delivery}
use Rattle.pre_history.specs.Selected.{RingEntry, begin_on, entry_on, delivery_of, what_is}
use Rattle.pre_history.specs.Queries.{Begins, Entries, Deliveries, Waiting, begun_before}
use Rattle.pre_history.specs.Octets.{names_loss, names_damage}
use Rattle.pre_history.specs.Placed.{number}
use Rattle.pre_history.specs.Legal.{Legal, LegalUpTo, CountLines, Spared, count_line, closing, last_moment}
use Rattle.pre_history.proofs.Lists.{every-append, every_weaker, none_selected, no_append}
use Rattle.pre_bound.specs.Uses.{has_port, rate_of}
use Rattle.pre_bound.specs.Values.{Values}
use Rattle.pre_bound.specs.Good.{AreGood}
use Rattle.pre_curve.specs.Windows.{Offer}
use Rattle.pre_bound.proofs.Sums.{sum_by-filter-cons}
use Rattle.pre_delay.specs.Ticks.{ObeysTicks, is_from_to, octets_from_to}
use Rattle.pre_delay.specs.Ports.{IsOnTime, PortIsTimely, StreamObeys, offers_among, stream_of, wire, wire_of}
use Rattle.pre_delay.proofs.Port.{RingObeys}
use Rattle.pre_delay.specs.Runs.{IsRun}
use Rattle.pre_delay.specs.Timely.{Timely}
use Rattle.pre_delay.proofs.Bursts.{and_false, and_true, of_stream}
use Rattle.pre_delay.proofs.OnePort.{timely}
use Rattle.pre_delay.proofs.Network.{all_obey, port_obeys}
use Rattle.pre_delay.proofs.Delivered.{deliveries_in_bound}
use Rattle.pre_delay.proofs.Arrives.{spared_frames_arrive}

abbrev IsClosing : PlainEvent → Type 0
IsClosing (PlainEvent.count a c) = Unit {0}
IsClosing (PlainEvent.end e) = Unit {0}
IsClosing (PlainEvent.set t a x) = ⊥
IsClosing (PlainEvent.begin b) = ⊥
IsClosing (PlainEvent.ended e) = ⊥
IsClosing (PlainEvent.arrive x) = ⊥
IsClosing (PlainEvent.deliver d) = ⊥
IsClosing (PlainEvent.active t a x) = ⊥
IsClosing (PlainEvent.enter e) = ⊥
IsClosing (PlainEvent.dropped e) = ⊥

line_closing : (a : ℕ) (c : Counts) → Every IsClosing (count_line a c)
line_closing a c = go ((c.err == 0) && (c.smd == 0) && (c.ok == 0) && (c.rx == 0) && (c.tx == 0))
  where
    go : (b : Bool) → Every IsClosing (if b then [] else PlainEvent.count a c ∷ [])
    go true = tt
    go false = (tt, tt)

counts_closing : (w : Scenario) (h : History) (n : ℕ) (es : History) → CountLines w h n es → Every IsClosing es
counts_closing w h zero es is = subst (Every IsClosing) (sym is) tt
counts_closing w h (suc a) es (before, c, lines, counts, is) = subst (Every IsClosing) (sym is) (every-append IsClosing before (count_line a c) (counts_closing w h a before lines) (line_closing a c))

no_begin : (a : ℕ) (e : PlainEvent) → IsClosing e → begin_on a e ≡ None
no_begin a (PlainEvent.count b c) x = refl
no_begin a (PlainEvent.end e) x = refl
no_begin a (PlainEvent.set t b y) x = absurd x
no_begin a (PlainEvent.begin b) x = absurd x
no_begin a (PlainEvent.ended e) x = absurd x
no_begin a (PlainEvent.arrive y) x = absurd x
no_begin a (PlainEvent.deliver d) x = absurd x
no_begin a (PlainEvent.active t b y) x = absurd x
no_begin a (PlainEvent.enter e) x = absurd x
no_begin a (PlainEvent.dropped e) x = absurd x

no_entry : (a p : ℕ) (e : PlainEvent) → IsClosing e → entry_on a p e ≡ None
no_entry a p (PlainEvent.count b c) x = refl
no_entry a p (PlainEvent.end e) x = refl
no_entry a p (PlainEvent.set t b y) x = absurd x
no_entry a p (PlainEvent.begin b) x = absurd x
no_entry a p (PlainEvent.ended e) x = absurd x
no_entry a p (PlainEvent.arrive y) x = absurd x
no_entry a p (PlainEvent.deliver d) x = absurd x
no_entry a p (PlainEvent.active t b y) x = absurd x
no_entry a p (PlainEvent.enter e) x = absurd x
no_entry a p (PlainEvent.dropped e) x = absurd x

no_delivery : (e : PlainEvent) → IsClosing e → delivery_of e ≡ None
no_delivery (PlainEvent.count b c) x = refl
no_delivery (PlainEvent.end e) x = refl
no_delivery (PlainEvent.set t b y) x = absurd x
no_delivery (PlainEvent.begin b) x = absurd x
no_delivery (PlainEvent.ended e) x = absurd x
no_delivery (PlainEvent.arrive y) x = absurd x
no_delivery (PlainEvent.deliver d) x = absurd x
no_delivery (PlainEvent.active t b y) x = absurd x
no_delivery (PlainEvent.enter e) x = absurd x
no_delivery (PlainEvent.dropped e) x = absurd x

same_selected : {X : Type 0} (sel : PlainEvent → Option X) (body end : History) → ((e : PlainEvent) → IsClosing e → sel e ≡ None) → Every IsClosing end → filter_map sel (body ++ end) ≡ filter_map sel body
same_selected sel body end none closed =
    filter_map-append sel body end ∙ no_append (filter_map sel body) (filter_map sel end) (none_selected sel end (every_weaker IsClosing (λ e. sel e ≡ None) none end closed))

-- ---- what obeys, as offers

offers_sum : (w : Scenario) (i from to : ℕ) (es : List RingEntry) → octets_from_to from to (offers_among w i es) ≡ sum_by (wire w) (filter (of_stream w i from to) es)
offers_sum w i from to [] = refl
offers_sum w i from to (r ∷ es) =
    let rest = offers_sum w i from to es in
    let right = sum_by-filter-cons (wire w) (of_stream w i from to) r es in
    let F = filter (λ (x : RingEntry). stream_of w x.frame == i) es in
    let left : octets_from_to from to (offers_among w i (r ∷ es)) ≡ cond (is_from_to from to r.tick && (stream_of w r.frame == i)) (wire w r) 0 + sum_by (wire w) (filter (of_stream w i from to) es) =
    elim (stream_of w r.frame == i) as (λ b. octets_from_to from to (map (λ (x : RingEntry). record { tick = x.tick; octets = wire w x }) (cond b (r ∷ F) F)) ≡ cond (is_from_to from to r.tick && b) (wire w r) 0 + sum_by (wire w) (filter (of_stream w i from to) es)) [
      | true ↦ let one = sum_by-filter-cons (λ (o : Offer). o.octets) (λ o. is_from_to from to o.tick) (record { tick = r.tick; octets = wire w r }) (offers_among w i es) in
          let e = and_true (is_from_to from to r.tick) (wire w r) in
          omega (arith, one, e, rest)
      | false ↦ let e = and_false (is_from_to from to r.tick) (wire w r) in omega (arith, e, rest)
    ]
    in
    omega (arith, left, right)

pub ring_obeys : (w : Scenario) (h : History) (a p i burst rate : ℕ) → StreamObeys w h a p i burst rate → RingObeys w h a p i burst rate
ring_obeys w h a p i burst rate obeys from to le = let all = obeys from to le in let same = offers_sum w i from to (Entries h a p) in omega (arith, all, same)

pub stream_obeys : (w : Scenario) (h : History) (a p i burst rate : ℕ) → RingObeys w h a p i burst rate → StreamObeys w h a p i burst rate
stream_obeys w h a p i burst rate obeys from to le = let all = obeys from to le in let same = offers_sum w i from to (Entries h a p) in omega (arith, all, same)

-- what holds of the legal history holds with its closing events
module _ (w : Scenario) (v : Values) (body end : History) (done : ℕ) (closed : Every IsClosing end) (t : Timely w body done v) where
  begins : (a : ℕ) → Begins (body ++ end) a ≡ Begins body a
  begins a = same_selected (begin_on a) body end (no_begin a) closed

  entries : (a p : ℕ) → Entries (body ++ end) a p ≡ Entries body a p
  entries a p = same_selected (entry_on a p) body end (no_entry a p) closed

  deliveries : Deliveries (body ++ end) ≡ Deliveries body
  deliveries = same_selected delivery_of body end no_delivery closed

  waiting : (a p x : ℕ) → Waiting (body ++ end) a p x ≡ Waiting body a p x
  unfolding Waiting
  waiting a p x =
      ap (λ es. map (λ (e : RingEntry). e.frame) (filter (λ e. e.entered && nat_le e.tick x && not (begun_before (body ++ end) a x e.frame)) es)) (entries a p)
      ∙ ap (λ bs. map (λ (e : RingEntry). e.frame) (filter (λ e. e.entered && nat_le e.tick x && not (list_any (λ (b : Begin). nat_lt b.tick x && what_is b.what e.frame && (b.from == 0)) bs)) (Entries body a p))) (begins a)

  spared_before : (f : ℕ) → Spared w (body ++ end) f → Spared w body f
  spared_before f spared a =
      subst (λ bs. All (λ (b : Begin). IsTrue (what_is b.what f) → All (λ l. IsFalse (names_loss b l)) w.script.losses × All (λ d. IsFalse (names_damage b d)) w.script.damages) bs) (begins a) (spared a)

  on_time : (a p : ℕ) (r : RingEntry) → IsOnTime w body a done (v.delay a p) r → IsOnTime w (body ++ end) a done (v.delay a p) r
  on_time a p r o = record {
    left = λ i b at. o.left i b (ap (λ bs. slice_get bs i) (sym (begins a)) ∙ at);
    begun = λ late. let x = o.begun late in (x.0, x.1, ap (λ bs. slice_get bs x.0) (begins a) ∙ x.2, x.3);
  }

  closed_too : Timely w (body ++ end) done v
  closed_too = record {
    entries_obey = λ i r at stream hop a here. subst (λ rs. ObeysTicks (v.burst i hop) (rate_of r) (offers_among w i rs)) (sym (entries a r.prio)) (t.entries_obey i r at stream hop a here);
    begun_in_time = λ a p j r has at. on_time a p r (t.begun_in_time a p j r has (ap (λ xs. slice_get xs j) (sym (entries a p)) ∙ at));
    queue_within_size = λ a p x has less. subst (λ fs. sum_by (wire_of w) fs ≤ v.size a p) (sym (waiting a p x)) (t.queue_within_size a p x has less);
    none_dropped = λ a p has. subst (Every (λ (r : RingEntry). r.entered ≡ true)) (sym (entries a p)) (t.none_dropped a p has);
    delivery_within_bound = λ j d at. t.delivery_within_bound j d (ap (λ xs. slice_get xs j) (sym deliveries) ∙ at);
    spared_frames_arrive = λ f known stream spared over. subst (λ ds. Any (λ (d : Delivery). (d.frame ≡ f) × (d.octets ≡ FrameOf w f)) ds) (sym deliveries) (t.spared_frames_arrive f known stream (spared_before f spared) over);
  }

-- In each legal history that goes up to a moment of a tick all is timely.
pub timely_at : (w : Scenario) (v : Values) → IsRun w → AreGood w.net w.streams.rows v → (n : ℕ) (h : History) (t k : ℕ) → k < moments (length w.net.arcs) → n ≡ number (length w.net.arcs) t k → LegalUpTo w n h → Timely w h t v
timely_at w v run good n h t k k_lt n_is legal = record {
  entries_obey = λ i r at stream hop a here'. stream_obeys w h a r.prio i (v.burst i hop) (rate_of r) (all_obey w v run good n h legal i r at stream hop a here');
  begun_in_time = λ a p j r has at. (here a p has).begun_in_time j r at;
  queue_within_size = λ a p x has less. (here a p has).queue_within_size x less;
  none_dropped = λ a p has. (here a p has).none_dropped;
  delivery_within_bound = deliveries_in_bound w v run good n h legal;
  spared_frames_arrive = spared_frames_arrive w v run good n h t k legal k_lt n_is;
}
  where
    here : (a p : ℕ) → has_port w.streams.rows a p ≡ true → PortIsTimely w h t v a p
    here a p has = timely w v run good a p has n h t k k_lt n_is legal (port_obeys w v run good h a p (all_obey w v run good n h legal))

-- And in each that is legal up to its end.
pub timely_at_end : (w : Scenario) (v : Values) (h : History) → IsRun w → AreGood w.net w.streams.rows v → Legal w h → Timely w h (w.script.until.0 + 1) v
timely_at_end w v h run good (body, counts, before, lines, is) =
    let same : last_moment w ≡ number (length w.net.arcs) (w.script.until.0 + 1) 0 = omega arith in
    let end : History = PlainEvent.end (closing w body) ∷ [] in
    let joined : h ≡ body ++ (counts ++ end) = is ∙ append_assoc body counts end in
    subst (λ x. Timely w x (w.script.until.0 + 1) v) (sym joined)
    (closed_too w v body (counts ++ end) (w.script.until.0 + 1) (every-append IsClosing counts end (counts_closing w body (length w.net.arcs) counts lines) (tt, tt))
    (timely_at w v run good (last_moment w) body (w.script.until.0 + 1) 0 (omega arith) same before.0))

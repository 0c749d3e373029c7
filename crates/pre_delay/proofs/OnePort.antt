-- One port of a good certificate: what enters it leaves in time, what waits is within its size, and nothing is dropped.
use Rattle.std.proofs.Common.{ℕ, zero, suc, true, ◌≡◌, ◌≢◌, ◌+◌, ◌*◌, ◌/◌, ◌%◌, ◌<◌, ◌≤◌, List, []}
use Rattle.std.proofs.Common.{◌∷◌, ◌++◌, length, refl, sym, ◌∙◌, ap, arith, inl, inr, subst, Some}
use Rattle.std.specs.Prelude.{slice_get, slice_index, slice_index_or}
use Rattle.std.specs.Option.{option_map_or}
use Rattle.std.specs.List.{AllByRecursion as Every}
use Rattle.std.proofs.Math.Nat.{mul-le-mul_right}
use Rattle.std.proofs.lemmas.Bool.{cases_lt}
use Rattle.std.proofs.lemmas.Option.{slice_get-get_or}
use Rattle.std.proofs.lemmas.List.Elements.{filter_map-append}
use Rattle.std.proofs.lemmas.List.Folds.{Any-from_list_any}
use Rattle.pre_topo.specs.declared.arcs.Arc.{Arc}
use Rattle.pre_streams.specs.declared.rows.Row.{Row}
use Rattle.pre_streams.specs.Rows.{IsRow}
use Rattle.pre_history.specs.Scenario.{Scenario, arc, row, no_arc, no_row, capacity}
use Rattle.pre_history.specs.Moments.{Phase, moments, phase_at}
use Rattle.pre_history.specs.History.{Begin, History}
use Rattle.pre_history.specs.declared.events.What.TheVariants as what
use Rattle.pre_history.specs.Selected.{RingEntry, entry_on, what_is}
use Rattle.pre_history.specs.Queries.{Begins, Entries}
use Rattle.pre_history.specs.Comings.{Coming, Comings, EntriesOf}
use Rattle.pre_history.specs.Rules.{HappensIn}
use Rattle.pre_history.specs.Placed.{HasPlace, number, AllAt}
use Rattle.pre_history.specs.Legal.{LegalUpTo}
use Rattle.pre_history.proofs.Lists.{found_at, within, every-append, every_at, every_placed, every_weaker}
use Rattle.pre_history.proofs.Placing.{placed, moment_events, place_at, place_below, numbered}
use Rattle.pre_history.proofs.Relays.{ComesBy, comings_by}
use Rattle.pre_history.proofs.Free.{begins_before}
use Rattle.pre_bound.specs.Uses.{TakesAt, hop_of, is_on, is_stream, rate_of, has_port, cost_at, ring_at}
use Rattle.pre_bound.specs.Values.{Values}
use Rattle.pre_bound.specs.Good.{AreGood}
use Rattle.pre_bound.proofs.Hops.{OnArc-from, TakesAt-hop_of, has_arc-from_port, has_port-from, contains_at}
use Rattle.pre_history.proofs.NatTests.{is_eq}
use Rattle.pre_laws.proofs.Fitting.{read_one}
use Rattle.pre_delay.specs.Ports.{IsOnTime, PortIsTimely}
use Rattle.pre_delay.proofs.Port.{RingsObey, IsKnown, IsPort, ComesTo}
use Rattle.pre_delay.specs.Runs.{IsRun}
use Rattle.pre_delay.proofs.Rings.{entries_came, entries_prio}
use Rattle.pre_delay.proofs.Sent.{express_begins}
use Rattle.pre_delay.proofs.Seen.{some-begun}
use Rattle.pre_delay.proofs.Certified.{on_time}
use Rattle.pre_delay.proofs.Room.{AreFresh, have_room, queue_within}
use Rattle.pre_laws.proofs.Once.{coming_to}
use Rattle.pre_delay.proofs.Known.{carried_known, comer_on, is_fresh, known, known_on, hop_within, stream_high}
use Rattle.pre_delay.proofs.Apart.{entries_moment, comers, IsComer, every_comer, same_entries}
use Rattle.pre_delay.proofs.Bursts.{KnownToCome, front_obeys, told_obeys}
use Rattle.pre_delay.proofs.Entering.{HasRoom, all_enter}

-- ---- which ticks' starts are told on an arc

record Told (arcs n a t : ℕ) : Type 0 where
  done : ℕ
  late : t ≤ done
  over : (x : ℕ) → x < done → number arcs x (2 + 3 * arcs + a) < n
  unstarted : (x : ℕ) → number arcs x (2 + 3 * arcs + a) < n → x < done

earlier : (size s t j k : ℕ) → j < size → s < t → s * size + j < t * size + k
earlier size s t j k lt less = let product : (s + 1) * size ≤ t * size = mul-le-mul_right size (omega arith) in let spread : (s + 1) * size ≡ s * size + size = omega arith in omega arith

told : (arcs t k a : ℕ) → a < arcs → k < moments arcs → Told arcs (number arcs t k) a t
told arcs t k a lt below =
    elim (cases_lt (2 + 3 * arcs + a) k) [
      | inl started ↦ record {
        done = t + 1;
        late = omega arith;
        over = λ x less. elim (cases_lt x t) [
          | inl sooner ↦ earlier (moments arcs) x t (2 + 3 * arcs + a) k (omega (arith, lt)) sooner
          | inr now ↦ let same : x ≡ t = omega (arith, less, now) in let product = ap (λ y. y * moments arcs) same in omega (arith, product, started)
        ];
        unstarted = λ x less. elim (cases_lt x (t + 1)) [
          | inl soon ↦ soon
          | inr late ↦ absurd (let product : (t + 1) * moments arcs ≤ x * moments arcs = mul-le-mul_right (moments arcs) late in let spread : (t + 1) * moments arcs ≡ t * moments arcs + moments arcs = omega arith in omega (arith, less, product, spread, below))
        ];
      }
      | inr waiting ↦ record {
        done = t;
        late = omega arith;
        over = λ x less. earlier (moments arcs) x t (2 + 3 * arcs + a) k (omega (arith, lt)) less;
        unstarted = λ x less. elim (cases_lt x t) [
          | inl soon ↦ soon
          | inr late ↦ absurd (let product : t * moments arcs ≤ x * moments arcs = mul-le-mul_right (moments arcs) late in omega (arith, less, product, waiting))
        ];
      }
    ]

module _ (w : Scenario) (v : Values) (run : IsRun w) (good : AreGood w.net w.streams.rows v) where
  pub rules : (i : ℕ) (r : Row) → slice_get w.streams.rows i ≡ Some r → IsRow w.net r
  rules i r at = let lt = within w.streams.rows i r at in subst (IsRow w.net) (sym (one_row i r at)) (run.rows i no_row lt)
    where
      one_row : (i : ℕ) (r : Row) → slice_get w.streams.rows i ≡ Some r → r ≡ slice_index_or w.streams.rows i no_row
      one_row i r at = sym (read_one w.streams.rows i r no_row at)

  pub below : (i : ℕ) (r : Row) → slice_get w.streams.rows i ≡ Some r → r.prio < 8
  below i r at = run.prios r (contains_at w.streams.rows i r at)

  pub row_high : (i : ℕ) (r : Row) → slice_get w.streams.rows i ≡ Some r → is_stream r ≡ true → (j a : ℕ) → TakesAt r j a → (arc w a).express_from ≤ r.prio
  row_high i r at stream j a here = stream_high w run r (rules i r at) stream j a here (hop_within w run r (rules i r at) j a here)

  pub port_of : (i : ℕ) (r : Row) → slice_get w.streams.rows i ≡ Some r → is_stream r ≡ true → (j a : ℕ) → TakesAt r j a → has_port w.streams.rows a r.prio ≡ true
  port_of i r at stream j a here = has_port-from w.streams.rows r a j (contains_at w.streams.rows i r at) stream here

  pub cost_is : (a : ℕ) → a < length w.net.arcs → cost_at w.net a ≡ (arc w a).cost
  cost_is a lt = ap (λ o. option_map_or (λ (x : Arc). x.cost) o 0) (slice_get-get_or w.net.arcs a no_arc lt)

  ring_is : (a p : ℕ) → a < length w.net.arcs → ring_at w.net a p ≡ capacity w a p
  ring_is a p lt = ap (λ o. option_map_or (λ (x : Arc). slice_index x.rings p) o 0) (slice_get-get_or w.net.arcs a no_arc lt)

  -- a port is one of an arc, and of a priority that is express on it
  pub record Place (a p : ℕ) : Type 0 where
    pub within : a < length w.net.arcs
    pub below : p < 8
    pub express : (arc w a).express_from ≤ p

  pub place_of : (a p : ℕ) → has_port w.streams.rows a p ≡ true → Place a p
  place_of a p has =
      let o = Any-from_list_any (is_on a p (p + 1)) w.streams.rows has in
      by o.0 o.1 (found_at w.streams.rows o.0 o.1 o.2 o.3) o.4
    where
      by : (i : ℕ) (r : Row) → slice_get w.streams.rows i ≡ Some r → is_on a p (p + 1) r ≡ true → Place a p
      by i r listed on =
          let x = OnArc-from a p (p + 1) r on in
          let here = TakesAt-hop_of r a x.takes in
          let prio : r.prio ≡ p = omega (arith, x.from, x.below) in
          let high = row_high i r listed x.express (hop_of a r) a here in
          let small = below i r listed in
          record { within = hop_within w run r (rules i r listed) (hop_of a r) a here; below = omega (arith, small, prio); express = omega (arith, high, prio) }

  -- what entered and what comes is of known frames
  pub entry_facts : (n : ℕ) (h : History) (a p : ℕ) → LegalUpTo w n h → Every (KnownToCome w h a) (Entries h a p)
  entry_facts n h a p legal = every_placed (KnownToCome w h a) (Entries h a p) (λ j r at. (
    every_at (λ (x : RingEntry). IsKnown w a x.frame) (Entries h a p) j r (known w run n h legal a p) at,
    every_at (λ (x : RingEntry). ComesBy w h x.tick (coming_to a x.frame)) (Entries h a p) j r (entries_came w n h a p legal) at,
  ))

  module _ (a p : ℕ) (has : has_port w.streams.rows a p ≡ true) where
    at : Place a p
    at = place_of a p has

    -- the port in a history in which what comes to it obeys
    pub port : (n : ℕ) (h : History) (done : ℕ) → LegalUpTo w n h → ((x : ℕ) → x < done → number (length w.net.arcs) x (2 + 3 * length w.net.arcs + a) < n)
        → ((x : ℕ) → number (length w.net.arcs) x (2 + 3 * length w.net.arcs + a) < n → x < done) → RingsObey w h v a p → IsPort w n h a p done v
    port n h done legal over unstarted obey = record {
      legal = legal;
      within = at.within;
      express = at.express;
      below = at.below;
      over = over;
      unstarted = unstarted;
      few = let c = w.net.rules.arc_count in omega (arith, c.1);
      known = λ q j r there entered. every_at (λ (x : RingEntry). IsKnown w a x.frame) (Entries h a q) j r (known w run n h legal a q) there;
      carried = carried_known w run n h legal a;
      largest = good.largest a at.within (has_arc-from_port w.streams.rows a p at.below has);
      block = good.block a p at.within at.below has;
      work = good.work a p at.within at.below has;
      delay = good.delay a p at.within at.below has;
      load = good.load a at.within;
      obeys = obey;
    }

    pub fresh_here : (n : ℕ) (h : History) → LegalUpTo w n h → AreFresh h a p
    fresh_here n h legal j r there on = is_fresh w run n h legal a p j r at.within at.express there on

    -- ---- the entries of a tick

    module _ (t : ℕ) (past : History) (legal : LegalUpTo w (entries_moment w t) past) where
      pub comer_facts : Every (KnownToCome w past a) (comers w t a p (Comings w past t))
      comer_facts = every_comer w t a p (KnownToCome w past a) (ComesBy w past t) (λ c r by x. facts c r by x) (Comings w past t) (comings_by w past t)
        where
          facts : (c : Coming) (r : RingEntry) → ComesBy w past t c → IsComer w t a p c r → KnownToCome w past a r
          facts c r by x =
              let k = known_on w run t c.arc c.frame (comer_on w run (entries_moment w t) past legal t c by) in
              let k' : IsKnown w a c.frame = subst (λ b. IsKnown w b c.frame) x.arc k in
              let by' : ComesBy w past r.tick (coming_to a c.frame) = subst (λ s. ComesBy w past s (coming_to a c.frame)) (sym x.now) (subst (λ b. ComesBy w past t (coming_to b c.frame)) x.arc by) in
              subst (λ f. IsKnown w a f × ComesBy w past r.tick (coming_to a f)) (sym x.frame) (k', by')

      pub comer_places : Every (λ (r : RingEntry). (r.tick ≡ t) × (r.entered ≡ true) × (p ≡ (row w r.frame).prio)) (comers w t a p (Comings w past t))
      comer_places = every_comer w t a p (λ (r : RingEntry). (r.tick ≡ t) × (r.entered ≡ true) × (p ≡ (row w r.frame).prio)) (ComesBy w past t)
          (λ c r by x. (x.now, x.entered, sym x.prio ∙ ap (λ f. (row w f).prio) (sym x.frame))) (Comings w past t) (comings_by w past t)

      -- the port before the entries of the tick
      pub port_now : RingsObey w past v a p → IsPort w (entries_moment w t) past a p t v
      port_now obey =
          port (entries_moment w t) past t legal
          (λ x less. earlier (moments (length w.net.arcs)) x t (2 + 3 * length w.net.arcs + a) (1 + 3 * length w.net.arcs) (let lt = at.within in omega (arith, lt)) less)
          (λ x less. tick_before x less) obey
        where
          tick_before : (x : ℕ) → number (length w.net.arcs) x (2 + 3 * length w.net.arcs + a) < number (length w.net.arcs) t (1 + 3 * length w.net.arcs) → x < t
          tick_before x less = elim (cases_lt x t) [
            | inl soon ↦ soon
            | inr late ↦ absurd (let product : t * moments (length w.net.arcs) ≤ x * moments (length w.net.arcs) = mul-le-mul_right (moments (length w.net.arcs)) late in omega (arith, less, product))
          ]

      -- what comes has room, where it obeys
      room_now : RingsObey w past v a p → RingsObey w (past ++ EntriesOf w t past (Comings w past t)) v a p → HasRoom w t a p past (Comings w past t)
      room_now obey now some =
          let fits = have_room w (entries_moment w t) past a p t v (port_now obey) (good.size a p at.within at.below has) (fresh_here (entries_moment w t) past legal) t (omega arith) (good.ring a p at.within at.below has)
          (comers w t a p (Comings w past t)) (comes (comers w t a p (Comings w past t)) comer_facts comer_places)
          (λ i r row on. told_obeys w t a p i (v.burst i (hop_of a r)) (rate_of r) past (Comings w past t) (now p i r (omega arith) row on)) in
          let ring = ring_is a p at.within in
          omega (arith, fits, ring)
        where
          comes : (rs : List RingEntry) → Every (KnownToCome w past a) rs → Every (λ (r : RingEntry). (r.tick ≡ t) × (r.entered ≡ true) × (p ≡ (row w r.frame).prio)) rs → Every (ComesTo w a p t) rs
          comes [] e f = tt
          comes (r ∷ rs) e f = (record { now = f.0.0; entered = f.0.1; prio = f.0.2; known = e.0.0 }, comes rs e.1 f.1)

      -- so it enters
      pub enter_now : RingsObey w past v a p → RingsObey w (past ++ EntriesOf w t past (Comings w past t)) v a p → Every (λ (r : RingEntry). r.entered ≡ true) (Entries past a p)
          → Every (λ (r : RingEntry). r.entered ≡ true) (Entries (past ++ EntriesOf w t past (Comings w past t)) a p)
      enter_now obey now old =
          subst (Every (λ (r : RingEntry). r.entered ≡ true))
          (sym (filter_map-append (entry_on a p) past (EntriesOf w t past (Comings w past t)) ∙ ap (λ rs. Entries past a p ++ rs) (all_enter w t a p past (Comings w past t) (room_now obey now))))
          (every-append (λ (r : RingEntry). r.entered ≡ true) (Entries past a p) (comers w t a p (Comings w past t)) old
          (every_weaker (λ (r : RingEntry). (r.tick ≡ t) × (r.entered ≡ true) × (p ≡ (row w r.frame).prio)) (λ r. r.entered ≡ true) (λ r x. x.1) (comers w t a p (Comings w past t)) comer_places))

    -- ---- over all moments

    step : (past es : History) (t k : ℕ) → k < moments (length w.net.arcs) → AllAt (length w.net.arcs) (number (length w.net.arcs) t k) es → LegalUpTo w (number (length w.net.arcs) t k) past
        → RingsObey w past v a p → RingsObey w (past ++ es) v a p → Every (λ (r : RingEntry). r.entered ≡ true) (Entries past a p)
        → (f : Phase) → HasPlace (length w.net.arcs) k f → HappensIn w past t f es → Every (λ (r : RingEntry). r.entered ≡ true) (Entries (past ++ es) a p)
    unfolding HappensIn
    step past es t k k_lt all legal obey now old f place happens = go f place happens
      where
        quiet : k ≢ 1 + 3 * length w.net.arcs → Every (λ (r : RingEntry). r.entered ≡ true) (Entries (past ++ es) a p)
        quiet other = subst (Every (λ (r : RingEntry). r.entered ≡ true)) (sym (same_entries (length w.net.arcs) t k a p past es k_lt other all)) old

        go : (f : Phase) → HasPlace (length w.net.arcs) k f → HappensIn w past t f es → Every (λ (r : RingEntry). r.entered ≡ true) (Entries (past ++ es) a p)
        go Phase.sets place happens = quiet (λ e. absurd (omega (arith, e, place)))
        go (Phase.ends b) (b_lt, place) happens = quiet (λ e. absurd (omega (arith, e, place, b_lt)))
        go (Phase.arrivals b) (b_lt, place) happens = quiet (λ e. absurd (omega (arith, e, place, b_lt)))
        go (Phase.expiries b) (b_lt, place) happens = quiet (λ e. absurd (omega (arith, e, place, b_lt)))
        go (Phase.starts b) (b_lt, place) happens = quiet (λ e. absurd (omega (arith, e, place)))
        go Phase.entries place happens =
            let legal' : LegalUpTo w (entries_moment w t) past = subst (λ k. LegalUpTo w (number (length w.net.arcs) t k) past) place legal in
            subst (λ xs. Every (λ (r : RingEntry). r.entered ≡ true) (Entries (past ++ xs) a p)) (sym happens)
            (enter_now t past legal' obey (subst (λ xs. RingsObey w (past ++ xs) v a p) happens now) old)

    -- Where what comes obeys, all of it enters.
    pub all_entered : (n : ℕ) (h : History) → LegalUpTo w n h → RingsObey w h v a p → Every (λ (r : RingEntry). r.entered ≡ true) (Entries h a p)
    all_entered zero h is obey = subst (λ x. Every (λ (r : RingEntry). r.entered ≡ true) (Entries x a p)) (sym is) tt
    all_entered (suc n) h (past, es, is, legal, happens) obey =
        let t = n / moments (length w.net.arcs) in
        let k = n % moments (length w.net.arcs) in
        let n_is : n ≡ number (length w.net.arcs) t k = numbered (length w.net.arcs) n in
        let now : RingsObey w (past ++ es) v a p = subst (λ x. RingsObey w x v a p) is obey in
        let before : RingsObey w past v a p = (λ q i r le row on. front_obeys w past es a q i (v.burst i (hop_of a r)) (rate_of r) (now q i r le row on)) in
        subst (λ x. Every (λ (r : RingEntry). r.entered ≡ true) (Entries x a p)) (sym is)
        (step past es t k (place_below (length w.net.arcs) n) (subst (λ m. AllAt (length w.net.arcs) m es) n_is (moment_events w past n es happens)) (subst (λ m. LegalUpTo w m past) n_is legal)
        before now (all_entered n past legal before) (phase_at (length w.net.arcs) k) (place_at (length w.net.arcs) n) happens)

    -- ---- the port

    module _ (n : ℕ) (h : History) (t k : ℕ) (k_lt : k < moments (length w.net.arcs)) (n_is : n ≡ number (length w.net.arcs) t k) (legal : LegalUpTo w n h) (obey : RingsObey w h v a p) where
      here : Told (length w.net.arcs) n a t
      here = subst (λ m. Told (length w.net.arcs) m a t) (sym n_is) (told (length w.net.arcs) t k a at.within k_lt)

      is_port : IsPort w n h a p here.done v
      is_port = port n h here.done legal here.over here.unstarted obey

      entered_at : (j : ℕ) (r : RingEntry) → slice_get (Entries h a p) j ≡ Some r → r.entered ≡ true
      entered_at j r there = every_at (λ (x : RingEntry). x.entered ≡ true) (Entries h a p) j r (all_entered n h legal obey) there

      in_time : (j : ℕ) (r : RingEntry) → slice_get (Entries h a p) j ≡ Some r → IsOnTime w h a t (v.delay a p) r
      in_time j r there =
          elim (cases_lt r.tick here.done) [
            | inl soon ↦
                let o = on_time w n h a p here.done v is_port j r there (entered_at j r there) soon (fresh_here n h legal j r there (entered_at j r there)) in
                record { left = o.left; begun = λ over. let late = here.late in o.begun (omega (arith, over, late)) }
            | inr later ↦ record {
              left = λ i b found carries. absurd (not_yet j r there later i b found carries);
              begun = λ over. absurd (
                  let late = here.late in
                  let d = is_port.delay.frame in
                  let cost = cost_is a at.within in
                  let least = subst (λ c. 84 * c ≤ v.delay a p) cost d in
                  omega (arith, over, late, later, least));
            }
          ]
        where
          not_yet : (j : ℕ) (r : RingEntry) → slice_get (Entries h a p) j ≡ Some r → here.done ≤ r.tick → (i : ℕ) (b : Begin) → slice_get (Begins h a) i ≡ Some b → b.what ≡ what.Frame (record { 0 = r.frame }) → ⊥
          not_yet j r there later i b found carries =
              let A = length w.net.arcs in
              let x = every_at (λ (b : Begin). (b.arc ≡ a) × (number A b.tick (2 + 3 * A + a) < n)) (Begins h a) i b (begins_before A n a h (placed w n h legal)) found in
              let early = here.unstarted b.tick x.1 in
              let new = fresh_here n h legal j r there (entered_at j r there) in
              let prio : p ≡ (row w r.frame).prio = every_at (λ (y : RingEntry). y.entered ≡ true → p ≡ (row w y.frame).prio) (Entries h a p) j r (entries_prio w n h a p legal) there (entered_at j r there) in
              let express = at.express in
              let from : b.from ≡ 0 = (express_begins w n h a i b (record { 0 = r.frame }) at.within legal found carries (omega (arith, prio, express))).from in
              let yes' = some-begun h a r.tick r.frame i b found (omega (arith, early, later)) (ap (λ z. what_is z r.frame) carries ∙ is_eq r.frame r.frame refl) from in
              cc (yes', new)

      pub timely : PortIsTimely w h t v a p
      timely = record {
        begun_in_time = in_time;
        queue_within_size = λ x less. let late = here.late in queue_within w n h a p here.done v is_port (good.size a p at.within at.below has) (fresh_here n h legal) x (omega (arith, less, late));
        none_dropped = all_entered n h legal obey;
      }

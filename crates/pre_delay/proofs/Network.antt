-- A whole run under a good certificate, moment by moment: what comes to each hop is within the certified bursts.
use Rattle.std.proofs.Common.{ℕ, zero, suc, true, ◌≡◌, ◌≢◌, ◌+◌, ◌-◌, ◌*◌, ◌/◌, ◌%◌, ◌<◌, ◌≤◌, List}
use Rattle.std.proofs.Common.{◌++◌, length, refl, sym, ◌∙◌, ap, arith, inl, inr, subst, Option, Some, None, get_or}
use Rattle.std.specs.Prelude.{slice_get, is_some}
use Rattle.std.specs.Option.{option_map_or}
use Rattle.std.specs.List.{AllByRecursion as Every}
use Rattle.std.proofs.Math.Nat.{mul-le-mul_left, mul-le-mul_right}
use Rattle.std.proofs.lemmas.Bool.{cases_lt}
use Rattle.std.proofs.lemmas.List.Elements.{filter_map-append}
use Rattle.pre_curve.specs.declared.curves.Curve.{Curve}
use Rattle.pre_streams.specs.declared.rows.Row.{Row}
use Rattle.pre_history.specs.Scenario.{Scenario, arc, row}
use Rattle.pre_history.specs.Moments.{Phase, moments, phase_at}
use Rattle.pre_history.specs.History.{Begin, History}
use Rattle.pre_history.specs.Selected.{RingEntry, begin_on, entry_on, what_is}
use Rattle.pre_history.specs.Queries.{Begins, Entries}
use Rattle.pre_history.specs.Comings.{Comings, EntriesOf}
use Rattle.pre_history.specs.Rules.{HappensIn}
use Rattle.pre_history.specs.Placed.{HasPlace, number, AllAt, AllWithin, IsWithin}
use Rattle.pre_history.specs.Cuts.{IsCut}
use Rattle.pre_history.specs.Legal.{LegalUpTo}
use Rattle.pre_history.proofs.Lists.{every-append, every_at, every_selected, every_weaker}
use Rattle.pre_history.proofs.LaterEnds.{split_at}
use Rattle.pre_history.proofs.Pairs.{Pairs}
use Rattle.pre_history.proofs.Placing.{placed, moment_events, place_at, place_below, numbered}
use Rattle.pre_history.proofs.Around.{begins_within}
use Rattle.pre_history.proofs.Turns.{tick_le}
use Rattle.pre_history.proofs.Steady.{costs}
use Rattle.pre_history.proofs.EntryMoments.{entries_before}
use Rattle.pre_bound.specs.Uses.{TakesAt, hop_of, is_stream, rate_of, burst_of}
use Rattle.pre_bound.specs.Values.{Values}
use Rattle.pre_bound.specs.Good.{AreGood}
use Rattle.pre_bound.proofs.Hops.{OnArc-from, TakesAt-hop_of, TakesAt-place, TakesAt-from}
use Rattle.pre_history.proofs.NatTests.{is_eq}
use Rattle.pre_delay.specs.Ports.{stream_of, IsOnTime}
use Rattle.pre_delay.proofs.Port.{RingObeys, RingsObey, HopsObey}
use Rattle.pre_delay.specs.Runs.{IsRun}
use Rattle.pre_delay.proofs.Rings.{entries_prio, entry_now}
use Rattle.pre_delay.proofs.Sent.{express_begins}
use Rattle.pre_delay.proofs.Seen.{some-begun}
use Rattle.pre_delay.proofs.Known.{hop_within, is_fresh, routes}
use Rattle.pre_delay.proofs.Apart.{entries_moment, OtherFrame, comers, all_apart, entries_pairs, same_entries}
use Rattle.pre_delay.proofs.Bursts.{ListObeys, KnownToCome, AllLeft, HaveLeft, have_left, some_at, next_obeys, first_obeys, obeys_told}
use Rattle.pre_delay.proofs.OnePort.{rules, below, row_high, port_of, cost_is, comer_facts, comer_places, entry_facts, timely}

curve_of : (o : Option Curve) → is_some o ≡ true → (c : Curve) × (o ≡ Some c)
curve_of None on = absurd (cc on)
curve_of (Some c) on = (c, refl)

entries_within : (arcs m n a p : ℕ) (es : History) → AllWithin arcs m n es → (j : ℕ) (r : RingEntry) → slice_get (Entries es a p) j ≡ Some r → m ≤ number arcs r.tick (1 + 3 * arcs)
entries_within arcs m n a p es within j r at =
    every_at (λ (r : RingEntry). m ≤ number arcs r.tick (1 + 3 * arcs)) (Entries es a p) j r
    (every_selected (entry_on a p) (IsWithin arcs m n) (λ r. m ≤ number arcs r.tick (1 + 3 * arcs)) (λ e r here is. let o = entry_now arcs here.0 a p e r here.3 is in omega (arith, o, here.1)) es within) at

module _ (w : Scenario) (v : Values) (run : IsRun w) (good : AreGood w.net w.streams.rows v) where
  pub port_obeys : (h : History) (a p : ℕ) → HopsObey w h v → RingsObey w h v a p
  port_obeys h a p obey q i r le listed on =
      let x = OnArc-from a q (q + 1) r on in
      let prio : r.prio ≡ q = omega (arith, x.from, x.below) in
      subst (λ k. RingObeys w h a k i (v.burst i (hop_of a r)) (rate_of r)) prio (obey i r listed x.express (hop_of a r) a (TakesAt-hop_of r a x.takes))

  -- the burst at the next hop covers that at this one, grown by the delay
  grown_at : (i : ℕ) (r : Row) (at : slice_get w.streams.rows i ≡ Some r) (stream : is_stream r ≡ true) (hop a b : ℕ) (here : TakesAt r hop b) → TakesAt r (hop + 1) a
      → (84 * (arc w b).cost ≤ v.delay b r.prio) × (1_000_000 * v.burst i hop + rate_of r * (v.delay b r.prio - 84 * (arc w b).cost) ≤ 1_000_000 * v.burst i (hop + 1))
  grown_at i r at stream hop a b here next =
      let lt = hop_within w run r (rules w v run good i r at) hop b here in
      let growth = good.growth i r (record { row = at; express = stream }) hop b a here next in
      let delay = good.delay b r.prio lt (below w v run good i r at) (port_of w v run good i r at stream hop b here) in
      let cost = cost_is w v run good b lt in
      (subst (λ c. 84 * c ≤ v.delay b r.prio) cost delay.frame, subst (λ c. 1_000_000 * v.burst i hop + rate_of r * (v.delay b r.prio - 84 * c) ≤ 1_000_000 * v.burst i (hop + 1)) cost growth)

  -- ---- the entries of a tick

  module _ (t : ℕ) (past : History) (legal : LegalUpTo w (entries_moment w t) past) (obey : HopsObey w past v)
      (i : ℕ) (r : Row) (at : slice_get w.streams.rows i ≡ Some r) (stream : is_stream r ≡ true) (hop a : ℕ) (here : TakesAt r hop a) where
    abbrev now_list : List RingEntry
    now_list = Entries past a r.prio ++ comers w t a r.prio (Comings w past t)

    now_facts : Every (KnownToCome w past a) now_list
    now_facts =
        every-append (KnownToCome w past a) (Entries past a r.prio) (comers w t a r.prio (Comings w past t)) (entry_facts w v run good (entries_moment w t) past a r.prio legal)
        (comer_facts w v run good a r.prio (port_of w v run good i r at stream hop a here) t past legal)

    now_soon : Every (λ (x : RingEntry). x.tick ≤ t) now_list
    now_soon =
        every-append (λ (x : RingEntry). x.tick ≤ t) (Entries past a r.prio) (comers w t a r.prio (Comings w past t))
        (every_weaker (λ (x : RingEntry). number (length w.net.arcs) x.tick (1 + 3 * length w.net.arcs) < entries_moment w t) (λ x. x.tick ≤ t)
        (λ x less. tick_le (moments (length w.net.arcs)) x.tick t (1 + 3 * length w.net.arcs) (1 + 3 * length w.net.arcs) (omega arith) (omega (arith, less))) (Entries past a r.prio)
        (entries_before (length w.net.arcs) (entries_moment w t) a r.prio past (placed w (entries_moment w t) past legal)))
        (every_weaker (λ (x : RingEntry). (x.tick ≡ t) × (x.entered ≡ true) × (r.prio ≡ (row w x.frame).prio)) (λ x. x.tick ≤ t) (λ x facts. omega (arith, facts.0)) (comers w t a r.prio (Comings w past t))
        (comer_places w v run good a r.prio (port_of w v run good i r at stream hop a here) t past legal))

    now_apart : Pairs OtherFrame now_list
    now_apart =
        let high = row_high w v run good i r at stream hop a here in
        all_apart w run t past legal a r.prio high (entries_pairs w run (entries_moment w t) past a r.prio high legal)

    -- what came to the first hop, and what comes now
    first_now : (c : Curve) → r.curve ≡ Some c → TakesAt r 0 a → ListObeys w now_list i (v.burst i 0) (rate_of r)
    first_now c is first from to le =
        let one = first_obeys w run (routes w run) past a i r c at first is now_list now_facts now_apart from to le in
        let least = good.first_burst i r (record { row = at; express = stream }) in
        let burst : burst_of r ≡ c.burst = ap (λ o. option_map_or (λ (x : Curve). x.burst) o 0) is in
        let rate : rate_of r ≡ c.rate = ap (λ o. option_map_or (λ (x : Curve). x.rate) o 0) is in
        let product = ap (λ k. k * (to - from)) rate in
        omega (arith, one, least, burst, product)

    all_left : (b last : ℕ) (before : TakesAt r last b) → AllLeft w past b r.prio (v.delay b r.prio)
    all_left b last before j y there on k g found carries =
        let times = timely w v run good b r.prio (port_of w v run good i r at stream last b before) (entries_moment w t) past t (1 + 3 * length w.net.arcs) (omega arith) refl legal (port_obeys past b r.prio obey) in
        (times.begun_in_time j y there).left k g found carries

    -- and to a later one
    later_now : (last b : ℕ) (before : TakesAt r last b) → TakesAt r (last + 1) a → ListObeys w now_list i (v.burst i (last + 1)) (rate_of r)
    later_now last b before next =
        let lt = hop_within w run r (rules w v run good i r at) last b before in
        let grown = grown_at i r at stream last a b before next in
        next_obeys w (entries_moment w t) past legal (routes w run) a b i last r at before next (row_high w v run good i r at stream last b before) lt past t (v.delay b r.prio)
        (have_left w past b r.prio i t (v.delay b r.prio) (all_left b last before))
        (v.burst i last) (rate_of r) (v.burst i (last + 1)) now_list now_facts now_soon now_apart (obey i r at stream last b before) grown.0 grown.1

  now_obeys : (t : ℕ) (past : History) → LegalUpTo w (entries_moment w t) past → HopsObey w past v → HopsObey w (past ++ EntriesOf w t past (Comings w past t)) v
  now_obeys t past legal obey i r at stream zero a here =
      let c = curve_of r.curve stream in
      obeys_told w t a r.prio i (v.burst i 0) (rate_of r) past (Comings w past t) (first_now t past legal obey i r at stream 0 a here c.0 c.1 here)
  now_obeys t past legal obey i r at stream (suc hop) a here =
      let place = TakesAt-place r (suc hop) a here in
      let b = (get_or r.arcs hop (record { 0 = 0 })).0 in
      let before : TakesAt r hop b = TakesAt-from r hop (record { 0 = 0 }) (omega (arith, place.0)) in
      let e : hop + 1 ≡ suc hop = omega arith in
      let next : TakesAt r (hop + 1) a = subst (λ k. TakesAt r k a) (sym e) here in
      obeys_told w t a r.prio i (v.burst i (suc hop)) (rate_of r) past (Comings w past t)
      (subst (λ k. ListObeys w (Entries past a r.prio ++ comers w t a r.prio (Comings w past t)) i (v.burst i k) (rate_of r)) e (later_now t past legal obey i r at stream (suc hop) a here hop b before next))

  -- ---- over all moments

  module _ (past es : History) (t k : ℕ) (k_lt : k < moments (length w.net.arcs)) (at : AllAt (length w.net.arcs) (number (length w.net.arcs) t k) es) (old : HopsObey w past v) where
    quiet : k ≢ 1 + 3 * length w.net.arcs → HopsObey w (past ++ es) v
    quiet other i r at' stream hop a here = subst (λ rs. ListObeys w rs i (v.burst i hop) (rate_of r)) (sym (same_entries (length w.net.arcs) t k a r.prio past es k_lt other at)) (old i r at' stream hop a here)

    step : LegalUpTo w (number (length w.net.arcs) t k) past → (f : Phase) → HasPlace (length w.net.arcs) k f → HappensIn w past t f es → HopsObey w (past ++ es) v
    unfolding HappensIn
    step legal Phase.sets place happens = quiet (λ e. absurd (omega (arith, e, place)))
    step legal (Phase.ends b) (b_lt, place) happens = quiet (λ e. absurd (omega (arith, e, place, b_lt)))
    step legal (Phase.arrivals b) (b_lt, place) happens = quiet (λ e. absurd (omega (arith, e, place, b_lt)))
    step legal (Phase.expiries b) (b_lt, place) happens = quiet (λ e. absurd (omega (arith, e, place, b_lt)))
    step legal (Phase.starts b) (b_lt, place) happens = quiet (λ e. absurd (omega (arith, e, place)))
    step legal Phase.entries place happens =
        let legal' : LegalUpTo w (entries_moment w t) past = subst (λ k. LegalUpTo w (number (length w.net.arcs) t k) past) place legal in
        subst (λ xs. HopsObey w (past ++ xs) v) (sym happens) (now_obeys t past legal' old)

  -- In each legal history all obey.
  pub all_obey : (n : ℕ) (h : History) → LegalUpTo w n h → HopsObey w h v
  all_obey zero h is = subst (λ x. HopsObey w x v) (sym is) (λ i r at stream hop a here from to le. omega arith)
  all_obey (suc n) h (past, es, is, legal, happens) =
      let t = n / moments (length w.net.arcs) in
      let k = n % moments (length w.net.arcs) in
      let n_is : n ≡ number (length w.net.arcs) t k = numbered (length w.net.arcs) n in
      subst (λ x. HopsObey w x v) (sym is)
      (step past es t k (place_below (length w.net.arcs) n) (subst (λ m. AllAt (length w.net.arcs) m es) n_is (moment_events w past n es happens)) (all_obey n past legal)
      (subst (λ m. LegalUpTo w m past) n_is legal) (phase_at (length w.net.arcs) k) (place_at (length w.net.arcs) n) happens)

  -- ---- growth at one hop

  module _ (n t : ℕ) (h past rest : History) (legal : LegalUpTo w n h) (cut : IsCut w (number (length w.net.arcs) t 0) n h past rest) (last : n ≤ number (length w.net.arcs) (t + 1) 0)
      (i : ℕ) (r : Row) (at : slice_get w.streams.rows i ≡ Some r) (stream : is_stream r ≡ true) (hop a b : ℕ) (here : TakesAt r hop b) (next : TakesAt r (hop + 1) a)
      (in_time : (j : ℕ) (y : RingEntry) → slice_get (Entries past b r.prio) j ≡ Some y → stream_of w y.frame ≡ i → IsOnTime w past b t (v.delay b r.prio) y) where
    lt : b < length w.net.arcs
    lt = hop_within w run r (rules w v run good i r at) hop b here

    high : (arc w b).express_from ≤ r.prio
    high = row_high w v run good i r at stream hop b here

    soon : Every (λ (x : RingEntry). x.tick ≤ t) (Entries h a r.prio)
    soon =
        every_weaker (λ (x : RingEntry). number (length w.net.arcs) x.tick (1 + 3 * length w.net.arcs) < n) (λ x. x.tick ≤ t)
        (λ x less. let early = tick_le (moments (length w.net.arcs)) (x.tick + 1) (t + 1) 0 0 (omega arith) (next_tick x.tick less) in omega (arith, early)) (Entries h a r.prio)
        (entries_before (length w.net.arcs) n a r.prio h (placed w n h legal))
      where
        next_tick : (s : ℕ) → number (length w.net.arcs) s (1 + 3 * length w.net.arcs) < n → number (length w.net.arcs) (s + 1) 0 ≤ number (length w.net.arcs) (t + 1) 0
        next_tick s less = elim (cases_lt (t + 1) (s + 1)) [
          | inr le ↦ let product : (s + 1) * moments (length w.net.arcs) ≤ (t + 1) * moments (length w.net.arcs) = mul-le-mul_right (moments (length w.net.arcs)) le in omega (arith, product)
          | inl more ↦ absurd (let product : (t + 1) * moments (length w.net.arcs) ≤ s * moments (length w.net.arcs) = mul-le-mul_right (moments (length w.net.arcs)) (omega (arith, more)) in omega (arith, product, less, last))
        ]

    -- what entered before the tick, and what began before it, stands in the front
    old_entry : (j : ℕ) (y : RingEntry) → slice_get (Entries h b r.prio) j ≡ Some y → y.tick < t → slice_get (Entries past b r.prio) j ≡ Some y
    old_entry j y there early =
        elim (split_at (Entries past b r.prio) (Entries rest b r.prio) j y (ap (λ xs. slice_get xs j) (sym (ap (λ x. Entries x b r.prio) cut.joined ∙ filter_map-append (entry_on b r.prio) past rest)) ∙ there)) [
          | inl old ↦ old
          | inr (k, new) ↦
              let late = entries_within (length w.net.arcs) (number (length w.net.arcs) t 0) n b r.prio rest cut.later k y new in
              let le = tick_le (moments (length w.net.arcs)) t y.tick 0 (1 + 3 * length w.net.arcs) (omega arith) late in
              absurd (omega (arith, le, early))
        ]

    old_begin : (k : ℕ) (g : Begin) → slice_get (Begins h b) k ≡ Some g → g.tick < t → slice_get (Begins past b) k ≡ Some g
    old_begin k g there early =
        elim (split_at (Begins past b) (Begins rest b) k g (ap (λ xs. slice_get xs k) (sym (ap (λ x. Begins x b) cut.joined ∙ filter_map-append (begin_on b) past rest)) ∙ there)) [
          | inl old ↦ old
          | inr (m, new) ↦
              let late = begins_within (length w.net.arcs) (number (length w.net.arcs) t 0) n b rest cut.later m g new in
              let le = tick_le (moments (length w.net.arcs)) t g.tick 0 (2 + 3 * length w.net.arcs + b) (let inside = lt in omega (arith, inside)) late in
              absurd (omega (arith, le, early))
        ]

    left : HaveLeft w h past b r.prio i t (v.delay b r.prio)
    left j y there on mine k g found carries before =
        let some = costs w b lt in
        let product : 72 * 1 ≤ 72 * (arc w b).cost = mul-le-mul_left 72 some in
        let early : g.tick < t = omega (arith, before, product) in
        let new = is_fresh w run n h legal b r.prio j y lt high there on in
        let prio : r.prio ≡ (row w y.frame).prio = every_at (λ (z : RingEntry). z.entered ≡ true → r.prio ≡ (row w z.frame).prio) (Entries h b r.prio) j y (entries_prio w n h b r.prio legal) there on in
        let up = high in
        let from : g.from ≡ 0 = (express_begins w n h b k g (record { 0 = y.frame }) lt legal found carries (omega (arith, prio, up))).from in
        let after : y.tick ≤ g.tick = elim (cases_lt g.tick y.tick) [
          | inl less ↦ absurd (let yes' = some-begun h b y.tick y.frame k g found less (ap (λ z. what_is z y.frame) carries ∙ is_eq y.frame y.frame refl) from in cc (yes', new))
          | inr more ↦ more
        ] in
        let old = old_entry j y there (omega (arith, after, early)) in
        (some_at (λ z. z ≡ y) (Entries past b r.prio) j y old refl, (in_time j y old mine).left k g (old_begin k g found early) carries)

    -- What comes to the next hop by the tick obeys, where what came to this one before it did, and left in time.
    pub grows : RingObeys w past b r.prio i (v.burst i hop) (rate_of r) → RingObeys w h a r.prio i (v.burst i (hop + 1)) (rate_of r)
    grows obey =
        let grown = grown_at i r at stream hop a b here next in
        let high' = row_high w v run good i r at stream (hop + 1) a next in
        next_obeys w n h legal (routes w run) a b i hop r at here next high lt past t (v.delay b r.prio) left (v.burst i hop) (rate_of r) (v.burst i (hop + 1)) (Entries h a r.prio)
        (entry_facts w v run good n h a r.prio legal) soon (entries_pairs w run n h a r.prio high' legal) obey grown.0 grown.1

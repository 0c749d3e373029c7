-- A spared frame of an express priority is delivered, where the run goes on long enough.
use Rattle.std.proofs.Common.{ℕ, zero, suc, true, false, ◌==◌, ◌≡◌, ◌≢◌, ◌+◌, ◌-◌, ◌*◌, ◌<◌, ◌≤◌, List, []}
use Rattle.std.proofs.Common.{◌∷◌, length, map, refl, sym, ◌∙◌, ap, inl, inr, arith, subst, Some, None, get_or}
use Rattle.std.specs.Prelude.{slice_get, if◌then◌else◌, AllPairs, option_and_then, unwrap_or}
use Rattle.std.proofs.Math.Nat.{mul-le-mul_right}
use Rattle.std.proofs.lemmas.Bool.Decides.{nat_tests}
use Rattle.pre_base.specs.declared.numbers.ArcId.{ArcId}
use Rattle.pre_topo.specs.Arcs.{latency_at}
use Rattle.pre_streams.specs.declared.rows.Row.{Row}
use Rattle.pre_history.specs.declared.events.Outcome.TheVariants as outcome
use Rattle.pre_history.specs.declared.events.What.TheVariants as what
use Rattle.pre_history.specs.Scenario.{Scenario, FrameOf, arc, row, send, latency}
use Rattle.pre_history.specs.Moments.{moments}
use Rattle.pre_history.specs.History.{History, Begin, Ended, Arrive, Delivery}
use Rattle.pre_history.specs.Selected.{RingEntry, frame_in}
use Rattle.pre_history.specs.Queries.{Begins, Ends, Arrivals, Entries, Deliveries}
use Rattle.pre_history.specs.Octets.{WholeOf, whole_of}
use Rattle.pre_history.specs.Starts.{SizeOf}
use Rattle.pre_history.specs.Comings.{after, first_arc, frame_at, hops, next_arc}
use Rattle.pre_history.specs.Placed.{number}
use Rattle.pre_history.specs.Legal.{LegalUpTo, Spared}
use Rattle.pre_history.proofs.Lists.{any_at, there, within}
use Rattle.pre_history.proofs.InOrder.{steady}
use Rattle.pre_history.proofs.ArrivalsRead.{deliveries_read}
use Rattle.pre_laws.proofs.ComeOn.{sent_comes, relayed_comes}
use Rattle.pre_laws.proofs.Spared.{frame_received, gives}
use Rattle.pre_bound.specs.Uses.{TakesAt, is_stream}
use Rattle.pre_bound.specs.Values.{Values}
use Rattle.pre_bound.specs.Good.{AreGood}
use Rattle.pre_bound.proofs.Hops.{TakesAt-from}
use Rattle.pre_history.proofs.NatTests.{is_eq}
use Rattle.pre_laws.proofs.Fitting.{read_one}
use Rattle.pre_delay.proofs.Arcs.{Some_of}
use Rattle.pre_delay.specs.Ports.{stream_of, wire}
use Rattle.pre_delay.specs.Runs.{IsRun}
use Rattle.pre_delay.specs.Timely.{SparedFramesArrive}
use Rattle.pre_delay.proofs.Begun.{has_ended}
use Rattle.pre_delay.proofs.Sent.{FromFront, express_begins}
use Rattle.pre_delay.proofs.Known.{routed, routes, hop_within}
use Rattle.pre_delay.proofs.Bursts.{behind_it, taken_at}
use Rattle.pre_delay.proofs.OnePort.{rules, row_high, port_of, timely}
use Rattle.pre_delay.proofs.Network.{all_obey, port_obeys}
use Rattle.pre_delay.proofs.Delivered.{ticks_to, hop_more, hops_within, joined, entry_by, delay_least, end_ticks}
use Rattle.pre_delay.proofs.Reached.{entry_in_ring, told_delivery}

-- the delivery has the frame's number and its octets
abbrev IsDeliveryOf : Scenario → ℕ → Delivery → Type 0
IsDeliveryOf w f d = (d.frame ≡ f) × (d.octets ≡ FrameOf w f)

-- ---- routes

after_last : (xs : List ℕ) → AllPairs (λ x y. x ≢ y) xs → (k x : ℕ) → slice_get xs k ≡ Some x → suc k ≡ length xs → after x xs ≡ None
after_last [] apart k x at long = absurd (cc at)
after_last (z ∷ []) apart zero x at long = let same : z ≡ x = cc at in subst (λ b. (if b then slice_get {X = ℕ} [] 0 else after x []) ≡ None) (sym (is_eq z x same)) refl
after_last (z ∷ (y ∷ ys)) apart zero x at long = absurd (omega (arith, long))
after_last (z ∷ xs) apart (suc k) x at long =
    let rest = after_last xs (λ i j d lt inside. apart (suc i) (suc j) d (omega (arith, lt)) (omega (arith, inside))) k x at (omega (arith, long)) in
    let inside = within xs k x at in
    let other : z ≢ x = λ same. apart 0 (suc k) x (omega arith) (omega (arith, inside)) (same ∙ sym (read_one xs k x x at)) in
    subst (λ b. (if b then slice_get xs 0 else after x xs) ≡ None) (sym (not_same z x other)) rest
  where
    not_same : (m n : ℕ) → m ≢ n → (m == n) ≡ false
    not_same m n no' = grind (arith, nat_tests)

long_map : (xs : List ArcId) → length (map (λ (x : ArcId). x.0) xs) ≡ length xs
long_map [] = refl
long_map (x ∷ xs) = ap suc (long_map xs)

place_of : {X : Type 0} (P : X → Type 0) (xs : List X) → Some_of P xs → (j : ℕ) × (x : X) × (slice_get xs j ≡ Some x) × P x
place_of P [] some = absurd some
place_of P (x ∷ xs) (inl here) = (0, x, refl, here)
place_of P (x ∷ xs) (inr more) = let o = place_of P xs more in (suc o.0, o.1, o.2, o.3)

-- a moment of an earlier tick
early : (arcs t done j k n : ℕ) → t < done → j < moments arcs → n ≡ number arcs done k → number arcs t j < n
early arcs t done j k n lt below over =
    let product : (t + 1) * moments arcs ≤ done * moments arcs = mul-le-mul_right (moments arcs) (omega (arith, lt)) in
    let spread : (t + 1) * moments arcs ≡ t * moments arcs + moments arcs = omega arith in
    omega (arith, product, spread, below, over)

module _ (w : Scenario) (v : Values) (run : IsRun w) (good : AreGood w.net w.streams.rows v) (n : ℕ) (h : History) (done : ℕ) (legal : LegalUpTo w n h)
    (k : ℕ) (k_lt : k < moments (length w.net.arcs)) (n_is : n ≡ number (length w.net.arcs) done k)
    (i : ℕ) (r : Row) (at : slice_get w.streams.rows i ≡ Some r) (stream : is_stream r ≡ true) (f : ℕ) (is : row w f ≡ r) (known : f < length w.script.sends) (spared : Spared w h f)
    (time : (send w f).send.tick.0 + v.bound i < done) where
  high : (j a : ℕ) → TakesAt r j a → (arc w a).express_from ≤ r.prio
  high j a here = row_high w v run good i r at stream j a here

  -- what the frame's arrival at the end of a hop is
  record Hop (j a : ℕ) : Type 0 where
    place : ℕ
    x : Arrive
    begin : Begin
    arrived : slice_get (Arrivals h a) place ≡ Some x
    begun : slice_get (Begins h a) place ≡ Some begin
    carries : begin.what ≡ what.Frame (record { 0 = f })
    by : x.tick ≤ (send w f).send.tick.0 + ticks_to w v run good r (suc j)
    result : x.result ≡ outcome.Frame
    last : next_arc w a f ≡ None → Some_of (IsDeliveryOf w f) (Deliveries h)

  module _ (j a : ℕ) (here : TakesAt r j a) where
    lt : a < length w.net.arcs
    lt = hop_within w run r (rules w v run good i r at) j a here

    prio : (row w f).prio ≡ r.prio
    prio = ap (λ (y : Row). y.prio) is

    within_bound : ticks_to w v run good r (suc j) ≤ v.bound i
    within_bound = hops_within w v run good i r at stream (suc j)

    -- it begins in time
    begins : (e : ℕ) (x : RingEntry) → slice_get (Entries h a r.prio) e ≡ Some x → x.frame ≡ f
        → (m : ℕ) × (b : Begin) × (slice_get (Begins h a) m ≡ Some b) × (b.what ≡ what.Frame (record { 0 = f })) × (b.tick + (arc w a).cost * (length (FrameOf w f) + 8) ≤ (send w f).send.tick.0 + ticks_to w v run good r (suc j))
    begins e x there' same =
        let first = entry_by w v run good n h legal i r at stream f is j a e x here there' same in
        let more = hop_more w v run good r j a here lt in
        let all = within_bound in
        let least = delay_least w v run good n h legal i r at stream f is j a here in
        let o = (timely w v run good a r.prio (port_of w v run good i r at stream j a here) n h done k k_lt n_is legal (port_obeys w v run good h a r.prio (all_obey w v run good n h legal))).begun_in_time e x there' in
        let b = o.begun (omega (arith, first, more, all, least, time)) in
        let left = o.left b.0 b.1 b.2 b.3 in
        let cost : (arc w a).cost * wire w x ≡ (arc w a).cost * (length (FrameOf w f) + 20) = ap (λ g. (arc w a).cost * (length (FrameOf w g) + 20)) same in
        let spread : (arc w a).cost * (length (FrameOf w f) + 20) ≡ (arc w a).cost * (length (FrameOf w f) + 8) + 12 * (arc w a).cost = omega arith in
        (b.0, b.1, b.2, b.3 ∙ ap (λ g. what.Frame (record { 0 = g })) same, omega (arith, left, cost, spread, first, more, least))

    module _ (m : ℕ) (b : Begin) (begun : slice_get (Begins h a) m ≡ Some b) (carries : b.what ≡ what.Frame (record { 0 = f })) where
      -- whole
      whole_one : FromFront w h a b f
      whole_one = let up = high j a here in express_begins w n h a m b (record { 0 = f }) lt legal begun carries (omega (arith, prio, up))

      -- and ends
      ends : b.tick + (arc w a).cost * (length (FrameOf w f) + 8) ≤ (send w f).send.tick.0 + ticks_to w v run good r (suc j) → m < length (Ends h a)
      ends by =
          let A = length w.net.arcs in
          let all = within_bound in
          let front = whole_one in
          let size : length (FrameOf w f) ≡ length (WholeOf w h b) = ap (λ x. length (whole_of w h b x)) (sym carries) in
          let has_size : SizeOf w h b.kind b (length (FrameOf w f)) = subst (λ k. SizeOf w h k b (length (FrameOf w f))) (sym front.kind) size in
          has_ended w n h a m (length (FrameOf w f)) b lt legal begun has_size
          (early A (b.tick + (arc w a).cost * (length (FrameOf w f) + 8)) done (1 + a) k n (omega (arith, by, all, time)) (omega (arith, lt)) n_is)

      -- and arrives
      arrives : (e : Ended) → slice_get (Ends h a) m ≡ Some e → (x : Arrive) × (slice_get (Arrivals h a) m ≡ Some x) × (x.ord ≡ m) × (x.tick ≤ (send w f).send.tick.0 + ticks_to w v run good r (suc j))
      arrives e ended =
          let A = length w.net.arcs in
          let all = within_bound in
          let s = steady w n h a lt legal in
          let by = end_ticks w v run good n h legal i r at stream f is j a m b e here begun ended carries in
          let x = there (Arrivals h a) m (s.arrived m e ended (early A (e.tick + (arc w a).delay) done (1 + A + a) k n (omega (arith, by, all, time)) (omega (arith, lt)) n_is)) in
          let travels = s.ordered.travels m e x.0 ended x.1 in
          (x.0, x.1, s.ordered.arrival_places m x.0 x.1, omega (arith, by, travels))

      -- and is received
      is_received : (e : Ended) → slice_get (Ends h a) m ≡ Some e → (x : Arrive) → slice_get (Arrivals h a) m ≡ Some x → (x.result ≡ outcome.Frame) × (next_arc w a f ≡ None → Some_of (IsDeliveryOf w f) (Deliveries h))
      is_received e ended x arrived =
          let given = gives w (routed w run) n h legal a lt m b e (record { 0 = f }) begun ended whole_one.kind carries spared in
          let result = frame_received w n h legal a lt m f given x arrived in
          let carried : frame_at h a m ≡ Some f = ap (λ o. option_and_then (λ (y : Begin). frame_in y.what) o) begun ∙ ap frame_in carries in (
            result,
            λ none. told_delivery h (record { tick = x.tick; node = (arc w a).to.0; frame = f; octets = FrameOf w f }) (IsDeliveryOf w f)
                (deliveries_read w n h a lt legal m f x (FrameOf w f) arrived result given carried none) (refl, refl),
          )

    hop : Some_of (λ (x : RingEntry). x.frame ≡ f) (Entries h a r.prio) → Hop j a
    hop some = by_entry (place_of (λ (x : RingEntry). x.frame ≡ f) (Entries h a r.prio) some)
      where
        by_arrival : (m : ℕ) (b : Begin) → slice_get (Begins h a) m ≡ Some b → b.what ≡ what.Frame (record { 0 = f }) → (e : Ended) → slice_get (Ends h a) m ≡ Some e → (x : Arrive) × (slice_get (Arrivals h a) m ≡ Some x) × (x.ord ≡ m) × (x.tick ≤ (send w f).send.tick.0 + ticks_to w v run good r (suc j)) → Hop j a
        by_arrival m b begun carries e ended (x, arrived, ord, by) =
            let o = is_received m b begun carries e ended x arrived in
            record { place = m; x = x; begin = b; arrived = arrived; begun = begun; carries = carries; by = by; result = o.0; last = o.1 }

        by_begin : (m : ℕ) × (b : Begin) × (slice_get (Begins h a) m ≡ Some b) × (b.what ≡ what.Frame (record { 0 = f })) × (b.tick + (arc w a).cost * (length (FrameOf w f) + 8) ≤ (send w f).send.tick.0 + ticks_to w v run good r (suc j)) → Hop j a
        by_begin (m, b, begun, carries, by) = let e = there (Ends h a) m (ends m b begun carries by) in by_arrival m b begun carries e.0 e.1 (arrives m b begun carries e.0 e.1)

        by_entry : (k : ℕ) × (x : RingEntry) × (slice_get (Entries h a r.prio) k ≡ Some x) × (x.frame ≡ f) → Hop j a
        by_entry (k, x, there', same) = by_begin (begins k x there' same)

  -- hop after hop
  on_and_on : (m j a : ℕ) → suc j + m ≡ length r.arcs → TakesAt r j a → Some_of (λ (x : RingEntry). x.frame ≡ f) (Entries h a r.prio) → Some_of (IsDeliveryOf w f) (Deliveries h)
  on_and_on zero j a long here some =
      let o = hop j a here some in
      let hops_are : hops w f ≡ map (λ (x : ArcId). x.0) r.arcs = ap (λ (y : Row). map (λ (x : ArcId). x.0) y.arcs) is in
      let none : next_arc w a f ≡ None = after_last (hops w f) (routes w run f) j a (subst (λ xs. slice_get xs j ≡ Some a) (sym hops_are) (taken_at r.arcs j a here)) (let l = long_map r.arcs in let e = ap length hops_are in omega (arith, long, l, e)) in
      o.last none
  on_and_on (suc m) j a long here some =
      let A = length w.net.arcs in
      let o = hop j a here some in
      let lt = hop_within w run r (rules w v run good i r at) j a here in
      let hops_are : hops w f ≡ map (λ (x : ArcId). x.0) r.arcs = ap (λ (y : Row). map (λ (x : ArcId). x.0) y.arcs) is in
      let b = (get_or r.arcs (suc j) (record { 0 = 0 })).0 in
      let next : TakesAt r (suc j) b = TakesAt-from r (suc j) (record { 0 = 0 }) (omega (arith, long)) in
      let b_lt = hop_within w run r (rules w v run good i r at) (suc j) b next in
      let follows : next_arc w a f ≡ Some b = behind_it (hops w f) (routes w run f) j a b (subst (λ xs. slice_get xs j ≡ Some a) (sym hops_are) (taken_at r.arcs j a here)) (subst (λ xs. slice_get xs (suc j) ≡ Some b) (sym hops_are) (taken_at r.arcs (suc j) b next)) in
      let meet = ap (latency_at w.net.nodes) (joined w v run good i r at j b a here next) in
      let more = hop_more w v run good r (suc j) b next b_lt in
      let all = hops_within w v run good i r at stream (suc (suc j)) in
      let carried : frame_at h a o.place ≡ Some f = ap (λ o. option_and_then (λ (y : Begin). frame_in y.what) o) o.begun ∙ ap frame_in o.carries in
      let enters = relayed_comes w n h legal a o.place f b o.x lt o.arrived o.result carried follows
      (early A (o.x.tick + latency w a) done (1 + 3 * A) k n (omega (arith, o.by, meet, more, all, time)) (omega arith) n_is) in
      let e : (row w f).prio ≡ r.prio = ap (λ (y : Row). y.prio) is in
      on_and_on m (suc j) b (omega (arith, long)) next (subst (λ p. Some_of (λ (x : RingEntry). x.frame ≡ f) (Entries h b p)) e (entry_in_ring h enters.0 (record { tick = o.x.tick + latency w a; arc = b; prio = (row w f).prio; frame = f }) enters.1))

  first_entry : Some_of (λ (x : RingEntry). x.frame ≡ f) (Entries h (first_arc w f) r.prio)
  first_entry =
      let A = length w.net.arcs in
      let enters = sent_comes w n h legal f known (early A ((send w f).send.tick.0) done (1 + 3 * A) k n (omega (arith, time)) (omega arith) n_is) in
      let e : (row w f).prio ≡ r.prio = ap (λ (y : Row). y.prio) is in
      subst (λ p. Some_of (λ (x : RingEntry). x.frame ≡ f) (Entries h (first_arc w f) p)) e (entry_in_ring h enters.0 (record { tick = (send w f).send.tick.0; arc = first_arc w f; prio = (row w f).prio; frame = f }) enters.1)

  delivered_at_last : Some_of (IsDeliveryOf w f) (Deliveries h)
  delivered_at_last =
      let route = (rules w v run good i r at).route in
      let b = (get_or r.arcs 0 (record { 0 = 0 })).0 in
      let some : 0 < length r.arcs = omega (arith, route.long.0, route.hops) in
      let here : TakesAt r 0 b = TakesAt-from r 0 (record { 0 = 0 }) some in
      let front : slice_get (hops w f) 0 ≡ Some b = subst (λ (y : Row). slice_get (map (λ (x : ArcId). x.0) y.arcs) 0 ≡ Some b) (sym is) (taken_at r.arcs 0 b here) in
      let first : first_arc w f ≡ b = ap (λ o. unwrap_or o 0) front in
      on_and_on (length r.arcs - 1) 0 b (omega (arith, some)) here (subst (λ a. Some_of (λ (x : RingEntry). x.frame ≡ f) (Entries h a r.prio)) first first_entry)

-- A spared express frame is delivered, where its bound is over.
pub spared_frames_arrive : (w : Scenario) (v : Values) → IsRun w → AreGood w.net w.streams.rows v → (n : ℕ) (h : History) (done k : ℕ) → LegalUpTo w n h → k < moments (length w.net.arcs) → n ≡ number (length w.net.arcs) done k
    → SparedFramesArrive w h done v
spared_frames_arrive w v run good n h done k legal k_lt n_is f known stream spared time =
    let frame = run.frames f known in
    let o = place_of (IsDeliveryOf w f) (Deliveries h) (delivered_at_last w v run good n h done legal k k_lt n_is (stream_of w f) (row w f) frame.listed stream f refl known spared time) in
    any_at (IsDeliveryOf w f) (Deliveries h) o.0 o.1 o.2 o.3

-- The headline, from a good certificate, a run and a legal history.
use Rattle.std.proofs.Common.{◌≡◌, ℕ, ◌+◌, ◌*◌, ◌/◌, ◌%◌, ◌<◌, ◌≤◌, ◌++◌, true, List, length, refl, sym, ◌∙◌, ap, subst, arith, eq-eqb, Some}
use Rattle.std.specs.Prelude.{slice_get, ◌==◌, ◌&&◌, All, Any}
use Rattle.std.proofs.lemmas.Bool.{eqb-true, and_parts, and_from}
use Rattle.pre_base.specs.declared.numbers.StreamId.{StreamId}
use Rattle.pre_base.specs.Sinks.{Taken}
use Rattle.pre_topo.specs.declared.network.Network.{Network}
use Rattle.pre_streams.specs.declared.rows.Row.{Row}
use Rattle.pre_bound.specs.declared.rows.PortRow.{PortRow}
use Rattle.pre_bound.specs.declared.certificate.Certificate.{Certificate}
use Rattle.pre_bound.specs.Good.{IsStream}
use Rattle.pre_bound.specs.Listed.{Says, GoodCertificate, port_row, bound_row}
use Rattle.pre_bound.specs.Places.{ports_of, streams_of}
use Rattle.pre_bound.specs.Uses.{has_port}
use Rattle.pre_bound.specs.Values.{Values}
use Rattle.pre_check.specs.Said.{bound_in, of_port}
use Rattle.pre_check.proofs.Agreeing.{has_port_due, has_stream_due}
use Rattle.pre_check.proofs.Lists.{looked}
use Rattle.pre_history.specs.Scenario.{Scenario, IsExpressFrame, row}
use Rattle.pre_history.specs.History.{Delivery, History}
use Rattle.pre_history.specs.Queries.{Deliveries}
use Rattle.pre_history.specs.Legal.{Legal, Spared}
use Rattle.pre_history.specs.Deliveries.{DeliversOnce}
use Rattle.pre_history.specs.Written.{AreWritten}
use Rattle.pre_history.proofs.Lists.{found_at}
use Rattle.pre_laws.proofs.Fitting.{read_one}
use Rattle.pre_delay.specs.Ports.{stream_of}
use Rattle.pre_delay.specs.Runs.{IsRun}
use Rattle.pre_delay.specs.Timely.{Timely}
use Rattle.pre_delay.proofs.OnePort.{place_of}
use Rattle.pre_trace.specs.Text.{text}
use Rattle.pre_cli.proofs.CurveLemmas.{at_lt}
use Rattle.pre_cli.specs.Headline.{Headline, printed_bound, printed_size, due_tick}

-- ---- the numbers that are printed

bound_said : (net : Network) (rows : List Row) (c : Certificate) (v : Values) → Says net rows c v → (stream : ℕ) (r : Row) → IsStream rows stream r → bound_in c.bounds stream ≡ v.bound stream
bound_said net rows c v says stream r is =
    let place = has_stream_due rows stream r is in
    subst (λ (l : List (StreamId × ℕ)). bound_in l stream ≡ v.bound stream) (sym says.bounds)
    (looked (λ (row : StreamId × ℕ). row.0.0 == stream) (λ row. row.1) (bound_row v) (v.bound stream) (λ x h. ap v.bound (eqb-true x.0 stream h))
    (streams_of rows) place.0 (stream, r) place.1 (eq-eqb stream stream refl))

size_said : (net : Network) (rows : List Row) (c : Certificate) (v : Values) → Says net rows c v → (arc prio : ℕ) → arc < length net.arcs → prio < 8 → has_port rows arc prio ≡ true
    → of_port (λ (row : PortRow). row.size) c.ports arc prio ≡ v.size arc prio
size_said net rows c v says arc prio inside low port =
    let place = has_port_due net rows arc prio inside low port in
    let k = arc * 8 + prio in
    let a : k / 8 ≡ arc = omega arith in
    let p : k % 8 ≡ prio = omega arith in
    subst (λ (l : List PortRow). of_port (λ (row : PortRow). row.size) l arc prio ≡ v.size arc prio) (sym says.ports)
    (looked (λ row. row.arc.0 == arc && row.prio == prio) (λ row. row.size) (port_row v) (v.size arc prio)
    (λ x h. let parts = and_parts _ _ h in ap (λ n. v.size n (x % 8)) (eqb-true (x / 8) arc parts.0) ∙ ap (v.size arc) (eqb-true (x % 8) prio parts.1))
    (ports_of net rows) place.0 k place.1 (and_from _ _ (eq-eqb (k / 8) arc a) (eq-eqb (k % 8) prio p)))

every_get : {X : Type 0} (P : X → Type 0) (xs : List X) → All P xs → (i : ℕ) (x : X) → slice_get xs i ≡ Some x → P x
every_get P xs all i x at = subst P (read_one xs i x x at) (all i x (at_lt xs i x at))

-- ---- the headline

module _ (w : Scenario) (c : Certificate) (run : IsRun w) (good : GoodCertificate w.net w.streams c) where
  bound_is : (f : ℕ) → f < length w.script.sends → IsExpressFrame w f → printed_bound c (stream_of w f) ≡ good.values.bound (stream_of w f)
  bound_is f lt express = bound_said w.net w.streams.rows c good.values good.says (stream_of w f) (row w f) (record { row = (run.frames f lt).listed; express = express })

  size_is : (a p : ℕ) → has_port w.streams.rows a p ≡ true → printed_size c a p ≡ good.values.size a p
  size_is a p port =
      let place = place_of w good.values run good.good a p port in
      size_said w.net w.streams.rows c good.values good.says a p place.within place.below port

  module _ (h : History) (once : DeliversOnce w h) (timely : Timely w h (w.script.until.0 + 1) good.values) where
    known_at : (i : ℕ) (d : Delivery) → slice_get (Deliveries h) i ≡ Some d → d.frame < length w.script.sends
    known_at i d at = every_get (λ (x : Delivery). x.frame < length w.script.sends) (Deliveries h) once.known i d at

    in_time : (i : ℕ) (d : Delivery) → slice_get (Deliveries h) i ≡ Some d → IsExpressFrame w d.frame → d.tick ≤ due_tick w c d.frame
    in_time i d at express =
        let bound = bound_is d.frame (known_at i d at) express in
        let soon = timely.delivery_within_bound i d at express in
        omega (arith, bound, soon)

    arrives : (f : ℕ) → f < length w.script.sends → IsExpressFrame w f → Spared w h f → due_tick w c f ≤ w.script.until.0
        → Any (λ (d : Delivery). (d.frame ≡ f) × (d.tick ≤ due_tick w c f)) (Deliveries h)
    arrives f lt express spared due =
        let bound = bound_is f lt express in
        let there = timely.spared_frames_arrive f lt express spared (omega (arith, bound, due)) in
        let d = there.1 in
        let same : d.frame ≡ f = there.4.0 in
        let at = found_at (Deliveries h) there.0 d there.2 there.3 in
        (there.0, d, there.2, there.3, (same, subst (λ n. d.tick ≤ due_tick w c n) same (in_time there.0 d at (subst (IsExpressFrame w) (sym same) express))))

    pub headline : (old new : Taken) → Legal w h → AreWritten w.net h → new.octets ≡ old.octets ++ text w.net h → new.flushed ≡ true → Headline w c old new
    headline old new legal written octets flushed = record {
      certificate_is_good = good;
      history = h;
      trace_is_its_text = octets;
      trace_is_flushed = flushed;
      history_can_be_told = written;
      history_is_legal = legal;
      spared_frames_arrive = arrives;
      deliveries_are_in_time = in_time;
      queues_are_within_size = λ arc prio t port le.
          let size = size_is arc prio port in
          let within = timely.queue_within_size arc prio t port (omega (arith, le)) in
          omega (arith, size, within);
      delivered_frames_are_known = once.known;
      delivered_frames_were_sent = once.sent;
      delivered_octets_are_theirs = once.octets;
      frames_are_delivered_once = once.once;
    }

-- Lemmas: what a drill answers and leaves.
use Rattle.std.proofs.Common.{◌≡◌, ◌⊎◌, inl, inr, ℕ, ◌+◌, ◌-◌, ◌<◌, ◌≤◌, ◌==◌, ◌++◌, Bool, true, false}
use Rattle.std.proofs.Common.{List, [], ◌∷◌, length, map, filter, fold, max, zero, suc, Option, Some, None, refl, sym, ◌∙◌, ap, subst}
use Rattle.std.proofs.Common.{arith}
use Rattle.std.proofs.Math.Nat.{max-le}
use Rattle.std.proofs.lemmas.Bool.{cases_Bool, eqb-true}
use Rattle.std.proofs.lemmas.List.{append-nil}
use Rattle.std.proofs.lemmas.List.Elements.{All-nil, All-cons}
use Rattle.std.specs.Prelude.{◌≢◌, slice_get, All, IsSome}
use Rattle.pre_base.specs.declared.numbers.ArcId.{ArcId}
use Rattle.pre_base.specs.declared.numbers.StreamId.{StreamId}
use Rattle.pre_base.specs.Faults.{Rose}
use Rattle.pre_base.specs.Told.{WhereTold, WhereTold-join, WhereTold-map}
use Rattle.pre_base.specs.Sinks.{Taken}
use Rattle.pre_base.specs.Sinks.{TakesFront, TakesWhole}
use Rattle.pre_topo.specs.declared.network.Network.{Network}
use Rattle.pre_streams.specs.declared.rows.Row.{Row}
use Rattle.pre_script.specs.declared.scripts.Script.{Script}
use Rattle.pre_bound.specs.declared.certificate.Certificate.{Certificate}
use Rattle.pre_bound.specs.Good.{IsStream}
use Rattle.pre_bound.specs.Listed.{Says, GoodCertificate, bound_row}
use Rattle.pre_bound.specs.Places.{streams_of}
use Rattle.pre_bound.specs.Values.{Values}
use Rattle.pre_certify.specs.Causes.{Cause}
use Rattle.pre_certify.specs.Refusals.{NoneRefuses, IsAlone}
use Rattle.pre_certify.specs.Refusals.{NoneRefuses}
use Rattle.pre_certify.specs.declared.unfit.Unfit.{Unfit}
use Rattle.pre_certify.specs.declared.unfit.Unfit.TheVariants as unfit
use Rattle.pre_check.proofs.Agreeing.{stream_due}
use Rattle.pre_check.proofs.Lists.{from_map}
use Rattle.pre_history.specs.Scenario.{Scenario, IsExpressFrame, row, send, no_row}
use Rattle.pre_history.specs.History.{Delivery, PlainEvent, History}
use Rattle.pre_history.specs.Queries.{Deliveries}
use Rattle.pre_history.specs.Legal.{Legal}
use Rattle.pre_history.specs.Deliveries.{DeliversOnce}
use Rattle.pre_laws.proofs.Fitting.{read_one}
use Rattle.pre_delay.specs.Ports.{stream_of}
use Rattle.pre_delay.specs.Timely.{Timely}
use Rattle.pre_trace.specs.Figures.{ComeOnce, delay, figures_of, of_stream}
use Rattle.pre_trace.specs.SummaryText.{summary_text}
use Rattle.pre_sim.specs.declared.runs.Step.{Step}
use Rattle.pre_sim.specs.declared.runs.Step.TheVariants.{More, Ended, Alias, Stopped}
use Rattle.pre_sim.specs.Steps.{StepTells, StepCause}
use Rattle.pre_sim.specs.Views.{SimView, HasTold}
use Rattle.pre_cli.specs.declared.statuses.Status.{Status}
use Rattle.pre_cli.specs.declared.statuses.Status.TheVariants as status
use Rattle.pre_cli.specs.Certifying.{IsLeastRanked, unfit_status}
use Rattle.pre_cli.specs.Drilling.{Drill, scenario, IsDrilled, DrillingCause, Drilled, DrilledFront, DrillingLeaves}
use Rattle.pre_cli.specs.Runs.{FlushEnds}
use Rattle.pre_cli.proofs.CertifyLemmas.{alone_at}
use Rattle.pre_cli.proofs.CurveLemmas.{at_lt}

-- ---- a run that is summed up

-- a watcher that had taken nothing took the legal history that the run told
pub summed : (w : Scenario) (s u : SimView) (step : Step) (old new : List ℕ → History → Type 0) (torn : List ℕ → History → PlainEvent → Type 0) → s.run ≡ w → HasTold s [] → old [] []
    → StepTells s step u old new torn → step ≡ Ended → (h : History) × Legal w h × new [] h
summed w s u step old new torn same begun nothing told ended =
    let t = subst (λ (x : Step). StepTells s x u old new torn) ended told in
    (t.0, subst (λ (v : Scenario). Legal v t.0) same (t.2 [] begun), t.1.1 [] [] nothing)

-- a watcher that never fails stops no run
pub never_stopped : (step : Step) → StepCause step 0 0 → step ≢ Stopped
never_stopped step cause stopped = none (subst (λ (x : Step). StepCause x 0 0) stopped cause)
  where
    none : StepCause Stopped 0 0 → ⊥
    none (later, rose) = omega (arith, rose)

-- ---- delays within bounds

all_of : {X : Type 0} (P : X → Type 0) (xs : List X) → ((i : ℕ) (x : X) → slice_get xs i ≡ Some x → P x) → All P xs
all_of P [] h = All-nil P
all_of P (x ∷ xs) h = All-cons P x xs (h 0 x refl) (all_of P xs (λ i y at. h (suc i) y at))

-- deliveries come as a summary needs them
pub come_once : (w : Scenario) (h : History) → DeliversOnce w h → ComeOnce w.script h
come_once w h once = record { known = once.known; after = once.sent; once = once.once }

-- the greatest delay of a row's deliveries is at most what each is
greatest_within : (script : Script) (i n m : ℕ) (ds : List Delivery) → m ≤ n → ((j : ℕ) (d : Delivery) → slice_get ds j ≡ Some d → of_stream script i d ≡ true → delay script d ≤ n)
    → fold max m (map (delay script) (filter (of_stream script i) ds)) ≤ n
greatest_within script i n m [] le each = le
greatest_within script i n m (d ∷ ds) le each =
    elim (cases_Bool (of_stream script i d)) [
      | inl is ↦ rw is (greatest_within script i n (max m (delay script d)) ds (max-le le (each 0 d refl is)) (λ j x at. each (suc j) x at))
      | inr not ↦ rw not (greatest_within script i n m ds le (λ j x at. each (suc j) x at))
    ]

module _ (w : Scenario) (h : History) (v : Values) (done : ℕ) (timely : Timely w h done v) where
  -- a frame of a stream is an express frame
  is_express : (i : ℕ) (r : Row) → IsStream w.streams.rows i r → (f : ℕ) → stream_of w f ≡ i → IsExpressFrame w f
  is_express i r is f same =
      let at : slice_get w.streams.rows (stream_of w f) ≡ Some r = ap (slice_get w.streams.rows) same ∙ is.row in
      let here : row w f ≡ r = read_one w.streams.rows (stream_of w f) r no_row at in
      subst (λ (x : Row). IsSome x.curve) (sym here) is.express

  within : (i : ℕ) (r : Row) → IsStream w.streams.rows i r → (figures_of w.script h i).greatest ≤ v.bound i
  within i r is = greatest_within w.script i (v.bound i) 0 (Deliveries h) (omega arith) each
    where
      each : (j : ℕ) (d : Delivery) → slice_get (Deliveries h) j ≡ Some d → of_stream w.script i d ≡ true → delay w.script d ≤ v.bound i
      each j d at of =
          let same : stream_of w d.frame ≡ i = eqb-true _ i of in
          let soon = timely.delivery_within_bound j d at (is_express i r is d.frame same) in
          let bound = ap v.bound same in
          omega (arith, soon, bound)

  pub delays_within : (c : Certificate) → Says w.net w.streams.rows c v → All (λ bound. (figures_of w.script h bound.0.0).greatest ≤ bound.1) c.bounds
  delays_within c says = subst (λ (l : List (StreamId × ℕ)). All (λ bound. (figures_of w.script h bound.0.0).greatest ≤ bound.1) l) (sym says.bounds)
      (all_of _ (map (bound_row v) (streams_of w.streams.rows)) each)
    where
      each : (j : ℕ) (b : StreamId × ℕ) → slice_get (map (bound_row v) (streams_of w.streams.rows)) j ≡ Some b → (figures_of w.script h b.0.0).greatest ≤ b.1
      each j b at =
          let found = from_map (bound_row v) (streams_of w.streams.rows) j b at in
          let e = found.0 in
          subst (λ (x : StreamId × ℕ). (figures_of w.script h x.0.0).greatest ≤ x.1) found.2 (within e.0 e.1 (stream_due w.streams.rows j e found.1))

-- each bound is of a row
pub bounds_of_rows : (net : Network) (rows : List Row) (c : Certificate) (v : Values) (n : ℕ) → n ≡ length rows → Says net rows c v → All (λ bound. bound.0.0 < n) c.bounds
bounds_of_rows net rows c v n long says =
    subst (λ (l : List (StreamId × ℕ)). All (λ bound. bound.0.0 < n) l) (sym says.bounds) (all_of _ (map (bound_row v) (streams_of rows)) each)
  where
    each : (j : ℕ) (b : StreamId × ℕ) → slice_get (map (bound_row v) (streams_of rows)) j ≡ Some b → b.0.0 < n
    each j b at =
        let found = from_map (bound_row v) (streams_of rows) j b at in
        let e = found.0 in
        let lt = at_lt rows e.0 e.1 (stream_due rows j e found.1).row in
        let here : e.0 ≡ b.0.0 = ap (λ (x : StreamId × ℕ). x.0.0) found.2 in
        omega (arith, lt, here, long)

-- ---- answers

module _ (number : ℕ) (x : Drill number) (c : Certificate) (least : IsLeastRanked x.net x.streams c) (h : History) (legal : Legal (scenario x) h) where
  pub torn_leaves : (a b : Option Taken) → WhereTold a b (TakesFront (summary_text x.net x.streams x.script h c.bounds number)) → DrillingLeaves number status.WriteFault a b
  torn_leaves a b took = (x, c, WhereTold-map a b _ (DrilledFront number x c) (λ p q front. record { certificate_is_least = least; history = h; history_is_legal = legal; front = front }) took)

  pub flushed_leaves : (s : Status) (a b d : Option Taken) (between now : ℕ) → All (λ bound. (figures_of x.script h bound.0.0).greatest ≤ bound.1) c.bounds
      → WhereTold a b (TakesWhole (summary_text x.net x.streams x.script h c.bounds number)) → FlushEnds status.Done s b d between now → DrillingLeaves number s a d
  flushed_leaves s a b d between now within took (inl (is, ends, later)) = subst (λ (y : Status). DrillingLeaves number y a d) (sym is) (
    x,
    c,
    WhereTold-join a b d _ _ (Drilled number x c) (λ p q r whole more. record {
      certificate_is_least = least;
      history = h;
      history_is_legal = legal;
      summary_is_its_text = more.0 ∙ whole;
      summary_is_flushed = more.1;
      delays_are_within_bounds = within;
    }) took ends,
  )
  flushed_leaves s a b d between now within took (inr (is, ends, later, rose)) =
      let text = summary_text x.net x.streams x.script h c.bounds number in
      subst (λ (y : Status). DrillingLeaves number y a d) (sym is)
      (torn_leaves a d (WhereTold-join a b d _ _ (TakesFront text) (λ p q r whole more. ([], (text, sym (append-nil text), more ∙ whole))) took ends))

pub flushed_cause : (number : ℕ) (x : Drill number) (s : Status) (before between now : ℕ) (a b : Option Taken) → IsDrilled x → before ≤ between
    → FlushEnds status.Done s a b between now → DrillingCause number s before now
flushed_cause number x s before between now a b drilled sooner (inl (is, ends, later)) = subst (λ (y : Status). DrillingCause number y before now) (sym is) (x, drilled)
flushed_cause number x s before between now a b drilled sooner (inr (is, ends, later, rose)) =
    subst (λ (y : Status). DrillingCause number y before now) (sym is) (omega (arith, sooner, rose), (x, drilled))

-- a refusal of the certifier is answered with its cause
pub refused_cause : (number : ℕ) (x : Drill number) (u : Unfit) (before now : ℕ) → Cause x.net x.streams.rows u → (u ≡ unfit.Memory) ⊎ IsAlone x.net x.streams u → DrillingCause number (unfit_status u) before now
refused_cause number x (unfit.Overload arc) before now cause alone = (x, alone_at (unfit.Overload arc) x.net x.streams (λ e. cc) cause alone)
refused_cause number x (unfit.Cycle arcs) before now cause alone = (x, alone_at (unfit.Cycle arcs) x.net x.streams (λ e. cc) cause alone)
refused_cause number x (unfit.Large arc prio) before now cause alone = (x, alone_at (unfit.Large arc prio) x.net x.streams (λ e. cc) cause alone)
refused_cause number x (unfit.Ring arc prio need) before now cause alone = (x, alone_at (unfit.Ring arc prio need) x.net x.streams (λ e. cc) cause alone)
refused_cause number x unfit.Memory before now cause alone = tt

-- What the built-in network and streams give to the rules where a flow's frame and an express frame are sent.
use Rattle.std.proofs.Common.{ℕ, zero, suc, ◌≡◌, ◌≢◌, ◌==◌, ◌&&◌, ◌+◌, ◌<◌, ◌≤◌, Bool, true, false, List, []}
use Rattle.std.proofs.Common.{◌∷◌, ◌++◌, length, refl, sym, ◌∙◌, ap, arith, subst, Option, Some, None, map, filter_map}
use Rattle.std.specs.Prelude.{slice_index_or, slice_get, unwrap_or, if◌then◌else◌, flat_map, option_map, option_and_then, AllPairs, Contains}
use Rattle.std.proofs.lemmas.Bool.Decides.{nat_tests}
use Rattle.pre_curve.specs.declared.curves.Curve.{Curve}
use Rattle.pre_topo.specs.declared.nodes.Node.{Node}
use Rattle.pre_topo.specs.declared.nodes.Timing.{Timing}
use Rattle.pre_topo.specs.declared.arcs.Arc.{Arc}
use Rattle.pre_topo.specs.Rules.{IsNetwork}
use Rattle.pre_topo.specs.Pair.{default_timing, pair_nodes, pair_arcs}
use Rattle.pre_streams.specs.declared.rows.Row.{Row}
use Rattle.pre_streams.specs.declared.rows.Streams.{Streams}
use Rattle.pre_streams.specs.Pair.{pair_rows}
use Rattle.pre_script.specs.declared.scripts.Script.{Script}
use Rattle.pre_script.specs.declared.scripts.SendLine.{SendLine}
use Rattle.pre_history.specs.Scenario.{Scenario, row, send, no_row, no_send, FrameOf, latency}
use Rattle.pre_history.specs.History.{History, Arrive}
use Rattle.pre_history.specs.Selected.{is_frame_result}
use Rattle.pre_history.specs.Queries.{Arrivals}
use Rattle.pre_history.specs.Comings.{Coming, Comings, hops, first_arc, next_arc, after, relayed, frame_at, sends_from}
use Rattle.pre_history.proofs.Lists.{every_placed, none_selected}
use Rattle.pre_history.proofs.Undamaged.{length-FrameOf}
use Rattle.pre_laws.specs.Routed.{IsRouted}
use Rattle.pre_witnesses.specs.CutFrame.{flow_send, express_send, CutsFrame}

abbrev pub both_sends : List SendLine
both_sends = flow_send ∷ express_send ∷ []

-- what such a scenario may still choose
pub record Files : Type 0 where
  pub rules : IsNetwork 4 default_timing pair_nodes pair_arcs
  pub streams : Streams
  pub curve : Curve
  pub rows : streams.rows ≡ pair_rows curve
  pub sends : List SendLine
  pub both : sends ≡ both_sends

abbrev pub script_of : List SendLine → Script
script_of sends = record { sends = sends; sets = []; losses = []; damages = []; until = record { 0 = 2000 } }

abbrev pub scenario_of : Files → Scenario
scenario_of g = record {
  net = record { express_from = 4; timing = default_timing; nodes = pair_nodes; arcs = pair_arcs; rules = g.rules };
  streams = g.streams;
  script = script_of g.sends;
}

-- each scenario with these files is one of those
pub of_all : (P : Scenario → Type 0) → ((g : Files) → P (scenario_of g)) → (w : Scenario) → CutsFrame w → P w
of_all P all w s =
    let one : NetworkOf 4 default_timing pair_nodes pair_arcs
    = (λ rules. all (record { rules = rules; streams = w.streams; curve = s.streams.0; rows = s.streams.2; sends = w.script.sends; both = s.sends })) in
    let net = subst (λ e. NetworkOf e w.net.timing w.net.nodes w.net.arcs) (sym s.net.express_from)
    (subst (λ t. NetworkOf 4 t w.net.nodes w.net.arcs) (sym s.net.timing)
    (subst (λ n. NetworkOf 4 default_timing n w.net.arcs) (sym s.net.nodes)
    (subst (λ a. NetworkOf 4 default_timing pair_nodes a) (sym s.net.arcs) one))) w.net.rules in
    subst (λ (script : Script). P (record { net = w.net; streams = w.streams; script = script }))
    (λ i. record { sends = w.script.sends; sets = sym s.sets i; losses = sym s.losses i; damages = sym s.damages i; until = record { 0 = sym s.until i } }) net
  where
    NetworkOf : ℕ → Timing → List Node → List Arc → Type 0
    NetworkOf e t n a =
        (rules : IsNetwork e t n a) → P (record { net = record { express_from = e; timing = t; nodes = n; arcs = a; rules = rules }; streams = w.streams; script = script_of w.script.sends })

module _ (g : Files) where
  abbrev w : Scenario
  w = scenario_of g

  -- ---- routes

  row_of : (f : ℕ) → row w f ≡ slice_index_or (pair_rows g.curve) (slice_index_or both_sends f no_send).send.stream.0 no_row
  row_of f =
      ap (λ rows. slice_index_or rows (send w f).send.stream.0 no_row) g.rows ∙ ap
      (λ (xs : List SendLine). slice_index_or (pair_rows g.curve) (slice_index_or xs f no_send).send.stream.0 no_row) g.both

  hops_ab : (f : ℕ) → hops w f ≡ 0 ∷ []
  hops_ab f = ap (λ (r : Row). map (λ a. a.0) r.arcs) (row_of f) ∙ go f
    where
      go : (f : ℕ) → map (λ a. a.0) (slice_index_or (pair_rows g.curve) (slice_index_or both_sends f no_send).send.stream.0 no_row).arcs ≡ 0 ∷ []
      go zero = refl
      go (suc zero) = refl
      go (suc (suc f)) = refl

  pub first_ab : (f : ℕ) → first_arc w f ≡ 0
  first_ab f = ap (λ (xs : List ℕ). unwrap_or (slice_get xs 0) 0) (hops_ab f)

  pub no_next : (a f : ℕ) → next_arc w a f ≡ None
  no_next a f = ap (after a) (hops_ab f) ∙ go (0 == a)
    where
      go : (b : Bool) → ◌≡◌ {A = Option ℕ} (if b then None else None) None
      go true = refl
      go false = refl

  pub flow_prio : (row w 0).prio ≡ 0
  flow_prio = ap (λ (r : Row). r.prio) (row_of 0)

  pub express_prio : (row w 1).prio ≡ 6
  express_prio = ap (λ (r : Row). r.prio) (row_of 1)

  -- ---- sizes

  pub sends_two : length w.script.sends ≡ 2
  sends_two = ap length g.both

  size_of : (f : ℕ) → (send w f).send.size ≡ (slice_index_or both_sends f no_send).send.size
  size_of f = ap (λ (xs : List SendLine). (slice_index_or xs f no_send).send.size) g.both

  pub flow_size : (send w 0).send.size ≡ 1522
  flow_size = size_of 0

  pub express_size : (send w 1).send.size ≡ 64
  express_size = size_of 1

  pub flow_long : length (FrameOf w 0) ≡ 1522
  flow_long = length-FrameOf w 0 (omega (arith, flow_size)) ∙ flow_size

  pub express_long : length (FrameOf w 1) ≡ 64
  express_long = length-FrameOf w 1 (omega (arith, express_size)) ∙ express_size

  pub routed : IsRouted w
  routed = record {
    routes = λ f lt. let long = ap length (hops_ab f) in omega (arith, long);
    once = λ f lt. subst (AllPairs (λ a b. a ≢ b)) (sym (hops_ab f)) (λ i j d less within. absurd (omega (arith, less, within)));
    arcs = λ f a lt on. only a (subst (λ xs. Contains xs a) (hops_ab f) on);
    sizes = λ f lt. let size = size_of f in let fits = sized f (omega (arith, lt, sends_two)) in (omega (arith, size, fits.0), omega (arith, size, fits.1));
  }
    where
      only : (a : ℕ) → Contains (0 ∷ []) a → a < 2
      only a (zero, lt, is) = omega (arith, is)
      only a (suc k, lt, is) = absurd (omega (arith, lt))

      sized : (f : ℕ) → f < 2 → (64 ≤ (slice_index_or both_sends f no_send).send.size) × ((slice_index_or both_sends f no_send).send.size ≤ 2000)
      sized zero lt = (omega arith, omega arith)
      sized (suc zero) lt = (omega arith, omega arith)
      sized (suc (suc f)) lt = absurd (omega (arith, lt))

  -- ---- what comes to rings: no frame goes on behind an arc, so none is relayed

  none_relayed : (past : History) (t a : ℕ) (x : Arrive) → relayed w past t a x ≡ None
  none_relayed past t a x = go (is_frame_result x.result && (x.tick + latency w a == t)) (frame_at past a x.ord)
    where
      go : (b : Bool) (o : Option ℕ) → (if b then option_and_then {U = Coming} (λ f. option_map (λ c. record { arc = c; frame = f }) (next_arc w a f)) o else None) ≡ None
      go false o = refl
      go true None = refl
      go true (Some f) = ap (option_map {U = Coming} (λ c. record { arc = c; frame = f })) (no_next a f)

  no_relays : (past : History) (t : ℕ) (arcs : List ℕ) → flat_map (λ a. filter_map (relayed w past t a) (Arrivals past a)) arcs ≡ []
  no_relays past t [] = refl
  no_relays past t (a ∷ arcs) =
      ap (λ (xs : List Coming). xs ++ flat_map (λ a. filter_map (relayed w past t a) (Arrivals past a)) arcs)
      (none_selected (relayed w past t a) (Arrivals past a) (every_placed (λ x. relayed w past t a x ≡ None) (Arrivals past a) (λ i x at. none_relayed past t a x)))
      ∙ no_relays past t arcs

  comings_are : (h : History) (t : ℕ) → Comings w h t ≡ sends_from w t 0 both_sends
  comings_are h t = ap (λ (xs : List Coming). xs ++ sends_from w t 0 w.script.sends) (no_relays h t (0 ∷ 1 ∷ [])) ∙ ap (sends_from w t 0) g.both

  pub none_comes : (h : History) (t : ℕ) → t ≢ 0 → t ≢ 20 → Comings w h t ≡ []
  none_comes h t other other' =
      let first : (0 == t) ≡ false = grind (arith, nat_tests) in
      let second : (20 == t) ≡ false = grind (arith, nat_tests) in
      comings_are h t ∙ rw (first, second) refl

  pub flow_comes : (h : History) → Comings w h 0 ≡ record { arc = 0; frame = 0 } ∷ []
  flow_comes h = comings_are h 0 ∙ ap (λ a. record { arc = a; frame = 0 } ∷ []) (first_ab 0)

  pub express_comes : (h : History) → Comings w h 20 ≡ record { arc = 0; frame = 1 } ∷ []
  express_comes h = comings_are h 20 ∙ ap (λ a. record { arc = a; frame = 1 } ∷ []) (first_ab 1)

-- What the built-in network and streams give to the rules, where the script sends frames of the stream x at tick 0.
use Rattle.std.proofs.Common.{ℕ, zero, suc, ◌≡◌, ◌≢◌, ◌+◌, ◌*◌, ◌/◌, ◌%◌, ◌-◌, ◌<◌, ◌≤◌, List, [], ◌∷◌}
use Rattle.std.proofs.Common.{◌++◌, length, refl, sym, ◌∙◌, ap, arith, subst, Some, map, codes, ◌==◌, ◌&&◌, Bool, true, false, Option, None}
use Rattle.std.proofs.Common.{filter_map}
use Rattle.std.specs.Prelude.{slice_index_or, slice_get, unwrap_or, if◌then◌else◌, flat_map, option_map, option_and_then}
use Rattle.pre_topo.specs.declared.arcs.Arc.{Arc}
use Rattle.pre_topo.specs.declared.arcs.Mode.TheVariants as mode
use Rattle.pre_topo.specs.Pair.{pair_arcs}
use Rattle.pre_streams.specs.declared.rows.Row.{Row}
use Rattle.pre_streams.specs.Pair.{pair_row}
use Rattle.pre_history.specs.Scenario.{Scenario, arc, row, send, no_arc, no_row, FrameOf, latency}
use Rattle.pre_history.specs.Moments.{Phase, Moment, moment_at, phase_at}
use Rattle.pre_history.specs.History.{History, Arrive}
use Rattle.pre_history.specs.Comings.{Coming, hops, first_arc, next_arc, after, relayed, frame_at, sends_from}
use Rattle.pre_history.specs.Selected.{is_frame_result}
use Rattle.pre_history.specs.Queries.{Arrivals}
use Rattle.pre_history.proofs.Lists.{every_placed, none_selected}
use Rattle.pre_history.specs.Rules.{HappensIn, Happens}
use Rattle.pre_history.specs.Legal.{LegalUpTo}
use Rattle.pre_topo.specs.PairNetwork.{IsPair}
use Rattle.pre_streams.specs.PairStreams as streams
use Rattle.pre_history.proofs.Undamaged.{length-FrameOf}
use Rattle.pre_history.proofs.Moments.{legal_idle}

pub record SendsAtStart (w : Scenario) : Type 0 where
  pub net : IsPair w.net
  pub streams : streams.IsPair w.streams
  pub sets : w.script.sets ≡ []
  pub stream_x : (f : ℕ) → (send w f).send.stream.0 ≡ 0
  pub size : (f : ℕ) → f < length w.script.sends → (send w f).send.size ≡ 64
  pub none_later : (t : ℕ) → 0 < t → sends_from w t 0 w.script.sends ≡ []

module _ (w : Scenario) (s : SendsAtStart w) where
  pub two_arcs : length w.net.arcs ≡ 2
  two_arcs = ap length s.net.arcs

  pub no_delay : (a : ℕ) → (arc w a).delay ≡ 0
  no_delay a = ap (λ (xs : List Arc). (slice_index_or xs a no_arc).delay) s.net.arcs ∙ go a
    where
      go : (a : ℕ) → (slice_index_or pair_arcs a no_arc).delay ≡ 0
      go zero = refl
      go (suc zero) = refl
      go (suc (suc a)) = refl

  pub no_talks : (a : ℕ) → (arc w a).mode ≢ mode.Negotiate
  no_talks a is = go a (sym (ap (λ (xs : List Arc). (slice_index_or xs a no_arc).mode) s.net.arcs) ∙ is)
    where
      go : (a : ℕ) → (slice_index_or pair_arcs a no_arc).mode ≢ mode.Negotiate
      go zero e = cc e
      go (suc zero) e = cc e
      go (suc (suc a)) e = cc e

  pub express_four : (a : ℕ) → (arc w a).express_from ≤ 4
  express_four a = let here = ap (λ (xs : List Arc). (slice_index_or xs a no_arc).express_from) s.net.arcs in omega (arith, here, go a)
    where
      go : (a : ℕ) → (slice_index_or pair_arcs a no_arc).express_from ≤ 4
      go zero = omega arith
      go (suc zero) = omega arith
      go (suc (suc a)) = omega arith

  pub cost_one : (arc w 0).cost ≡ 1
  cost_one = ap (λ (xs : List Arc). (slice_index_or xs 0 no_arc).cost) s.net.arcs

  pub far_end : (arc w 0).to.0 ≡ 1
  far_end = ap (λ (xs : List Arc). (slice_index_or xs 0 no_arc).to.0) s.net.arcs

  row_x : (f : ℕ) → row w f ≡ pair_row (codes "x") 10 6 (Some s.streams.0)
  row_x f = ap (λ n. slice_index_or w.streams.rows n no_row) (s.stream_x f) ∙ ap (λ (xs : List Row). slice_index_or xs 0 no_row) s.streams.2

  hops_ab : (f : ℕ) → hops w f ≡ 0 ∷ []
  hops_ab f = ap (λ (r : Row). map (λ a. a.0) r.arcs) (row_x f)

  pub first_ab : (f : ℕ) → first_arc w f ≡ 0
  first_ab f = ap (λ (xs : List ℕ). unwrap_or (slice_get xs 0) 0) (hops_ab f)

  -- no frame goes on behind an arc, and so none is relayed
  pub no_next : (a f : ℕ) → next_arc w a f ≡ None
  no_next a f = ap (after a) (hops_ab f) ∙ go (0 == a)
    where
      go : (b : Bool) → ◌≡◌ {A = Option ℕ} (if b then None else None) None
      go true = refl
      go false = refl

  none_relayed : (past : History) (t a : ℕ) (x : Arrive) → relayed w past t a x ≡ None
  none_relayed past t a x = go (is_frame_result x.result && (x.tick + latency w a == t)) (frame_at past a x.ord)
    where
      go : (b : Bool) (o : Option ℕ) → (if b then option_and_then {U = Coming} (λ f. option_map (λ c. record { arc = c; frame = f }) (next_arc w a f)) o else None) ≡ None
      go false o = refl
      go true None = refl
      go true (Some f) = ap (option_map {U = Coming} (λ c. record { arc = c; frame = f })) (no_next a f)

  pub no_relays : (past : History) (t : ℕ) (arcs : List ℕ) → flat_map (λ a. filter_map (relayed w past t a) (Arrivals past a)) arcs ≡ []
  no_relays past t [] = refl
  no_relays past t (a ∷ arcs) =
      ap (λ (xs : List Coming). xs ++ flat_map (λ a. filter_map (relayed w past t a) (Arrivals past a)) arcs)
      (none_selected (relayed w past t a) (Arrivals past a) (every_placed (λ x. relayed w past t a x ≡ None) (Arrivals past a) (λ i x at. none_relayed past t a x)))
      ∙ no_relays past t arcs

  pub prio_six : (f : ℕ) → (row w f).prio ≡ 6
  prio_six f = ap (λ (r : Row). r.prio) (row_x f)

  pub frame_size : (f : ℕ) → f < length w.script.sends → length (FrameOf w f) ≡ 64
  frame_size f lt = let size = s.size f lt in length-FrameOf w f (omega (arith, size)) ∙ size

  -- one more moment
  pub next : (n : ℕ) (past es : History) (t : ℕ) (p : Phase) → moment_at 2 n ≡ record { tick = t; phase = p } → HappensIn w past t p es → LegalUpTo w n past → LegalUpTo w (suc n) (past ++ es)
  next n past es t p at happens legal =
      (past, es, refl, legal, subst (λ arcs. Happens w past (moment_at arcs n) es) (sym two_arcs) (subst (λ (m : Moment). Happens w past m es) (sym at) happens))

  -- ticks at which nothing happens
  pub idle : (h : History) (t u : ℕ) → t ≤ u → ((r : ℕ) → t ≤ r → r < u → (p : Phase) → HappensIn w h r p []) → LegalUpTo w (t * 10) h → LegalUpTo w (u * 10) h
  idle h t u le quiet legal =
      let whole : t * 10 + (u - t) * 10 ≡ u * 10 = omega (arith, le) in
      subst (λ n. LegalUpTo w n h) whole (legal_idle w h ((u - t) * 10) (t * 10) legal (λ k lt.
      subst (λ arcs. Happens w h (moment_at arcs (t * 10 + k)) []) (sym two_arcs)
      (quiet ((t * 10 + k) / 10) (omega arith) (omega (arith, lt, le)) (phase_at 2 ((t * 10 + k) % 10)))))

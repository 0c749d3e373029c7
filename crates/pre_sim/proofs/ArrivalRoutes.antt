-- Where a frame that arrives goes on from the arc, by the bridge's table.
use Rattle.std.proofs.Common.{ℕ, zero, suc, ◌≡◌, ◌==◌, ◌+◌, ◌<◌, true, false, List, [], ◌∷◌, length, map, refl, sym, ◌∙◌, ap, inl, inr, arith, subst, Option, Some}
use Rattle.std.specs.Prelude.{slice_get, option_map, All, Contains}
use Rattle.std.specs.Option.{option_map_or}
use Rattle.std.proofs.lemmas.Bool.{cases_eq}
use Rattle.std.proofs.lemmas.Option.{slice_get-map}
use Rattle.pre_base.specs.declared.numbers.ArcId.{ArcId}
use Rattle.pre_topo.specs.declared.arcs.Arc.{Arc}
use Rattle.pre_topo.specs.Arcs.{latency_at}
use Rattle.pre_topo.specs.declared.nodes.NodeKind.TheVariants.{Bridge}
use Rattle.pre_streams.specs.declared.rows.Row.{Row}
use Rattle.pre_streams.specs.Rows.{IsRow}
use Rattle.pre_bridge.specs.Table.{onward, latency_of}
use Rattle.pre_history.specs.Scenario.{Scenario, no_arc, no_row, row, send, latency}
use Rattle.pre_history.specs.Comings.{after, hops, next_arc}
use Rattle.pre_laws.proofs.Fitting.{sent}
use Rattle.pre_memory.specs.Stations.{LeadsTo}
use Rattle.pre_memory.proofs.Stations.{inner}
use Rattle.pre_sim.specs.Reach.{AllFit}
use Rattle.pre_sim.proofs.Lists.{within, read_at, at_map, find_at, map_at}
use Rattle.pre_sim.proofs.NumberTests.{is_eq, not_eq}

-- what is known of the routes of a scenario
abbrev pub GoAlong : Scenario → Type 0
GoAlong w = All (λ (r : Row). (i : ℕ) (arc : ArcId) → slice_get r.arcs i ≡ Some arc → onward w.net w.streams arc.0 r.vid ≡ slice_get r.arcs (i + 1)) w.streams.rows

-- the arc behind the first place of an arc, where the same stands behind each of its places
behind : (a : ℕ) (o : Option ArcId) (xs : List ArcId) (i : ℕ) (x : ArcId) → ((j : ℕ) (y : ArcId) → slice_get xs j ≡ Some y → y.0 ≡ a → o ≡ slice_get xs (suc j)) → slice_get xs i ≡ Some x → x.0 ≡ a
    → option_map (λ (y : ArcId). y.0) o ≡ after a (map (λ (y : ArcId). y.0) xs)
behind a o [] i x says at is = absurd (cc at)
behind a o (y ∷ xs) zero x says at is =
    let first : y ≡ x = cc at in
    let same : y.0 ≡ a = ap (λ (z : ArcId). z.0) first ∙ is in
    let test : (y.0 == a) ≡ true = is_eq y.0 a same in
    rw test (ap (option_map (λ (y : ArcId). y.0)) (says 0 y refl same) ∙ sym (slice_get-map (λ (y : ArcId). y.0) xs 0))
behind a o (y ∷ xs) (suc i) x says at is = elim (cases_eq y.0 a) [
  | inl same ↦ let test : (y.0 == a) ≡ true = is_eq y.0 a same in rw test (ap (option_map (λ (y : ArcId). y.0)) (says 0 y refl same) ∙ sym (slice_get-map (λ (y : ArcId). y.0) xs 0))
  | inr other ↦ let test : (y.0 == a) ≡ false = not_eq y.0 a other in rw test (behind a o xs i x (λ j z at' is'. says (suc j) z at' is') at is)
]

module _ (w : Scenario) (fit : AllFit w.net w.streams w.script) (along : GoAlong w) where
  -- behind each place of an arc in the route of a frame stands what the bridge's table gives
  its_row : (n : ℕ) → n < length w.script.sends → (i : ℕ) (arc : ArcId) → slice_get (row w n).arcs i ≡ Some arc → onward w.net w.streams arc.0 (row w n).vid ≡ slice_get (row w n).arcs (suc i)
  its_row n lt i arc at =
      let s = sent w fit.streams_fit fit.script_fits n lt in
      let next : i + 1 ≡ suc i = omega arith in
      along (send w n).send.stream.0 no_row (within w.streams.rows (send w n).send.stream.0 s.row s.known) i arc at ∙ ap (slice_get (row w n).arcs) next

  -- a place of the arc
  at_place : (n a : ℕ) → Contains (hops w n) a → (i : ℕ) × (x : ArcId) × (slice_get (row w n).arcs i ≡ Some x) × (x.0 ≡ a)
  at_place n a (i, in_hops, is) =
      let at : slice_get (hops w n) i ≡ Some a = find_at (hops w n) i a in_hops ∙ ap Some is in
      let x = map_at (λ (y : ArcId). y.0) (row w n).arcs i a at in
      (i, x.0, x.1, x.2)

  says_at : (n a : ℕ) → n < length w.script.sends → (j : ℕ) (y : ArcId) → slice_get (row w n).arcs j ≡ Some y → y.0 ≡ a → onward w.net w.streams a (row w n).vid ≡ slice_get (row w n).arcs (suc j)
  says_at n a lt j y at is = ap (λ b. onward w.net w.streams b (row w n).vid) (sym is) ∙ its_row n lt j y at

  -- the table tells the next arc of the frame's route
  pub goes_onward : (n a : ℕ) → n < length w.script.sends → Contains (hops w n) a → option_map (λ (b : ArcId). b.0) (onward w.net w.streams a (row w n).vid) ≡ next_arc w a n
  goes_onward n a lt over =
      let p = at_place n a over in
      behind a (onward w.net w.streams a (row w n).vid) (row w n).arcs p.0 p.1 (says_at n a lt) p.2 p.3

  -- which is on its route again
  pub still_over : (n a : ℕ) (b : ArcId) → n < length w.script.sends → Contains (hops w n) a → onward w.net w.streams a (row w n).vid ≡ Some b → Contains (hops w n) b.0
  still_over n a b lt over is =
      let p = at_place n a over in
      let at : slice_get (row w n).arcs (suc p.0) ≡ Some b = sym (says_at n a lt p.0 p.1 p.2 p.3) ∙ is in
      let here : slice_get (hops w n) (suc p.0) ≡ Some b.0 = at_map (λ (y : ArcId). y.0) (row w n).arcs (suc p.0) b at in
      (suc p.0, within (hops w n) (suc p.0) b.0 here, read_at (hops w n) (suc p.0) b.0 b.0 here)

  -- and the arc leads to a bridge
  pub at_bridge : (n a : ℕ) (b : ArcId) → n < length w.script.sends → Contains (hops w n) a → onward w.net w.streams a (row w n).vid ≡ Some b → LeadsTo w.net a Bridge
  at_bridge n a b lt over is =
      let p = at_place n a over in
      let at : slice_get (row w n).arcs (suc p.0) ≡ Some b = sym (says_at n a lt p.0 p.1 p.2 p.3) ∙ is in
      let s = sent w fit.streams_fit fit.script_fits n lt in
      let rule : IsRow w.net (row w n) = fit.streams_fit.each (send w n).send.stream.0 no_row (within w.streams.rows (send w n).send.stream.0 s.row s.known) in
      let less : p.0 + 1 < length (row w n).arcs = omega (arith, within (row w n).arcs (suc p.0) b at) in
      subst (λ m. LeadsTo w.net m Bridge) p.3 (inner w.net (row w n) rule.route p.0 p.1 p.2 less)

-- how long a frame stays that arrived by an arc of the network
pub stays_for : (w : Scenario) (a : ℕ) → a < length w.net.arcs → latency_of w.net a ≡ latency w a
stays_for w a lt =
    ap (λ o. option_map_or (λ (x : Arc). latency_at w.net.nodes x.to.0) o 0) (find_at w.net.arcs a no_arc lt)

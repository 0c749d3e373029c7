-- The arrivals of one arc after those of others.
use Rattle.std.proofs.Common.{ℕ, ◌≡◌, ◌+◌, ◌≤◌, List, [], ◌++◌, length, refl, sym, ◌∙◌, ap, subst, Some, None, append_assoc}
use Rattle.std.specs.Prelude.{slice_get, set}
use Rattle.std.proofs.Math.Nat.{add-zero}
use Rattle.std.proofs.lemmas.List.{append-nil}
use Rattle.pre_history.specs.Scenario.{Scenario}
use Rattle.pre_history.specs.Moments.{Phase}
use Rattle.pre_history.specs.Placed.{HasPlace}
use Rattle.pre_history.specs.History.{History}
use Rattle.pre_history.specs.Legal.{FirstAliasAt}
use Rattle.pre_bridge.specs.declared.relays.Relay.{Relay}
use Rattle.pre_bridge.specs.Inside.{Entry, inside, of_arc}
use Rattle.pre_sim.specs.declared.lanes.Lane.{Lane}
use Rattle.pre_sim.specs.Keeps.{Store, Keeps, LaneKeeps, TakesIn}
use Rattle.pre_sim.specs.Stands.{LanesStand}
use Rattle.pre_sim.specs.Parts.{ArrivalPart, ArrivalsPart, ArrivalsAlias, Before, LaneAlias, LaneFront, LanesFront, LegalAt, its_place}
use Rattle.pre_sim.proofs.Rows.{lane_more, front_more, lanes_begin}

-- frames came into bridges, and more behind them
takes_then : (w : Scenario) (a b c : Relay) (xs ys : List Entry) → TakesIn w a b xs → TakesIn w b c ys → TakesIn w a c (xs ++ ys)
takes_then w a b c xs ys p q calls stands =
    let one = p calls stands in
    let two = q one.0 one.1 in
    (two.0, two.1, two.2 ∙ (ap (λ zs. zs ++ ys) one.2 ∙ append_assoc (inside w.net w.streams calls) xs ys))

-- no arc yet
pub arrivals_begin : (w : Scenario) (t k : ℕ) (store : Store) (relay : Relay) (lanes : List Lane) → ArrivalsPart w t k 0 0 store store relay relay lanes lanes []
arrivals_begin w t k store relay lanes = ([], lanes_begin w t k store lanes, λ calls stands. (calls, stands, sym (append-nil (inside w.net w.streams calls))))

module _ (w : Scenario) (t n m d : ℕ) (store store' store'' : Store) (relay relay' relay'' : Relay) (old mid : List Lane) (lane new : Lane) (here : slice_get mid n ≡ Some lane)
    (few : length mid ≤ length w.net.arcs) (place : HasPlace (length w.net.arcs) (its_place w (Phase.arrivals n)) (Phase.arrivals n)) (es fs : History)
    (so_far : ArrivalsPart w t (1 + length w.net.arcs) n m store store' relay relay' old mid es) where
  -- one arc more
  pub arrival_more : ArrivalPart w t n d store' store'' relay' relay'' lane new fs
      → ArrivalsPart w t (1 + length w.net.arcs) (n + 1) (m + d) store store'' relay relay'' old (set mid n new) (es ++ fs)
  arrival_more part = (
    so_far.0 ++ part.0,
    lane_more w t (1 + length w.net.arcs) n m d (Phase.arrivals n) store store' store'' old mid None lane new here few refl place refl so_far.0 part.0 es fs so_far.1 (λ h entries stand. tt) part.1,
    takes_then w relay relay' relay'' so_far.0 part.0 so_far.2 part.2,
  )

  -- or the front of one
  pub arrival_front_more : LaneFront w t (Phase.arrivals n) n None lane fs → LanesFront w t (1 + length w.net.arcs) old (es ++ fs)
  arrival_front_more front =
      front_more w t (1 + length w.net.arcs) n m d (Phase.arrivals n) store store' store'' old mid None lane new here few refl place refl so_far.0 [] es fs so_far.1 (λ h entries stand. tt) front

  -- before the arc's part the lane stands for the events told
  ready : (h : History) (entries : List Entry) → LegalAt w t (1 + length w.net.arcs) h → LanesStand w h t (1 + length w.net.arcs) old entries
      → Before w t (Phase.arrivals n) n None lane (h ++ es) (of_arc n (entries ++ so_far.0))
  ready h entries legal stand =
      let first = so_far.1.legal h entries legal stand in
      record { legal = first.0; hears = tt; stands = first.1 n lane here }

  -- an alias on the arc, behind the arrivals of the others
  pub alias_more : (a i : ℕ) → LaneAlias w t (Phase.arrivals n) n None lane a i fs → ArrivalsAlias w t old a i (es ++ fs)
  alias_more a i (own, none, says) h entries legal stand =
      let before = ready h entries (subst (λ k. LegalAt w t k h) (add-zero (1 + length w.net.arcs)) legal) (subst (λ k. LanesStand w h t k old entries) (add-zero (1 + length w.net.arcs)) stand) in
      subst (λ b. FirstAliasAt w (h ++ (es ++ fs)) t b i) (sym own)
      (subst (λ g. FirstAliasAt w (h ++ (es ++ g)) t n i) (sym none)
      (subst (λ g. FirstAliasAt w (h ++ g) t n i) (sym (append-nil es)) (says (h ++ es) (of_arc n (entries ++ so_far.0)) before)))

  -- what the lane keeps
  pub lane_kept : (entries : List Entry) → Keeps w store old entries [] → LaneKeeps w store' n lane
  lane_kept entries kept = (so_far.1.keeps entries kept).apart.each_lane n lane here

-- All drills of a number that are done took one text.
use Rattle.std.proofs.Common.{◌≡◌, ◌≤◌, ℕ, zero, suc, Bool, List, [], ◌∷◌, length, map, is_some, refl, sym, ◌∙◌, ap, subst, arith}
use Rattle.std.specs.Prelude.{slice_index, All, IsSome}
use Rattle.std.proofs.lemmas.List.{length-map}
use Rattle.std.proofs.lemmas.List.Elements.{All-head, All-tail}
use Rattle.pre_base.specs.declared.numbers.StreamId.{StreamId}
use Rattle.pre_base.specs.Sinks.{Taken}
use Rattle.pre_topo.specs.declared.network.Network.{Network}
use Rattle.pre_streams.specs.declared.rows.Row.{Row}
use Rattle.pre_streams.specs.declared.rows.Streams.{Streams}
use Rattle.pre_script.specs.declared.scripts.Script.{Script}
use Rattle.pre_bound.specs.declared.rows.ArcRow.{ArcRow}
use Rattle.pre_bound.specs.declared.certificate.Certificate.{Certificate}
use Rattle.pre_bound.specs.Least.{AtMost}
use Rattle.pre_bound.specs.Listed.{arc_row, bound_row}
use Rattle.pre_bound.specs.Places.{arcs_of, streams_of}
use Rattle.pre_bound.specs.Values.{Values}
use Rattle.pre_plant.specs.Plants.{IsPlant, AreSame}
use Rattle.pre_history.specs.Scenario.{Scenario}
use Rattle.pre_history.specs.History.{History}
use Rattle.pre_history.specs.Legal.{Legal}
use Rattle.pre_trace.specs.SummaryText.{summary_text}
use Rattle.pre_cli.specs.Certifying.{IsLeastRanked}
use Rattle.pre_cli.specs.Drilling.{Drill, scenario, Drilled}
use Rattle.pre_cli.proofs.DueDrills.{same}

-- rows of as many arcs, each with a rank, have ranks alike
alike : (xs ys : List ArcRow) → length xs ≡ length ys → All (λ row. IsSome row.rank) xs → All (λ row. IsSome row.rank) ys → map (λ row. is_some row.rank) xs ≡ map (λ row. is_some row.rank) ys
alike [] [] long p q = refl
alike [] (y ∷ ys) long p q = absurd (cc)
alike (x ∷ xs) [] long p q = absurd (cc)
alike (x ∷ xs) (y ∷ ys) long p q =
    let heads : is_some x.rank ≡ is_some y.rank = All-head (λ (row : ArcRow). IsSome row.rank) x xs p ∙ sym (All-head (λ (row : ArcRow). IsSome row.rank) y ys q) in
    let tails : map (λ (row : ArcRow). is_some row.rank) xs ≡ map (λ (row : ArcRow). is_some row.rank) ys =
    alike xs ys (omega (arith, long)) (All-tail (λ (row : ArcRow). IsSome row.rank) x xs p) (All-tail (λ (row : ArcRow). IsSome row.rank) y ys q) in
    ap (λ (b : Bool). b ∷ map (λ (row : ArcRow). is_some row.rank) xs) heads ∙ ap (λ (l : List Bool). is_some y.rank ∷ l) tails

-- bounds that are at most each other are the same
same_bounds : (v w : Values) (es : List (ℕ × Row)) → AtMost (map (λ bound. bound.1) (map (bound_row v) es)) (map (λ bound. bound.1) (map (bound_row w) es))
    → AtMost (map (λ bound. bound.1) (map (bound_row w) es)) (map (λ bound. bound.1) (map (bound_row v) es)) → map (bound_row v) es ≡ map (bound_row w) es
same_bounds v w [] p q = refl
same_bounds v w (e ∷ es) p q =
    let below : v.bound e.0 ≤ w.bound e.0 = p 0 in
    let above : w.bound e.0 ≤ v.bound e.0 = q 0 in
    let one : v.bound e.0 ≡ w.bound e.0 = omega (arith, below, above) in
    ap (λ (n : ℕ). (record { 0 = e.0 }, n) ∷ map (bound_row v) es) one ∙ ap (λ (l : List (StreamId × ℕ)). bound_row w e ∷ l) (same_bounds v w es (λ i. p (suc i)) (λ i. q (suc i)))

-- two least certificates with ranks print the same bounds
one_bounds : (net : Network) (streams : Streams) (c d : Certificate) → IsLeastRanked net streams c → IsLeastRanked net streams d → c.bounds ≡ d.bounds
one_bounds net streams c d p q =
    let v = p.least.good.values in
    let w = q.least.good.values in
    let a = p.least.good.says in
    let b = q.least.good.says in
    let es = streams_of streams.rows in
    let long : length c.arcs ≡ length d.arcs =
    ap length a.arcs ∙ length-map (arcs_of net streams.rows) (arc_row v) ∙ sym (ap length b.arcs ∙ length-map (arcs_of net streams.rows) (arc_row w)) in
    let ranks = alike c.arcs d.arcs long p.ranked q.ranked in
    let below = (p.least.least d q.least.good ranks).bounds in
    let above = (q.least.least c p.least.good (sym ranks)).bounds in
    let under = subst (λ (l : List (StreamId × ℕ)). AtMost (map (λ bound. bound.1) (map (bound_row v) es)) (map (λ bound. bound.1) l)) b.bounds
    (subst (λ (l : List (StreamId × ℕ)). AtMost (map (λ bound. bound.1) l) (map (λ bound. bound.1) d.bounds)) a.bounds below) in
    let over = subst (λ (l : List (StreamId × ℕ)). AtMost (map (λ bound. bound.1) (map (bound_row w) es)) (map (λ bound. bound.1) l)) a.bounds
    (subst (λ (l : List (StreamId × ℕ)). AtMost (map (λ bound. bound.1) l) (map (λ bound. bound.1) c.bounds)) b.bounds above) in
    a.bounds ∙ same_bounds v w es under over ∙ sym b.bounds

abbrev Parts : Type 0
Parts = Network × (Streams × Script)

abbrev scenario_of : Parts → Scenario
scenario_of p = record { net = p.0; streams = p.1.0; script = p.1.1 }

abbrev text_over : ℕ → Parts → History → Certificate → List ℕ
text_over number p h c = summary_text p.0 p.1.0 p.1.1 h c.bounds number

module _ (one : (n : ℕ) (net other : Network) (streams others : Streams) (script another : Script) → IsPlant n net streams script → IsPlant n other others another → AreSame net other streams others script another)
    (legal : (w : Scenario) (g h : History) → Legal w g → Legal w h → g ≡ h) where
  over : (number : ℕ) (p : Parts) (c d : Certificate) (g h : History) → IsLeastRanked p.0 p.1.0 c → IsLeastRanked p.0 p.1.0 d → Legal (scenario_of p) g → Legal (scenario_of p) h
      → text_over number p g c ≡ text_over number p h d
  over number p c d g h least other first second =
      ap (λ (x : History). summary_text p.0 p.1.0 p.1.1 x c.bounds number) (legal (scenario_of p) g h first second)
      ∙ ap (λ (l : List (StreamId × ℕ)). summary_text p.0 p.1.0 p.1.1 h l number) (one_bounds p.0 p.1.0 c d least other)

  pub one_summary : (number : ℕ) (x y : Drill number) (c d : Certificate) (a b p q : Taken) → (first : Drilled number x c a b) → (second : Drilled number y d p q)
      → summary_text x.net x.streams x.script first.history c.bounds number ≡ summary_text y.net y.streams y.script second.history d.bounds number
  one_summary number x y c d a b p q first second =
      let here : Parts = (x.net, (x.streams, x.script)) in
      let there : Parts = (y.net, (y.streams, y.script)) in
      let moved : here ≡ there = same one number x y in
      let goal = subst (λ (z : Parts). IsLeastRanked z.0 z.1.0 c → Legal (scenario_of z) first.history → text_over number z first.history c ≡ text_over number there second.history d) (sym moved)
      (λ least legal_there. over number there c d first.history second.history least second.certificate_is_least legal_there second.history_is_legal) in
      goal first.certificate_is_least first.history_is_legal

-- Each frame that a legal history names is a send of the script, and comes to arcs of its route.
use Rattle.std.proofs.Common.{ℕ, zero, suc, ◌≡◌, ◌≢◌, ◌+◌, ◌<◌, ◌≤◌, true, false, List, [], ◌∷◌, length, map}
use Rattle.std.proofs.Common.{refl, sym, ◌∙◌, ap, inl, inr, arith, subst, Option, Some, None}
use Rattle.std.specs.Prelude.{slice_get, AllPairs, Contains, slice_index_or}
use Rattle.std.specs.Option.{option_map}
use Rattle.std.specs.List.{AllByRecursion as Every}
use Rattle.std.proofs.lemmas.Bool.{cases_lt, cases_Bool}
use Rattle.std.proofs.lemmas.Option.{slice_get-get_or}
use Rattle.pre_base.specs.declared.numbers.FrameNo.{FrameNo}
use Rattle.pre_base.specs.declared.numbers.ArcId.{ArcId}
use Rattle.pre_base.specs.declared.numbers.NodeId.{NodeId}
use Rattle.pre_topo.specs.declared.network.Network.{Network}
use Rattle.pre_topo.specs.declared.arcs.Arc.{Arc}
use Rattle.pre_streams.specs.declared.rows.Row.{Row}
use Rattle.pre_streams.specs.Rows.{IsRow, IsRoute, OnEach}
use Rattle.pre_history.specs.declared.events.What.TheVariants as what
use Rattle.pre_history.specs.Scenario.{Scenario, arc, row, send, no_arc, no_row, no_send}
use Rattle.pre_history.specs.History.{History, Begin}
use Rattle.pre_history.specs.Selected.{RingEntry}
use Rattle.pre_history.specs.Queries.{Begins, Entries, begun_before}
use Rattle.pre_history.specs.Comings.{Coming, hops}
use Rattle.pre_history.specs.Legal.{LegalUpTo}
use Rattle.pre_history.proofs.Lists.{there, one_at, every_at, every_placed, within}
use Rattle.pre_history.proofs.Relays.{ComesBy}
use Rattle.pre_history.proofs.Routes.{behind, contained_at, contains_at}
use Rattle.pre_history.proofs.InOrder.{steady}
use Rattle.pre_history.proofs.Undamaged.{length-FrameOf}
use Rattle.pre_bound.specs.Uses.{is_stream, TakesAt}
use Rattle.pre_bound.proofs.Hops.{takes-from, TakesAt-place}
use Rattle.pre_laws.specs.Routed.{IsOnRoute, IsRouted}
use Rattle.pre_laws.proofs.Routed.{BegunRight, all_right, begins_right, comes_right}
use Rattle.pre_laws.proofs.Fitting.{read_one}
use Rattle.pre_delay.specs.Ports.{stream_of}
use Rattle.pre_delay.proofs.Port.{IsKnown}
use Rattle.pre_delay.specs.Runs.{IsRun, sends_of}
use Rattle.pre_streams.specs.Fits.{Fits as StreamsFit}
use Rattle.pre_script.specs.Fits.{Fits as ScriptFits}
use Rattle.pre_curve.specs.declared.curves.Curve.{Curve}
use Rattle.pre_curve.specs.Windows.{Obeys, offers_of}
use Rattle.pre_bound.specs.Settled.{PriosBelow}
use Rattle.pre_delay.proofs.Rings.{entries_came, entries_prio}
use Rattle.pre_delay.proofs.Once.{HighBefore, fresh}
use Rattle.pre_laws.proofs.Once.{coming_to}

-- ---- routes

place_map : {X : Type 0} (g : X → ℕ) (xs : List X) (i a : ℕ) → slice_get (map g xs) i ≡ Some a → option_map g (slice_get xs i) ≡ Some a
place_map g [] i a at = absurd (cc at)
place_map g (x ∷ xs) zero a at = at
place_map g (x ∷ xs) (suc i) a at = place_map g xs i a at

-- an arc of a frame's route is at some hop of it
pub on_route : (w : Scenario) (f a : ℕ) → Contains (hops w f) a → (j : ℕ) × TakesAt (row w f) j a
on_route w f a on = let c = contained_at (hops w f) a on in (c.0, place_map (λ (x : ArcId). x.0) (row w f).arcs c.0 a c.1)

first_known : (xs : List ArcId) (n : ℕ) → 2 ≤ n → length xs + 1 ≡ n → 1 ≤ length (map (λ (a : ArcId). a.0) xs)
first_known [] n long is = absurd (omega (arith, long, is))
first_known (x ∷ xs) n long is = omega arith

-- ---- no arc twice

pub past_end : {X : Type 0} (xs : List X) (i : ℕ) (d : X) → length xs ≤ i → slice_index_or xs i d ≡ d
past_end [] i d le = refl
past_end (y ∷ xs) zero d le = absurd (omega (arith, le))
past_end (y ∷ xs) (suc i) d le = past_end xs i d (omega (arith, le))

inside_map : {X : Type 0} (g : X → ℕ) (xs : List X) (i : ℕ) → i < length (map g xs) → i < length xs
inside_map g [] i lt = lt
inside_map g (x ∷ xs) zero lt = omega arith
inside_map g (x ∷ xs) (suc i) lt = let more = inside_map g xs i (omega (arith, lt)) in omega (arith, more)

pub map_get : {X : Type 0} (g : X → ℕ) (xs : List X) (i : ℕ) (x : X) → slice_get xs i ≡ Some x → slice_get (map g xs) i ≡ Some (g x)
map_get g [] i x at = absurd (cc at)
map_get {X} g (y ∷ xs) zero x at = let same : y ≡ x = cc at in ap (λ (z : X). Some (g z)) same
map_get g (y ∷ xs) (suc i) x at = map_get g xs i x at

pub route_once : (net : Network) (route : List NodeId) (arcs : List ArcId) → IsRoute net route arcs → AllPairs (λ x y. x ≢ y) (map (λ (a : ArcId). a.0) arcs)
route_once net route arcs r i j d less inside same =
    let j_lt : j < length arcs = inside_map (λ (a : ArcId). a.0) arcs j inside in
    let x = there arcs i (omega (arith, less, j_lt)) in
    let y = there arcs j j_lt in
    let m = there route i (omega (arith, less, j_lt, r.hops)) in
    let m' = there route (i + 1) (omega (arith, less, j_lt, r.hops)) in
    let n = there route j (omega (arith, j_lt, r.hops)) in
    let n' = there route (j + 1) (omega (arith, j_lt, r.hops)) in
    let one = r.leads i x.0 m.0 m'.0 x.1 m.1 m'.1 in
    let two = r.leads j y.0 n.0 n'.0 y.1 n.1 n'.1 in
    let arcs_are : x.0.0 ≡ y.0.0 = sym (read_one (map (λ (a : ArcId). a.0) arcs) i x.0.0 d (map_get (λ (a : ArcId). a.0) arcs i x.0 x.1))
    ∙ (same ∙ read_one (map (λ (a : ArcId). a.0) arcs) j y.0.0 d (map_get (λ (a : ArcId). a.0) arcs j y.0 y.1)) in
    let arc_is = one_at net.arcs y.0.0 one.0 two.0 (subst (λ k. slice_get net.arcs k ≡ Some one.0) arcs_are one.1) two.1 in
    let node_is : m.0 ≡ n.0 = sym one.2 ∙ (ap (λ a. a.from) arc_is ∙ two.2) in
    r.once i j m.0 less (omega (arith, j_lt, r.hops)) (ap (λ (z : NodeId). z.0) (read_one route i m.0 m.0 m.1 ∙ (node_is ∙ sym (read_one route j n.0 m.0 n.1))))

module _ (w : Scenario) (run : IsRun w) where
  pub routes : (f : ℕ) → AllPairs (λ x y. x ≢ y) (hops w f)
  routes f =
      elim (cases_lt (stream_of w f) (length w.streams.rows)) [
        | inl listed ↦ let rules = run.rows (stream_of w f) no_row listed in route_once w.net (row w f).route (row w f).arcs rules.route
        | inr past ↦ subst (λ (r : Row). AllPairs (λ x y. x ≢ y) (map (λ (a : ArcId). a.0) r.arcs)) (sym (past_end w.streams.rows (stream_of w f) no_row past)) (λ i j d less inside same. omega (arith, less, inside))
      ]

  -- an arc at a hop of a row is one of the network
  pub hop_within : (r : Row) → IsRow w.net r → (j a : ℕ) → TakesAt r j a → a < length w.net.arcs
  hop_within r rules j a at = go (slice_get r.arcs j) refl at
    where
      go : (o : Option ArcId) → slice_get r.arcs j ≡ o → option_map (λ x. x.0) o ≡ Some a → a < length w.net.arcs
      go None none is = absurd (cc is)
      go (Some x) here is =
          let inside = within r.arcs j x here in
          let m = there r.route j (omega (arith, inside, rules.route.hops)) in
          let m' = there r.route (j + 1) (omega (arith, inside, rules.route.hops)) in
          let one = rules.route.leads j x m.0 m'.0 here m.1 m'.1 in
          let same : x.0 ≡ a = cc is in
          subst (λ k. k < length w.net.arcs) same (within w.net.arcs x.0 one.0 one.1)

-- ---- what the files give of frames and rows

module _ (w : Scenario) (run : IsRun w) where
  -- the row of a frame meets the rules
  pub row_rules : (f : ℕ) → f < length w.script.sends → IsRow w.net (row w f)
  row_rules f lt = run.rows (stream_of w f) no_row (within w.streams.rows (stream_of w f) (row w f) (run.frames f lt).listed)

  pub routed : IsRouted w
  routed = record {
    routes = λ f lt. let route = (row_rules f lt).route in first_known (row w f).arcs (length (row w f).route) route.long.0 route.hops;
    once = λ f lt. routes w run f;
    arcs = λ f a lt on. let hop = on_route w f a on in hop_within w run (row w f) (row_rules f lt) hop.0 a hop.1;
    sizes = λ f lt. let frame = run.frames f lt in let most = (row_rules f lt).max.1 in (frame.least, omega (arith, frame.most, most));
  }

  -- what a rule says of each arc of a row
  on_each : (rule : Arc → Type 0) (r : Row) → OnEach w.net r.arcs rule → (j a : ℕ) → TakesAt r j a → a < length w.net.arcs → rule (arc w a)
  on_each rule r each j a here lt =
      let place = TakesAt-place r j a here in
      let d : ArcId = record { 0 = 0 } in
      each j d place.0 (arc w a) (subst (λ k. slice_get w.net.arcs k ≡ Some (arc w a)) (sym (place.1 d)) (slice_get-get_or w.net.arcs a no_arc lt))

  -- the priority of a stream is express on each arc of its route
  pub stream_high : (r : Row) → IsRow w.net r → is_stream r ≡ true → (j a : ℕ) → TakesAt r j a → a < length w.net.arcs → (arc w a).express_from ≤ r.prio
  stream_high r rules stream j a here lt = on_each (λ x. x.express_from ≤ r.prio) r (rules.stream stream) j a here lt

  pub known_at : (f a : ℕ) → f < length w.script.sends → Contains (hops w f) a → IsKnown w a f
  known_at f a lt on =
      let rules = row_rules f lt in
      let frame = run.frames f lt in
      let hop = on_route w f a on in
      let inside = hop_within w run (row w f) rules hop.0 a hop.1 in
      let long = length-FrameOf w f (omega (arith, frame.least)) in
      record {
        listed = frame.listed;
        takes = takes-from (row w f) hop.0 a hop.1;
        least = omega (arith, long, frame.least);
        size = omega (arith, long, frame.most);
        stream = λ high. elim (cases_Bool (is_stream (row w f))) [
          | inl yes' ↦ yes'
          | inr none ↦ absurd (let low = on_each (λ x. (row w f).prio < x.express_from) (row w f) (rules.flow none) hop.0 a hop.1 inside in omega (arith, low, high))
        ];
        flow = λ low. elim (cases_Bool (is_stream (row w f))) [
          | inl yes' ↦ absurd (let high = stream_high (row w f) rules yes' hop.0 a hop.1 inside in omega (arith, low, high))
          | inr none ↦ (none, on_each (λ x. (row w f).max ≤ x.largest) (row w f) (rules.largest none) hop.0 a hop.1 inside)
        ];
      }

  pub known_on : (t a f : ℕ) → IsOnRoute w a t f → IsKnown w a f
  known_on t a f on = known_at f a on.known on.arc

  -- a frame of a priority that is express on one arc of its route is so on the arc before
  pub high_before : (f a : ℕ) → IsKnown w a f → (arc w a).express_from ≤ (row w f).prio → f < length w.script.sends → HighBefore w (coming_to a f)
  high_before f a k high lt b next =
      let back = behind (hops w f) b a next in
      let hop = on_route w f b (contains_at (hops w f) back.0 b back.1) in
      stream_high (row w f) (row_rules f lt) (k.stream high) hop.0 b hop.1 (hop_within w run (row w f) (row_rules f lt) hop.0 b hop.1)

  module _ (n : ℕ) (h : History) (legal : LegalUpTo w n h) where
    -- what comes to a ring is of the script, and of a route with the arc
    pub comer_on : (t : ℕ) (c : Coming) → ComesBy w h t c → IsOnRoute w c.arc t c.frame
    comer_on t c by = comes_right w routed n h t (all_right w routed n h legal) (λ a lt. steady w n h a lt legal) c by

    entry_on_route : (a p j : ℕ) (r : RingEntry) → slice_get (Entries h a p) j ≡ Some r → IsOnRoute w a r.tick r.frame
    entry_on_route a p j r at = comer_on r.tick (coming_to a r.frame) (every_at (λ (x : RingEntry). ComesBy w h x.tick (coming_to a x.frame)) (Entries h a p) j r (entries_came w n h a p legal) at)

    -- Every entry of a ring, drops too, is of a frame of the script whose route has the arc.
    pub known : (a p : ℕ) → Every (λ (r : RingEntry). IsKnown w a r.frame) (Entries h a p)
    known a p = every_placed (λ (r : RingEntry). IsKnown w a r.frame) (Entries h a p) (λ j r at. known_on r.tick a r.frame (entry_on_route a p j r at))

    -- and so is what begins
    begun_on : (a i : ℕ) (b : Begin) (f : FrameNo) → slice_get (Begins h a) i ≡ Some b → b.what ≡ what.Frame f → IsOnRoute w a b.tick f.0
    begun_on a i b f at carries = (every_at (BegunRight w a) (Begins h a) i b (begins_right w h a (all_right w routed n h legal)) at).on f carries

    pub carried_known : (a i : ℕ) (b : Begin) (f : FrameNo) → slice_get (Begins h a) i ≡ Some b → b.what ≡ what.Frame f → IsKnown w a f.0
    carried_known a i b f at carries = known_on b.tick a f.0 (begun_on a i b f at carries)

    -- an express frame is of an express priority where it begins
    pub begun_high : (a i : ℕ) (b : Begin) (f : FrameNo) → slice_get (Begins h a) i ≡ Some b → b.what ≡ what.Frame f → is_stream (row w f.0) ≡ true → (arc w a).express_from ≤ (row w f.0).prio
    begun_high a i b f at carries stream =
        let on = begun_on a i b f at carries in
        let hop = on_route w f.0 a on.arc in
        stream_high (row w f.0) (row_rules f.0 on.known) stream hop.0 a hop.1 (hop_within w run (row w f.0) (row_rules f.0 on.known) hop.0 a hop.1)

    -- What enters a ring of an express priority hadn't begun on the arc before.
    pub is_fresh : (a p j : ℕ) (r : RingEntry) → a < length w.net.arcs → (arc w a).express_from ≤ p → slice_get (Entries h a p) j ≡ Some r → r.entered ≡ true → begun_before h a r.tick r.frame ≡ false
    is_fresh a p j r lt high at entered =
        let on = entry_on_route a p j r at in
        let prio : p ≡ (row w r.frame).prio = every_at (λ (y : RingEntry). y.entered ≡ true → p ≡ (row w y.frame).prio) (Entries h a p) j r (entries_prio w n h a p legal) at entered in
        fresh w n h legal (routes w run) a p j r lt high (high_before r.frame a (known_on r.tick a r.frame on) (omega (arith, prio, high)) on.known) at entered

-- ---- the files

-- What the rules of the files give of a run.
pub run_of_files : (w : Scenario) → StreamsFit w.net w.streams → ScriptFits w.net w.streams w.script → PriosBelow w.streams.rows
    → ((i : ℕ) (r : Row) (c : Curve) → slice_get w.streams.rows i ≡ Some r → r.curve ≡ Some c → Obeys (offers_of (sends_of w i)) c) → IsRun w
run_of_files w streams script prios curves = record {
  rows = streams.each;
  prios = prios;
  frames = λ f lt.
      let s = script.sends f no_send lt in
      let row_is : row w f ≡ s.row = read_one w.streams.rows (stream_of w f) s.row no_row s.known in
      record {
        listed = s.known ∙ ap Some (sym row_is);
        least = s.least;
        most = subst (λ (r : Row). (send w f).send.size ≤ r.max) (sym row_is) s.most;
      };
  order = script.sends_order;
  curves = curves;
}

-- The next arc by the table of hops, and by the rows.
use Rattle.std.proofs.Common.{◌≡◌, ◌↔◌, ℕ, zero, suc, ◌+◌, ◌<◌, ◌⊎◌, inl, inr, ◌&&◌, Bool, true, false, cond, eqb}
use Rattle.std.proofs.Common.{List, [], ◌∷◌, length, map, Option, Some, None, refl, sym, ap, subst, ◌∙◌, arith, All, get_or}
use Rattle.std.specs.Prelude.{find, slice_get}
use Rattle.std.specs.List.{flat_map, zip}
use Rattle.std.specs.Option.{option_map, option_or, option_and_then}
use Rattle.std.proofs.lemmas.Bool.{eqb-true, eq-eqb, and_parts, and_from, cases_order, false≢true}
use Rattle.std.proofs.lemmas.Option.{slice_get_within, get_or_from_slice_get, same_Some, none-some}
use Rattle.std.proofs.lemmas.List.Folds.{find-append}
use Rattle.pre_base.specs.declared.numbers.NodeId.{NodeId}
use Rattle.pre_base.specs.declared.numbers.ArcId.{ArcId}
use Rattle.pre_topo.specs.declared.network.Network.{Network}
use Rattle.pre_streams.specs.declared.rows.Row.{Row}
use Rattle.pre_streams.specs.declared.rows.Streams.{Streams}
use Rattle.pre_streams.specs.Hops.{IsNextArc, TakesArc, TakesArcBy, VidTakesArc}
use Rattle.pre_streams.specs.Fits.{Fits}
use Rattle.pre_streams.specs.Rows.{IsRoute}
use Rattle.circular_buffer.proofs.Places.{slice_get-some}
use Rattle.pre_bridge.specs.declared.tables.Hop.{Hop}
use Rattle.pre_bridge.specs.Table.{hops_of, is_from, next_arc, onward}

abbrev hops : ℕ → List NodeId → List ArcId → List Hop
hops vid route arcs = map (λ hop. record { node = hop.0; vid = vid; arc = hop.1 }) (zip route arcs)

-- ---- one row

found_in : (node : NodeId) (vid own : ℕ) (route : List NodeId) (arcs : List ArcId) (hop : Hop) → find (is_from node vid) (hops own route arcs) ≡ Some hop
    → (own ≡ vid) × (i : ℕ) × (slice_get route i ≡ Some node) × (slice_get arcs i ≡ Some hop.arc)
found_in node vid own [] arcs hop e = absurd cc
found_in node vid own (n ∷ route) [] hop e = absurd cc
found_in node vid own (n ∷ route) (a ∷ arcs) hop e = go (is_from node vid (record { node = n; vid = own; arc = a })) refl (found_in node vid own route arcs hop) e
  where
    go : (b : Bool) → (eqb n.0 node.0 && eqb own vid) ≡ b
        → (find (is_from node vid) (hops own route arcs) ≡ Some hop → (own ≡ vid) × (i : ℕ) × (slice_get route i ≡ Some node) × (slice_get arcs i ≡ Some hop.arc))
        → cond b (Some (record { node = n; vid = own; arc = a })) (find (is_from node vid) (hops own route arcs)) ≡ Some hop
        → (own ≡ vid) × (i : ℕ) × (slice_get (n ∷ route) i ≡ Some node) × (slice_get (a ∷ arcs) i ≡ Some hop.arc)
    go true is further f =
        let parts = and_parts (eqb n.0 node.0) (eqb own vid) is in
        let same : record { node = n; vid = own; arc = a } ≡ hop = same_Some (record { node = n; vid = own; arc = a }) hop f in
        (eqb-true own vid parts.1, 0, ap (λ m. Some (record { 0 = m })) (eqb-true n.0 node.0 parts.0), ap (λ (h : Hop). Some h.arc) same)
    go false is further f = let r = further f in (r.0, suc r.1, r.2, r.3)

missing_in : (node : NodeId) (vid own : ℕ) (route : List NodeId) (arcs : List ArcId) (arc : ArcId) → find (is_from node vid) (hops own route arcs) ≡ None
    → own ≡ vid → (i : ℕ) → slice_get route i ≡ Some node → slice_get arcs i ≡ Some arc → ⊥
missing_in node vid own [] arcs arc e same i f g = absurd cc
missing_in node vid own (n ∷ route) [] arc e same i f g = absurd cc
missing_in node vid own (n ∷ route) (a ∷ arcs) arc e same zero f g =
    let is : n ≡ node = same_Some n node f in
    go (is_from node vid (record { node = n; vid = own; arc = a })) (and_from (eqb n.0 node.0) (eqb own vid) (eq-eqb n.0 node.0 (ap (λ (m : NodeId). m.0) is)) (eq-eqb own vid same)) e
  where
    go : (b : Bool) → b ≡ true → cond b (Some (record { node = n; vid = own; arc = a })) (find (is_from node vid) (hops own route arcs)) ≡ None → ⊥
    go true t h = absurd cc
    go false t h = false≢true t
missing_in node vid own (n ∷ route) (a ∷ arcs) arc e same (suc i) f g =
    missing_in node vid own route arcs arc (go (is_from node vid (record { node = n; vid = own; arc = a })) e) same i f g
  where
    go : (b : Bool) → cond b (Some (record { node = n; vid = own; arc = a })) (find (is_from node vid) (hops own route arcs)) ≡ None → find (is_from node vid) (hops own route arcs) ≡ None
    go true h = absurd cc
    go false h = h

-- ---- all rows

found_hop : (rows : List Row) (node : NodeId) (vid : ℕ) (hop : Hop) → find (is_from node vid) (flat_map hops_of rows) ≡ Some hop → VidTakesArc rows node vid hop.arc
found_hop [] node vid hop e = absurd cc
found_hop (r ∷ rows) node vid hop e = go (find (is_from node vid) (hops_of r)) refl (found_hop rows node vid hop) (sym (find-append (is_from node vid) (hops_of r) (flat_map hops_of rows)) ∙ e)
  where
    go : (o : Option Hop) → find (is_from node vid) (hops_of r) ≡ o → (find (is_from node vid) (flat_map hops_of rows) ≡ Some hop → VidTakesArc rows node vid hop.arc)
        → option_or o (find (is_from node vid) (flat_map hops_of rows)) ≡ Some hop → VidTakesArc (r ∷ rows) node vid hop.arc
    go None is further f = let a = further f in (suc a.0, a.1, omega (arith, a.2), a.3, a.4)
    go (Some h) is further f =
        let here = found_in node vid r.vid r.route r.arcs hop (is ∙ f) in
        (0, r, omega arith, refl, (here.0, (here.1, here.2, here.3)))

pub found_arc : (rows : List Row) (node : NodeId) (vid : ℕ) (arc : ArcId) → next_arc rows node vid ≡ Some arc → VidTakesArc rows node vid arc
found_arc rows node vid arc e = go (find (is_from node vid) (flat_map hops_of rows)) refl e
  where
    go : (o : Option Hop) → find (is_from node vid) (flat_map hops_of rows) ≡ o → option_map (λ (h : Hop). h.arc) o ≡ Some arc → VidTakesArc rows node vid arc
    go None is f = absurd cc
    go (Some h) is f = subst (VidTakesArc rows node vid) (same_Some h.arc arc f) (found_hop rows node vid h is)

missing_hop : (rows : List Row) (node : NodeId) (vid : ℕ) (arc : ArcId) → find (is_from node vid) (flat_map hops_of rows) ≡ None
    → (k : ℕ) (r : Row) → k < length rows → get_or rows k r ≡ r → TakesArcBy node vid arc r → ⊥
missing_hop [] node vid arc e k r lt at takes = absurd (omega (arith, lt))
missing_hop (q ∷ rows) node vid arc e zero r lt at takes =
    let none = first (find (is_from node vid) (hops_of q)) refl (sym (find-append (is_from node vid) (hops_of q) (flat_map hops_of rows)) ∙ e) in
    let by = subst (TakesArcBy node vid arc) (sym at) takes in
    missing_in node vid q.vid q.route q.arcs arc none by.0 by.1.0 by.1.1 by.1.2
  where
    first : (o : Option Hop) → find (is_from node vid) (hops_of q) ≡ o → option_or o (find (is_from node vid) (flat_map hops_of rows)) ≡ None → find (is_from node vid) (hops_of q) ≡ None
    first None is f = is
    first (Some h) is f = absurd cc
missing_hop (q ∷ rows) node vid arc e (suc k) r lt at takes =
    missing_hop rows node vid arc (rest (find (is_from node vid) (hops_of q)) (sym (find-append (is_from node vid) (hops_of q) (flat_map hops_of rows)) ∙ e)) k r (omega (arith, lt)) at takes
  where
    rest : (o : Option Hop) → option_or o (find (is_from node vid) (flat_map hops_of rows)) ≡ None → find (is_from node vid) (flat_map hops_of rows) ≡ None
    rest None f = f
    rest (Some h) f = absurd cc

pub missing_arc : (rows : List Row) (node : NodeId) (vid : ℕ) (arc : ArcId) → next_arc rows node vid ≡ None → VidTakesArc rows node vid arc → ⊥
missing_arc rows node vid arc e any = missing_hop rows node vid arc (go (find (is_from node vid) (flat_map hops_of rows)) e) any.0 any.1 any.2 any.3 any.4
  where
    go : (o : Option Hop) → option_map (λ (h : Hop). h.arc) o ≡ None → o ≡ None
    go None f = refl
    go (Some h) f = absurd cc

-- ---- rows that fit a network

pub is_next : (rows : List Row) (node : NodeId) (vid : ℕ) → IsNextArc rows node vid (next_arc rows node vid)
is_next rows node vid = by (next_arc rows node vid) refl
  where
    by : (o : Option ArcId) → next_arc rows node vid ≡ o → IsNextArc rows node vid o
    by None is = λ arc. missing_arc rows node vid arc is
    by (Some arc) is = found_arc rows node vid arc is

-- what is next from a node by a VID is what each row of the VID takes from there
abbrev pub RowsFollow : Streams → Type 0
RowsFollow streams = (node : NodeId) (vid : ℕ) (next : Option ArcId) → IsNextArc streams.rows node vid next
    → All (λ r. r.vid ≡ vid → (arc : ArcId) → (next ≡ Some arc) ↔ TakesArc node arc r) streams.rows

pub only_arc : (streams : Streams) → RowsFollow streams → (node : NodeId) (vid : ℕ) (arc : ArcId) → VidTakesArc streams.rows node vid arc → next_arc streams.rows node vid ≡ Some arc
only_arc streams follow node vid arc (k, r, k_in, at, (r_vid, takes)) =
    (follow node vid (next_arc streams.rows node vid) (is_next streams.rows node vid) k r k_in (ap (λ (q : Row). q.vid) at ∙ r_vid) arc).1 (subst (TakesArc node arc) (sym at) takes)

-- ---- along a route

module _ (net : Network) (streams : Streams) (fits : Fits net streams) (follow : RowsFollow streams) where
  -- At the end of an arc of the route stands the node that the next one, if any, leaves.
  next_along : (r : Row) → IsRoute net r.route r.arcs
      → ((node : NodeId) (arc : ArcId) → (next_arc streams.rows node r.vid ≡ Some arc) ↔ TakesArc node arc r)
      → (i : ℕ) (arc : ArcId) → slice_get r.arcs i ≡ Some arc → onward net streams arc.0 r.vid ≡ slice_get r.arcs (i + 1)
  next_along r route takes i arc at =
      let inside : i < length r.arcs = slice_get_within r.arcs i arc at in
      let from = slice_get-some r.route i (omega (arith, inside, route.hops)) in
      let to = slice_get-some r.route (i + 1) (omega (arith, inside, route.hops)) in
      let leads = route.leads i arc from.0 to.0 at from.1 to.1 in
      ap (option_and_then (λ a. next_arc streams.rows a.to r.vid)) leads.1
      ∙ ap (λ node. next_arc streams.rows node r.vid) leads.3
      ∙ by to.0 to.1 (slice_get r.arcs (i + 1)) refl (next_arc streams.rows to.0 r.vid) refl
    where
      -- a node stands once on the route
      same_place : (node : NodeId) (j : ℕ) → slice_get r.route (i + 1) ≡ Some node → slice_get r.route j ≡ Some node → j ≡ i + 1
      same_place node j here there = by_cases (cases_order j (i + 1))
        where
          apart : (p q : ℕ) → slice_get r.route p ≡ Some node → slice_get r.route q ≡ Some node → p < q → ⊥
          apart p q p_node q_node less =
              route.once p q node less (slice_get_within r.route q node q_node) (ap (λ (n : NodeId). n.0) (get_or_from_slice_get r.route p node node p_node ∙ sym (get_or_from_slice_get r.route q node node q_node)))

          by_cases : (j ≡ i + 1) ⊎ ((j < i + 1) ⊎ (i + 1 < j)) → j ≡ i + 1
          by_cases (inl same) = same
          by_cases (inr (inl less)) = absurd (apart j (i + 1) there here less)
          by_cases (inr (inr more)) = absurd (apart (i + 1) j here there more)

      by : (node : NodeId) → slice_get r.route (i + 1) ≡ Some node → (o : Option ArcId) → slice_get r.arcs (i + 1) ≡ o → (n : Option ArcId) → next_arc streams.rows node r.vid ≡ n
          → next_arc streams.rows node r.vid ≡ slice_get r.arcs (i + 1)
      by node here (Some next) is n found = (takes node next).1 (i + 1, here, is) ∙ sym is
      by node here None is None found = found ∙ sym is
      by node here None is (Some next) found =
          let taken = (takes node next).0 found in
          let place : taken.0 ≡ i + 1 = same_place node taken.0 here taken.1 in
          absurd (none-some next (sym is ∙ ap (slice_get r.arcs) (sym place) ∙ taken.2))

  pub along : All (λ r. (i : ℕ) (arc : ArcId) → slice_get r.arcs i ≡ Some arc → onward net streams arc.0 r.vid ≡ slice_get r.arcs (i + 1)) streams.rows
  along k d k_in = next_along (get_or streams.rows k d) (fits.each k d k_in).route
      (λ node arc. follow node (get_or streams.rows k d).vid (next_arc streams.rows node (get_or streams.rows k d).vid) (is_next streams.rows node (get_or streams.rows k d).vid) k d k_in refl arc)

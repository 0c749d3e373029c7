-- The rows of a plant fit its network.
use Rattle.std.proofs.Common.{◌≡◌, ◌≢◌, ℕ, ◌+◌, ◌-◌, ◌*◌, ◌%◌, ◌<◌, ◌≤◌, inl, inr, Bool, true, false, cond}
use Rattle.std.proofs.Common.{List, [], ◌∷◌, ◌++◌, length, get_or, map, Option, Some, None, IfSome}
use Rattle.std.proofs.Common.{IsNone, is_some, is_none, option_map, count_by, All, AllPairs, IsTrue, refl, sym, ◌∙◌, ap, subst, arith, length-append}
use Rattle.std.proofs.lemmas.Bool.{cases_lt, true≢false, false≢true}
use Rattle.std.proofs.lemmas.List.{length-map, get_or-map, get_or_append_left, get_or-append_right}
use Rattle.std.proofs.lemmas.List.Sums.{count_by-le-length, sum_by-append, sum_by-cons}
use Rattle.std.proofs.lemmas.Option.{same_Some, none-some}
use Rattle.pre_text.specs.Words.{is_name}
use Rattle.pre_base.specs.declared.numbers.ArcId.{ArcId}
use Rattle.pre_base.specs.declared.numbers.NodeId.{NodeId}
use Rattle.pre_curve.specs.declared.curves.Curve.{Curve}
use Rattle.pre_topo.specs.declared.network.Network.{Network}
use Rattle.pre_streams.specs.declared.rows.Row.{Row}
use Rattle.pre_streams.specs.declared.rows.Streams.{Streams}
use Rattle.pre_streams.specs.Fits.{Fits, SharesRoute}
use Rattle.pre_streams.specs.Made.{RowParts, row_parts, curve_parts}
use Rattle.pre_streams.specs.Rows.{IsCurveOf, IsRoute, IsRow}
use Rattle.pre_plant.specs.Lists.{list_of}
use Rattle.pre_plant.specs.Networks.{IsPlantNetwork}
use Rattle.pre_plant.specs.Rows.{source, stream_destination, stream_max, flow_destination, stream_row, flow_row, plant_rows, route_between, arcs_between}
use Rattle.pre_plant.proofs.ListLaws.{length-list_of, get_or-list_of, All-list_of, AllPairs-list_of, AllPairs-append}
use Rattle.pre_plant.proofs.Naming.{stream_named, flow_named, one_letter, two_letters}
use Rattle.pre_plant.proofs.Ways.{way_is_route, on_every_way}
use Rattle.pre_plant.proofs.Sending.{draw_below}
use Rattle.pre_plant.proofs.Counting.{count_map, count_all, count_none}

-- what holds of each two images holds of what they are images of
pub pairs_behind : {X Y : Type 0} (R : Y → Y → Type 0) (f : X → Y) (xs : List X) → AllPairs R (map f xs) → AllPairs (λ x y. R (f x) (f y)) xs
pairs_behind R f xs pairs i j d before within =
    subst (λ y. R y (f (get_or xs j d))) (get_or-map f xs i d (f d) (omega arith))
    (subst (λ y. R (get_or (map f xs) i (f d)) y) (get_or-map f xs j d (f d) within)
    (pairs i j (f d) before (omega (arith, length-map xs f))))

some_curve : (o : Option Curve) (p : ℕ × ℕ) → option_map curve_parts o ≡ Some p → (c : Curve) × (o ≡ Some c) × (curve_parts c ≡ p)
some_curve None p same = absurd (none-some p same)
some_curve (Some c) p same = (c, refl, same_Some (curve_parts c) p same)

no_curve : (o : Option Curve) → option_map curve_parts o ≡ None → o ≡ None
no_curve None same = refl
no_curve (Some c) same = absurd (none-some (curve_parts c) (sym same))

is_some_map : {X Y : Type 0} (f : X → Y) (o : Option X) → is_some (option_map f o) ≡ is_some o
is_some_map f None = refl
is_some_map f (Some x) = refl

-- a row and another station
other_station : (i x : ℕ) → x < 39 → i % 40 ≢ (i + 1 + x) % 40
other_station i x lt same = omega (arith, same, lt)

module _ (net : Network) (is : IsPlantNetwork net) (draws : List ℕ) where
  route_is : (r : Row) (s d : ℕ) → s < 40 → d < 40 → s ≢ d → r.route ≡ route_between s d → r.arcs ≡ arcs_between s d → IsRoute net r.route r.arcs
  route_is r s d s_in d_in apart route arcs =
      subst (λ (ns : List NodeId). IsRoute net ns r.arcs) (sym route) (subst (λ (as_ : List ArcId). IsRoute net (route_between s d) as_) (sym arcs) (way_is_route net is s d s_in d_in apart))

  pub stream_is_row : (r : Row) (i : ℕ) → i < 60 → row_parts r ≡ stream_row draws i → IsRow net r
  stream_is_row r i lt parts =
      let vid : r.vid ≡ 100 + i = ap (λ (p : RowParts). p.vid) parts in
      let prio : r.prio ≡ 4 + i % 4 = ap (λ (p : RowParts). p.prio) parts in
      let size : r.max ≡ stream_max draws i = ap (λ (p : RowParts). p.max) parts in
      let small = draw_below draws (2 * i + 1) 64 (omega arith) in
      let (c, curve, said) = some_curve r.curve (stream_max draws i + 20, 200) (ap (λ (p : RowParts). p.curve) parts) in
      let burst : c.burst ≡ stream_max draws i + 20 = ap (λ (p : ℕ × ℕ). p.0) said in
      let rate : c.rate ≡ 200 = ap (λ (p : ℕ × ℕ). p.1) said in
      let has : is_some r.curve ≡ true = ap (λ (o : Option Curve). is_some o) curve in
      record {
        name = subst (λ n. IsTrue (is_name n)) (sym (ap (λ (p : RowParts). p.name) parts)) (stream_named i lt);
        vid = (omega (arith, vid), omega (arith, vid, lt));
        stream = λ some. on_every_way net is r.arcs (λ a. a.express_from ≤ r.prio) (λ x p. omega (arith, p.express_from, prio));
        flow = λ none. absurd (true≢false (sym has ∙ none));
        largest = λ none. absurd (true≢false (sym has ∙ none));
        route = route_is r (source i) (stream_destination draws i) (omega arith) (omega arith) (other_station i _ (draw_below draws (2 * i) 39 (omega arith))) (ap (λ
            (p : RowParts). p.route) parts) (ap (λ (p : RowParts). p.arcs) parts);
        max = (omega (arith, size), omega (arith, size, small));
        curve = subst (λ (o : Option Curve). IfSome o (IsCurveOf r.max)) (sym curve) (record {
          burst = (omega (arith, burst), omega (arith, burst, small));
          rate = (
            omega (arith, rate),
            omega (arith, rate),
          );
          frame = omega (arith, burst, size);
        });
      }

  pub flow_is_row : (r : Row) (i : ℕ) → i < 30 → row_parts r ≡ flow_row draws i → IsRow net r
  flow_is_row r i lt parts =
      let vid : r.vid ≡ 200 + i = ap (λ (p : RowParts). p.vid) parts in
      let prio : r.prio ≡ i % 4 = ap (λ (p : RowParts). p.prio) parts in
      let size : r.max ≡ 1522 = ap (λ (p : RowParts). p.max) parts in
      let curve = no_curve r.curve (ap (λ (p : RowParts). p.curve) parts) in
      let none : is_some r.curve ≡ false = ap (λ (o : Option Curve). is_some o) curve in
      record {
        name = subst (λ n. IsTrue (is_name n)) (sym (ap (λ (p : RowParts). p.name) parts)) (flow_named i lt);
        vid = (omega (arith, vid), omega (arith, vid, lt));
        stream = λ some. absurd (false≢true (sym none ∙ some));
        flow = λ _. on_every_way net is r.arcs (λ a. r.prio < a.express_from) (λ x p. omega (arith, p.express_from, prio));
        largest = λ _. on_every_way net is r.arcs (λ a. r.max ≤ a.largest) (λ x p. omega (arith, p.largest, size));
        route = route_is r (source i) (flow_destination draws i) (omega arith) (omega arith) (other_station i _ (draw_below draws (120 + i) 39 (omega arith))) (ap (λ
            (p : RowParts). p.route) parts) (ap (λ (p : RowParts). p.arcs) parts);
        max = (omega (arith, size), omega (arith, size));
        curve = subst (λ (o : Option Curve). IfSome o (IsCurveOf r.max)) (sym curve) tt;
      }

-- ---- the rows by their places

module _ (draws : List ℕ) (rows : List Row) (are : map row_parts rows ≡ plant_rows draws) where
  split : plant_rows draws ≡ list_of 60 (stream_row draws) ++ list_of 30 (flow_row draws)
  unfolding plant_rows
  split = refl

  all : map row_parts rows ≡ list_of 60 (stream_row draws) ++ list_of 30 (flow_row draws)
  all = are ∙ split

  pub rows_long : length rows ≡ 90
  rows_long =
      omega (
        arith,
        length-map rows row_parts,
        ap (λ (ps : List RowParts). length ps) all,
        length-append (list_of 60 (stream_row draws)) (list_of 30 (flow_row draws)),
        length-list_of
            (stream_row draws) 60,
        length-list_of (flow_row draws) 30,
      )

  part_at : (k : ℕ) (d : Row) → k < 90 → row_parts (get_or rows k d) ≡ get_or (list_of 60 (stream_row draws) ++ list_of 30 (flow_row draws)) k (row_parts d)
  part_at k d lt = sym (get_or-map row_parts rows k d (row_parts d) (omega (arith, rows_long))) ∙ ap (λ (ps : List RowParts). get_or ps k (row_parts d)) all

  pub stream_at : (i : ℕ) (d : Row) → i < 60 → row_parts (get_or rows i d) ≡ stream_row draws i
  stream_at i d lt =
      part_at i d (omega arith)
      ∙ get_or_append_left (list_of 60 (stream_row draws)) (list_of 30 (flow_row draws)) (row_parts d) i (omega (arith, length-list_of (stream_row draws) 60))
      ∙ get_or-list_of (stream_row draws) 60 i (row_parts d) lt

  pub flow_at : (i : ℕ) (d : Row) → i < 30 → row_parts (get_or rows (60 + i) d) ≡ flow_row draws i
  flow_at i d lt =
      let on : 60 + i - 60 ≡ i = omega arith in
      part_at (60 + i) d (omega arith)
      ∙ get_or-append_right (list_of 60 (stream_row draws)) (list_of 30 (flow_row draws)) 60 (60 + i) (row_parts d) (length-list_of (stream_row draws) 60) (omega arith)
      ∙ ap (λ k. get_or (list_of 30 (flow_row draws)) k (row_parts d)) on
      ∙ get_or-list_of (flow_row draws) 30 i (row_parts d) lt

  pub each_row : (net : Network) → IsPlantNetwork net → All (IsRow net) rows
  each_row net is k d within =
      elim (cases_lt k 60) [
        | inl lt ↦ stream_is_row net is draws (get_or rows k d) k lt (stream_at k d lt)
        | inr le ↦
            let on : 60 + (k - 60) ≡ k = omega arith in
            let low : k - 60 < 30 = omega (arith, within, rows_long) in
            flow_is_row net is draws (get_or rows k d) (k - 60) low (ap (λ j. row_parts (get_or rows j d)) (sym on) ∙ flow_at (k - 60) d low)
      ]

  -- what holds of each two rows: of two streams, of two flows, and of a stream and a flow
  pub each_two : (R : RowParts → RowParts → Type 0) → ((i j : ℕ) → i < j → j < 60 → R (stream_row draws i) (stream_row draws j))
      → ((i j : ℕ) → i < j → j < 30 → R (flow_row draws i) (flow_row draws j)) → ((i j : ℕ) → i < 60 → j < 30 → R (stream_row draws i) (flow_row draws j))
      → AllPairs (λ q r. R (row_parts q) (row_parts r)) rows
  each_two R streams flows both =
      pairs_behind R row_parts rows
      (subst (AllPairs R) (sym all)
      (AllPairs-append R (list_of 60 (stream_row draws)) (list_of 30 (flow_row draws))
      (AllPairs-list_of R (stream_row draws) 60 streams)
      (AllPairs-list_of R (flow_row draws) 30 flows)
      (All-list_of (λ p. All (R p) (list_of 30 (flow_row draws))) (stream_row draws) 60 (λ i lt. All-list_of (R (stream_row draws i)) (flow_row draws) 30 (λ j inside. both i j lt inside)))))

  names_differ : AllPairs (λ q r. q.name ≢ r.name) rows
  names_differ =
      each_two (λ p q. p.name ≢ q.name)
      (λ i j before lt. one_letter 101 i j before (omega arith))
      (λ i j before lt. one_letter 102 i j before (omega arith))
      (λ i j lt inside. two_letters 101 102 _ _ (λ e. omega (arith, e)))

  routes_shared : AllPairs SharesRoute rows
  routes_shared =
      each_two (λ p q. p.vid ≡ q.vid → (p.route ≡ q.route) × (p.arcs ≡ q.arcs))
      (λ i j before lt same. absurd (omega (arith, before, same)))
      (λ i j before lt same. absurd (omega (arith, before, same)))
      (λ i j lt inside same. absurd (omega (arith, lt, same)))

  streams_come_first : AllPairs (λ q r. is_some (option_map curve_parts q.curve) ≡ false → is_some (option_map curve_parts r.curve) ≡ false) rows
  streams_come_first =
      each_two (λ p q. is_some p.curve ≡ false → is_some q.curve ≡ false)
      (λ i j before lt none. absurd (true≢false none))
      (λ i j before lt none. refl)
      (λ i j lt inside none. refl)

  pub rows_fit : (net : Network) (streams : Streams) → IsPlantNetwork net → streams.rows ≡ rows → Fits net streams
  rows_fit net streams is of = record {
    each = subst (All (IsRow net)) (sym of) (each_row net is);
    names = subst (AllPairs (λ q r. q.name ≢ r.name)) (sym of) names_differ;
    routes = subst (AllPairs SharesRoute) (sym of) routes_shared;
    streams_first = subst (AllPairs (λ q r. IsNone q.curve → IsNone r.curve)) (sym of)
        (λ i j d before within none.
        sym (is_some_map curve_parts (get_or rows j d).curve) ∙ streams_come_first i j d before within (is_some_map curve_parts (get_or rows i d).curve ∙ none));
    streams_count = omega (arith, count_by-le-length (λ (r : Row). is_some r.curve) streams.rows, ap (λ (rs : List Row). length rs) of, rows_long);
    flows_count = omega (arith, count_by-le-length (λ (r : Row). is_none r.curve) streams.rows, ap (λ (rs : List Row). length rs) of, rows_long);
  }

  parts_counted : (p : RowParts → Bool) → count_by (λ r. p (row_parts r)) rows ≡ count_by p (list_of 60 (stream_row draws)) + count_by p (list_of 30 (flow_row draws))
  parts_counted p =
      count_map p row_parts rows
      ∙ ap (count_by p) all
      ∙ sum_by-append (λ x. cond (p x) 1 0) (list_of 60 (stream_row draws)) (list_of 30 (flow_row draws))

  same_count : (p q : Row → Bool) → ((r : Row) → p r ≡ q r) → (rs : List Row) → count_by p rs ≡ count_by q rs
  same_count p q agree rs = count_agree p q agree rs
    where
      count_agree : (p q : Row → Bool) → ((r : Row) → p r ≡ q r) → (rs : List Row) → count_by p rs ≡ count_by q rs
      count_agree p q agree [] = refl
      count_agree p q agree (r ∷ rs) =
          sum_by-cons (λ x. cond (p x) 1 0) r rs ∙ ap (λ b. cond b 1 0 + count_by p rs) (agree r) ∙ ap (λ n. cond (q r) 1 0 + n) (count_agree p q agree rs) ∙ sym (sum_by-cons
          (λ x. cond (q x) 1 0) r rs)

  pub streams_counted : count_by (λ r. is_some r.curve) rows ≡ 60
  streams_counted =
      let same = same_count (λ r. is_some r.curve) (λ r. is_some (row_parts r).curve) (λ r. sym (is_some_map curve_parts r.curve)) rows in
      let streams = count_all (λ (p : RowParts). is_some p.curve) (list_of 60 (stream_row draws)) (All-list_of (λ p. is_some p.curve ≡ true) (stream_row draws) 60 (λ i lt. refl)) in
      let flows = count_none (λ (p : RowParts). is_some p.curve) (list_of 30 (flow_row draws)) (All-list_of (λ p. is_some p.curve ≡ false) (flow_row draws) 30 (λ i lt. refl)) in
      omega (arith, same, parts_counted (λ p. is_some p.curve), streams, flows, length-list_of (stream_row draws) 60)

  pub flows_counted : count_by (λ r. is_none r.curve) rows ≡ 30
  flows_counted =
      let same = same_count (λ r. is_none r.curve) (λ r. is_none (row_parts r).curve) (λ r. none_map r.curve) rows in
      let streams = count_none (λ (p : RowParts). is_none p.curve) (list_of 60 (stream_row draws)) (All-list_of (λ p. is_none p.curve ≡ false) (stream_row draws) 60 (λ i lt. refl)) in
      let flows = count_all (λ (p : RowParts). is_none p.curve) (list_of 30 (flow_row draws)) (All-list_of (λ p. is_none p.curve ≡ true) (flow_row draws) 30 (λ i lt. refl)) in
      omega (arith, same, parts_counted (λ p. is_none p.curve), streams, flows, length-list_of (flow_row draws) 30)
    where
      none_map : (o : Option Curve) → is_none o ≡ is_none (option_map curve_parts o)
      none_map None = refl
      none_map (Some c) = refl

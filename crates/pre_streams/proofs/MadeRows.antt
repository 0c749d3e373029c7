-- Rows that raw rows without a fault make fit the network.
use Rattle.std.proofs.Common.{◌≡◌, ◌≢◌, ℕ, zero, suc, ◌+◌, ◌-◌, ◌<◌, ◌≤◌, ◌^◌, ◌==◌, Bool, true, false, not}
use Rattle.std.proofs.Common.{◌&&◌, ◌||◌, List, [], ◌∷◌, length, map, get_or, slice_get, max, Option, Some, None, is_some, is_none}
use Rattle.std.proofs.Common.{IsNone, IfSome, option_map, All, AllPairs, count_by, nat_le, nat_lt, cond, if◌then◌else◌, refl, sym, ◌∙◌}
use Rattle.std.proofs.Common.{ap, subst, arith, IsTrue, zero-add}
use Rattle.std.specs.List.{find, common_prefix_len, enumerate_from}
use Rattle.std.specs.Option.{option_map_or}
use Rattle.std.specs.Str.{bytes_eq}
use Rattle.std.specs.Cmp.Lexicographic.{same_text}
use Rattle.std.proofs.lemmas.Bool.{and_parts, leb-true, ltb-false, ltb-true, lt-ltb, le-ltb, eqb-true, eq-eqb, true≢false, not-false, not-true}
use Rattle.std.proofs.lemmas.Option.{same_Some, slice_get-get_or, slice_get_within, slice_get_past}
use Rattle.std.proofs.lemmas.List.{length-map, get_or-map}
use Rattle.std.proofs.lemmas.List.FromFn.{length-enumerate_from, get_or-enumerate_from}
use Rattle.std.proofs.lemmas.List.Sums.{sum_by-cons, AllPass-from_list_all}
use Rattle.pre_text.specs.Words.{is_name}
use Rattle.pre_base.specs.declared.limits.TheConstants.{LEAST_FRAME, GREATEST_FRAME, OVERHEAD}
use Rattle.pre_curve.specs.declared.curves.Curve.{Curve}
use Rattle.pre_table.specs.declared.values.Whole.{Whole}
use Rattle.pre_table.specs.declared.values.Whole.TheVariants.{Negative, Natural}
use Rattle.pre_table.specs.Values.{natural, is_within, same_whole}
use Rattle.pre_topo.specs.declared.network.Network.{Network}
use Rattle.pre_topo.specs.declared.arcs.Arc.{Arc}
use Rattle.pre_streams.specs.declared.arc_rules.ArcRule.{ArcRule}
use Rattle.pre_streams.specs.declared.arc_rules.ArcRule.TheVariants.{Express, Preemptable, Carries}
use Rattle.pre_streams.specs.declared.raw.RawStreams.{RawStreams}
use Rattle.pre_streams.specs.declared.raw.RawCurve.{RawCurve}
use Rattle.pre_streams.specs.declared.raw.RawFlow.{RawFlow}
use Rattle.pre_streams.specs.declared.rows.Row.{Row}
use Rattle.pre_streams.specs.declared.rows.Streams.{Streams}
use Rattle.pre_streams.specs.FileRules.{meets, meets_at, holds_along, class_rule, curve_in_range, difference, has_vid, length_in_range, other_route, raw_fault}
use Rattle.pre_streams.specs.Holds.{Holds}
use Rattle.pre_streams.specs.NamedRoutes.{arcs_along, route_made}
use Rattle.pre_streams.specs.Made.{RowParts, curve_made, curve_parts, row_made, row_parts, rows_made}
use Rattle.pre_streams.specs.Rows.{IsCurveOf, IsRoute, IsRow, OnEach}
use Rattle.pre_streams.specs.Fits.{Fits, SharesRoute}
use Rattle.pre_streams.proofs.Faultless.{faultless, default_row}
use Rattle.pre_streams.proofs.MadeRoutes.{route_is, same_octets, some_there}

within : (low high : ℕ) (w : Whole) → IsTrue (is_within low high w) → (low ≤ natural w) × (natural w ≤ high)
within low high (Negative n) is = cc
within low high (Natural n) is =
    let (least, most) = and_parts (nat_le low n) (nat_le n high) is in
    (leb-true low n least, leb-true n high most)

express_there : (prio : Whole) (a : Arc) → meets (Express prio) a ≡ true → a.express_from ≤ natural prio
express_there (Negative n) a is = cc
express_there (Natural n) a is = ltb-false n a.express_from (not-true (nat_lt n a.express_from) is)

preemptable_there : (prio : Whole) (a : Arc) → IsTrue (is_within 0 7 prio) → meets (Preemptable prio) a ≡ true → natural prio < a.express_from
preemptable_there (Negative n) a in_ is = cc
preemptable_there (Natural n) a in_ is = ltb-true n a.express_from is

-- what holds along a route holds at each of its arcs
on_each : (net : Network) (rule : ArcRule) (route : List (List ℕ)) → IsTrue (holds_along net rule route) → OnEach net (arcs_along net (route_made net route)) (λ a. meets rule a ≡ true)
on_each net rule route holds k d in_ a at =
    sym (ap (λ (o : Option Arc). option_map_or (meets rule) o false) at) ∙ AllPass-from_list_all (meets_at net rule) (arcs_along net (route_made net route)) holds k d in_

one_number : (low high : ℕ) (v w : Whole) → IsTrue (is_within low high v) → IsTrue (is_within low high w) → natural v ≡ natural w → v ≡ w
one_number low high (Negative m) w v_in w_in same = cc
one_number low high (Natural m) (Negative n) v_in w_in same = cc
one_number low high (Natural m) (Natural n) v_in w_in same = ap (λ k. Natural k) same

same_itself : (w : Whole) → same_whole w w ≡ true
same_itself (Negative n) = eq-eqb n n refl
same_itself (Natural n) = eq-eqb n n refl

is_some_map : {X Y : Type 0} (f : X → Y) (o : Option X) → is_some (option_map f o) ≡ is_some o
is_some_map f None = refl
is_some_map f (Some x) = refl

-- nothing stands past the end alone
past_end : (curves : List RawCurve) (k : ℕ) → is_some (slice_get curves k) ≡ false → length curves ≤ k
past_end curves k none = by_cases (nat_lt k (length curves)) refl
  where
    by_cases : (b : Bool) → b ≡ nat_lt k (length curves) → length curves ≤ k
    by_cases true is = absurd (true≢false (sym (ap (λ (o : Option RawCurve). is_some o) (slice_get-get_or curves k (record { burst = Natural 0; rate = Natural 0 }) (ltb-true k (length curves) (sym is)))) ∙ none))
    by_cases false is = ltb-false k (length curves) (sym is)

curve_fits : (limit : ℕ) (c : Option Curve) (o : Option RawCurve) → option_map curve_parts c ≡ option_map curve_made o → option_map_or curve_in_range o true ≡ true → option_map_or (λ w. nat_lt (natural w.burst) (limit + OVERHEAD)) o false ≡ false → IfSome c (IsCurveOf limit)
curve_fits limit None o same range room = tt
curve_fits limit (Some c) None same range room = cc
curve_fits limit (Some c) (Some w) same range room =
    let parts = same_Some (curve_parts c) (curve_made w) same in
    let burst : c.burst ≡ natural w.burst = ap (λ (p : ℕ × ℕ). p.0) parts in
    let rate : c.rate ≡ natural w.rate = ap (λ (p : ℕ × ℕ). p.1) parts in
    let (burst_in, rate_in) = and_parts (is_within 84 (10 ^ 9) w.burst) (is_within 1 (10 ^ 6) w.rate) range in
    let burst_range = within 84 (10 ^ 9) w.burst burst_in in
    let rate_range = within 1 (10 ^ 6) w.rate rate_in in
    let enough = ltb-false (natural w.burst) (limit + OVERHEAD) room in
    record { burst = (omega (arith, burst, burst_range.0), omega (arith, burst, burst_range.1)); rate = (omega (arith, rate, rate_range.0), omega (arith, rate, rate_range.1)); frame = omega (arith, burst, enough) }

-- two routes without a difference are one
no_difference : (a b : List (List ℕ)) → common_prefix_len bytes_eq a b ≡ length a → common_prefix_len bytes_eq a b ≡ length b → a ≡ b
no_difference [] [] one other = refl
no_difference [] (y ∷ b) one other = absurd (omega (arith, other))
no_difference (x ∷ a) [] one other = absurd (omega (arith, one))
no_difference (x ∷ a) (y ∷ b) one other = by_cases (bytes_eq x y) refl one other (no_difference a b)
  where
    by_cases : (t : Bool) → t ≡ bytes_eq x y → cond (bytes_eq x y) (1 + common_prefix_len bytes_eq a b) 0 ≡ suc (length a) → cond (bytes_eq x y) (1 + common_prefix_len bytes_eq a b) 0 ≡ suc (length b) → (common_prefix_len bytes_eq a b ≡ length a → common_prefix_len bytes_eq a b ≡ length b → a ≡ b) → x ∷ a ≡ y ∷ b
    by_cases true is one other rest =
        let first : 1 + common_prefix_len bytes_eq a b ≡ suc (length a) = ap (λ t. cond t (1 + common_prefix_len bytes_eq a b) 0) is ∙ one in
        let second : 1 + common_prefix_len bytes_eq a b ≡ suc (length b) = ap (λ t. cond t (1 + common_prefix_len bytes_eq a b) 0) is ∙ other in
        let heads : x ≡ y = same_text x y is in
        let tails : a ≡ b = rest (omega (arith, first)) (omega (arith, second)) in
        cc
    by_cases false is one other rest = absurd (omega (arith, ap (λ t. cond t (1 + common_prefix_len bytes_eq a b) 0) is ∙ one))

same_route : (a b : List (List ℕ)) → difference a b ≡ None → a ≡ b
same_route a b none = by_cases ((common_prefix_len bytes_eq a b == length a) && (common_prefix_len bytes_eq a b == length b)) refl none
  where
    by_cases : (t : Bool) → t ≡ ((common_prefix_len bytes_eq a b == length a) && (common_prefix_len bytes_eq a b == length b)) → (if t then None else Some (common_prefix_len bytes_eq a b)) ≡ None → a ≡ b
    by_cases true is none =
        let (one, other) = and_parts (common_prefix_len bytes_eq a b == length a) (common_prefix_len bytes_eq a b == length b) (sym is) in
        no_difference a b (eqb-true (common_prefix_len bytes_eq a b) (length a) one) (eqb-true (common_prefix_len bytes_eq a b) (length b) other)
    by_cases false is none = cc

found : {X : Type 0} (p : X → Bool) (xs : List X) (k : ℕ) (d : X) → k < length xs → p (get_or xs k d) ≡ true → is_some (find p xs) ≡ true
found p [] k d in_ is = absurd (omega arith)
found p (x ∷ xs) zero d in_ is = ap (λ b. is_some (cond b (Some x) (find p xs))) is
found p (x ∷ xs) (suc k) d in_ is = by_cases (p x) (found p xs k d (omega arith) is)
  where
    by_cases : (b : Bool) → is_some (find p xs) ≡ true → is_some (cond b (Some x) (find p xs)) ≡ true
    by_cases true rest = refl
    by_cases false rest = rest

-- the rows of one VID have the route of the first of them
one_route : (rows : List RawFlow) (q r : RawFlow) → q.vid ≡ r.vid → is_some (find (has_vid q.vid) rows) ≡ true → other_route rows q ≡ None → other_route rows r ≡ None → q.route ≡ r.route
one_route rows q r vids some q_same r_same =
    let first = some_there (find (has_vid q.vid) rows) some in
    let for_q : difference first.0.route q.route ≡ None = sym (ap (λ (o : Option RawFlow). option_map_or (λ first. difference first.route q.route) o None) first.1) ∙ q_same in
    let for_r : difference first.0.route r.route ≡ None = sym (ap (λ (o : Option RawFlow). option_map_or (λ first. difference first.route r.route) o None) first.1) ∙ ap (λ (v : Whole). option_map_or (λ first. difference first.route r.route) (find (has_vid v) rows) None) vids ∙ r_same in
    sym (same_route first.0.route q.route for_q) ∙ same_route first.0.route r.route for_r

-- how many of the rows from this place on have a curve, and how many have none
curves_count : (net : Network) (curves : List RawCurve) (n : ℕ) (rows : List Row) (raws : List RawFlow) → map row_parts rows ≡ map (λ r. row_made net (slice_get curves r.0) r.1) (enumerate_from n raws) → (count_by (λ r. is_some r.curve) rows ≤ length curves - n) × (count_by (λ r. is_none r.curve) rows ≤ (n + length rows) - max n (length curves))
curves_count net curves n [] raws same = (omega arith, omega arith)
curves_count net curves n (r ∷ rows) [] same = cc
curves_count net curves n (r ∷ rows) (q ∷ raws) same =
    let heads : row_parts r ≡ row_made net (slice_get curves n) q = cc in
    let tails : map row_parts rows ≡ map (λ r. row_made net (slice_get curves r.0) r.1) (enumerate_from (n + 1) raws) = cc in
    let rest = curves_count net curves (n + 1) rows raws tails in
    let some : is_some r.curve ≡ is_some (slice_get curves n) = sym (is_some_map curve_parts r.curve) ∙ ap (λ (p : RowParts). is_some p.curve) heads ∙ is_some_map curve_made (slice_get curves n) in
    by_cases (is_some r.curve) refl some rest
  where
    by_cases : (b : Bool) → b ≡ is_some r.curve → is_some r.curve ≡ is_some (slice_get curves n) → (count_by (λ r. is_some r.curve) rows ≤ length curves - (n + 1)) × (count_by (λ r. is_none r.curve) rows ≤ (n + 1 + length rows) - max (n + 1) (length curves)) → (count_by (λ r. is_some r.curve) (r ∷ rows) ≤ length curves - n) × (count_by (λ r. is_none r.curve) (r ∷ rows) ≤ (n + suc (length rows)) - max n (length curves))
    by_cases true is some rest =
        let somes = sum_by-cons (λ (r : Row). cond (is_some r.curve) 1 0) r rows in
        let nones = sum_by-cons (λ (r : Row). cond (is_none r.curve) 1 0) r rows in
        let one : cond {A = ℕ} (is_some r.curve) 1 0 ≡ 1 = ap (λ b. cond {A = ℕ} b 1 0) (sym is) in
        let zero_ : cond {A = ℕ} (is_none r.curve) 1 0 ≡ 0 = ap (λ b. cond {A = ℕ} (not b) 1 0) (sym is) in
        let curve = some_there (slice_get curves n) (sym some ∙ sym is) in
        let inside = slice_get_within curves n curve.0 curve.1 in
        (omega (arith, somes, one, rest.0, inside), omega (arith, nones, zero_, rest.1, inside))
    by_cases false is some rest =
        let somes = sum_by-cons (λ (r : Row). cond (is_some r.curve) 1 0) r rows in
        let nones = sum_by-cons (λ (r : Row). cond (is_none r.curve) 1 0) r rows in
        let zero_ : cond {A = ℕ} (is_some r.curve) 1 0 ≡ 0 = ap (λ b. cond {A = ℕ} b 1 0) (sym is) in
        let one : cond {A = ℕ} (is_none r.curve) 1 0 ≡ 1 = ap (λ b. cond {A = ℕ} (not b) 1 0) (sym is) in
        let past = past_end curves n (sym some ∙ sym is) in
        (omega (arith, somes, zero_, rest.0, past), omega (arith, nones, one, rest.1, past))

module _ (net : Network) (raw : RawStreams) (streams : Streams) (none : raw_fault net raw ≡ None) (made : map row_parts streams.rows ≡ rows_made net raw) where
  hold : Holds net raw
  hold = faultless net raw none

  count : length streams.rows ≡ length raw.rows
  count =
      let rows : length (map row_parts streams.rows) ≡ length streams.rows = length-map streams.rows row_parts in
      let raws : length (rows_made net raw) ≡ length (enumerate_from 0 raw.rows) = length-map (enumerate_from 0 raw.rows) _ in
      sym rows ∙ ap (λ (l : List RowParts). length l) made ∙ raws ∙ length-enumerate_from 0 raw.rows

  made_at : (k : ℕ) (d : Row) → k < length streams.rows → row_parts (get_or streams.rows k d) ≡ row_made net (slice_get raw.curves k) (get_or raw.rows k default_row)
  made_at k d in_ =
      let raw_in : k < length raw.rows = omega (arith, count, in_) in
      let listed : k < length (enumerate_from 0 raw.rows) = rw (length-enumerate_from 0 raw.rows) raw_in in
      let row : (ℕ × RawFlow) → RowParts = λ r. row_made net (slice_get raw.curves r.0) r.1 in
      sym (get_or-map row_parts streams.rows k d (row_parts d) in_)
      ∙ ap (λ (l : List RowParts). get_or l k (row_parts d)) made
      ∙ get_or-map row (enumerate_from 0 raw.rows) k (0, default_row) (row_parts d) listed
      ∙ ap row (get_or-enumerate_from 0 raw.rows k (0, default_row) raw_in)
      ∙ ap (λ n. row_made net (slice_get raw.curves n) (get_or raw.rows k default_row)) (zero-add k)

  has_curve : (k : ℕ) (d : Row) → k < length streams.rows → is_some (get_or streams.rows k d).curve ≡ is_some (slice_get raw.curves k)
  has_curve k d in_ =
      sym (is_some_map curve_parts (get_or streams.rows k d).curve)
      ∙ ap (λ (p : RowParts). is_some p.curve) (made_at k d in_)
      ∙ is_some_map curve_made (slice_get raw.curves k)

  each : All (IsRow net) streams.rows
  each k d in_ =
      let raw_in : k < length raw.rows = omega (arith, count, in_) in
      let r = get_or streams.rows k d in
      let q = get_or raw.rows k default_row in
      let same = made_at k d in_ in
      let (three, max_in) = and_parts ((is_within 1 4094 q.vid && is_within 0 7 q.prio) && length_in_range (length q.route)) (is_within LEAST_FRAME GREATEST_FRAME q.max) (hold.rows k default_row raw_in) in
      let (two, long) = and_parts (is_within 1 4094 q.vid && is_within 0 7 q.prio) (length_in_range (length q.route)) three in
      let (vid_in, prio_in) = and_parts (is_within 1 4094 q.vid) (is_within 0 7 q.prio) two in
      let vid : r.vid ≡ natural q.vid = ap (λ (p : RowParts). p.vid) same in
      let prio : r.prio ≡ natural q.prio = ap (λ (p : RowParts). p.prio) same in
      let most : r.max ≡ natural q.max = ap (λ (p : RowParts). p.max) same in
      let vid_range = within 1 4094 q.vid vid_in in
      let max_range = within LEAST_FRAME GREATEST_FRAME q.max max_in in
      let arcs : r.arcs ≡ arcs_along net (route_made net q.route) = ap (λ (p : RowParts). p.arcs) same in
      let class = not-false (holds_along net (class_rule raw.curves k q) q.route) (hold.class k default_row raw_in) in
      let on_way = λ (rule : ArcRule) (holds : IsTrue (holds_along net rule q.route)). subst (λ ids. OnEach net ids (λ a. meets rule a ≡ true)) (sym arcs) (on_each net rule q.route holds) in
      record {
        name = subst (λ n. IsTrue (is_name n)) (sym (ap (λ (p : RowParts). p.name) same)) (hold.names k default_row raw_in);
        vid = (omega (arith, vid, vid_range.0), omega (arith, vid, vid_range.1));
        stream = λ some.
            let stream = some_there (slice_get raw.curves k) (sym (has_curve k d in_) ∙ some) in
            let first : nat_lt k (length raw.curves) ≡ true = lt-ltb k (length raw.curves) (slice_get_within raw.curves k stream.0 stream.1) in
            let holds : IsTrue (holds_along net (Express q.prio) q.route) = sym (ap (λ b. holds_along net (cond b (Express q.prio) (Preemptable q.prio)) q.route) first) ∙ class in
            λ i d in_ a at. let least = express_there q.prio a (on_way (Express q.prio) holds i d in_ a at) in omega (arith, prio, least);
        flow = λ absent.
            let past = past_end raw.curves k (sym (has_curve k d in_) ∙ absent) in
            let behind : nat_lt k (length raw.curves) ≡ false = le-ltb k (length raw.curves) past in
            let holds : IsTrue (holds_along net (Preemptable q.prio) q.route) = sym (ap (λ b. holds_along net (cond b (Express q.prio) (Preemptable q.prio)) q.route) behind) ∙ class in
            λ i d in_ a at. let less = preemptable_there q.prio a prio_in (on_way (Preemptable q.prio) holds i d in_ a at) in omega (arith, prio, less);
        largest = λ absent.
            let past = past_end raw.curves k (sym (has_curve k d in_) ∙ absent) in
            let behind : nat_lt k (length raw.curves) ≡ false = le-ltb k (length raw.curves) past in
            let holds : IsTrue (holds_along net (Carries q.max) q.route) = sym (ap (λ b. b || holds_along net (Carries q.max) q.route) behind) ∙ hold.carried k default_row raw_in in
            λ i d in_ a at. let fits = within 0 a.largest q.max (on_way (Carries q.max) holds i d in_ a at) in omega (arith, most, fits.1);
        route = subst (λ x. IsRoute net x r.arcs) (sym (ap (λ (p : RowParts). p.route) same))
            (subst (λ x. IsRoute net (route_made net q.route) x) (sym (ap (λ (p : RowParts). p.arcs) same)) (route_is net q.route (hold.entries k default_row raw_in) long));
        max = (omega (arith, most, max_range.0), omega (arith, most, max_range.1));
        curve = subst (λ m. IfSome r.curve (IsCurveOf m)) (sym most) (curve_fits (natural q.max) r.curve (slice_get raw.curves k) (ap (λ (p : RowParts). p.curve) same) (hold.curves k raw_in) (hold.bursts k default_row raw_in));
      }

  names : AllPairs (λ q r. q.name ≢ r.name) streams.rows
  names i j d before in_ same =
      let i_in : i < length streams.rows = omega arith in
      let raw_in : j < length raw.rows = omega (arith, count, in_) in
      let first = ap (λ (p : RowParts). p.name) (made_at i d i_in) in
      let second = ap (λ (p : RowParts). p.name) (made_at j d in_) in
      true≢false (sym (same_octets (get_or raw.rows i default_row).name (get_or raw.rows j default_row).name (sym first ∙ same ∙ second)) ∙ hold.apart i j default_row before raw_in)

  routes : AllPairs SharesRoute streams.rows
  routes i j d before in_ same =
      let i_in : i < length streams.rows = omega arith in
      let raw_in : j < length raw.rows = omega (arith, count, in_) in
      let raw_i_in : i < length raw.rows = omega arith in
      let q = get_or raw.rows i default_row in
      let r = get_or raw.rows j default_row in
      let first = made_at i d i_in in
      let second = made_at j d in_ in
      let numbers : natural q.vid ≡ natural r.vid = sym (ap (λ (p : RowParts). p.vid) first) ∙ same ∙ ap (λ (p : RowParts). p.vid) second in
      let vids : q.vid ≡ r.vid = one_number 1 4094 q.vid r.vid (vid_in i raw_i_in) (vid_in j raw_in) numbers in
      let some = found (has_vid q.vid) raw.rows i default_row raw_i_in (same_itself q.vid) in
      let one = one_route raw.rows q r vids some (hold.routes i default_row raw_i_in) (hold.routes j default_row raw_in) in (
        ap (λ (p : RowParts). p.route) first ∙ ap (λ x. route_made net x) one ∙ sym (ap (λ (p : RowParts). p.route) second),
        ap (λ (p : RowParts). p.arcs) first ∙ ap (λ x. arcs_along net (route_made net x)) one ∙ sym (ap (λ (p : RowParts). p.arcs) second),
      )
    where
      vid_in : (k : ℕ) → k < length raw.rows → IsTrue (is_within 1 4094 (get_or raw.rows k default_row).vid)
      vid_in k k_in =
          let q = get_or raw.rows k default_row in
          let (three, max_in) = and_parts ((is_within 1 4094 q.vid && is_within 0 7 q.prio) && length_in_range (length q.route)) (is_within LEAST_FRAME GREATEST_FRAME q.max) (hold.rows k default_row k_in) in
          let (two, long) = and_parts (is_within 1 4094 q.vid && is_within 0 7 q.prio) (length_in_range (length q.route)) three in
          (and_parts (is_within 1 4094 q.vid) (is_within 0 7 q.prio) two).0

  streams_first : AllPairs (λ q r. IsNone q.curve → IsNone r.curve) streams.rows
  streams_first i j d before in_ absent =
      let i_in : i < length streams.rows = omega arith in
      let past = past_end raw.curves i (sym (has_curve i d i_in) ∙ absent) in
      let further : length raw.curves ≤ j = omega (arith, past) in
      has_curve j d in_ ∙ ap (λ (o : Option RawCurve). is_some o) (slice_get_past raw.curves j further)

  pub rows_fit_ : Fits net streams
  rows_fit_ =
      let counts = curves_count net raw.curves 0 streams.rows raw.rows made in
      record {
        each = each;
        names = names;
        routes = routes;
        streams_first = streams_first;
        streams_count = omega (arith, counts.0, hold.streams_count);
        flows_count = omega (arith, counts.1, hold.flows_count, count);
      }

pub rows_fit : (net : Network) (raw : RawStreams) (streams : Streams) → raw_fault net raw ≡ None → map row_parts streams.rows ≡ rows_made net raw → Fits net streams
rows_fit net raw streams none made = rows_fit_ net raw streams none made

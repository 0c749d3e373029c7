-- A row that no plain reason stands against can join the rows.
use Rattle.std.proofs.Common.{◌≡◌, ◌≢◌, ℕ, suc, ◌+◌, ◌<◌, ◌≤◌, true, false, cond, List, [], ◌∷◌, Option, Some}
use Rattle.std.proofs.Common.{None, length, get_or, slice_get, is_some, is_none, IsSome, IsNone, count_by, inl, inr, refl, sym, ◌∙◌, ap}
use Rattle.std.proofs.Common.{subst, arith}
use Rattle.std.specs.Prelude.{All, AllPairs}
use Rattle.std.specs.Str.{bytes_eq}
use Rattle.std.proofs.lemmas.Bool.{cases_Bool, cases_order, or_parts, true≢false}
use Rattle.std.proofs.lemmas.Option.{slice_get-get_or, get_or_from_slice_get, slice_get_within}
use Rattle.std.proofs.lemmas.List.Elements.{All-nil, All-cons, All-head, All-tail}
use Rattle.std.proofs.lemmas.List.Sums.{sum_by-cons}
use Rattle.std.proofs.lemmas.Slice.Eq.{bytes_eq-Decides}
use Rattle.pre_base.specs.declared.numbers.NodeId.{NodeId}
use Rattle.pre_base.specs.declared.numbers.ArcId.{ArcId}
use Rattle.pre_curve.specs.declared.curves.Curve.{Curve}
use Rattle.pre_topo.specs.declared.network.Network.{Network}
use Rattle.pre_topo.specs.declared.arcs.Arc.{Arc}
use Rattle.pre_topo.specs.Arcs.{JoinsOther}
use Rattle.pre_streams.specs.declared.rows.Row.{Row}
use Rattle.pre_streams.specs.declared.rows.Streams.{Streams}
use Rattle.pre_streams.specs.Rows.{IsRow, IsRoute, Leads}
use Rattle.pre_streams.specs.Fits.{Fits}
use Rattle.pre_streams.specs.Joined.{first_flow, CanJoin}
use Rattle.pre_admit.specs.Names.{has_name}
use Rattle.pre_admit.specs.Reasons.{NoReason}

same_lists : {X : Type 0} (xs ys : List X) → length xs ≡ length ys → ((k : ℕ) (d : X) → k < length xs → get_or xs k d ≡ get_or ys k d) → xs ≡ ys
same_lists [] [] long each = refl
same_lists [] (y ∷ ys) long each = absurd (omega (arith, long))
same_lists (x ∷ xs) [] long each = absurd (omega (arith, long))
same_lists (x ∷ xs) (y ∷ ys) long each =
    let first : x ≡ y = each 0 x (omega arith) in
    let rest : xs ≡ ys = same_lists xs ys (omega (arith, long)) (λ k d inside. each (suc k) d (omega arith)) in
    ap (λ z. z ∷ xs) first ∙ ap (λ l. y ∷ l) rest

-- one arc leads from a node to another
one_arc : (net : Network) (a b : ArcId) (m n : NodeId) → Leads net a m n → Leads net b m n → a ≡ b
one_arc net a b m n (x, at, from, to) (y, at_too, from_too, to_too) =
    elim (cases_order a.0 b.0) [
      | inl same ↦ ap (λ k. record { 0 = k }) same
      | inr apart ↦
          elim apart [
            | inl less ↦ absurd (differ a b x y at at_too less (from ∙ sym from_too) (to ∙ sym to_too))
            | inr more ↦ absurd (differ b a y x at_too at more (from_too ∙ sym from) (to_too ∙ sym to))
          ]
    ]
  where
    differ : (c d : ArcId) (v w : Arc) → slice_get net.arcs c.0 ≡ Some v → slice_get net.arcs d.0 ≡ Some w → c.0 < d.0 → v.from ≡ w.from → v.to ≡ w.to → ⊥
    differ c d v w here there less same_from same_to =
        let pair : JoinsOther (get_or net.arcs c.0 v) (get_or net.arcs d.0 v) = net.rules.ends c.0 d.0 v less (slice_get_within net.arcs d.0 w there) in
        let pair' : JoinsOther v w = subst (λ z. JoinsOther v z) (get_or_from_slice_get net.arcs d.0 w v there) (subst (λ z. JoinsOther z (get_or net.arcs d.0 v)) (get_or_from_slice_get net.arcs c.0 v v here) pair) in
        pair' (ap (λ (k : NodeId). k.0) same_from) (ap (λ (k : NodeId). k.0) same_to)

-- so a route has one list of arcs
one_way : (net : Network) (route : List NodeId) (arcs other : List ArcId) → IsRoute net route arcs → IsRoute net route other → arcs ≡ other
one_way net route arcs other is is_too =
    same_lists arcs other (omega (arith, is.hops, is_too.hops))
    (λ k d inside.
    let n : NodeId = record { 0 = 0 } in
    let from = slice_get-get_or route k n (omega (arith, inside, is.hops)) in
    let to = slice_get-get_or route (k + 1) n (omega (arith, inside, is.hops)) in
    one_arc net (get_or arcs k d) (get_or other k d) (get_or route k n) (get_or route (k + 1) n)
    (is.leads k (get_or arcs k d) (get_or route k n) (get_or route (k + 1) n) (slice_get-get_or arcs k d inside) from to)
    (is_too.leads k (get_or other k d) (get_or route k n) (get_or route (k + 1) n) (slice_get-get_or other k d (omega (arith, inside, is.hops, is_too.hops))) from to))

new_name : (rows : List Row) (name : List ℕ) → has_name rows name ≡ false → All (λ r. r.name ≢ name) rows
new_name [] name none = All-nil (λ (r : Row). r.name ≢ name)
new_name (r ∷ rows) name none =
    let parts = or_parts (bytes_eq name r.name) (has_name rows name) none in
    All-cons (λ (x : Row). x.name ≢ name) r rows (λ same. true≢false (sym ((bytes_eq-Decides name r.name).1 (sym same)) ∙ parts.0)) (new_name rows name parts.1)

-- the streams stand before the first flow
no_streams : (rows : List Row) → All (λ r. IsNone r.curve) rows → count_by (λ r. is_some r.curve) rows ≡ 0
no_streams [] none = refl
no_streams (r ∷ rows) none =
    let rest = no_streams rows (All-tail (λ (x : Row). IsNone x.curve) r rows none) in
    let first = sum_by-cons (λ (x : Row). cond {A = ℕ} (is_some x.curve) 1 0) r rows in
    let zero_ = not_counted r.curve (All-head (λ (x : Row). IsNone x.curve) r rows none) in
    omega (arith, rest, first, zero_)
  where
    not_counted : (o : Option Curve) → IsNone o → cond {A = ℕ} (is_some o) 1 0 ≡ 0
    not_counted (Some c) none = absurd (cc)
    not_counted None none = refl

few_streams : (rows : List Row) → AllPairs (λ q r. IsNone q.curve → IsNone r.curve) rows → count_by (λ r. is_some r.curve) rows ≤ first_flow rows
few_streams [] first = omega arith
few_streams (r ∷ rows) first =
    let more = sum_by-cons (λ (x : Row). cond {A = ℕ} (is_some x.curve) 1 0) r rows in
    elim (cases_Bool (is_none r.curve)) [
      | inl flow ↦
          let none : All (λ (x : Row). IsNone x.curve) rows = λ k d inside. first 0 (suc k) d (omega arith) (omega arith) (no_curve r.curve flow) in
          let zero_ = no_streams rows none in
          let this = flow_counts r.curve flow in
          rw flow (omega (arith, more, zero_, this))
      | inr stream ↦
          let rest = few_streams rows (λ i j d less inside. first (suc i) (suc j) d (omega arith) (omega arith)) in
          let this = one_counts r.curve in
          rw stream (omega (arith, more, rest, this))
    ]
  where
    no_curve : (o : Option Curve) → is_none o ≡ true → IsNone o
    no_curve (Some c) none = absurd (cc)
    no_curve None none = refl

    flow_counts : (o : Option Curve) → is_none o ≡ true → cond {A = ℕ} (is_some o) 1 0 ≡ 0
    flow_counts (Some c) none = absurd (cc)
    flow_counts None none = refl

    one_counts : (o : Option Curve) → cond {A = ℕ} (is_some o) 1 0 ≤ 1
    one_counts (Some c) = omega arith
    one_counts None = omega arith

pub can_join : (net : Network) (streams : Streams) (row : Row) → Fits net streams → IsRow net row → IsSome row.curve → NoReason streams.rows row → CanJoin streams.rows row
can_join net streams row fits is express none = record {
  stream = express;
  name = new_name streams.rows row.name none.name;
  route = λ k d inside same.
      let nodes = none.route k d inside same in
      let held = (fits.each k d inside).route in
      (nodes, one_way net row.route (get_or streams.rows k d).arcs row.arcs (subst (λ route. IsRoute net route (get_or streams.rows k d).arcs) nodes held) is.route);
  streams_count = let few = few_streams streams.rows fits.streams_first in omega (arith, few, none.count);
  flows_count = fits.flows_count;
}

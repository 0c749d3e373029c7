-- The ranks of a certificate: where each arc has one, they are in order.
use Rattle.std.proofs.Common.{◌≡◌, ℕ, zero, suc, ◌<◌, Bool, true, false, cond, List, [], ◌∷◌, Some, None, is_some, refl, sym}
use Rattle.std.proofs.Common.{◌∙◌, ap, subst, arith, inl, inr, length, get_or, map, if◌then◌else◌}
use Rattle.std.specs.Prelude.{slice_get, filter, All, IsSome}
use Rattle.std.specs.List.{range_with_len}
use Rattle.std.proofs.lemmas.Bool.{cases_Bool}
use Rattle.std.proofs.lemmas.Option.{slice_get-get_or}
use Rattle.std.proofs.lemmas.List.Elements.{All-nil, All-cons, All-head, All-tail, All-map}
use Rattle.std.proofs.lemmas.List.FromFn.{get_or-range_with_len, length-range_with_len}
use Rattle.pre_topo.specs.declared.network.Network.{Network}
use Rattle.pre_streams.specs.declared.rows.Row.{Row}
use Rattle.pre_streams.specs.declared.rows.Streams.{Streams}
use Rattle.pre_streams.specs.Fits.{Fits}
use Rattle.pre_bound.specs.declared.rows.ArcRow.{ArcRow}
use Rattle.pre_bound.specs.declared.certificate.Certificate.{Certificate}
use Rattle.pre_bound.specs.Uses.{has_arc}
use Rattle.pre_bound.specs.Values.{Values}
use Rattle.pre_bound.specs.Good.{AreInOrder}
use Rattle.pre_bound.specs.Settled.{PriosBelow}
use Rattle.pre_bound.specs.Places.{arcs_of}
use Rattle.pre_bound.specs.Listed.{Says, GoodCertificate, HasRanks, arc_row}
use Rattle.pre_bound.specs.Least.{RankedAlike}
use Rattle.pre_bound.proofs.Within.{ArcsWithin-fits}
use Rattle.pre_bound.proofs.Hops.{has_arc-from}

pub All-mapped : {X Y : Type 0} (P : Y → Type 0) (f : X → Y) (xs : List X) → All P (map f xs) → All (λ x. P (f x)) xs
All-mapped P f [] h = All-nil (λ x. P (f x))
All-mapped P f (x ∷ xs) h = All-cons (λ y. P (f y)) x xs (All-head P (f x) (map f xs) h) (All-mapped P f xs (All-tail P (f x) (map f xs) h))

-- an element that passes is kept
pub All-kept : {X : Type 0} (P : X → Type 0) (p : X → Bool) (xs : List X) → All P (filter p xs) → (k : ℕ) (x : X) → slice_get xs k ≡ Some x → p x ≡ true → P x
All-kept P p [] h k x e on = absurd (cc)
All-kept P p (y ∷ xs) h zero x e on =
    let same : y ≡ x = cc in
    let passes : p y ≡ true = ap p same ∙ on in
    subst P same (All-head P y (filter p xs) (subst (λ b. All P (cond b (y ∷ filter p xs) (filter p xs))) passes h))
All-kept P p (y ∷ xs) h (suc k) x e on =
    elim (cases_Bool (p y)) [
      | inl passes ↦ All-kept P p xs (All-tail P y (filter p xs) (subst (λ b. All P (cond b (y ∷ filter p xs) (filter p xs))) passes h)) k x e on
      | inr fails ↦ All-kept P p xs (subst (λ b. All P (cond b (y ∷ filter p xs) (filter p xs))) fails h) k x e on
    ]

pub in_place : (n k : ℕ) → k < n → get_or (range_with_len 0 n) k 0 ≡ k
in_place n k inside = let same = get_or-range_with_len 0 n k 0 inside in omega (arith, same)

pub range_at : (n k : ℕ) → k < n → slice_get (range_with_len 0 n) k ≡ Some k
range_at n k inside =
    slice_get-get_or (range_with_len 0 n) k 0 (omega (arith, inside, length-range_with_len 0 n))
    ∙ ap (λ x. Some x) (in_place n k inside)

if_ranked : (b : Bool) (n : ℕ) → is_some (if b then Some n else None) ≡ true → b ≡ true
if_ranked true n e = refl
if_ranked false n e = cc

-- a certificate that says ranks has them
pub ranks_said : (net : Network) (rows : List Row) (c : Certificate) (v : Values) → Says net rows c v → v.ranked ≡ true → HasRanks c
ranks_said net rows c v says ranked =
    subst (λ (l : List ArcRow). All (λ row. IsSome row.rank) l) (sym says.arcs)
    (All-map (λ (row : ArcRow). IsSome row.rank) (arc_row v) (arcs_of net rows) (λ k d inside. ap (λ b. is_some (if b then Some (v.rank (get_or (arcs_of net rows) k d)) else None)) ranked))

-- and one with ranks says them in order
pub ranks_rise : (net : Network) (streams : Streams) (c : Certificate) (good : GoodCertificate net streams c) → Fits net streams → PriosBelow streams.rows → HasRanks c → AreInOrder streams.rows good.values
ranks_rise net streams c good fits prios ranked arc next f =
    let v = good.values in
    let inside = ArcsWithin-fits net streams fits f.stream f.listed f.hop arc f.here in
    let used = has_arc-from streams.rows f.stream arc f.hop f.listed f.express (prios f.stream f.listed) f.here in
    let some = All-kept (λ k. IsSome (arc_row v k).rank) (has_arc streams.rows) (range_with_len 0 (length net.arcs))
    (All-mapped (λ (row : ArcRow). IsSome row.rank) (arc_row v) (arcs_of net streams.rows) (subst (λ (l : List ArcRow). All (λ row. IsSome row.rank) l) good.says.arcs ranked))
    arc arc (range_at (length net.arcs) arc inside) used in
    good.order (if_ranked v.ranked (v.rank arc) some) arc next f

alike_rows : (xs ys : List ArcRow) → map (λ row. is_some row.rank) xs ≡ map (λ row. is_some row.rank) ys → All (λ row. IsSome row.rank) xs → All (λ row. IsSome row.rank) ys
alike_rows xs [] same h = All-nil (λ row. IsSome row.rank)
alike_rows [] (y ∷ ys) same h = absurd (cc)
alike_rows (x ∷ xs) (y ∷ ys) same h =
    let heads : is_some x.rank ≡ is_some y.rank = cc in
    let tails : map (λ (row : ArcRow). is_some row.rank) xs ≡ map (λ (row : ArcRow). is_some row.rank) ys = cc in
    All-cons (λ row. IsSome row.rank) y ys (sym heads ∙ All-head (λ (row : ArcRow). IsSome row.rank) x xs h) (alike_rows xs ys tails (All-tail (λ (row : ArcRow). IsSome row.rank) x xs h))

-- what has ranks exactly where one with ranks has them, has them too
pub alike_ranked : (c other : Certificate) → RankedAlike c other → HasRanks c → HasRanks other
alike_ranked c other same ranked = alike_rows c.arcs other.arcs same ranked

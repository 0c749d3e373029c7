-- At most as many frames are delivered as are sent.
use Rattle.std.proofs.Common.{ℕ, ◌≡◌, ◌≢◌, ◌<◌, ◌≤◌, ◌||◌, Bool, true, List, [], ◌∷◌, length, map, sym, ◌∙◌, ap, inl, inr, arith}
use Rattle.std.specs.Prelude.{slice_index_or, AllPairs}
use Rattle.std.specs.List.{list_any, AllByRecursion as Every}
use Rattle.std.proofs.lemmas.List.{length-map}
use Rattle.std.proofs.lemmas.List.Elements.{recursion_from_All}
use Rattle.std.proofs.lemmas.Bool.{false≢true}
use Rattle.std.proofs.Math.Dec.{eqb}
use Rattle.std.proofs.lemmas.Map.Made.{IsDistinct-from_AllPairs}
use Rattle.std.proofs.lemmas.Bool.Decides.{Decides-eqb, eqb_tells}
use Rattle.std.proofs.lemmas.Map.Steps.{length-le_from_distinct_below}
use Rattle.std.proofs.Math.ListN.{get_or-map}
use Rattle.pre_history.specs.Scenario.{Scenario}
use Rattle.pre_history.specs.History.{History, Delivery}
use Rattle.pre_history.specs.Queries.{Deliveries}
use Rattle.pre_history.specs.Deliveries.{DeliversOnce}

read_map : (ds : List Delivery) (i : ℕ) (z : Delivery) → slice_index_or (map (λ (d : Delivery). d.frame) ds) i z.frame ≡ (slice_index_or ds i z).frame
read_map ds i z = get_or-map (λ (d : Delivery). d.frame) ds i z

apart : (ds : List Delivery) → AllPairs (λ (d : Delivery) (e : Delivery). d.frame ≢ e.frame) ds → AllPairs (λ (m : ℕ) (n : ℕ). m ≢ n) (map (λ (d : Delivery). d.frame) ds)
apart ds pairs i j d lt within same =
    let z : Delivery = record { tick = 0; node = 0; frame = d; octets = [] } in
    let long : length (map (λ (d : Delivery). d.frame) ds) ≡ length ds = length-map ds (λ (d : Delivery). d.frame) in
    pairs i j z lt (omega (arith, within, long)) (sym (read_map ds i z) ∙ (same ∙ read_map ds j z))

below_all : (n : ℕ) (ds : List Delivery) → Every (λ (d : Delivery). d.frame < n) ds → (q : ℕ) → list_any (eqb q) (map (λ (d : Delivery). d.frame) ds) ≡ true → q < n
below_all n [] known q is = absurd (false≢true is)
below_all n (d ∷ ds) (here, more) q is = elim (eqb_tells q d.frame) [
  | inl same ↦ omega (arith, here, same.1)
  | inr other ↦ below_all n ds more q (sym (ap (λ (b : Bool). b || list_any (eqb q) (map (λ (d : Delivery). d.frame) ds)) other.0) ∙ is)
]

pub few_delivered : (w : Scenario) (h : History) → DeliversOnce w h → length (Deliveries h) ≤ length w.script.sends
few_delivered w h once =
    let ds = Deliveries h in
    let n = length w.script.sends in
    let long : length (map (λ (d : Delivery). d.frame) ds) ≡ length ds = length-map ds (λ (d : Delivery). d.frame) in
    let distinct = IsDistinct-from_AllPairs Decides-eqb (map (λ (d : Delivery). d.frame) ds) (apart ds once.once) in
    let few = length-le_from_distinct_below (map (λ (d : Delivery). d.frame) ds) n distinct (below_all n ds (recursion_from_All (λ (d : Delivery). d.frame < n) ds once.known)) in
    omega (arith, few, long)

-- What stands at the places of the network's nodes and arcs.
use Rattle.std.proofs.Common.{◌≡◌, ℕ, zero, suc, ◌+◌, ◌*◌, ◌%◌, ◌<◌, List, [], ◌∷◌, ◌++◌, length, slice_get, Some, All, refl, ◌∙◌, ap, subst, arith}
use Rattle.std.specs.List.{flat_map, range_with_len}
use Rattle.std.proofs.lemmas.List.Elements.{All-append, All-cons, All-nil}
use Rattle.std.proofs.lemmas.Option.{slice_get-get_or, slice_get_within, get_or_from_slice_get, none-some}
use Rattle.pre_topo.specs.declared.arcs.Arc.{Arc}
use Rattle.pre_plant.specs.Lists.{list_of, joined_of}
use Rattle.pre_plant.specs.Networks.{bridge, station, plant_nodes, arc_between, link_between, chain_link, station_link, plant_arcs}
use Rattle.pre_plant.proofs.ListLaws.{length-list_of, get_or-list_of, All-joined_of}

module _ {X : Type 0} where
  -- within the first of two lists, and behind it
  pub slice_get_left : (xs ys : List X) (i : ℕ) (x : X) → slice_get xs i ≡ Some x → slice_get (xs ++ ys) i ≡ Some x
  slice_get_left [] ys i x at = absurd (none-some x at)
  slice_get_left (y ∷ xs) ys zero x at = at
  slice_get_left (y ∷ xs) ys (suc i) x at = slice_get_left xs ys i x at

  pub slice_get_right : (xs ys : List X) (n i : ℕ) (x : X) → length xs ≡ n → slice_get ys i ≡ Some x → slice_get (xs ++ ys) (n + i) ≡ Some x
  slice_get_right [] ys n i x long at = subst (λ m. slice_get ys m ≡ Some x) (omega (arith, long)) at
  slice_get_right (y ∷ xs) ys zero i x long at = absurd (omega (arith, long))
  slice_get_right (y ∷ xs) ys (suc n) i x long at =
      let on : suc (n + i) ≡ suc n + i = omega arith in
      subst (λ m. slice_get (y ∷ (xs ++ ys)) m ≡ Some x) on (slice_get_right xs ys n i x (omega (arith, long)) at)

  pub slice_get-list_of : (f : ℕ → X) (n i : ℕ) → i < n → slice_get (list_of n f) i ≡ Some (f i)
  slice_get-list_of f n i lt =
      slice_get-get_or (list_of n f) i (f i) (omega (arith, length-list_of f n)) ∙ ap (λ x. Some x) (get_or-list_of f n i (f i) lt)

  -- lists of two, joined: item i of the first kind stands at 2i, and that of the second at 2i + 1
  pairs_from : (f g : ℕ → X) (a n i j : ℕ) → i < n → j ≡ i + i
      → (slice_get (flat_map (λ k. f k ∷ g k ∷ []) (range_with_len a n)) j ≡ Some (f (a + i))) × (slice_get (flat_map (λ k. f k ∷ g k ∷ []) (range_with_len a n)) (suc j) ≡ Some (g (a + i)))
  pairs_from f g a zero i j lt e = absurd (omega (arith, lt))
  pairs_from f g a (suc n) zero zero lt e = let same : a ≡ a + 0 = omega arith in (ap (λ k. Some (f k)) same, ap (λ k. Some (g k)) same)
  pairs_from f g a (suc n) zero (suc j) lt e = absurd (omega (arith, e))
  pairs_from f g a (suc n) (suc i) zero lt e = absurd (omega (arith, e))
  pairs_from f g a (suc n) (suc i) (suc zero) lt e = absurd (omega (arith, e))
  pairs_from f g a (suc n) (suc i) (suc (suc j)) lt e =
      let rest = pairs_from f g (a + 1) n i j (omega (arith, lt)) (omega (arith, e)) in
      let on : a + 1 + i ≡ a + suc i = omega arith in
      (rest.0 ∙ ap (λ k. Some (f k)) on, rest.1 ∙ ap (λ k. Some (g k)) on)

  pub slice_get-pairs : (f g : ℕ → X) (n i : ℕ) → i < n
      → (slice_get (joined_of n (λ k. f k ∷ g k ∷ [])) (2 * i) ≡ Some (f i)) × (slice_get (joined_of n (λ k. f k ∷ g k ∷ [])) (2 * i + 1) ≡ Some (g i))
  unfolding joined_of
  slice_get-pairs f g n i lt =
      let found = pairs_from f g 0 n i (2 * i) lt (omega arith) in
      let same : 0 + i ≡ i = omega arith in
      let next : suc (2 * i) ≡ 2 * i + 1 = omega arith in
      (found.0 ∙ ap (λ k. Some (f k)) same, subst (λ j. slice_get (flat_map (λ k. f k ∷ g k ∷ []) (range_with_len 0 n)) j ≡ Some (g i)) next (found.1 ∙ ap (λ k. Some (g k)) same))

  -- what holds of each item holds of the one at a place
  pub holds_at : (P : X → Type 0) (xs : List X) (i : ℕ) (x : X) → All P xs → slice_get xs i ≡ Some x → P x
  holds_at P xs i x all at = subst P (get_or_from_slice_get xs i x x at) (all i x (slice_get_within xs i x at))

pub bridge_at : (i : ℕ) → i < 12 → slice_get plant_nodes i ≡ Some (bridge i)
unfolding plant_nodes
bridge_at i lt = slice_get_left (list_of 12 bridge) (list_of 40 station) i (bridge i) (slice_get-list_of bridge 12 i lt)

pub station_at : (j : ℕ) → j < 40 → slice_get plant_nodes (12 + j) ≡ Some (station j)
unfolding plant_nodes
station_at j lt = slice_get_right (list_of 12 bridge) (list_of 40 station) 12 j (station j) (length-list_of bridge 12) (slice_get-list_of station 40 j lt)

chain_length : length (joined_of 11 chain_link) ≡ 22
unfolding joined_of
chain_length = refl

pub arc_up : (i : ℕ) → i < 11 → slice_get plant_arcs (2 * i) ≡ Some (arc_between i (i + 1))
unfolding plant_arcs
arc_up i lt = slice_get_left (joined_of 11 chain_link) (joined_of 40 station_link) (2 * i) (arc_between i (i + 1)) (slice_get-pairs (λ k. arc_between k (k + 1)) (λ k. arc_between (k + 1) k) 11 i lt).0

pub arc_down : (i : ℕ) → i < 11 → slice_get plant_arcs (2 * i + 1) ≡ Some (arc_between (i + 1) i)
unfolding plant_arcs
arc_down i lt = slice_get_left (joined_of 11 chain_link) (joined_of 40 station_link) (2 * i + 1) (arc_between (i + 1) i) (slice_get-pairs (λ k. arc_between k (k + 1))
    (λ k. arc_between (k + 1) k) 11 i lt).1

pub arc_out : (j : ℕ) → j < 40 → slice_get plant_arcs (22 + 2 * j) ≡ Some (arc_between (12 + j) (j % 12))
unfolding plant_arcs
arc_out j lt = slice_get_right (joined_of 11 chain_link) (joined_of 40 station_link) 22 (2 * j) (arc_between (12 + j) (j % 12)) chain_length (slice_get-pairs (λ k. arc_between
    (12 + k) (k % 12)) (λ k. arc_between (k % 12) (12 + k)) 40 j lt).0

pub arc_in : (j : ℕ) → j < 40 → slice_get plant_arcs (23 + 2 * j) ≡ Some (arc_between (j % 12) (12 + j))
unfolding plant_arcs
arc_in j lt =
    let on : 22 + (2 * j + 1) ≡ 23 + 2 * j = omega arith in
    subst (λ k. slice_get (joined_of 11 chain_link ++ joined_of 40 station_link) k ≡ Some (arc_between (j % 12) (12 + j))) on
    (slice_get_right (joined_of 11 chain_link) (joined_of 40 station_link) 22 (2 * j + 1) (arc_between (j % 12) (12 + j)) chain_length (slice_get-pairs (λ k. arc_between (12 + k)
    (k % 12)) (λ k. arc_between (k % 12) (12 + k)) 40 j lt).1)

-- each arc is express from priority 4 on, carries frames up to 1522 octets, and negotiates
pub record IsPlantArc (a : Arc) : Type 0 where
  pub express_from : a.express_from ≡ 4
  pub largest : a.largest ≡ 1522

each_between : (from to : ℕ) → IsPlantArc (arc_between from to)
each_between from to = record { express_from = refl; largest = refl }

each_of_link : (first second : ℕ) → All IsPlantArc (link_between first second)
each_of_link first second =
    All-cons IsPlantArc (arc_between first second) (arc_between second first ∷ []) (each_between first second)
    (All-cons IsPlantArc (arc_between second first) [] (each_between second first) (All-nil IsPlantArc))

pub each_arc : All IsPlantArc plant_arcs
unfolding plant_arcs
each_arc =
    All-append IsPlantArc (joined_of 11 chain_link) (joined_of 40 station_link)
    (All-joined_of IsPlantArc chain_link 11 (λ i lt. each_of_link i (i + 1)))
    (All-joined_of IsPlantArc station_link 40 (λ j lt. each_of_link (12 + j) (j % 12)))

-- A number has one plant: a list in order is known by its elements.
use Rattle.std.proofs.Common.{◌≡◌, ℕ, zero, suc, ◌⊎◌, inl, inr, List, [], ◌∷◌, length, map, Contains, AllPairs, refl, sym, ◌∙◌, ap, subst, arith}
use Rattle.std.specs.List.{range_with_len}
use Rattle.std.proofs.lemmas.List.{length-map}
use Rattle.std.proofs.lemmas.List.Sorted.{IsPermutation-sym, Contains-permutation}
use Rattle.pre_base.specs.declared.numbers.Send.{Send}
use Rattle.pre_topo.specs.declared.arcs.Arc.{Arc}
use Rattle.pre_topo.specs.declared.network.Network.{Network}
use Rattle.pre_topo.specs.declared.nodes.Node.{Node}
use Rattle.pre_topo.specs.declared.nodes.Timing.{Timing}
use Rattle.pre_topo.specs.NetworkOf.{Parts, parts_of}
use Rattle.pre_streams.specs.declared.rows.Streams.{Streams}
use Rattle.pre_script.specs.declared.scripts.Script.{Script}
use Rattle.pre_script.specs.declared.scripts.SendLine.{SendLine}
use Rattle.pre_script.specs.declared.scripts.SetLine.{SetLine}
use Rattle.pre_script.specs.declared.scripts.Loss.{Loss}
use Rattle.pre_script.specs.declared.scripts.Damage.{Damage}
use Rattle.pre_plant.specs.Draws.{draws_of}
use Rattle.pre_plant.specs.Networks.{plant_timing, plant_nodes, plant_arcs, IsPlantNetwork}
use Rattle.pre_plant.specs.Plants.{IsPlant, AreSame}
use Rattle.pre_plant.specs.Scripts.{AreOrdered, ComesBefore, IsPlantScript, sends_by_row}

never_both : (a b : Send) → ComesBefore a b → ComesBefore b a → ⊥
never_both a b one two =
    elim one [
      | inl p ↦ elim two [ inl q ↦ omega (arith, p, q) | inr q ↦ omega (arith, p, q.0) ]
      | inr p ↦ elim two [ inl q ↦ omega (arith, p.0, q) | inr q ↦ omega (arith, p.1, q.1) ]
    ]

-- an element of a list with a first one is that, or is among the others
first_or_later : (x z : Send) (xs : List Send) → Contains (x ∷ xs) z → (z ≡ x) ⊎ Contains xs z
first_or_later x z xs (zero, within, at) = inl (sym at)
first_or_later x z xs (suc k, within, at) = inr (k, omega (arith, within), at)

later_than : (x z : Send) (xs : List Send) → AllPairs ComesBefore (x ∷ xs) → Contains xs z → ComesBefore x z
later_than x z xs order (k, within, at) = subst (ComesBefore x) at (order zero (suc k) z (omega arith) (omega (arith, within)))

rest_in_order : (x : Send) (xs : List Send) → AllPairs ComesBefore (x ∷ xs) → AllPairs ComesBefore xs
rest_in_order x xs order i j d before within = order (suc i) (suc j) d (omega arith) (omega arith)

has_first : (x : Send) (xs : List Send) → Contains (x ∷ xs) x
has_first x xs = (zero, omega arith, refl)

has_later : (x z : Send) (xs : List Send) → Contains xs z → Contains (x ∷ xs) z
has_later x z xs (k, within, at) = (suc k, omega (arith, within), at)

same_first : (x y : Send) (xs ys : List Send) → AllPairs ComesBefore (x ∷ xs) → AllPairs ComesBefore (y ∷ ys) → Contains (y ∷ ys) x → Contains (x ∷ xs) y → x ≡ y
same_first x y xs ys one two x_in y_in =
    elim (first_or_later y x ys x_in) [
      | inl same ↦ same
      | inr later ↦
          elim (first_or_later x y xs y_in) [
            | inl same ↦ sym same
            | inr after ↦ absurd (never_both x y (later_than x y xs one after) (later_than y x ys two later))
          ]
    ]

within_rest : (x y z : Send) (xs ys : List Send) → x ≡ y → AllPairs ComesBefore (x ∷ xs) → Contains xs z → Contains (y ∷ ys) z → Contains ys z
within_rest x y z xs ys same order here there =
    elim (first_or_later y z ys there) [
      | inl first ↦ absurd (never_both x z (later_than x z xs order here) (subst (λ w. ComesBefore w x) (sym (first ∙ sym same)) (subst (λ w. ComesBefore x w) (first ∙ sym same)
          (later_than x z xs order here))))
      | inr later ↦ later
    ]

pub known_by_elements : (xs ys : List Send) → AllPairs ComesBefore xs → AllPairs ComesBefore ys → ((z : Send) → Contains xs z → Contains ys z) → ((z : Send) → Contains ys z → Contains xs z) → xs ≡ ys
known_by_elements [] [] one two there back = refl
known_by_elements [] (y ∷ ys) one two there back = let (k, within, at) = back y (has_first y ys) in absurd (omega (arith, within))
known_by_elements (x ∷ xs) [] one two there back = let (k, within, at) = there x (has_first x xs) in absurd (omega (arith, within))
known_by_elements (x ∷ xs) (y ∷ ys) one two there back =
    let same : x ≡ y = same_first x y xs ys one two (there x (has_first x xs)) (back y (has_first y ys)) in
    let rest : xs ≡ ys =
    known_by_elements xs ys (rest_in_order x xs one) (rest_in_order y ys two)
    (λ z here. within_rest x y z xs ys same one here (there z (has_later x z xs here)))
    (λ z here. within_rest y x z ys xs (sym same) two here (back z (has_later y z ys here))) in
    cc

pub one_order : (all xs ys : List Send) → AreOrdered all xs → AreOrdered all ys → xs ≡ ys
one_order all xs ys one two =
    known_by_elements xs ys one.order two.order
    (λ z here. Contains-permutation all ys z two.same (Contains-permutation xs all z (IsPermutation-sym all xs one.same) here))
    (λ z here. Contains-permutation all xs z one.same (Contains-permutation ys all z (IsPermutation-sym all ys two.same) here))

-- lines are known by their sends and their numbers
same_lines : (xs ys : List SendLine) → map (λ s. s.send) xs ≡ map (λ s. s.send) ys → map (λ s. s.line) xs ≡ map (λ s. s.line) ys → xs ≡ ys
same_lines [] [] sends lines = refl
same_lines [] (y ∷ ys) sends lines = cc
same_lines (x ∷ xs) [] sends lines = cc
same_lines (x ∷ xs) (y ∷ ys) sends lines =
    let send : x.send ≡ y.send = cc in
    let line : x.line ≡ y.line = cc in
    let sends_rest : map (λ (s : SendLine). s.send) xs ≡ map (λ s. s.send) ys = cc in
    let lines_rest : map (λ (s : SendLine). s.line) xs ≡ map (λ s. s.line) ys = cc in
    let rest : xs ≡ ys = same_lines xs ys sends_rest lines_rest in
    let with_send : Send → SendLine = λ s. record { send = s; line = x.line } in
    let with_line : ℕ → SendLine = λ n. record { send = y.send; line = n } in
    let first : x ≡ y = ap with_send send ∙ ap with_line line in
    cc

same_script : (a b : Script) → a.sends ≡ b.sends → a.sets ≡ b.sets → a.losses ≡ b.losses → a.damages ≡ b.damages → a.until.0 ≡ b.until.0 → a ≡ b
same_script a b sends sets losses damages last =
    let with_sends : List SendLine → Script = λ x. record { sends = x; sets = a.sets; losses = a.losses; damages = a.damages; until = a.until } in
    let with_sets : List SetLine → Script = λ x. record { sends = b.sends; sets = x; losses = a.losses; damages = a.damages; until = a.until } in
    let with_losses : List Loss → Script = λ x. record { sends = b.sends; sets = b.sets; losses = x; damages = a.damages; until = a.until } in
    let with_damages : List Damage → Script = λ x. record { sends = b.sends; sets = b.sets; losses = b.losses; damages = x; until = a.until } in
    let with_until : ℕ → Script = λ x. record { sends = b.sends; sets = b.sets; losses = b.losses; damages = b.damages; until = record { 0 = x } } in
    ap with_sends sends ∙ ap with_sets sets ∙ ap with_losses losses ∙ ap with_damages damages ∙ ap with_until last

one_script : (draws : List ℕ) (a b : Script) → IsPlantScript draws a → IsPlantScript draws b → a ≡ b
one_script draws a b one two =
    let sends : map (λ (s : SendLine). s.send) a.sends ≡ map (λ s. s.send) b.sends = one_order (sends_by_row draws) _ _ one.sends two.sends in
    let count : length a.sends ≡ length b.sends = sym (length-map a.sends (λ (s : SendLine). s.send)) ∙ ap (λ (ss : List Send). length ss) sends ∙ length-map b.sends (λ (s : SendLine). s.send) in
    let lines : map (λ (s : SendLine). s.line) a.sends ≡ map (λ s. s.line) b.sends = one.lines ∙ ap (range_with_len 1) count ∙ sym two.lines in
    let all : a.sends ≡ b.sends = same_lines a.sends b.sends sends lines in
    let sets : a.sets ≡ b.sets = one.sets ∙ sym two.sets in
    let losses : a.losses ≡ b.losses = one.losses ∙ sym two.losses in
    let damages : a.damages ≡ b.damages = one.damages ∙ sym two.damages in
    let last : a.until.0 ≡ b.until.0 = one.until ∙ sym two.until in
    same_script a b all sets losses damages last

plant_parts : (net : Network) → IsPlantNetwork net → parts_of net ≡ record { express_from = 4; timing = plant_timing; nodes = plant_nodes; arcs = plant_arcs }
plant_parts net is =
    let with_express : ℕ → Parts = λ x. record { express_from = x; timing = net.timing; nodes = net.nodes; arcs = net.arcs } in
    let with_timing : Timing → Parts = λ x. record { express_from = 4; timing = x; nodes = net.nodes; arcs = net.arcs } in
    let with_nodes : List Node → Parts = λ x. record { express_from = 4; timing = plant_timing; nodes = x; arcs = net.arcs } in
    let with_arcs : List Arc → Parts = λ x. record { express_from = 4; timing = plant_timing; nodes = plant_nodes; arcs = x } in
    ap with_express is.express_from ∙ ap with_timing is.timing ∙ ap with_nodes is.nodes ∙ ap with_arcs is.arcs

module _ (n : ℕ) (net other : Network) (streams others : Streams) (script another : Script) where
  pub one_plant : IsPlant n net streams script → IsPlant n other others another → AreSame net other streams others script another
  one_plant one two = record {
    parts = plant_parts net one.network ∙ sym (plant_parts other two.network);
    rows = one.rows ∙ sym two.rows;
    scripts = one_script (draws_of n) script another one.lines two.lines;
  }

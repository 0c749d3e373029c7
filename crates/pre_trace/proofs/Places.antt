-- Nodes and arcs are found by their names.
use Rattle.std.proofs.Common.{ℕ, ◌≡◌, ◌<◌, Bool, true, false, List, [], length, refl, sym, ◌∙◌, ap, arith, Some, None, inl, inr}
use Rattle.std.specs.Prelude.{slice_get, position, nat_lt, cond}
use Rattle.std.specs.List.{position_or_len}
use Rattle.std.specs.Option.{option_map_or}
use Rattle.std.specs.Str.{bytes_eq}
use Rattle.std.proofs.lemmas.Bool.{false≢true, cases_lt}
use Rattle.std.proofs.lemmas.Bool.Decides.{nat_tests}
use Rattle.std.proofs.lemmas.List.Quantifiers.{position-Some}
use Rattle.std.proofs.lemmas.List.Sums.{fails_before_first}
use Rattle.std.proofs.lemmas.Option.{get_or_from_slice_get}
use Rattle.std.proofs.lemmas.Slice.Eq.{bytes_eq-Decides}
use Rattle.pre_topo.specs.declared.network.Network.{Network}
use Rattle.pre_topo.specs.declared.nodes.Node.{Node}
use Rattle.pre_topo.specs.declared.arcs.Arc.{Arc}
use Rattle.pre_topo.specs.Names.{name_of_arc}
use Rattle.pre_topo.specs.Named.{node_name, arc_name, arc_named}
use Rattle.pre_history.specs.Names.{HasArc, HasNode}
use Rattle.pre_history.proofs.Lists.{there}
use Rattle.pre_trace.proofs.NameWords.{node_one, arc_one}
use Rattle.pre_trace.specs.Values.{node_named}
use Rattle.pre_trace.proofs.Inverse.{texts_same}

module _ {X : Type 0} (p : X → Bool) (xs : List X) where
  found : (i : ℕ) → position p xs ≡ Some i → (x : X) × (slice_get xs i ≡ Some x) × (i < length xs) × (p x ≡ true)
  found i is =
      let none = position-Some p xs i in
      let lt = inside i is in
      let x = there xs i lt in
      let at = position-Some p xs i x.0 is in
      (x.0, x.1, lt, ap p (sym (get_or_from_slice_get xs i x.0 x.0 x.1)) ∙ at.1)
    where
      inside : (i : ℕ) → position p xs ≡ Some i → i < length xs
      inside i is = go (nat_lt (position_or_len p xs) (length xs)) refl is
        where
          go : (b : Bool) → nat_lt (position_or_len p xs) (length xs) ≡ b → cond b (Some (position_or_len p xs)) None ≡ Some i → i < length xs
          go true lt same = let here : position_or_len p xs ≡ i = cc same in grind (arith, nat_tests)
          go false lt same = absurd (cc same)

  some_found : (i : ℕ) (x : X) → slice_get xs i ≡ Some x → i < length xs → p x ≡ true → position p xs ≡ Some (position_or_len p xs)
  some_found i x at lt passes = elim (cases_lt i (position_or_len p xs)) [
    | inl before ↦ absurd (false≢true (sym (fails_before_first p xs i x before) ∙ (ap p (get_or_from_slice_get xs i x x at) ∙ passes)))
    | inr behind ↦
        let few : nat_lt (position_or_len p xs) (length xs) ≡ true = grind (arith, nat_tests) in
        ap (λ (b : Bool). cond b (Some (position_or_len p xs)) None) few
  ]

same_text : (xs ys : List ℕ) → xs ≡ ys → bytes_eq xs ys ≡ true
same_text xs ys is = (bytes_eq-Decides xs ys).1 is

module _ (net : Network) where
  pub node_some : (word : List ℕ) (i : ℕ) → node_named net word ≡ Some i → HasNode net i × (word ≡ node_name net i)
  node_some word i is =
      let n = found (λ (n : Node). bytes_eq n.name word) net.nodes i is in
      (n.2, sym (texts_same n.0.name word n.3) ∙ ap (λ o. option_map_or (λ (x : Node). x.name) o []) (sym n.1))

  pub arc_some : (word : List ℕ) (i : ℕ) → arc_named net word ≡ Some i → HasArc net i × (word ≡ arc_name net i)
  arc_some word i is =
      let a = found (λ (a : Arc). bytes_eq (name_of_arc net.nodes a) word) net.arcs i is in
      (a.2, sym (texts_same (name_of_arc net.nodes a.0) word a.3) ∙ ap (λ o. option_map_or (name_of_arc net.nodes) o []) (sym a.1))

  pub node_back : (i : ℕ) → HasNode net i → node_named net (node_name net i) ≡ Some i
  node_back i lt =
      let n = there net.nodes i lt in
      let name = ap (λ o. option_map_or (λ (x : Node). x.name) o []) (sym n.1) in
      let is = some_found (λ (n : Node). bytes_eq n.name (node_name net i)) net.nodes i n.0 n.1 lt (same_text n.0.name (node_name net i) name) in
      let other = node_some (node_name net i) (position_or_len (λ (n : Node). bytes_eq n.name (node_name net i)) net.nodes) is in
      is ∙ ap Some (sym (node_one net i _ lt other.0 other.1))

  pub arc_back : (i : ℕ) → HasArc net i → arc_named net (arc_name net i) ≡ Some i
  arc_back i lt =
      let a = there net.arcs i lt in
      let name = ap (λ o. option_map_or (name_of_arc net.nodes) o []) (sym a.1) in
      let is = some_found (λ (a : Arc). bytes_eq (name_of_arc net.nodes a) (arc_name net i)) net.arcs i a.0 a.1 lt (same_text (name_of_arc net.nodes a.0) (arc_name net i) name) in
      let other = arc_some (arc_name net i) (position_or_len (λ (a : Arc). bytes_eq (name_of_arc net.nodes a) (arc_name net i)) net.arcs) is in
      is ∙ ap Some (sym (arc_one net i _ lt other.0 other.1))

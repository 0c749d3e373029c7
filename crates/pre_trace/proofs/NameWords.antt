-- The names of nodes and arcs are words, and no two name the same.
use Rattle.std.proofs.Common.{ℕ, zero, suc, ◌≡◌, ◌≢◌, ◌⊎◌, ◌&&◌, ◌<◌, Bool, true, false, List, [], ◌∷◌, ◌++◌}
use Rattle.std.proofs.Common.{length, refl, sym, ◌∙◌, ap, inl, inr, arith, subst, Some}
use Rattle.std.specs.Prelude.{slice_get, slice_index_or, nat_lt, nat_le, IsTrue}
use Rattle.std.specs.Option.{option_map_or}
use Rattle.std.specs.List.{list_all}
use Rattle.pre_text.specs.Words.{is_name, is_name_octet}
use Rattle.pre_text.specs.Reading.{IsWord}
use Rattle.pre_topo.specs.declared.network.Network.{Network}
use Rattle.pre_topo.specs.declared.nodes.Node.{Node}
use Rattle.pre_topo.specs.declared.arcs.Arc.{Arc}
use Rattle.pre_topo.specs.Names.{name_of_arc}
use Rattle.pre_topo.specs.Named.{node_name, arc_name}
use Rattle.pre_topo.specs.Nodes.{IsNode}
use Rattle.pre_topo.specs.Arcs.{IsArc, JoinsOther}
use Rattle.pre_history.specs.Names.{HasArc, HasNode}
use Rattle.pre_history.proofs.Lists.{there}

and_parts : (b c : Bool) → (b && c) ≡ true → (b ≡ true) × (c ≡ true)
and_parts true true is = (refl, refl)
and_parts true false is = absurd (cc is)
and_parts false c is = absurd (cc is)

-- what stands in a name
abbrev Plain : List ℕ → Type 0
Plain [] = Unit {0}
Plain (c ∷ cs) = (is_name_octet c ≡ true) × Plain cs

plain_all : (w : List ℕ) → list_all is_name_octet w ≡ true → Plain w
plain_all [] is = tt
plain_all (c ∷ cs) is = let parts = and_parts (is_name_octet c) (list_all is_name_octet cs) is in (parts.0, plain_all cs parts.1)

plain_name : (w : List ℕ) → IsTrue (is_name w) → Plain w
plain_name w is =
    plain_all w (and_parts (nat_lt 0 (length w) && nat_le (length w) 32) (list_all is_name_octet w) is).1

other_octet : (c d : ℕ) → is_name_octet c ≡ true → is_name_octet d ≡ false → c ≢ d
other_octet c d yes' no' same = cc (ap is_name_octet same, yes', no')

plain_word : (w : List ℕ) → Plain w → IsWord w
plain_word [] p = tt
plain_word (c ∷ cs) (here, more) = (other_octet c 32 here refl, other_octet c 10 here refl, other_octet c 13 here refl, plain_word cs more)

word-append : (v w : List ℕ) → IsWord v → IsWord w → IsWord (v ++ w)
word-append [] w p q = q
word-append (c ∷ v) w (a, b, d, more) q = (a, b, d, word-append v w more q)

-- the first > of two names in one word
names_apart : (a b c d : List ℕ) → Plain a → Plain c → a ++ 62 ∷ b ≡ c ++ 62 ∷ d → (a ≡ c) × (b ≡ d)
names_apart [] b [] d p q is = (refl, cc is)
names_apart [] b (x ∷ c) d p (here, more) is = absurd (let head : x ≡ 62 = cc is in other_octet x 62 here refl head)
names_apart (x ∷ a) b [] d (here, more) q is = absurd (let head : x ≡ 62 = cc is in other_octet x 62 here refl head)
names_apart (x ∷ a) b (y ∷ c) d (here, more) (here', more') is =
    let head : x ≡ y = cc is in
    let tail : a ++ 62 ∷ b ≡ c ++ 62 ∷ d = cc is in
    let rest = names_apart a b c d more more' tail in
    (cc (head, rest.0), rest.1)

less_or_more : (i j : ℕ) → (i < j) ⊎ ((j < i) ⊎ (i ≡ j))
less_or_more i j = grind arith

module _ (net : Network) where
  node_at : (i : ℕ) → HasNode net i → (n : Node) × (slice_get net.nodes i ≡ Some n)
  node_at i lt = there net.nodes i lt

  read_any : {X : Type 0} (xs : List X) (i : ℕ) (x d : X) → slice_get xs i ≡ Some x → slice_index_or xs i d ≡ x
  read_any [] i x d at = absurd (cc at)
  read_any (y ∷ xs) zero x d at = cc at
  read_any (y ∷ xs) (suc i) x d at = read_any xs i x d at

  node_plain : (i : ℕ) → HasNode net i → Plain (node_name net i)
  node_plain i lt =
      let n = node_at i lt in
      let is : IsNode n.0 = subst IsNode (read_any net.nodes i n.0 n.0 n.1) (net.rules.each_node i n.0 lt) in
      subst Plain (ap (λ o. option_map_or (λ (x : Node). x.name) o []) (sym n.1)) (plain_name n.0.name is.name)

  names_differ : (i j : ℕ) → i < j → HasNode net j → node_name net i ≢ node_name net j
  names_differ i j less lt same =
      let m = node_at i (omega (arith, less, lt)) in
      let n = node_at j lt in
      let other = net.rules.names i j m.0 less lt in
      other (ap (λ (x : Node). x.name) (read_any net.nodes i m.0 m.0 m.1)
      ∙ (ap (λ o. option_map_or (λ (x : Node). x.name) o []) (sym m.1) ∙ (same ∙ (ap (λ o. option_map_or (λ (x : Node). x.name) o []) n.1 ∙ ap (λ (x : Node). x.name) (sym (read_any net.nodes j n.0 m.0 n.1))))))

  pub node_one : (i j : ℕ) → HasNode net i → HasNode net j → node_name net i ≡ node_name net j → i ≡ j
  node_one i j lt lt' same = elim (less_or_more i j) [
    | inl less ↦ absurd (names_differ i j less lt' same)
    | inr (inl more) ↦ absurd (names_differ j i more lt (sym same))
    | inr (inr is) ↦ is
  ]

  pub node_word : (i : ℕ) → HasNode net i → IsWord (node_name net i)
  node_word i lt = plain_word (node_name net i) (node_plain i lt)

  arc_at : (i : ℕ) → HasArc net i → (a : Arc) × (slice_get net.arcs i ≡ Some a)
  arc_at i lt = there net.arcs i lt

  arc_rules : (i : ℕ) (lt : HasArc net i) → IsArc net.nodes (arc_at i lt).0
  arc_rules i lt = let a = arc_at i lt in subst (IsArc net.nodes) (read_any net.arcs i a.0 a.0 a.1) (net.rules.each_arc i a.0 lt)

  arc_spelled : (i : ℕ) (lt : HasArc net i) → arc_name net i ≡ name_of_arc net.nodes (arc_at i lt).0
  arc_spelled i lt = ap (λ o. option_map_or (name_of_arc net.nodes) o []) (arc_at i lt).1

  pub arc_word : (i : ℕ) → HasArc net i → IsWord (arc_name net i)
  arc_word i lt =
      let a = arc_at i lt in
      let rules = arc_rules i lt in
      subst IsWord (sym (arc_spelled i lt)) (word-append (node_name net a.0.from.0) (62 ∷ node_name net a.0.to.0) (node_word a.0.from.0 rules.from) (λ e. absurd (omega (arith, e)), λ e. absurd (omega (arith, e)), λ e. absurd (omega (arith, e)), node_word a.0.to.0 rules.to))

  arcs_differ : (i j : ℕ) → i < j → HasArc net j → HasArc net i → arc_name net i ≢ arc_name net j
  arcs_differ i j less lt lt' same =
      let a = arc_at i lt' in
      let b = arc_at j lt in
      let ra = arc_rules i lt' in
      let rb = arc_rules j lt in
      let parts = names_apart (node_name net a.0.from.0) (node_name net a.0.to.0) (node_name net b.0.from.0) (node_name net b.0.to.0) (node_plain a.0.from.0 ra.from) (node_plain b.0.from.0 rb.from)
      (sym (arc_spelled i lt') ∙ (same ∙ arc_spelled j lt)) in
      let from : a.0.from.0 ≡ b.0.from.0 = node_one a.0.from.0 b.0.from.0 ra.from rb.from parts.0 in
      let to : a.0.to.0 ≡ b.0.to.0 = node_one a.0.to.0 b.0.to.0 ra.to rb.to parts.1 in
      let other : JoinsOther a.0 b.0 = subst (λ x. JoinsOther x b.0) (read_any net.arcs i a.0 a.0 a.1) (subst (JoinsOther (slice_index_or net.arcs i a.0)) (read_any net.arcs j b.0 a.0 b.1) (net.rules.ends i j a.0 less lt)) in
      other from to

  pub arc_one : (i j : ℕ) → HasArc net i → HasArc net j → arc_name net i ≡ arc_name net j → i ≡ j
  arc_one i j lt lt' same = elim (less_or_more i j) [
    | inl less ↦ absurd (arcs_differ i j less lt' lt same)
    | inr (inl more) ↦ absurd (arcs_differ j i more lt lt' (sym same))
    | inr (inr is) ↦ is
  ]

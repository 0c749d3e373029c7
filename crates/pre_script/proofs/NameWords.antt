-- The names of arcs and rows are words, and each is read as what it names.
use Rattle.std.proofs.Common.{ℕ, zero, suc, ◌≤◌, ◌≡◌, ◌≢◌, ◌⊎◌, ◌&&◌, ◌<◌, Bool, true, false, List, [], ◌∷◌}
use Rattle.std.proofs.Common.{◌++◌, length, get_or, position, Some, refl, sym, ◌∙◌, ap, inl, inr, arith, subst, slice_get, IsTrue, nat_lt}
use Rattle.std.proofs.Common.{nat_le}
use Rattle.std.specs.Option.{option_map_or}
use Rattle.std.specs.List.{list_all, position_or_len}
use Rattle.std.specs.Str.{bytes_eq}
use Rattle.std.proofs.lemmas.Grind.{common_steps}
use Rattle.std.proofs.lemmas.Slice.Eq.{bytes_eq-Decides}
use Rattle.std.proofs.lemmas.Option.{slice_get-get_or, get_or_from_slice_get}
use Rattle.std.proofs.lemmas.List.Sums.{position_or_len_is}
use Rattle.std.proofs.lemmas.Bool.{false≢true}
use Rattle.pre_text.specs.Lines.{is_nonempty}
use Rattle.pre_text.specs.Words.{is_name, is_name_octet}
use Rattle.pre_text.specs.Reading.{IsWord, IsWord-append}
use Rattle.pre_text.proofs.Decimals.{name_word}
use Rattle.pre_topo.specs.declared.network.Network.{Network}
use Rattle.pre_topo.specs.declared.nodes.Node.{Node}
use Rattle.pre_topo.specs.declared.arcs.Arc.{Arc}
use Rattle.pre_topo.specs.Names.{name_of_arc}
use Rattle.pre_topo.specs.Named.{node_name, arc_name, arc_named}
use Rattle.pre_topo.specs.Arcs.{JoinsOther}
use Rattle.pre_streams.specs.declared.rows.Row.{Row}
use Rattle.pre_streams.specs.declared.rows.Streams.{Streams}
use Rattle.pre_streams.specs.Rows.{IsRow}
use Rattle.pre_streams.specs.Fits as streams_rules
use Rattle.pre_streams.specs.Named.{row_named}
use Rattle.pre_script.specs.Text.{row_name}
use Rattle.pre_script.proofs.Values.{both}

-- no > stands in a name
abbrev Unmarked : List ℕ → Type 0
Unmarked [] = Unit {0}
Unmarked (c ∷ cs) = (c ≢ 62) × Unmarked cs

unmarked : (w : List ℕ) → list_all is_name_octet w ≡ true → Unmarked w
unmarked [] h = tt
unmarked (c ∷ cs) h =
    let parts = both (is_name_octet c) (list_all is_name_octet cs) h in
    (λ (e : c ≡ 62). cc (e, parts.0), unmarked cs parts.1)

name_unmarked : (w : List ℕ) → IsTrue (is_name w) → Unmarked w
name_unmarked w h = unmarked w (both (nat_lt 0 (length w) && nat_le (length w) 32) (list_all is_name_octet w) h).1

-- the first > parts two names
parted : (a b c d : List ℕ) → Unmarked a → Unmarked c → a ++ 62 ∷ b ≡ c ++ 62 ∷ d → (a ≡ c) × (b ≡ d)
parted [] b [] d p q e = (refl, cc)
parted [] b (x ∷ c) d p q e = absurd (let head : x ≡ 62 = cc in q.0 head)
parted (x ∷ a) b [] d p q e = absurd (let head : x ≡ 62 = cc in p.0 head)
parted (x ∷ a) b (y ∷ c) d p q e =
    let head : x ≡ y = cc in
    let tail : a ++ 62 ∷ b ≡ c ++ 62 ∷ d = cc in
    let rest = parted a b c d p.1 q.1 tail in
    (cc (head, rest.0), rest.1)

same_text : (v w : List ℕ) → v ≡ w → bytes_eq v w ≡ true
same_text v w e = (bytes_eq-Decides v w).1 e

other_text : (v w : List ℕ) → v ≢ w → bytes_eq v w ≡ false
other_text v w ne = cases (bytes_eq v w) refl
  where
    cases : (b : Bool) → b ≡ bytes_eq v w → bytes_eq v w ≡ false
    cases true e = absurd (ne ((bytes_eq-Decides v w).0 (sym e)))
    cases false e = sym e

-- the first place of a name is the place of what has it
place_is : {X : Type 0} (name : X → List ℕ) (xs : List X) (i : ℕ) (d : X) → i < length xs → ((k : ℕ) → k < i → name (get_or xs k d) ≢ name (get_or xs i d))
    → position (λ (x : X). bytes_eq (name x) (name (get_or xs i d))) xs ≡ Some i
place_is {X = X} name xs i d lt others =
    let test : X → Bool = λ x. bytes_eq (name x) (name (get_or xs i d)) in
    let here = same_text (name (get_or xs i d)) (name (get_or xs i d)) refl in
    let at : position_or_len test xs ≡ i = position_or_len_is test xs i d (omega (arith, lt)) (λ k less. other_text (name (get_or xs k d)) (name (get_or xs i d)) (others k less)) (λ _. here) in
    grind (arith, common_steps, at, lt)

less_or_more : (i j : ℕ) → (i < j) ⊎ ((j < i) ⊎ (i ≡ j))
less_or_more i j = grind arith

module _ (net : Network) (n : Node) (d : Arc) where
  node_is : (i : ℕ) → i < length net.nodes → node_name net i ≡ (get_or net.nodes i n).name
  node_is i lt = ap (λ o. option_map_or (λ (x : Node). x.name) o []) (slice_get-get_or net.nodes i n lt)

  node_named : (i : ℕ) → i < length net.nodes → IsTrue (is_name (node_name net i))
  node_named i lt = subst (λ (w : List ℕ). IsTrue (is_name w)) (sym (node_is i lt)) (net.rules.each_node i n lt).name

  nodes_differ : (i j : ℕ) → i < j → j < length net.nodes → node_name net i ≢ node_name net j
  nodes_differ i j less lt same = net.rules.names i j n less lt (sym (node_is i (omega (arith, less, lt))) ∙ same ∙ node_is j lt)

  node_one : (i j : ℕ) → i < length net.nodes → j < length net.nodes → node_name net i ≡ node_name net j → i ≡ j
  node_one i j lt lt' same = elim (less_or_more i j) [
    | inl less ↦ absurd (nodes_differ i j less lt' same)
    | inr (inl more) ↦ absurd (nodes_differ j i more lt (sym same))
    | inr (inr is) ↦ is
  ]

  arc_is : (i : ℕ) → i < length net.arcs → arc_name net i ≡ name_of_arc net.nodes (get_or net.arcs i d)
  arc_is i lt = ap (λ o. option_map_or (name_of_arc net.nodes) o []) (slice_get-get_or net.arcs i d lt)

  arc_word' : (i : ℕ) → i < length net.arcs → IsWord (arc_name net i)
  arc_word' i lt =
      let a = get_or net.arcs i d in
      let rules = net.rules.each_arc i d lt in
      let from = name_word (node_name net a.from.0) (node_named a.from.0 rules.from) in
      let to = name_word (node_name net a.to.0) (node_named a.to.0 rules.to) in
      subst IsWord (sym (arc_is i lt)) (IsWord-append (node_name net a.from.0) (62 ∷ node_name net a.to.0) from (λ e. absurd (omega (arith, e)), λ e. absurd (omega (arith, e)), λ e. absurd (omega (arith, e)), to))

  arcs_differ : (i j : ℕ) → i < j → j < length net.arcs → name_of_arc net.nodes (get_or net.arcs i d) ≢ name_of_arc net.nodes (get_or net.arcs j d)
  arcs_differ i j less lt same =
      let a = get_or net.arcs i d in
      let b = get_or net.arcs j d in
      let ra = net.rules.each_arc i d (omega (arith, less, lt)) in
      let rb = net.rules.each_arc j d lt in
      let parts = parted (node_name net a.from.0) (node_name net a.to.0) (node_name net b.from.0) (node_name net b.to.0) (name_unmarked _ (node_named a.from.0 ra.from)) (name_unmarked _ (node_named b.from.0 rb.from)) same in
      let from : a.from.0 ≡ b.from.0 = node_one a.from.0 b.from.0 ra.from rb.from parts.0 in
      let to : a.to.0 ≡ b.to.0 = node_one a.to.0 b.to.0 ra.to rb.to parts.1 in
      let other : JoinsOther a b = net.rules.ends i j d less lt in
      other from to

  arc_back' : (i : ℕ) → i < length net.arcs → arc_named net (arc_name net i) ≡ Some i
  arc_back' i lt =
      ap (arc_named net) (arc_is i lt)
      ∙ place_is (name_of_arc net.nodes) net.arcs i d lt (λ k less. arcs_differ k i less lt)

-- there is an element where a list isn't empty
some_of : {X : Type 0} (xs : List X) (i : ℕ) → i < length xs → X
some_of [] i lt = absurd (omega (arith, lt))
some_of (x ∷ xs) i lt = x

pub arc_word : (net : Network) (i : ℕ) → i < length net.arcs → IsWord (arc_name net i)
arc_word net i lt = arc_word' net (some_of net.nodes 0 (omega (arith, net.rules.node_count.0))) (some_of net.arcs i lt) i lt

pub arc_back : (net : Network) (i : ℕ) → i < length net.arcs → arc_named net (arc_name net i) ≡ Some i
arc_back net i lt = arc_back' net (some_of net.nodes 0 (omega (arith, net.rules.node_count.0))) (some_of net.arcs i lt) i lt

pub place_inside : {X : Type 0} (xs : List X) (i : ℕ) (x : X) → slice_get xs i ≡ Some x → i < length xs
place_inside [] i x at = absurd cc
place_inside (y ∷ xs) zero x at = omega arith
place_inside (y ∷ xs) (suc i) x at = let lt : i < length xs = place_inside xs i x at in omega (arith, lt)

row_is : (streams : Streams) (i : ℕ) (r : Row) → slice_get streams.rows i ≡ Some r → row_name streams i ≡ r.name
row_is streams i r at = ap (λ o. option_map_or (λ (x : Row). x.name) o []) at

row_at : (net : Network) (streams : Streams) (i : ℕ) (r : Row) → streams_rules.Fits net streams → slice_get streams.rows i ≡ Some r → IsRow net r
row_at net streams i r fits at = subst (IsRow net) (get_or_from_slice_get streams.rows i r r at) (fits.each i r (place_inside streams.rows i r at))

-- what is read of a row's name
pub record IsRowRead (streams : Streams) (i : ℕ) (r : Row) : Type 0 where
  pub word : IsWord (row_name streams i)
  pub some : is_nonempty (row_name streams i) ≡ true
  pub back : row_named streams (row_name streams i) ≡ Some i
  pub short : r.max ≤ 2000

nonempty_name : (w : List ℕ) → IsTrue (is_name w) → is_nonempty w ≡ true
nonempty_name [] h = absurd (false≢true h)
nonempty_name (c ∷ cs) h = refl

pub row_read : (net : Network) (streams : Streams) (i : ℕ) (r : Row) → streams_rules.Fits net streams → slice_get streams.rows i ≡ Some r → IsRowRead streams i r
row_read net streams i r fits at =
    let rules = row_at net streams i r fits at in
    let lt = place_inside streams.rows i r at in
    let spelled : row_name streams i ≡ (get_or streams.rows i r).name = row_is streams i r at ∙ ap (λ (x : Row). x.name) (sym (get_or_from_slice_get streams.rows i r r at)) in
    record {
      word = subst IsWord (sym (row_is streams i r at)) (name_word r.name rules.name);
      some = subst (λ (w : List ℕ). is_nonempty w ≡ true) (sym (row_is streams i r at)) (nonempty_name r.name rules.name);
      back = ap (row_named streams) spelled ∙ place_is (λ (x : Row). x.name) streams.rows i r lt (λ k less. fits.names k i r less lt);
      short = rules.max.1;
    }

nonempty_parts : (a b : List ℕ) → is_nonempty (a ++ 62 ∷ b) ≡ true
nonempty_parts [] b = refl
nonempty_parts (c ∷ a) b = refl

pub arc_some : (net : Network) (i : ℕ) → i < length net.arcs → is_nonempty (arc_name net i) ≡ true
arc_some net i lt =
    let d = some_of net.arcs i lt in
    let a = get_or net.arcs i d in
    let spelled : arc_name net i ≡ name_of_arc net.nodes a = ap (λ o. option_map_or (name_of_arc net.nodes) o []) (slice_get-get_or net.arcs i d lt) in
    subst (λ (w : List ℕ). is_nonempty w ≡ true) (sym spelled) (nonempty_parts (node_name net a.from.0) (node_name net a.to.0))

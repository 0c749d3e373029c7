-- What a wheel's calls do to its map.
use Rattle.std.proofs.Common.{◌≡◌, ℕ, ◌+◌, ◌*◌, ◌<◌, ◌≤◌, ◌^◌, cond, List, length, set, replicate, Option, None}
use Rattle.std.proofs.Common.{Some, IfNone, refl, sym, ◌∙◌, ap, subst, arith, inl, inr}
use Rattle.std.proofs.lemmas.List.{get_or-set_same, get_or-set_other, get_or_past, length-replicate, get_or-replicate}
use Rattle.std.proofs.lemmas.Bool.{cases_eq, cases_lt}
use Rattle.std.proofs.lemmas.Cmp.{nat_cmp_total}
use Rattle.std.specs.Ordering.{nat_cmp, eq_by_cmp}
use Rattle.std.specs.Option.{option_map}
use Rattle.std.specs.FinMap as map
use Rattle.pre_base.specs.declared.numbers.Tick.{Tick}
use Rattle.pre_wheel.specs.declared.entries.Entry.{Entry}
use Rattle.pre_wheel.specs.Dues.{Dues, ComesFirst, IsFirstDue, IsEmpty, with_due}
use Rattle.pre_wheel.specs.Winners.{NoLater, IsEarlier, IsWon, IsTournament, leaf_of, dues_of, node_at}
use Rattle.pre_wheel.proofs.Games.{root_is_first, node_is_leaf}
use Rattle.pre_wheel.proofs.Leaves.{tick_of, same_key, other_key, get-dues_of}

tick_of-leaf_of : (m : ℕ) (at : Option Tick) → tick_of (leaf_of m at) ≡ option_map (λ t. t.0) at
tick_of-leaf_of m None = refl
tick_of-leaf_of m (Some t) = refl

-- the node at a leaf once one leaf has changed
changed : (members : ℕ) (nodes new : List (Option Entry)) (m q : ℕ) (at : Option Tick) → length nodes ≡ 2 * members → m < members → ((k : ℕ) → length nodes ≤ 2 * k → node_at new k ≡ node_at (set nodes (members + m) (leaf_of m at)) k) → tick_of (node_at new (members + q)) ≡ cond (eq_by_cmp nat_cmp q m) (option_map (λ t. t.0) at) (map.get (dues_of members nodes).due q)
changed members nodes new m q at size h leaves =
    ap tick_of (leaves (members + q) (omega arith))
    ∙ elim (cases_eq q m) [
      | inl same ↦
          ap (λ n. tick_of (node_at (set nodes (members + m) (leaf_of m at)) (members + n))) same
          ∙ ap tick_of (get_or-set_same nodes (members + m) (leaf_of m at) None (omega arith))
          ∙ tick_of-leaf_of m at
          ∙ ap (λ b. cond b (option_map (λ t. t.0) at) (map.get (dues_of members nodes).due q)) (sym (ap (λ n. eq_by_cmp nat_cmp n m) same ∙ same_key m))
      | inr apart ↦
          ap tick_of (get_or-set_other nodes (members + m) (members + q) (leaf_of m at) None (λ e. apart (omega (arith, e))))
          ∙ sym (get-dues_of members nodes q)
          ∙ ap (λ b. cond b (option_map (λ t. t.0) at) (map.get (dues_of members nodes).due q)) (sym (other_key q m apart))
    ]

pub dues_of-set : (members : ℕ) (nodes new : List (Option Entry)) (m : ℕ) (at : Option Tick) → length nodes ≡ 2 * members → m < members → ((k : ℕ) → length nodes ≤ 2 * k → node_at new k ≡ node_at (set nodes (members + m) (leaf_of m at)) k) → dues_of members new ≡ with_due (dues_of members nodes) m at
dues_of-set members nodes new m None size h leaves =
    let same = map.same_map nat_cmp_total map.nat_cmp-IsAntisymmetric (dues_of members new).due (map.remove (dues_of members nodes).due m)
    (λ q. get-dues_of members new q ∙ changed members nodes new m q None size h leaves ∙ sym (map.get-remove nat_cmp_total (dues_of members nodes).due m q)) in
    λ i. record { members = members; due = same i }
dues_of-set members nodes new m (Some t) size h leaves =
    let same = map.same_map nat_cmp_total map.nat_cmp-IsAntisymmetric (dues_of members new).due (map.insert (dues_of members nodes).due m t.0)
    (λ q. get-dues_of members new q ∙ changed members nodes new m q (Some t) size h leaves ∙ sym (map.get-insert nat_cmp_total (dues_of members nodes).due m t.0 q)) in
    λ i. record { members = members; due = same i }

leaf_is_own : (m : ℕ) (at : Option Tick) (e : Entry) → leaf_of m at ≡ Some e → e.member ≡ m
leaf_is_own m None e h = absurd (cc)
leaf_is_own m (Some t) e h = let same : record { tick = t; member = m } ≡ e = cc in sym (ap (λ x. x.member) same)

pub IsTournament-set : (members : ℕ) (nodes new : List (Option Entry)) (m : ℕ) (at : Option Tick) → IsTournament members nodes → m < members → length new ≡ length nodes → ((i : ℕ) → 0 < i → 2 * i + 1 < length nodes → IsWon new i) → ((k : ℕ) → length nodes ≤ 2 * k → node_at new k ≡ node_at (set nodes (members + m) (leaf_of m at)) k) → IsTournament members new
IsTournament-set members nodes new m at is h long won leaves = record {
  size = long ∙ is.size;
  few = is.few;
  won = λ i p q. won i p (omega (arith, is.size));
  own = λ k e p here.
      let now = sym (leaves (members + k) (omega (arith, is.size))) ∙ here in
      elim (cases_eq k m) [
        | inl same ↦
            let leaf : leaf_of m at ≡ Some e = sym (get_or-set_same nodes (members + m) (leaf_of m at) None (omega (arith, is.size))) ∙ ap (λ n. node_at (set nodes (members + m) (leaf_of m at)) (members + n)) (sym same) ∙ now in
            leaf_is_own m at e leaf ∙ sym same
        | inr apart ↦ is.own k e p (sym (get_or-set_other nodes (members + m) (members + k) (leaf_of m at) None (λ g. apart (omega (arith, g)))) ∙ now)
      ];
}

none_later : (a b : Option Entry) → a ≡ None → NoLater a b → tick_of b ≡ None
none_later a None e h = refl
none_later None (Some b) e h = absurd h
none_later (Some a) (Some b) e h = absurd (cc)

past : (members : ℕ) (nodes : List (Option Entry)) (q : ℕ) → length nodes ≡ 2 * members → members ≤ q → tick_of (node_at nodes (members + q)) ≡ None
past members nodes q size h = ap tick_of (get_or_past nodes (members + q) None (omega arith))

-- where the root has no entry, no member has a tick
pub empty_root : (members : ℕ) (nodes : List (Option Entry)) (dues : Dues) → dues_of members nodes ≡ dues → IsTournament members nodes → node_at nodes 1 ≡ None → IsEmpty dues
empty_root members nodes dues view is none =
    subst (λ d. IsEmpty d) view (λ q. get-dues_of members nodes q
    ∙ elim (cases_lt q members) [
      | inl below ↦ none_later (node_at nodes 1) (node_at nodes (members + q)) none (root_is_first (members + q) members nodes (members + q) is (omega arith) (omega arith) (omega arith))
      | inr more ↦ past members nodes q is.size more
    ])

pub empty_wheel : (members : ℕ) (nodes : List (Option Entry)) (dues : Dues) → dues_of members nodes ≡ dues → IsTournament members nodes → members ≡ 0 → IsEmpty dues
empty_wheel members nodes dues view is none =
    subst (λ d. IsEmpty d) view (λ q. get-dues_of members nodes q ∙ past members nodes q is.size (omega arith))

-- the root's entry is its member's own
pub root_is_own : (members : ℕ) (nodes : List (Option Entry)) (e : Entry) → IsTournament members nodes → 0 < members → node_at nodes 1 ≡ Some e → (e.member < members) × (node_at nodes (members + e.member) ≡ Some e)
root_is_own members nodes e is some root =
    let leaf = node_is_leaf (2 * members) members nodes 1 is (omega arith) (omega arith) (omega arith) in
    let here = leaf.2 ∙ root in
    let member = is.own leaf.0 e leaf.1 here in
    (omega (arith, member, leaf.1), ap (λ n. node_at nodes (members + n)) member ∙ here)

no_entry : (members : ℕ) (nodes : List (Option Entry)) (q u : ℕ) → length nodes ≡ 2 * members → members ≤ q → tick_of (node_at nodes (members + q)) ≡ Some u → ⊥
no_entry members nodes q u size h e = let none = past members nodes q size h in cc

later_entry : (e : Entry) (node : Option Entry) (q u : ℕ) → NoLater (Some e) node → tick_of node ≡ Some u → ((x : Entry) → node ≡ Some x → x.member ≡ q) → ComesFirst e.tick.0 e.member u q
later_entry e None q u h there own = absurd (cc)
later_entry e (Some x) q u h there own =
    let tick : x.tick.0 ≡ u = cc in
    subst (λ n. ComesFirst e.tick.0 e.member n q) tick (subst (λ n. ComesFirst e.tick.0 e.member x.tick.0 n) (own x refl) h)

pub root_is_least : (members : ℕ) (nodes : List (Option Entry)) (dues : Dues) (e : Entry) → dues_of members nodes ≡ dues → IsTournament members nodes → 0 < members → node_at nodes 1 ≡ Some e → IsFirstDue dues e.member e.tick.0
root_is_least members nodes dues e view is some root =
    let own = root_is_own members nodes e is some root in
    subst (λ d. IsFirstDue d e.member e.tick.0) view (record {
      there = get-dues_of members nodes e.member ∙ ap tick_of own.1;
      first = λ q u has.
          let there = sym (get-dues_of members nodes q) ∙ has in
          elim (cases_lt q members) [
            | inl below ↦
                let late : NoLater (Some e) (node_at nodes (members + q)) = subst (λ r. NoLater r (node_at nodes (members + q))) root (root_is_first (members + q) members nodes (members + q) is (omega arith) (omega arith) (omega arith)) in
                later_entry e (node_at nodes (members + q)) q u late there (λ x g. is.own q x below g)
            | inr more ↦ absurd (no_entry members nodes q u is.size more there)
          ];
    })

-- a new wheel
new_is_empty : (members : ℕ) (q : ℕ) → tick_of (node_at (replicate (2 * members) None) q) ≡ None
new_is_empty members q =
    elim (cases_lt q (2 * members)) [
      | inl below ↦ ap tick_of (get_or-replicate (2 * members) q None None below)
      | inr more ↦ ap tick_of (get_or_past (replicate (2 * members) None) q None (omega (arith, length-replicate {A = Option Entry} (2 * members) None)))
    ]

none_at : (members : ℕ) (k : ℕ) → node_at (replicate (2 * members) None) k ≡ None
none_at members k =
    elim (cases_lt k (2 * members)) [
      | inl below ↦ get_or-replicate (2 * members) k None None below
      | inr more ↦ get_or_past (replicate (2 * members) None) k None (omega (arith, length-replicate {A = Option Entry} (2 * members) None))
    ]

pub dues_of-new : (members : ℕ) → dues_of members (replicate (2 * members) None) ≡ record { members = members; due = map.empty {R = nat_cmp} }
dues_of-new members =
    let same = map.same_map nat_cmp_total map.nat_cmp-IsAntisymmetric (dues_of members (replicate (2 * members) None)).due (map.empty {R = nat_cmp})
    (λ q. get-dues_of members (replicate (2 * members) None) q ∙ new_is_empty members (members + q) ∙ sym (map.get-empty nat_cmp q)) in
    λ i. record { members = members; due = same i }

no_game : (a b c : Option Entry) → a ≡ None → b ≡ None → c ≡ None → IsEarlier a b c
no_game a b c p q r =
    subst (λ n. IsEarlier n b c) (sym p) (subst (λ n. IsEarlier None n c) (sym q) (subst (λ n. IsEarlier None None n) (sym r) (record { one = inl refl; before_left = tt; before_right = tt })))

pub IsTournament-new : (members : ℕ) → members < 2 ^ 16 → IsTournament members (replicate (2 * members) None)
IsTournament-new members few = record {
  size = length-replicate {A = Option Entry} (2 * members) None;
  few = few;
  won = λ i p q. no_game _ _ _ (none_at members i) (none_at members (2 * i)) (none_at members (2 * i + 1));
  own = λ m e h here. let none = none_at members (members + m) in absurd (cc);
}

pub IfNone-always : {X : Type 0} {P : Type 0} (o : Option X) → P → IfNone o P
IfNone-always None p = p
IfNone-always (Some x) p = tt

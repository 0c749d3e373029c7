-- Nodes through a change of one of them, and what wins the root.
use Rattle.std.proofs.Common.{◌≡◌, ◌≢◌, ℕ, zero, suc, ◌+◌, ◌-◌, ◌*◌, ◌/◌, ◌<◌, ◌≤◌, List, length, set}
use Rattle.std.proofs.Common.{Option, None, Some, refl, sym, ◌∙◌, ap, subst, arith, inl, inr}
use Rattle.std.proofs.lemmas.List.{get_or-set_same, get_or-set_other, length-set}
use Rattle.std.proofs.lemmas.Bool.{cases_eq, cases_lt}
use Rattle.pre_wheel.specs.declared.entries.Entry.{Entry}
use Rattle.pre_wheel.specs.Dues.{ComesFirst}
use Rattle.pre_wheel.specs.Winners.{NoLater, IsEarlier, IsWon, IsTournament, node_at}

same_game : (a b c x y z : Option Entry) → x ≡ a → y ≡ b → z ≡ c → IsEarlier a b c → IsEarlier x y z
same_game a b c x y z p q r won =
    subst (λ n. IsEarlier n y z) (sym p) (subst (λ n. IsEarlier a n z) (sym q) (subst (λ n. IsEarlier a b n) (sym r) won))

won_other : (nodes : List (Option Entry)) (at i : ℕ) (w : Option Entry) → i ≢ at → 2 * i ≢ at → 2 * i + 1 ≢ at → IsWon nodes i → IsWon (set nodes at w) i
won_other nodes at i w p q r won =
    same_game (node_at nodes i) (node_at nodes (2 * i)) (node_at nodes (2 * i + 1)) (node_at (set nodes at w) i) (node_at (set nodes at w) (2 * i)) (node_at (set nodes at w) (2 * i + 1))
    (get_or-set_other nodes at i w None p) (get_or-set_other nodes at (2 * i) w None q) (get_or-set_other nodes at (2 * i + 1) w None r) won

won_here : (nodes : List (Option Entry)) (at : ℕ) (w : Option Entry) → 0 < at → at < length nodes → IsEarlier w (node_at nodes (2 * at)) (node_at nodes (2 * at + 1)) → IsWon (set nodes at w) at
won_here nodes at w some h won =
    same_game w (node_at nodes (2 * at)) (node_at nodes (2 * at + 1)) (node_at (set nodes at w) at) (node_at (set nodes at w) (2 * at)) (node_at (set nodes at w) (2 * at + 1))
    (get_or-set_same nodes at w None h) (get_or-set_other nodes at (2 * at) w None (λ e. absurd (omega arith))) (get_or-set_other nodes at (2 * at + 1) w None (λ e. absurd (omega arith))) won

-- once a node has been won anew, only its parent may be wrong
pub others_after : (nodes : List (Option Entry)) (at : ℕ) (w : Option Entry) → 0 < at → at < length nodes → IsEarlier w (node_at nodes (2 * at)) (node_at nodes (2 * at + 1)) → ((i : ℕ) → 0 < i → 2 * i + 1 < length nodes → i ≢ at → IsWon nodes i) → (i : ℕ) → 0 < i → 2 * i + 1 < length (set nodes at w) → i ≢ at / 2 → IsWon (set nodes at w) i
others_after nodes at w some h won others i p q r =
    elim (cases_eq i at) [
      | inl same ↦ subst (λ n. IsWon (set nodes at w) n) (sym same) (won_here nodes at w some h won)
      | inr apart ↦ won_other nodes at i w apart (λ e. r (omega (arith, e))) (λ e. r (omega (arith, e))) (others i p (omega (arith, length-set nodes at w)) apart)
    ]

-- a leaf that changes may make its parent wrong, and no other node
pub others_changed : (nodes : List (Option Entry)) (at : ℕ) (w : Option Entry) → length nodes ≤ 2 * at → ((i : ℕ) → 0 < i → 2 * i + 1 < length nodes → IsWon nodes i) → (i : ℕ) → 0 < i → 2 * i + 1 < length (set nodes at w) → i ≢ at / 2 → IsWon (set nodes at w) i
others_changed nodes at w leaf won i p q r =
    let inside : 2 * i + 1 < length nodes = omega (arith, length-set nodes at w) in
    won_other nodes at i w (λ e. absurd (omega (arith, e))) (λ e. r (omega (arith, e))) (λ e. r (omega (arith, e))) (won i p inside)

NoLater-refl : (a : Option Entry) → NoLater a a
NoLater-refl None = tt
NoLater-refl (Some a) = inr (refl, omega arith)

first_trans : (t m u n v o : ℕ) → ComesFirst t m u n → ComesFirst u n v o → ComesFirst t m v o
first_trans t m u n v o p q =
    elim p [
      | inl less ↦ elim q [ inl more ↦ inl (omega arith) | inr same ↦ inl (omega (arith, same.0)) ]
      | inr equal ↦ elim q [ inl more ↦ inl (omega (arith, equal.0)) | inr same ↦ inr (equal.0 ∙ same.0, omega (arith, equal.1, same.1)) ]
    ]

NoLater-trans : (a b c : Option Entry) → NoLater a b → NoLater b c → NoLater a c
NoLater-trans a b None p q = tt
NoLater-trans None None (Some c) p q = absurd q
NoLater-trans (Some a) None (Some c) p q = absurd q
NoLater-trans None (Some b) (Some c) p q = absurd p
NoLater-trans (Some a) (Some b) (Some c) p q = first_trans a.tick.0 a.member b.tick.0 b.member c.tick.0 c.member p q

-- the root comes no later than any node
pub root_is_first : (fuel : ℕ) (members : ℕ) (nodes : List (Option Entry)) (k : ℕ) → IsTournament members nodes → k ≤ fuel → 0 < k → k < 2 * members → NoLater (node_at nodes 1) (node_at nodes k)
root_is_first zero members nodes k is h some inside = absurd (omega arith)
root_is_first (suc fuel) members nodes k is h some inside =
    elim (cases_eq k 1) [
      | inl root ↦ subst (λ n. NoLater (node_at nodes 1) (node_at nodes n)) (sym root) (NoLater-refl (node_at nodes 1))
      | inr below ↦
          let parent : NoLater (node_at nodes 1) (node_at nodes (k / 2)) = root_is_first fuel members nodes (k / 2) is (omega (arith, below)) (omega (arith, below)) (omega arith) in
          let won : IsWon nodes (k / 2) = is.won (k / 2) (omega (arith, below)) (omega arith) in
          elim (cases_eq k (2 * (k / 2))) [
            | inl left ↦ NoLater-trans (node_at nodes 1) (node_at nodes (k / 2)) (node_at nodes k) parent (subst (λ n. NoLater (node_at nodes (k / 2)) (node_at nodes n)) (sym left) won.before_left)
            | inr odd ↦
                let right : k ≡ 2 * (k / 2) + 1 = omega (arith, odd) in
                NoLater-trans (node_at nodes 1) (node_at nodes (k / 2)) (node_at nodes k) parent (subst (λ n. NoLater (node_at nodes (k / 2)) (node_at nodes n)) (sym right) won.before_right)
          ]
    ]

-- each node is some member's leaf
pub node_is_leaf : (fuel : ℕ) (members : ℕ) (nodes : List (Option Entry)) (i : ℕ) → IsTournament members nodes → 2 * members ≤ i + fuel → 0 < i → i < 2 * members → (m : ℕ) × (m < members) × (node_at nodes (members + m) ≡ node_at nodes i)
node_is_leaf zero members nodes i is h some inside = absurd (omega arith)
node_is_leaf (suc fuel) members nodes i is h some inside =
    elim (cases_lt i members) [
      | inl above ↦ elim (is.won i some above).one [
        | inl left ↦ let rest = node_is_leaf fuel members nodes (2 * i) is (omega arith) (omega arith) (omega arith) in (rest.0, rest.1, rest.2 ∙ sym left)
        | inr right ↦ let rest = node_is_leaf fuel members nodes (2 * i + 1) is (omega arith) (omega arith) (omega arith) in (rest.0, rest.1, rest.2 ∙ sym right)
      ]
      | inr leaf ↦ (i - members, omega arith, ap (node_at nodes) (let same : members + (i - members) ≡ i = omega arith in same))
    ]

-- How a wheel keeps its entries: the leaves of a tournament, whose root is the entry that comes first.
use Rattle.std.specs.Prelude.{◌≡◌, ℕ, ◌+◌, ◌*◌, ◌<◌, ◌^◌, ◌⊎◌, ⊤, List, [], ◌∷◌, length, drop, Option, None, Some, slice_index_or}
use Rattle.std.specs.FinMap as map
use Rattle.pre_base.specs.declared.numbers.Tick.{Tick}
use Rattle.pre_wheel.specs.declared.entries.Entry.{Entry}
use Rattle.pre_wheel.specs.Dues.{Dues, ComesFirst}

-- an entry comes no later than another; none comes last
abbrev pub NoLater : Option Entry → Option Entry → Type 0
NoLater a None = ⊤
NoLater None (Some b) = ⊥
NoLater (Some a) (Some b) = ComesFirst a.tick.0 a.member b.tick.0 b.member

-- one of two that comes no later than either
pub record IsEarlier (winner left right : Option Entry) : Type 0 where
  pub one : (winner ≡ left) ⊎ (winner ≡ right)
  pub before_left : NoLater winner left
  pub before_right : NoLater winner right

abbrev pub node_at : List (Option Entry) → ℕ → Option Entry
node_at nodes i = slice_index_or nodes i None

-- the entry of a member with this tick, or none
abbrev pub leaf_of : ℕ → Option Tick → Option Entry
leaf_of member None = None
leaf_of member (Some tick) = Some (record { tick = tick; member = member })

-- the node is the earlier of the two below it
abbrev pub IsWon : List (Option Entry) → ℕ → Type 0
IsWon nodes i = IsEarlier (node_at nodes i) (node_at nodes (2 * i)) (node_at nodes (2 * i + 1))

-- each member has a leaf of its own, and each node above the leaves is won
pub record IsTournament (members : ℕ) (nodes : List (Option Entry)) : Type 0 where
  pub size : length nodes ≡ 2 * members
  pub few : members < 2 ^ 16
  pub won : (i : ℕ) → 0 < i → i < members → IsWon nodes i
  pub own : (m : ℕ) (e : Entry) → m < members → node_at nodes (members + m) ≡ Some e → e.member ≡ m

-- the ticks of the leaves, from a member on
unfoldable pub ticks_from : ℕ → List (Option Entry) → List (ℕ × ℕ)
ticks_from member [] = []
ticks_from member (None ∷ leaves) = ticks_from (member + 1) leaves
ticks_from member (Some e ∷ leaves) = (member, e.tick.0) ∷ ticks_from (member + 1) leaves

abbrev pub dues_of : ℕ → List (Option Entry) → Dues
dues_of members nodes = record { members = members; due = map.from_entries (ticks_from 0 (drop members nodes)) }

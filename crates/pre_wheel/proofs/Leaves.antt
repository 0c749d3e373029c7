-- The ticks of the leaves as a map.
use Rattle.std.proofs.Common.{◌≡◌, ◌≢◌, ℕ, zero, suc, ◌+◌, ◌<◌, true, false, cond, List, [], ◌∷◌, drop, Option, None, Some, refl, ◌∙◌, ap, arith}
use Rattle.std.proofs.lemmas.List.{get_or-drop}
use Rattle.std.proofs.lemmas.Cmp.{nat_cmp_total, eq_by_cmp_equiv}
use Rattle.std.specs.Ordering.{nat_cmp, eq_by_cmp, is_eq}
use Rattle.std.specs.declared.cmp.Ordering.TheVariants.{Less, Equal, Greater}
use Rattle.std.specs.Option.{option_map}
use Rattle.std.specs.FinMap as map
use Rattle.std.specs.FinMap.Entries.{find}
use Rattle.pre_wheel.specs.declared.entries.Entry.{Entry}
use Rattle.pre_wheel.specs.Winners.{ticks_from, dues_of, node_at}

pub same_key : (q : ℕ) → eq_by_cmp nat_cmp q q ≡ true
same_key q = (eq_by_cmp_equiv nat_cmp_total).refl q

pub other_key : (q m : ℕ) → q ≢ m → eq_by_cmp nat_cmp q m ≡ false
other_key q m apart =
    elim (nat_cmp q m) as (λ o. nat_cmp q m ≡ o → is_eq o ≡ false) [
      | Less ↦ λ e. refl
      | Equal ↦ λ e. absurd (apart (map.nat_cmp-IsAntisymmetric q m e))
      | Greater ↦ λ e. refl
    ] refl

-- an entry's tick
abbrev pub tick_of : Option Entry → Option ℕ
tick_of e = option_map (λ x. x.tick.0) e

find_before : (leaves : List (Option Entry)) (m q : ℕ) → q < m → find nat_cmp q (ticks_from m leaves) ≡ None
unfolding ticks_from
find_before [] m q h = refl
find_before (None ∷ leaves) m q h = find_before leaves (m + 1) q (omega arith)
find_before (Some e ∷ leaves) m q h =
    ap (λ b. cond b (Some e.tick.0) (find nat_cmp q (ticks_from (m + 1) leaves))) (other_key q m (λ e. absurd (omega arith))) ∙ find_before leaves (m + 1) q (omega arith)

find-ticks_from : (leaves : List (Option Entry)) (m n : ℕ) → find nat_cmp (m + n) (ticks_from m leaves) ≡ tick_of (node_at leaves n)
unfolding ticks_from
find-ticks_from [] m n = refl
find-ticks_from (None ∷ leaves) m zero = find_before leaves (m + 1) (m + 0) (omega arith)
find-ticks_from (None ∷ leaves) m (suc n) =
    ap (λ k. find nat_cmp k (ticks_from (m + 1) leaves)) (let next : m + suc n ≡ (m + 1) + n = omega arith in next) ∙ find-ticks_from leaves (m + 1) n
find-ticks_from (Some e ∷ leaves) m zero =
    ap (λ b. cond b (Some e.tick.0) (find nat_cmp (m + 0) (ticks_from (m + 1) leaves))) (ap (λ k. eq_by_cmp nat_cmp k m) (let here : m + 0 ≡ m = omega arith in here) ∙ same_key m)
find-ticks_from (Some e ∷ leaves) m (suc n) =
    ap (λ b. cond b (Some e.tick.0) (find nat_cmp (m + suc n) (ticks_from (m + 1) leaves))) (other_key (m + suc n) m (λ e. absurd (omega arith)))
    ∙ ap (λ k. find nat_cmp k (ticks_from (m + 1) leaves)) (let next : m + suc n ≡ (m + 1) + n = omega arith in next) ∙ find-ticks_from leaves (m + 1) n

-- what the map has for a member
pub get-dues_of : (members : ℕ) (nodes : List (Option Entry)) (m : ℕ) → map.get (dues_of members nodes).due m ≡ tick_of (node_at nodes (members + m))
get-dues_of members nodes m =
    map.get-from_entries nat_cmp_total (ticks_from 0 (drop members nodes)) m
    ∙ ap (λ k. find nat_cmp k (ticks_from 0 (drop members nodes))) (let same : m ≡ 0 + m = omega arith in same)
    ∙ find-ticks_from (drop members nodes) 0 m
    ∙ ap tick_of (get_or-drop members nodes m None)

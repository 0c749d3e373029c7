-- The tables, one place further.
use Rattle.std.proofs.Common.{◌≡◌, ℕ, zero, suc, ◌+◌, ◌-◌, ◌*◌, ◌/◌, ◌%◌, ◌<◌, ◌≤◌, ◌^◌, List, []}
use Rattle.std.proofs.Common.{◌∷◌, ◌++◌, Some, false, sym, ◌∙◌, ap, subst, arith, inl, inr, length, get_or}
use Rattle.std.specs.Prelude.{slice_get}
use Rattle.std.proofs.lemmas.Bool.{cases_lt}
use Rattle.std.proofs.lemmas.List.{get_or_append_left, get_or-append_right}
use Rattle.pre_base.specs.declared.numbers.ArcId.{ArcId}
use Rattle.pre_topo.specs.declared.network.Network.{Network}
use Rattle.pre_streams.specs.declared.rows.Row.{Row}
use Rattle.pre_bound.specs.Limits.{limit}
use Rattle.pre_bound.specs.Solutions.{least_growth}
use Rattle.pre_bound.specs.Uses.{rate_of, cost_at}
use Rattle.pre_bound.specs.Good.{IsStream, AtPorts}
use Rattle.pre_bound.proofs.Hops.{contains_at}
use Rattle.pre_certify.specs.Tables.{delays_in, AreWithin}
use Rattle.pre_rounds.specs.Rounds.{Bursts, delay_over, next_bursts}
use Rattle.pre_rounds.specs.Passing.{passes_over}
use Rattle.pre_rounds.specs.Settling.{SameBursts}
use Rattle.pre_rounds.specs.Routed.{AreRouted, AreShort}
use Rattle.pre_rounds.specs.Tables.{HasBursts, bursts_in}
use Rattle.pre_rounds.proofs.Settled.{passage, next_small, next-behind}

pub within_push : (table : List ℕ) (v : ℕ) → AreWithin table → v ≤ limit → AreWithin (table ++ v ∷ [])
within_push [] v within small zero = small
within_push [] v within small (suc i) = omega arith
within_push (x ∷ xs) v within small zero = within 0
within_push (x ∷ xs) v within small (suc i) = within_push xs v (λ j. within (suc j)) small i

pub bursts_push : (rows : List Row) (b : Bursts) (table : List ℕ) (place v : ℕ) → length table ≡ place → HasBursts rows table b place
    → ((r : Row) → IsStream rows (place / 16) r → place % 16 < length r.arcs → v ≡ b (place / 16) (place % 16)) → HasBursts rows (table ++ v ∷ []) b (place + 1)
bursts_push rows b table place v long before here stream r is hop inside low less =
    elim (cases_lt (stream * 16 + hop) place) [
      | inl earlier ↦ get_or_append_left table (v ∷ []) 0 (stream * 16 + hop) (omega (arith, earlier, long)) ∙ before stream r is hop inside low earlier
      | inr now ↦
          let row : place / 16 ≡ stream = omega (arith, now, less, low) in
          let col : place % 16 ≡ hop = omega (arith, now, less, low) in
          let zero' : stream * 16 + hop - place ≡ 0 = omega (arith, now, less) in
          let value : v ≡ b stream hop =
          subst (λ y. v ≡ b stream y) col (subst (λ x. v ≡ b x (place % 16)) row (here r (subst (λ x. IsStream rows x r) (sym row) is) (omega (arith, col, inside)))) in
          get_or-append_right table (v ∷ []) place (stream * 16 + hop) 0 long now ∙ ap (λ i. get_or (v ∷ []) i 0) zero' ∙ value
    ]

-- the whole table
pub bursts_all : (rows : List Row) (b : Bursts) (table : List ℕ) (place : ℕ) → AreShort rows → length rows * 16 ≤ place → HasBursts rows table b place → SameBursts rows (bursts_in table) b
bursts_all rows b table place short all before stream r is hop inside =
    let few = short r (contains_at rows stream r is.row) in
    let row : stream < length rows = row_inside rows stream r is.row in
    before stream r is hop inside (omega (arith, few, inside)) (omega (arith, few, inside, row, all))
  where
    row_inside : (xs : List Row) (k : ℕ) (x : Row) → slice_get xs k ≡ Some x → k < length xs
    row_inside [] k x e = absurd (cc)
    row_inside (y ∷ xs) zero x e = omega arith
    row_inside (y ∷ xs) (suc k) x e = let rest = row_inside xs k x e in omega (arith, rest)

-- what a burst grows to behind a hop is that of the next round
pub next_is : (net : Network) (rows : List Row) (b : Bursts) (table : List ℕ) → AreRouted net rows → AtPorts net rows (λ a p. passes_over net rows b a p ≡ false) → AtPorts net rows (λ a p. delays_in table a p ≡ delay_over net rows b a p)
    → (stream : ℕ) (r : Row) → IsStream rows stream r → (hop : ℕ) → 0 < hop → hop < length r.arcs → (a : ArcId) → slice_get r.arcs (hop - 1) ≡ Some a → (burst d result : ℕ) → burst ≡ b stream (hop - 1) → d ≡ delays_in table a.0 r.prio
    → (least_growth burst (rate_of r) d (cost_at net a.0) ≤ 10 ^ 12 → result ≡ least_growth burst (rate_of r) d (cost_at net a.0)) → result ≡ next_bursts net rows b stream hop
next_is net rows b table routed none delays stream r is hop some inside a at burst d result burst_is d_is grown =
    let way = passage net rows routed stream r is (hop - 1) (omega (arith, some, inside)) in
    let same : way.arc ≡ a = let two = sym way.at ∙ at in cc in
    let delay : d ≡ delay_over net rows b a.0 r.prio = d_is ∙ subst (λ x. delays_in table x.0 r.prio ≡ delay_over net rows b x.0 r.prio) same (delays way.arc.0 r.prio way.inside way.prio way.port) in
    let small = next_small net rows routed b none stream r is (hop - 1) (omega (arith, some, inside)) a at in
    let eq : least_growth burst (rate_of r) d (cost_at net a.0) ≡ least_growth (b stream (hop - 1)) (rate_of r) (delay_over net rows b a.0 r.prio) (cost_at net a.0) =
    ap (λ n. least_growth n (rate_of r) d (cost_at net a.0)) burst_is ∙ ap (λ n. least_growth (b stream (hop - 1)) (rate_of r) n (cost_at net a.0)) delay in
    let whole : suc (hop - 1) ≡ hop = omega (arith, some) in
    grown (omega (arith, eq, small)) ∙ eq ∙ sym (next-behind net rows b stream r (hop - 1) a is.row at) ∙ ap (next_bursts net rows b stream) whole

-- Streams with the same bursts make the same numbers.
use Rattle.std.proofs.Common.{◌≡◌, ℕ, zero, suc, ◌+◌, ◌*◌, ◌/◌, ◌<◌, Bool, true, false, List, [], ◌∷◌, refl, sym, ◌∙◌, ap, arith, inl, inr, length, get_or}
use Rattle.std.specs.Prelude.{slice_get, sum_by, filter, ◌||◌, ◌&&◌, ◌==◌, nat_lt, not, Contains, is_some}
use Rattle.std.specs.Option.{option_map_or}
use Rattle.std.specs.List.{list_any, enumerate_from}
use Rattle.std.proofs.lemmas.Bool.{cases_Bool, and_parts, ltb-true}
use Rattle.std.proofs.lemmas.List.Sums.{sum_by-cons}
use Rattle.std.proofs.lemmas.Option.{slice_get-get_or}
use Rattle.pre_base.specs.declared.numbers.ArcId.{ArcId}
use Rattle.pre_topo.specs.declared.network.Network.{Network}
use Rattle.pre_streams.specs.declared.rows.Row.{Row}
use Rattle.pre_bound.specs.declared.rows.PortRow.{PortRow}
use Rattle.pre_bound.specs.Limits.{limit}
use Rattle.pre_bound.specs.Solutions.{least_delay, least_growth, least_size}
use Rattle.pre_bound.specs.Uses.{is_on, hop_of, rate_of, rates_on, cost_at, ring_at}
use Rattle.pre_bound.specs.Along.{least_block, rate_above}
use Rattle.pre_bound.proofs.Hops.{TakesAt-place, TakesAt-hop_of, OnArc-from}
use Rattle.pre_bound.proofs.Placed.{stream_at}
use Rattle.pre_bound.proofs.Sums.{contains_head, contains_tail}
use Rattle.pre_rounds.specs.Rounds.{Bursts, bursts_over, work_over, delay_over, size_over, port_over, next_bursts, grown_behind}
use Rattle.pre_rounds.specs.Passing.{numbers_pass, goes_on, leaving_passes, passes_over, differs_behind, some_differs, need_over, is_short}
use Rattle.pre_rounds.specs.Settling.{SameBursts}

sum_same : {X : Type 0} (f g : X → ℕ) (p : X → Bool) (xs : List X) → ((x : X) → Contains xs x → p x ≡ true → f x ≡ g x) → sum_by f (filter p xs) ≡ sum_by g (filter p xs)
sum_same f g p [] h = refl
sum_same f g p (x ∷ xs) h =
    let rest = sum_same f g p xs (λ y c e. h y (contains_tail x y xs c) e) in
    elim (cases_Bool (p x)) [
      | inl one ↦ rw one (sum_by-cons f x (filter p xs) ∙ ap (λ n. n + sum_by f (filter p xs)) (h x (contains_head x xs) one) ∙ ap (λ n. g x + n) rest ∙ sym (sum_by-cons g x (filter p xs)))
      | inr none ↦ rw none rest
    ]

any_same : {X : Type 0} (p q : X → Bool) (xs : List X) → ((x : X) → Contains xs x → p x ≡ q x) → list_any p xs ≡ list_any q xs
any_same p q [] h = refl
any_same p q (x ∷ xs) h = ap (λ b. b || list_any p xs) (h x (contains_head x xs)) ∙ ap (λ b. q x || b) (any_same p q xs (λ y c. h y (contains_tail x y xs c)))

and_same : (p a b : Bool) → (p ≡ true → a ≡ b) → (p && a) ≡ (p && b)
and_same true a b h = h refl
and_same false a b h = refl

-- a row that goes on behind an arc
pub record GoesBehind (arc prio : ℕ) (r : Row) : Type 0 where
  pub on : is_on arc prio (prio + 1) r ≡ true
  pub express : is_some r.curve ≡ true
  pub hop : hop_of arc r < length r.arcs
  pub next : hop_of arc r + 1 < length r.arcs

pub hop_inside : (arc low high : ℕ) (r : Row) → is_on arc low high r ≡ true → hop_of arc r < length r.arcs
hop_inside arc low high r on = (TakesAt-place r (hop_of arc r) arc (TakesAt-hop_of r arc (OnArc-from arc low high r on).takes)).0

pub goes_behind : (arc prio : ℕ) (r : Row) → goes_on arc prio r ≡ true → GoesBehind arc prio r
goes_behind arc prio r e =
    let parts = and_parts (is_on arc prio (prio + 1) r) (nat_lt (hop_of arc r + 1) (length r.arcs)) e in
    record {
      on = parts.0;
      express = (OnArc-from arc prio (prio + 1) r parts.0).express;
      hop = hop_inside arc prio (prio + 1) r parts.0;
      next = ltb-true (hop_of arc r + 1) (length r.arcs) parts.1;
    }

module _ (rows : List Row) (b c : Bursts) (same : SameBursts rows b c) where
  pub bursts_over-same : (arc low high : ℕ) → bursts_over b arc low high rows ≡ bursts_over c arc low high rows
  bursts_over-same arc low high =
      sum_same (λ e. b e.0 (hop_of arc e.1)) (λ e. c e.0 (hop_of arc e.1)) (λ e. is_on arc low high e.1) (enumerate_from 0 rows)
      (λ e listed on. same e.0 e.1 (stream_at rows e listed (OnArc-from arc low high e.1 on).express) (hop_of arc e.1) (hop_inside arc low high e.1 on))

  module _ (net : Network) (a p : ℕ) where
    pub delay_over-same : delay_over net rows b a p ≡ delay_over net rows c a p
    delay_over-same = ap (λ n. least_delay (least_block net rows a p) (cost_at net a * n) (rate_above rows a p) (cost_at net a)) (bursts_over-same a p 8)

    pub size_over-same : size_over net rows b a p ≡ size_over net rows c a p
    size_over-same =
        ap (λ n. least_size n (rates_on a p (p + 1) rows) (delay_over net rows b a p)) (bursts_over-same a p (p + 1))
        ∙ ap (λ n. least_size (bursts_over c a p (p + 1) rows) (rates_on a p (p + 1) rows) n) delay_over-same

    pub port_over-same : port_over net rows b a p ≡ port_over net rows c a p
    port_over-same =
        let make : ℕ → ℕ → ℕ → PortRow = λ w d s. record { arc = record { 0 = a }; prio = p; block = least_block net rows a p; work = w; rate = rate_above rows a p; delay = d; size = s } in
        ap (λ n. make (cost_at net a * n) (delay_over net rows b a p) (size_over net rows b a p)) (bursts_over-same a p 8)
        ∙ ap (λ n. make (work_over net rows c a p) n (size_over net rows b a p)) delay_over-same
        ∙ ap (λ n. make (work_over net rows c a p) (delay_over net rows c a p) n) size_over-same

    leaving-same : (d : ℕ) (e : ℕ × Row) → Contains (enumerate_from 0 rows) e → leaving_passes net b a p d e ≡ leaving_passes net c a p d e
    leaving-same d e listed =
        and_same (goes_on a p e.1) _ _
        (λ on.
        let behind = goes_behind a p e.1 on in
        ap (λ n. nat_lt limit (least_growth n (rate_of e.1) d (cost_at net a))) (same e.0 e.1 (stream_at rows e listed behind.express) (hop_of a e.1) behind.hop))

    pub passes_over-same : passes_over net rows b a p ≡ passes_over net rows c a p
    passes_over-same =
        ap (λ row. list_any (nat_lt limit) (row.block ∷ row.work ∷ row.delay ∷ row.size ∷ []) || list_any (leaving_passes net b a p row.delay) (enumerate_from 0 rows)) port_over-same
        ∙ ap (λ t. numbers_pass net rows c a p || t) (any_same (leaving_passes net b a p (delay_over net rows c a p)) (leaving_passes net c a p (delay_over net rows c a p)) (enumerate_from 0 rows) (λ e listed. leaving-same (delay_over net rows c a p) e listed))

    pub is_short-same : is_short net rows b a p ≡ is_short net rows c a p
    is_short-same = ap (λ row. nat_lt (ring_at' row) (row.size / 84)) port_over-same
      where
        ring_at' : PortRow → ℕ
        ring_at' row = ring_at net a p

    pub need_over-same : need_over net rows b a p ≡ need_over net rows c a p
    need_over-same = ap (λ n. n / 84) size_over-same

  pub next_bursts-same : (net : Network) → SameBursts rows (next_bursts net rows b) (next_bursts net rows c)
  next_bursts-same net stream r is zero inside = refl
  next_bursts-same net stream r is (suc hop) inside =
      let d : ArcId = record { 0 = 0 } in
      let at = slice_get-get_or r.arcs hop d (omega arith) in
      let arc = get_or r.arcs hop d in
      let burst : b stream hop ≡ c stream hop = same stream r is hop (omega arith) in
      ap (λ o. option_map_or (grown_behind net rows b stream hop) o 0) is.row
      ∙ ap (λ n. option_map_or (λ a. least_growth n (rate_of r) (delay_over net rows b a.0 r.prio) (cost_at net a.0)) (slice_get r.arcs hop) 0) burst
      ∙ ap (λ o. option_map_or (λ a. least_growth (c stream hop) (rate_of r) (delay_over net rows b a.0 r.prio) (cost_at net a.0)) o 0) at
      ∙ ap (λ n. least_growth (c stream hop) (rate_of r) n (cost_at net arc.0)) (delay_over-same net arc.0 r.prio)
      ∙ sym (ap (λ o. option_map_or (λ a. least_growth (c stream hop) (rate_of r) (delay_over net rows c a.0 r.prio) (cost_at net a.0)) o 0) at)
      ∙ sym (ap (λ o. option_map_or (grown_behind net rows c stream hop) o 0) is.row)

pub some_differs-same : (rows : List Row) (b c d e : Bursts) → SameBursts rows b c → SameBursts rows d e → (a p : ℕ) → some_differs rows b d a p ≡ some_differs rows c e a p
some_differs-same rows b c d e one two a p =
    any_same (differs_behind b d a p) (differs_behind c e a p) (enumerate_from 0 rows)
    (λ x listed.
    and_same (goes_on a p x.1) _ _
    (λ on.
    let behind = goes_behind a p x.1 on in
    let is = stream_at rows x listed behind.express in
    let hop = hop_of a x.1 + 1 in
    ap (λ n. not (n == d x.0 hop)) (one x.0 x.1 is hop behind.next) ∙ ap (λ n. not (c x.0 hop == n)) (two x.0 x.1 is hop behind.next)))

pub SameBursts-trans : (rows : List Row) (b c d : Bursts) → SameBursts rows b c → SameBursts rows c d → SameBursts rows b d
SameBursts-trans rows b c d one two stream r is hop inside = one stream r is hop inside ∙ two stream r is hop inside

pub SameBursts-sym : (rows : List Row) (b c : Bursts) → SameBursts rows b c → SameBursts rows c b
SameBursts-sym rows b c one stream r is hop inside = sym (one stream r is hop inside)

-- The numbers of a port by the order of ranks, and what passes no limit.
use Rattle.std.proofs.Common.{◌≡◌, ℕ, zero, suc, ◌+◌, ◌-◌, ◌*◌, ◌<◌, ◌≤◌, Bool, true, false, List, [], ◌∷◌}
use Rattle.std.proofs.Common.{refl, sym, ◌∙◌, ap, subst, arith, inl, inr, length, get_or}
use Rattle.std.specs.Prelude.{sum_by, filter, Contains, IsSome, nat_lt, ◌&&◌, ◌||◌}
use Rattle.std.specs.List.{list_any}
use Rattle.std.proofs.lemmas.Bool.{cases_Bool, cases_lt, cases_order, ltb-false, lt-ltb, or_parts, true≢false}
use Rattle.std.proofs.lemmas.List.Sums.{sum_by-cons, sum_by_more}
use Rattle.std.proofs.lemmas.List.Folds.{list_any_at}
use Rattle.pre_base.specs.declared.numbers.ArcId.{ArcId}
use Rattle.pre_topo.specs.declared.network.Network.{Network}
use Rattle.pre_streams.specs.declared.rows.Row.{Row}
use Rattle.pre_streams.specs.declared.rows.Streams.{Streams}
use Rattle.pre_streams.specs.Fits.{Fits}
use Rattle.pre_bound.specs.declared.rows.PortRow.{PortRow}
use Rattle.pre_bound.specs.Limits.{limit}
use Rattle.pre_bound.specs.Solutions.{least_delay, least_growth, least_size}
use Rattle.pre_bound.specs.Uses.{TakesAt, hop_of, takes, is_on, rate_of, rates_on, cost_at, Follows}
use Rattle.pre_bound.specs.Along.{Delays, burst_at, burst_on, bursts_on, hop_ticks, least_block, least_work, rate_above, port_delay, port_size}
use Rattle.pre_bound.specs.Chains.{AreRanks}
use Rattle.pre_bound.specs.Good.{AtPorts, IsStream}
use Rattle.pre_bound.specs.Settled.{Settled, PriosBelow}
use Rattle.pre_bound.specs.Passing.{next_passes, ticks_before, ticks_through, stream_passes, port_passes, passes, least_port}
use Rattle.pre_bound.specs.Order.{Rise, SameBelow}
use Rattle.pre_bound.proofs.Sums.{contains_head, contains_tail}
use Rattle.pre_bound.proofs.Hops.{TakesAt-place, TakesAt-from, TakesAt-hop_of, takes-from, OnArc-from, is_on-from, has_port-from, burst_at-suc, contains_at}
use Rattle.pre_bound.proofs.Within.{ArcsWithin-fits}
use Rattle.pre_bound.proofs.AtLeast.{rank_rises}

pub rise-from_ranks : (net : Network) (streams : Streams) (rank : ℕ → ℕ) → Fits net streams → AreRanks net streams.rows rank → Rise streams.rows rank
rise-from_ranks net streams rank fits ranks arc next f =
    let within = ArcsWithin-fits net streams fits in
    let first = within f.stream f.listed f.hop arc f.here in
    let second = within f.stream f.listed (f.hop + 1) next f.behind in
    let longer = (ranks next second).longest (suc (rank arc)) (arc, f, (ranks arc first).chain) in
    omega (arith, longer)

-- the burst at a hop and the ticks before it, where the delays on the way are the same
pub burst_same : (net : Network) (delays other : Delays) (r : Row) (j : ℕ) → j ≤ length r.arcs → ((i a : ℕ) → i < j → TakesAt r i a → delays a r.prio ≡ other a r.prio) → burst_at net delays r j ≡ burst_at net other r j
burst_same net delays other r zero h same = refl
burst_same net delays other r (suc k) h same =
    let d : ArcId = record { 0 = 0 } in
    let a = (get_or r.arcs k d).0 in
    let here : TakesAt r k a = TakesAt-from r k d (omega arith) in
    let before = burst_same net delays other r k (omega arith) (λ i c less at. same i c (omega arith) at) in
    let now : delays a r.prio ≡ other a r.prio = same k a (omega arith) here in
    let step : burst_at net delays r (k + 1) ≡ burst_at net other r (k + 1) =
    burst_at-suc net delays r k a here ∙ ap (λ b. least_growth b (rate_of r) (delays a r.prio) (cost_at net a)) before
    ∙ ap (λ n. least_growth (burst_at net other r k) (rate_of r) n (cost_at net a)) now ∙ sym (burst_at-suc net other r k a here)
    in
    let eq : k + 1 ≡ suc k = omega arith in
    subst (λ n. burst_at net delays r n ≡ burst_at net other r n) eq step

pub ticks-suc : (net : Network) (delays : Delays) (r : Row) (j a : ℕ) → TakesAt r j a → ticks_before net delays r (j + 1) ≡ ticks_before net delays r j + hop_ticks net a (delays a r.prio)
ticks-suc net delays r j a at =
    let d : ArcId = record { 0 = a } in
    let place = TakesAt-place r j a at in
    sum_by_more (λ x. hop_ticks net x.0 (delays x.0 r.prio)) r.arcs j d place.0
    ∙ ap (λ n. ticks_before net delays r j + hop_ticks net n (delays n r.prio)) (place.1 d)

pub ticks_same : (net : Network) (delays other : Delays) (r : Row) (j : ℕ) → j ≤ length r.arcs → ((i a : ℕ) → i < j → TakesAt r i a → delays a r.prio ≡ other a r.prio) → ticks_before net delays r j ≡ ticks_before net other r j
ticks_same net delays other r zero h same = refl
ticks_same net delays other r (suc k) h same =
    let d : ArcId = record { 0 = 0 } in
    let a = (get_or r.arcs k d).0 in
    let here : TakesAt r k a = TakesAt-from r k d (omega arith) in
    let before = ticks_same net delays other r k (omega arith) (λ i c less at. same i c (omega arith) at) in
    let now : delays a r.prio ≡ other a r.prio = same k a (omega arith) here in
    let step : ticks_before net delays r (k + 1) ≡ ticks_before net other r (k + 1) =
    ticks-suc net delays r k a here ∙ ap (λ b. b + hop_ticks net a (delays a r.prio)) before
    ∙ ap (λ n. ticks_before net other r k + hop_ticks net a n) now ∙ sym (ticks-suc net other r k a here)
    in
    let eq : k + 1 ≡ suc k = omega arith in
    subst (λ n. ticks_before net delays r n ≡ ticks_before net other r n) eq step

pub sum_same : {X : Type 0} (f g : X → ℕ) (p : X → Bool) (xs : List X) → ((x : X) → Contains xs x → p x ≡ true → f x ≡ g x) → sum_by f (filter p xs) ≡ sum_by g (filter p xs)
sum_same f g p [] h = refl
sum_same f g p (x ∷ xs) h =
    let rest = sum_same f g p xs (λ y c e. h y (contains_tail x y xs c) e) in
    elim (cases_Bool (p x)) [
      | inl one ↦ rw one (sum_by-cons f x (filter p xs) ∙ ap (λ n. n + sum_by f (filter p xs)) (h x (contains_head x xs) one) ∙ ap (λ n. g x + n) rest ∙ sym (sum_by-cons g x (filter p xs)))
      | inr none ↦ rw none rest
    ]

pub any_same : {X : Type 0} (p q : X → Bool) (xs : List X) → ((x : X) → Contains xs x → p x ≡ q x) → list_any p xs ≡ list_any q xs
any_same p q [] h = refl
any_same p q (x ∷ xs) h = ap (λ b. b || list_any p xs) (h x (contains_head x xs)) ∙ ap (λ b. q x || b) (any_same p q xs (λ y c. h y (contains_tail x y xs c)))

pub and_same : (p a b : Bool) → (p ≡ true → a ≡ b) → (p && a) ≡ (p && b)
and_same true a b h = h refl
and_same false a b h = refl

-- the delays on the way of each stream to the arc are the same
abbrev pub SameOnTheWay : List Row → Delays → Delays → ℕ → Type 0
SameOnTheWay rows delays other a =
    (r : Row) → Contains rows r → IsSome r.curve → takes a r ≡ true → (i c : ℕ) → i < hop_of a r → TakesAt r i c → delays c r.prio ≡ other c r.prio

module _ (net : Network) (rows : List Row) (delays other : Delays) (a : ℕ) (way_same : SameOnTheWay rows delays other a) where
  pub hop_within : (r : Row) → takes a r ≡ true → hop_of a r ≤ length r.arcs
  hop_within r on = let place = TakesAt-place r (hop_of a r) a (TakesAt-hop_of r a on) in omega (arith, place.0)

  pub burst_on-same : (r : Row) → Contains rows r → IsSome r.curve → takes a r ≡ true → burst_on net delays a r ≡ burst_on net other a r
  burst_on-same r listed express on = burst_same net delays other r (hop_of a r) (hop_within r on) (way_same r listed express on)

  bursts_on-same : (low high : ℕ) → bursts_on net delays a low high rows ≡ bursts_on net other a low high rows
  bursts_on-same low high =
      sum_same (burst_on net delays a) (burst_on net other a) (is_on a low high) rows
      (λ r listed e. let on = OnArc-from a low high r e in burst_on-same r listed on.express on.takes)

  pub delay_same : (p : ℕ) → port_delay net rows delays a p ≡ port_delay net rows other a p
  delay_same p = ap (λ n. least_delay (least_block net rows a p) (cost_at net a * n) (rate_above rows a p) (cost_at net a)) (bursts_on-same p 8)

  size_same : (p : ℕ) → port_size net rows delays a p ≡ port_size net rows other a p
  size_same p =
      ap (λ n. least_size n (rates_on a p (p + 1) rows) (port_delay net rows delays a p)) (bursts_on-same p (p + 1))
      ∙ ap (λ n. least_size (bursts_on net other a p (p + 1) rows) (rates_on a p (p + 1) rows) n) (delay_same p)

  port_same : (p : ℕ) → least_port net rows delays a p ≡ least_port net rows other a p
  port_same p =
      let make : ℕ → ℕ → ℕ → PortRow = λ w d s. record { arc = record { 0 = a }; prio = p; block = least_block net rows a p; work = w; rate = rate_above rows a p; delay = d; size = s } in
      ap (λ n. make (cost_at net a * n) (port_delay net rows delays a p) (port_size net rows delays a p)) (bursts_on-same p 8)
      ∙ ap (λ n. make (least_work net rows other a p) n (port_size net rows delays a p)) (delay_same p)
      ∙ ap (λ n. make (least_work net rows other a p) (port_delay net rows other a p) n) (size_same p)

  stream_same : (p d : ℕ) (r : Row) → Contains rows r → stream_passes net delays a p d r ≡ stream_passes net other a p d r
  stream_same p d r listed =
      and_same (is_on a p (p + 1) r) _ _
      (λ e.
      let on = OnArc-from a p (p + 1) r e in
      ap (λ n. (nat_lt (hop_of a r + 1) (length r.arcs) && nat_lt limit (least_growth n (rate_of r) d (cost_at net a))) || nat_lt limit (ticks_through net delays a d r)) (burst_on-same r listed on.express on.takes)
      ∙ ap (λ n. next_passes net other a d r || nat_lt limit (n + hop_ticks net a d)) (ticks_same net delays other r (hop_of a r) (hop_within r on.takes) (way_same r listed on.express on.takes)))

  pub passes_same : (p : ℕ) → passes net rows delays a p ≡ passes net rows other a p
  passes_same p =
      ap (λ row. list_any (nat_lt limit) (row.block ∷ row.work ∷ row.delay ∷ row.size ∷ []) || list_any (stream_passes net delays a p row.delay) rows) (port_same p)
      ∙ ap (λ b. port_passes net rows other a p || b) (any_same (stream_passes net delays a p (port_delay net rows other a p)) (stream_passes net other a p (port_delay net rows other a p)) rows (λ r listed. stream_same p (port_delay net rows other a p) r listed))

  pub alike : (p : ℕ) → (least_port net rows delays a p ≡ least_port net rows other a p) × (passes net rows delays a p ≡ passes net rows other a p)
  alike p = (port_same p, passes_same p)

pub numbers_same : (net : Network) (rows : List Row) (rank : ℕ → ℕ) → PriosBelow rows → Rise rows rank → (delays other : Delays) (a : ℕ) → SameBelow rank delays other a
    → (p : ℕ) → (least_port net rows delays a p ≡ least_port net rows other a p) × (passes net rows delays a p ≡ passes net rows other a p)
numbers_same net rows rank prios rise delays other a same =
    alike net rows delays other a (λ r listed express on i c less at. same c r.prio (rank_rises rows rank rise r listed express i (hop_of a r) c a less at (TakesAt-hop_of r a on)) (prios r listed))

-- an arc is taken at one hop alone
pub hop_of-unique : (rows : List Row) (rank : ℕ → ℕ) → Rise rows rank → (r : Row) → Contains rows r → IsSome r.curve → (j a : ℕ) → TakesAt r j a → hop_of a r ≡ j
hop_of-unique rows rank rise r listed express j a at =
    let first = TakesAt-hop_of r a (takes-from r j a at) in
    elim (cases_order (hop_of a r) j) [
      | inl same ↦ same
      | inr apart ↦
          elim apart [
            | inl less ↦ absurd (let up = rank_rises rows rank rise r listed express (hop_of a r) j a a less first at in omega (arith, up))
            | inr more ↦ absurd (let up = rank_rises rows rank rise r listed express j (hop_of a r) a a more at first in omega (arith, up))
          ]
    ]

none_passes : {X : Type 0} (p : X → Bool) (xs : List X) (x : X) → list_any p xs ≡ false → Contains xs x → p x ≡ false
none_passes p xs x none c =
    elim (cases_Bool (p x)) [
      | inl one ↦ absurd (true≢false (sym (list_any_at p xs c.0 x c.1 (ap p c.2 ∙ one)) ∙ none))
      | inr zero' ↦ zero'
    ]

after_true : (p b : Bool) → p ≡ true → (p && b) ≡ false → b ≡ false
after_true true b e h = h
after_true false b e h = absurd (cc)

module _ (net : Network) (streams : Streams) (rank : ℕ → ℕ) (delays : Delays) (fits : Fits net streams) (prios : PriosBelow streams.rows) (ranks : AreRanks net streams.rows rank) (settled : Settled net streams.rows delays)
    (none : AtPorts net streams.rows (λ arc prio. passes net streams.rows delays arc prio ≡ false)) where
  -- nothing passes at a hop of a stream
  hop_fits : (r : Row) → Contains streams.rows r → IsSome r.curve → (j a : ℕ) → TakesAt r j a
      → (next_passes net delays a (port_delay net streams.rows delays a r.prio) r ≡ false) × (nat_lt limit (ticks_through net delays a (port_delay net streams.rows delays a r.prio) r) ≡ false) × (hop_of a r ≡ j) × (delays a r.prio ≡ port_delay net streams.rows delays a r.prio)
  hop_fits r listed express j a at =
      let inside = ArcsWithin-fits net streams fits r listed j a at in
      let port = has_port-from streams.rows r a j listed express at in
      let low = prios r listed in
      let parts = or_parts (port_passes net streams.rows delays a r.prio) (list_any (stream_passes net delays a r.prio (port_delay net streams.rows delays a r.prio)) streams.rows) (none a r.prio inside low port) in
      let mine = none_passes (stream_passes net delays a r.prio (port_delay net streams.rows delays a r.prio)) streams.rows r parts.1 listed in
      let on : is_on a r.prio (r.prio + 1) r ≡ true = is_on-from a r.prio (r.prio + 1) r (record { express = express; from = omega arith; below = omega arith; takes = takes-from r j a at }) in
      let both = or_parts (next_passes net delays a (port_delay net streams.rows delays a r.prio) r) (nat_lt limit (ticks_through net delays a (port_delay net streams.rows delays a r.prio) r)) (after_true (is_on a r.prio (r.prio + 1) r) _ on mine) in
      (both.0, both.1, hop_of-unique streams.rows rank (rise-from_ranks net streams rank fits ranks) r listed express j a at, settled a r.prio inside low port)

  pub bursts_within : (stream : ℕ) (r : Row) → IsStream streams.rows stream r → (j : ℕ) → j + 1 < length r.arcs → burst_at net delays r (j + 1) ≤ limit
  bursts_within stream r is j more =
      let listed = contains_at streams.rows stream r is.row in
      let d : ArcId = record { 0 = 0 } in
      let a = (get_or r.arcs j d).0 in
      let here : TakesAt r j a = TakesAt-from r j d (omega arith) in
      let fit = hop_fits r listed is.express j a here in
      let hop : hop_of a r ≡ j = fit.2 in
      let has : nat_lt (hop_of a r + 1) (length r.arcs) ≡ true = lt-ltb (hop_of a r + 1) (length r.arcs) (omega arith) in
      let small = ltb-false limit (least_growth (burst_on net delays a r) (rate_of r) (port_delay net streams.rows delays a r.prio) (cost_at net a)) (after_true _ _ has fit.0) in
      let one = burst_at-suc net delays r j a here in
      let two = ap (λ n. least_growth (burst_at net delays r n) (rate_of r) (delays a r.prio) (cost_at net a)) hop in
      let three = ap (λ n. least_growth (burst_on net delays a r) (rate_of r) n (cost_at net a)) fit.3 in
      omega (arith, small, one, two, three)

  pub bounds_within : (stream : ℕ) (r : Row) → IsStream streams.rows stream r → ticks_before net delays r (length r.arcs) ≤ limit
  bounds_within stream r is =
      elim (cases_lt 0 (length r.arcs)) [
        | inl some ↦ last some
        | inr empty ↦ let none' : 0 ≡ length r.arcs = omega arith in subst (λ n. ticks_before net delays r n ≤ limit) none' (omega arith)
      ]
    where
      last : 0 < length r.arcs → ticks_before net delays r (length r.arcs) ≤ limit
      last some =
          let listed = contains_at streams.rows stream r is.row in
          let d : ArcId = record { 0 = 0 } in
          let j = length r.arcs - 1 in
          let a = (get_or r.arcs j d).0 in
          let here : TakesAt r j a = TakesAt-from r j d (omega arith) in
          let fit = hop_fits r listed is.express j a here in
          let small = ltb-false limit (ticks_through net delays a (port_delay net streams.rows delays a r.prio) r) fit.1 in
          let one = ticks-suc net delays r j a here in
          let two = ap (ticks_before net delays r) fit.2 in
          let three = ap (hop_ticks net a) fit.3 in
          let end : j + 1 ≡ length r.arcs = omega arith in
          subst (λ n. ticks_before net delays r n ≤ limit) end (omega (arith, small, one, two, three))

pub follows_within : (net : Network) (streams : Streams) (arc next : ℕ) → Fits net streams → Follows streams.rows arc next → (arc < length net.arcs) × (next < length net.arcs)
follows_within net streams arc next fits f =
    let within = ArcsWithin-fits net streams fits in
    (within f.stream f.listed f.hop arc f.here, within f.stream f.listed (f.hop + 1) next f.behind)

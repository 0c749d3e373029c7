-- A good certificate leaves no refusal a cause, and a cause of one leaves no other.
use Rattle.std.proofs.Common.{◌≡◌, ◌⊎◌, ℕ, ◌+◌, ◌*◌, ◌/◌, ◌<◌, List, [], ◌∷◌, Result, Ok, Err, refl, sym, ◌∙◌, ap, arith, inl, inr, length}
use Rattle.std.specs.Prelude.{IfErr, IfOk}
use Rattle.std.proofs.lemmas.Bool.{cases_order, leb-true, true≢false}
use Rattle.pre_base.specs.declared.numbers.ArcId.{ArcId}
use Rattle.pre_topo.specs.declared.network.Network.{Network}
use Rattle.pre_streams.specs.declared.rows.Row.{Row}
use Rattle.pre_streams.specs.declared.rows.Streams.{Streams}
use Rattle.pre_streams.specs.Fits.{Fits}
use Rattle.pre_bound.specs.declared.certificate.Certificate.{Certificate}
use Rattle.pre_bound.specs.Uses.{rates_on, cost_at}
use Rattle.pre_bound.specs.Along.{port_size}
use Rattle.pre_bound.specs.Chains.{AreRanks}
use Rattle.pre_bound.specs.Settled.{PriosBelow}
use Rattle.pre_bound.specs.Listed.{HasGood, HasRanks}
use Rattle.pre_bound.specs.Least.{Least}
use Rattle.pre_bound.specs.Order.{Rise}
use Rattle.pre_bound.specs.Promises.{RanksRise}
use Rattle.pre_bound.specs.Complete.{SettledBelow, GoodPassNowhere, GoodHaveRoom, SettledAlike}
use Rattle.pre_bound.proofs.Ranked.{ranks_rise}
use Rattle.pre_certify.specs.Loads.{FirstOverload, NoOverload}
use Rattle.pre_certify.specs.Turns.{turn_of}
use Rattle.pre_certify.specs.Causes.{Cause, Walks, Closes, IsCycle, FirstLarge, FirstShort}
use Rattle.pre_certify.specs.Refusals.{NoneRefuses, NoOtherRefuses, IsAlone, GoodRefusesNone, OneRefuses}
use Rattle.pre_certify.specs.declared.unfit.Unfit.{Unfit}
use Rattle.pre_certify.specs.declared.unfit.Unfit.TheVariants.{Overload, Cycle, Large, Ring, Memory}

-- where ranks rise, they do along a walk, so none closes
walk_rises : (rows : List Row) (rank : ℕ → ℕ) → Rise rows rank → (from : ℕ) (arcs : List ArcId) (to : ℕ) → Walks rows from arcs to → rank from < rank to
walk_rises rows rank rise from [] to walk = rise from to walk
walk_rises rows rank rise from (a ∷ arcs) to walk =
    let first = rise from a.0 walk.0 in
    let rest = walk_rises rows rank rise a.0 arcs to walk.1 in
    omega (arith, first, rest)

no_cycle : (rows : List Row) (rank : ℕ → ℕ) → Rise rows rank → (arcs : List ArcId) → Closes rows arcs → ⊥
no_cycle rows rank rise [] closes = closes
no_cycle rows rank rise (a ∷ arcs) closes = let up = walk_rises rows rank rise a.0 arcs a.0 closes in omega (arith, up)

-- ranks that are longest chains are the same
same_rank : (net : Network) (rows : List Row) (rank other : ℕ → ℕ) → AreRanks net rows rank → AreRanks net rows other → (a : ℕ) → a < length net.arcs → rank a ≡ other a
same_rank net rows rank other ranks others a inside =
    let one = (others a inside).longest (rank a) (ranks a inside).chain in
    let two = (ranks a inside).longest (other a) (others a inside).chain in
    omega (arith, one, two)

no_first : (net : Network) (rows : List Row) (arc : ℕ) → FirstOverload net rows arc → NoOverload net rows → ⊥
no_first net rows arc first none = true≢false (sym first.overloaded ∙ none arc first.within)

same_first : (net : Network) (rows : List Row) (a b : ArcId) → FirstOverload net rows a.0 → FirstOverload net rows b.0 → a ≡ b
same_first net rows a b first second =
    elim (cases_order a.0 b.0) [
      | inl same ↦ ap (λ n. record { 0 = n }) same
      | inr apart ↦
          elim apart [
            | inl less ↦ absurd (true≢false (sym first.overloaded ∙ second.before a.0 less))
            | inr more ↦ absurd (true≢false (sym second.overloaded ∙ first.before b.0 more))
          ]
    ]

-- the delays at arcs of lower ranks are settled before the first port that passes the limit
below_large : (net : Network) (rows : List Row) (a p : ℕ) (first : FirstLarge net rows a p) → SettledBelow net rows first.rank first.delays a
below_large net rows a p first b q inside prio port lower =
    let few = net.rules.arc_count.1 in
    let earlier : turn_of first.rank b q < turn_of first.rank a p = omega (arith, few, inside, prio, lower) in
    (first.before b q inside prio port earlier).delay

module _ (net : Network) (streams : Streams) (fits : Fits net streams) (prios : PriosBelow streams.rows) (rises : RanksRise) where
  rise : (rank : ℕ → ℕ) → AreRanks net streams.rows rank → Rise streams.rows rank
  rise rank ranks = rises net streams rank fits ranks

  module _ (nowhere : GoodPassNowhere) (room : GoodHaveRoom) (good : HasGood net streams) where
    overload_good : (arc : ℕ) → FirstOverload net streams.rows arc → ⊥
    overload_good arc first =
        let much = leb-true 1_000_000 (cost_at net arc * rates_on arc 0 8 streams.rows) first.overloaded in
        let load = good.1.good.load arc first.within in
        omega (arith, much, load)

    large_good : (arc prio : ℕ) → FirstLarge net streams.rows arc prio → ⊥
    large_good arc prio first =
        true≢false (sym first.large
        ∙ nowhere net streams first.rank first.delays fits prios (rise first.rank first.ranks) good arc prio first.within.0 first.within.1 first.port
        (below_large net streams.rows arc prio first))

    ring_good : (arc prio need : ℕ) → FirstShort net streams.rows arc prio need → ⊥
    ring_good arc prio need first =
        let fit = room net streams first.delays fits prios good first.settled arc prio first.within.0 first.within.1 first.here.port in
        omega (arith, fit, first.here.need_is, first.here.short)

    pub none_refuses : NoneRefuses net streams.rows
    none_refuses (Overload arc) cause = absurd (overload_good arc.0 cause)
    none_refuses (Cycle arcs) cause = absurd (no_cycle streams.rows good.1.values.rank (ranks_rise net streams good.0 good.1 fits prios good.2) arcs cause.1.closes)
    none_refuses (Large arc prio) cause = absurd (large_good arc.0 prio cause.1)
    none_refuses (Ring arc prio need) cause = absurd (ring_good arc.0 prio need cause.1)
    none_refuses Memory cause = refl

  module _ (alike : SettledAlike) where
    -- over settled delays no port passes the limit that doesn't over others
    large_ring : (a p b q need : ℕ) → FirstLarge net streams.rows a p → FirstShort net streams.rows b q need → ⊥
    large_ring a p b q need first short =
        let same = alike net streams first.rank first.delays short.delays a p fits prios (rise first.rank first.ranks) (below_large net streams.rows a p first) (λ c r inside prio port lower. short.settled c r inside prio port) in
        true≢false (sym first.large ∙ same.1 ∙ short.small a p first.within.0 first.within.1 first.port)

    -- of two first ports none is before the other
    not_before : (a p b q : ℕ) (one : FirstLarge net streams.rows a p) (two : FirstLarge net streams.rows b q) → turn_of one.rank a p < turn_of two.rank b q → ⊥
    not_before a p b q one two less =
        let here = same_rank net streams.rows one.rank two.rank one.ranks two.ranks a one.within.0 in
        let settled : SettledBelow net streams.rows one.rank two.delays a =
        λ c r inside prio port lower.
        let few = net.rules.arc_count.1 in
        let there = same_rank net streams.rows one.rank two.rank one.ranks two.ranks c inside in
        let earlier : turn_of two.rank c r < turn_of two.rank b q = omega (arith, few, inside, prio, lower, here, there, less) in
        (two.before c r inside prio port earlier).delay
        in
        let same = alike net streams one.rank one.delays two.delays a p fits prios (rise one.rank one.ranks) (below_large net streams.rows a p one) settled in
        let quiet = (two.before a p one.within.0 one.within.1 one.port (omega (arith, here, less))).small in
        true≢false (sym one.large ∙ same.1 ∙ quiet)

    same_large : (a b : ArcId) (p q : ℕ) → FirstLarge net streams.rows a.0 p → FirstLarge net streams.rows b.0 q → Large a p ≡ Large b q
    same_large a b p q one two =
        elim (cases_order (turn_of one.rank a.0 p) (turn_of two.rank b.0 q)) [
          | inl turn ↦
              let few = net.rules.arc_count.1 in
              let eq : a.0 ≡ b.0 = omega (arith, turn, few, one.within.0, two.within.0, one.within.1, two.within.1) in
              let eq' : p ≡ q = omega (arith, turn, few, one.within.0, two.within.0, one.within.1, two.within.1) in
              ap (λ n. Large (record { 0 = n }) p) eq ∙ ap (λ r. Large b r) eq'
          | inr apart ↦
              elim apart [
                | inl less ↦ absurd (not_before a.0 p b.0 q one two less)
                | inr more ↦ absurd (not_before b.0 q a.0 p two one more)
              ]
        ]

    size_same : (a p b q need n : ℕ) (one : FirstShort net streams.rows a p need) (two : FirstShort net streams.rows b q n) (c r : ℕ) → port_size net streams.rows one.delays c r ≡ port_size net streams.rows two.delays c r
    size_same a p b q need n one two c r =
        ap (λ row. row.size)
        (alike net streams one.rank one.delays two.delays c r fits prios (rise one.rank one.ranks) (λ x y inside prio port lower. one.settled x y inside prio port) (λ x y inside prio port lower. two.settled x y inside prio port)).0

    not_shorter : (a p b q need n : ℕ) (one : FirstShort net streams.rows a p need) (two : FirstShort net streams.rows b q n) → a * 8 + p < b * 8 + q → ⊥
    not_shorter a p b q need n one two less =
        let fit = two.before a p one.within.0 one.within.1 one.here.port less in
        let same = size_same a p b q need n one two a p in
        let same' : need ≡ port_size net streams.rows two.delays a p / 84 = one.here.need_is ∙ ap (λ s. s / 84) same in
        omega (arith, fit, same', one.here.short)

    same_ring : (a b : ArcId) (p q need n : ℕ) → FirstShort net streams.rows a.0 p need → FirstShort net streams.rows b.0 q n → Ring a p need ≡ Ring b q n
    same_ring a b p q need n one two =
        elim (cases_order (a.0 * 8 + p) (b.0 * 8 + q)) [
          | inl place ↦
              let eq : a.0 ≡ b.0 = omega (arith, place, one.within.1, two.within.1) in
              let eq' : p ≡ q = omega (arith, place, one.within.1, two.within.1) in
              let size = size_same a.0 p b.0 q need n one two a.0 p in
              let there = ap (λ x. port_size net streams.rows two.delays x p / 84) eq ∙ ap (λ y. port_size net streams.rows two.delays b.0 y / 84) eq' in
              let eq'' : need ≡ n = one.here.need_is ∙ ap (λ s. s / 84) size ∙ there ∙ sym two.here.need_is in
              ap (λ x. Ring (record { 0 = x }) p need) eq ∙ ap (λ r. Ring b r need) eq' ∙ ap (λ m. Ring b q m) eq''
          | inr apart ↦
              elim apart [
                | inl less ↦ absurd (not_shorter a.0 p b.0 q need n one two less)
                | inr more ↦ absurd (not_shorter b.0 q a.0 p n need two one more)
              ]
        ]

    cycle_ranked : (arcs : List ArcId) (rank : ℕ → ℕ) → IsCycle streams.rows arcs → AreRanks net streams.rows rank → ⊥
    cycle_ranked arcs rank cycle ranks = no_cycle streams.rows rank (rise rank ranks) arcs cycle.closes

    one_overload : (arc : ArcId) → FirstOverload net streams.rows arc.0 → NoOtherRefuses net streams.rows (Overload arc)
    one_overload arc first (Overload b) cause = inr (inl (ap (λ x. Overload x) (same_first net streams.rows arc b first cause)))
    one_overload arc first (Cycle arcs) cause = absurd (no_first net streams.rows arc.0 first cause.0)
    one_overload arc first (Large b p) cause = absurd (no_first net streams.rows arc.0 first cause.0)
    one_overload arc first (Ring b p n) cause = absurd (no_first net streams.rows arc.0 first cause.0)
    one_overload arc first Memory cause = inl refl

    one_cycle : (arcs : List ArcId) → NoOverload net streams.rows → IsCycle streams.rows arcs → NoOtherRefuses net streams.rows (Cycle arcs)
    one_cycle arcs none cycle (Overload b) cause = absurd (no_first net streams.rows b.0 cause none)
    one_cycle arcs none cycle (Cycle others) cause = inr (inr (refl, refl))
    one_cycle arcs none cycle (Large b p) cause = absurd (cycle_ranked arcs cause.1.rank cycle cause.1.ranks)
    one_cycle arcs none cycle (Ring b p n) cause = absurd (cycle_ranked arcs cause.1.rank cycle cause.1.ranks)
    one_cycle arcs none cycle Memory cause = inl refl

    one_large : (arc : ArcId) (prio : ℕ) → NoOverload net streams.rows → FirstLarge net streams.rows arc.0 prio → NoOtherRefuses net streams.rows (Large arc prio)
    one_large arc prio none first (Overload b) cause = absurd (no_first net streams.rows b.0 cause none)
    one_large arc prio none first (Cycle arcs) cause = absurd (cycle_ranked arcs first.rank cause.1 first.ranks)
    one_large arc prio none first (Large b p) cause = inr (inl (same_large arc b prio p first cause.1))
    one_large arc prio none first (Ring b p n) cause = absurd (large_ring arc.0 prio b.0 p n first cause.1)
    one_large arc prio none first Memory cause = inl refl

    one_ring : (arc : ArcId) (prio need : ℕ) → NoOverload net streams.rows → FirstShort net streams.rows arc.0 prio need → NoOtherRefuses net streams.rows (Ring arc prio need)
    one_ring arc prio need none first (Overload b) cause = absurd (no_first net streams.rows b.0 cause none)
    one_ring arc prio need none first (Cycle arcs) cause = absurd (cycle_ranked arcs first.rank cause.1 first.ranks)
    one_ring arc prio need none first (Large b p) cause = absurd (large_ring b.0 p arc.0 prio need cause.1 first)
    one_ring arc prio need none first (Ring b p n) cause = inr (inl (same_ring arc b prio p need n first cause.1))
    one_ring arc prio need none first Memory cause = inl refl

    pub one_refuses : (e : Unfit) → Cause net streams.rows e → (e ≡ Memory) ⊎ NoOtherRefuses net streams.rows e
    one_refuses (Overload arc) cause = inr (one_overload arc cause)
    one_refuses (Cycle arcs) cause = inr (one_cycle arcs cause.0 cause.1)
    one_refuses (Large arc prio) cause = inr (one_large arc prio cause.0 cause.1)
    one_refuses (Ring arc prio need) cause = inr (one_ring arc prio need cause.0 cause.1)
    one_refuses Memory cause = inl refl

pub ranks_leave_no_cycle : (rows : List Row) (rank : ℕ → ℕ) (arcs : List ArcId) → Rise rows rank → IsCycle rows arcs → ⊥
ranks_leave_no_cycle rows rank arcs rise cycle = no_cycle rows rank rise arcs cycle.closes

pub good_refuses_none : RanksRise → GoodPassNowhere → GoodHaveRoom → GoodRefusesNone
good_refuses_none rises nowhere room net streams fits prios good = none_refuses net streams fits prios rises nowhere room good

pub one_at_most : RanksRise → SettledAlike → OneRefuses
one_at_most rises alike net streams e fits prios cause = one_refuses net streams fits prios rises alike e cause

-- ---- what an answer says of others

module _ (net : Network) (streams : Streams) (fits : Fits net streams) (prios : PriosBelow streams.rows) where
  pub complete_answer : GoodRefusesNone → (r : Result Certificate Unfit) → IfErr r (Cause net streams.rows) → HasGood net streams → IfErr r (λ e. e ≡ Memory)
  complete_answer law (Ok c) cause good = tt
  complete_answer law (Err e) cause good = law net streams fits prios good e cause

  pub no_refusal : GoodRefusesNone → (r : Result Certificate Unfit) → IfOk r (Least net streams) → IfOk r HasRanks → IfOk r (λ c. NoneRefuses net streams.rows)
  no_refusal law (Ok c) least ranked = law net streams fits prios (c, least.good, ranked)
  no_refusal law (Err e) least ranked = tt

  -- want of memory, or none
  memory_or : (e : Unfit) → (e ≡ Memory) ⊎ ¬ (e ≡ Memory)
  memory_or (Overload arc) = inr (λ e. cc)
  memory_or (Cycle arcs) = inr (λ e. cc)
  memory_or (Large arc prio) = inr (λ e. cc)
  memory_or (Ring arc prio need) = inr (λ e. cc)
  memory_or Memory = inl refl

  alone_at : GoodRefusesNone → OneRefuses → (e : Unfit) → Cause net streams.rows e → (e ≡ Memory) ⊎ IsAlone net streams e
  alone_at law one e cause =
      elim (memory_or e) [
        | inl memory ↦ inl memory
        | inr other ↦
            elim (one net streams e fits prios cause) [
              | inl memory ↦ inl memory
              | inr alone ↦ inr (record { others = alone; none = λ good. other (law net streams fits prios good e cause) })
            ]
      ]

  pub alone_answer : GoodRefusesNone → OneRefuses → (r : Result Certificate Unfit) → IfErr r (Cause net streams.rows) → IfErr r (λ e. (e ≡ Memory) ⊎ IsAlone net streams e)
  alone_answer law one (Ok c) cause = tt
  alone_answer law one (Err e) cause = alone_at law one e cause
